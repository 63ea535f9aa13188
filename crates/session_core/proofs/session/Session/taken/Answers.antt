use Rattle.std.proofs.Common.{ℕ, List, ap, slice_get, ◌∙◌}
use Rattle.stream_model.specs.Machine.{opened}
use Rattle.stream_model.specs.Runs.{after}
use Rattle.session_core.proofs.Counts.{count_in}
use Rattle.session_core.proofs.session.Session.taken.Goals as goal

pub returns : goal.returns
returns b c = λ g limit handed items stands.
    let s = after g limit (opened g) items in
    c.taken.ensures ∙ (ap (λ (l : List ℕ). slice_get l c.args.table) stands.keeps.carries.counted ∙ count_in s.taken g.table_count c.args.table)
