use Rattle.std.proofs.Common.{◌∙◌, ◌≤◌, ◌<◌, ℕ, length, get_or}
use Rattle.std.proofs.lemmas.List.Sorted.{searched}
use Rattle.column_sets.proofs.Halving.{halved}
use Rattle.column_sets.proofs.sets.has.Goals as goal

pub returns-then-ascending : goal.returns-then-ascending
returns-then-ascending c =
    let cols = c.args.cols.now in
    let up : (i j : ℕ) → i ≤ j → j < length cols → get_or cols i 0 ≤ get_or cols j 0 = λ i j h k. c.requires c.if-ascending.true i j 0 h k in
    c.is_ok.ensures.value ∙ halved cols c.args.col c.binary_search.result (searched cols c.args.col c.binary_search.result c.binary_search.ensures.position up)
