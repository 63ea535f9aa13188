use Rattle.std.proofs.Common.{◌∙◌, ◌++◌, ◌∷◌, [], List, ap}
use Rattle.indexmap.specs.IndexMap.{insert_entry}
use Rattle.ct_change.specs.declared.change.Change.{Change}
use Rattle.ct_change.specs.Changelog.{same_row}
use Rattle.mini_batch.proofs.bundle.begin.Goals as goal

pub returns-in-Ok-clause-ok : goal.returns-in-Ok-clause-ok
returns-in-Ok-clause-ok c =
    c.in-Ok.ensures.entries
    ∙ ap (insert_entry same_row c.args.map.now.entries c.args.key) (c.in_ok-push.ensures.ok ∙ ap (λ (changes : List Change). changes ++ c.args.change ∷ []) c.in_ok-changes.ensures)
