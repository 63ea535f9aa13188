-- The answer for one change.
use Rattle.std.proofs.Common.{◌≡◌, List, [], ◌∷◌, Ok, Err, refl, ap, append-nil}
use Rattle.ct_change.specs.declared.change.Change.{Change}
use Rattle.op_rules.specs.Rules.{Answer, appended}
use Rattle.emission_rules.specs.Changes.{each_change}

-- nothing behind an answer
pub appended-none : (answer : Answer) → appended answer (Ok []) ≡ answer
appended-none (Ok changes) = ap (λ (xs : List Change). let r : Answer = Ok xs in r) (append-nil changes)
appended-none (Err row) = refl

pub each_change-one : (answer : Change → Answer) (change : Change) → each_change answer (change ∷ []) ≡ answer change
each_change-one answer change = appended-none (answer change)
