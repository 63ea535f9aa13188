-- What an operator emits behind what stood there before.
use Rattle.std.proofs.Common.{◌≡◌, List, [], ◌∷◌, ◌++◌, Ok, Err, refl, sym, ap, ◌∙◌}
use Rattle.ct_change.specs.declared.change.Change.{Change}
use Rattle.op_rules.specs.History.{Arrival}
use Rattle.op_rules.specs.Rules.{Answer, Rule, EmitsOnto, appended}

-- it stands there in full
pub emits_onto : (rule : Rule) (before : List Arrival) (a : Arrival) (old sent new : List Change) → rule.emits before (a ∷ []) ≡ Ok sent → new ≡ old ++ sent → EmitsOnto rule before a old new
emits_onto rule before a old sent new e f = ap (appended (Ok old)) e ∙ ap (λ (xs : List Change). let r : Answer = Ok xs in r) (sym f)

behind_none : (answer : Answer) → appended (Ok []) answer ≡ answer
behind_none (Ok sent) = refl
behind_none (Err row) = refl

-- behind nothing it stands alone
pub emits_alone : (rule : Rule) (before : List Arrival) (a : Arrival) (new : List Change) → EmitsOnto rule before a [] new → rule.emits before (a ∷ []) ≡ Ok new
emits_alone rule before a new e = sym (behind_none (rule.emits before (a ∷ []))) ∙ e
