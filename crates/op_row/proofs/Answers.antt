-- The answer for one change, as a rule on single rows emits it.
use Rattle.std.proofs.Common.{◌≡◌, List, [], ◌∷◌, Ok, ap, ◌∙◌}
use Rattle.ct_change.specs.declared.change.Change.{Change}
use Rattle.op_rules.specs.Rules.{Answer, appended}
use Rattle.emission_rules.specs.Changes.{each_change}
use Rattle.emission_rules.proofs.laws.RowAnswers.{each_change-one}

pub answer_onto : (answer : Change → Answer) (change : Change) (old new : List Change) → appended (Ok old) (answer change) ≡ Ok new → appended (Ok old) (each_change answer (change ∷ [])) ≡ Ok new
answer_onto answer change old new e = ap (appended (Ok old)) (each_change-one answer change) ∙ e

-- one that is out of range
pub answer_alone : (answer : Change → Answer) (change : Change) (given : Answer) → answer change ≡ given → each_change answer (change ∷ []) ≡ given
answer_alone answer change given e = each_change-one answer change ∙ e
