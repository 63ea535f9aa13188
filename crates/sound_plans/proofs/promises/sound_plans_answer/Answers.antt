use Rattle.sound_plans.proofs.laws.Wiring as wiring
use Rattle.sound_plans.proofs.promises.sound_plans_answer.Goals as goal
use Rattle.plan_rules.proofs.laws.Theorems.{plans_answer_as_erased}
use Rattle.sound_plans.proofs.laws.Theorems.{nodes_fit}

pub returns : goal.returns
returns c = wiring.sound_plans_answer nodes_fit plans_answer_as_erased
