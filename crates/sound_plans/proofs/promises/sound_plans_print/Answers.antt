use Rattle.sound_plans.proofs.laws.Wiring as wiring
use Rattle.sound_plans.proofs.promises.sound_plans_print.Goals as goal
use Rattle.plan_rules.proofs.laws.Theorems.{plans_are_wired}
use Rattle.sound_plans.proofs.laws.Theorems.{nodes_fit}
use Rattle.stream_model.proofs.laws.Theorems.{printed_folds_to_answer}

pub returns : goal.returns
returns c = wiring.sound_plans_print nodes_fit plans_are_wired printed_folds_to_answer
