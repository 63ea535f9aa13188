use Rattle.exec_core.proofs.Plans.{plans_open}
use Rattle.exec_core.proofs.promises.plans_open.Goals as goal
use Rattle.sound_plans.proofs.laws.Theorems.{sound_plans_are_wired, sound_plans_meet_facts_facts, sound_plans_meet_facts_takes, sound_plans_suit, nodes_fit}
use Rattle.typing_laws.proofs.laws.Columns.{columns_exist as columns_have_types}

pub returns : goal.returns
returns c = plans_open columns_have_types nodes_fit sound_plans_are_wired sound_plans_meet_facts_facts sound_plans_meet_facts_takes sound_plans_suit
