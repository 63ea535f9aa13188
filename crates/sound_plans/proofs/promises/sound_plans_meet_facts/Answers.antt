use Rattle.sound_plans.proofs.laws.Wiring as wiring
use Rattle.sound_plans.proofs.promises.sound_plans_meet_facts.Goals as goal
use Rattle.sound_plans.proofs.laws.Theorems.{nodes_fit}

pub returns-clause-facts : goal.returns-clause-facts
returns-clause-facts c = wiring.sound_plans_meet_facts nodes_fit

pub returns-clause-takes : goal.returns-clause-takes
returns-clause-takes c = wiring.sound_ports_take nodes_fit
