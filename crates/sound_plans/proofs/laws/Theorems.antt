-- The theorems of this crate, put together of its lemmas.
use Rattle.std.specs.Prelude.{◌≡◌, length, None}
use Rattle.phys_plan.specs.declared.plan.Plan.{Plan}
use Rattle.sound_plans.specs.Promises.{Laws}
use Rattle.plan_inferred.proofs.laws.Theorems.{keys_go_by_inputs_local, kinds_go_by_inputs_local, update_keys_go_by_inputs_local}
use Rattle.sound_plans.proofs.laws.JoinInputs.{edges_are_keyed}
use Rattle.plan_shape.proofs.laws.Theorems.{shaped_plans_have_shape}
use Rattle.stream_model.proofs.laws.Theorems.{plans_compose, printed_folds_to_answer}
use Rattle.sound_plans.proofs.laws.States.{plans_hold}
use Rattle.sound_plans.proofs.laws.Wiring as wiring
use Rattle.sound_plans.proofs.laws.Outputs.{local_at}
use Rattle.sound_plans.specs.Sound.{IsRuled, SoundNodesHaveColumns, SoundPlansAnswer, SoundPlansKeepColumns, SoundPlansMeetFacts, SoundPlansSuit, SoundPortsTake, SoundPlansAreWired, SoundPlansPrint}
use Rattle.sound_plans.proofs.laws.KeptColumns as kept
use Rattle.sound_plans.proofs.laws.EachNode as suited
use Rattle.sound_plans.specs.States.{SoundPlansHold}
use Rattle.plan_rules.proofs.laws.Theorems.{plans_answer_as_erased, plans_are_wired}

-- The laws on which these stand: a plan of this shape is fed as the composition theorem asks, what is inferred of a node goes by what its
-- inputs have, and an edge that carries new rows alone keeps each key in one channel.
pub nodes_fit : Laws
nodes_fit = record {
  shaped = shaped_plans_have_shape;
  keys = keys_go_by_inputs_local;
  kinds = kinds_go_by_inputs_local;
  update_keys = update_keys_go_by_inputs_local;
  edges_are_keyed = edges_are_keyed;
}

-- Each of its nodes has columns.
pub sound_nodes_have_columns : SoundNodesHaveColumns
sound_nodes_have_columns = wiring.sound_nodes_have_columns nodes_fit

-- What is inferred of it tells the columns that its network's nodes send.
pub sound_plans_keep_columns : SoundPlansKeepColumns
sound_plans_keep_columns = kept.sound_plans_keep_columns nodes_fit

-- Each of its nodes meets its facts, in however many subtasks it runs, and each port takes what its edge carries.
pub sound_plans_meet_facts_facts : SoundPlansMeetFacts
sound_plans_meet_facts_facts = wiring.sound_plans_meet_facts nodes_fit

-- Each of its nodes meets its facts, in however many subtasks it runs, and each port takes what its edge carries.
pub sound_plans_meet_facts_takes : SoundPortsTake
sound_plans_meet_facts_takes = wiring.sound_ports_take nodes_fit

-- A sound plan is wired: each port is fed by one node that stands before it, and each node but the sink feeds one port.
pub sound_plans_are_wired : SoundPlansAreWired
sound_plans_are_wired = wiring.sound_plans_are_wired nodes_fit plans_are_wired

-- Its sink sends rows.
pub sink_sends_rows : (plan : Plan) → IsRuled plan → local_at plan (length plan.nodes) ≡ None
sink_sends_rows = wiring.sink_sends_rows nodes_fit

-- What its operators ask of what is around them holds.
pub sound_plans_suit : SoundPlansSuit
sound_plans_suit = suited.sound_plans_suit nodes_fit

-- Each of its nodes answers as its tree does.
pub sound_plans_answer : SoundPlansAnswer
sound_plans_answer = wiring.sound_plans_answer nodes_fit plans_answer_as_erased

-- In every run over a sound plan each prefix of what was printed is a valid changelog of the sink's mode, and at every quiet moment it
-- folds to the sink's batch answer over the rows that the changes taken leave of each table.
pub sound_plans_print : SoundPlansPrint
sound_plans_print = wiring.sound_plans_print nodes_fit plans_are_wired printed_folds_to_answer

-- In every state of every run over a sound plan all holds that the composition theorem says, and changes that agree on the key of an edge of
-- last rows go through one channel.
pub sound_plans_hold : SoundPlansHold
sound_plans_hold = plans_hold sound_plans_are_wired sound_plans_meet_facts_facts plans_compose
