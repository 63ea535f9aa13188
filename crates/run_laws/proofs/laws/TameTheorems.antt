-- The theorems of this crate, put together of its lemmas.
use Rattle.run_laws.proofs.laws.Runs.{runs_stay}
use Rattle.run_laws.specs.Runs.{RunsStayInRange}
use Rattle.op_rules.proofs.laws.Ready.{ready_arrives}
use Rattle.sound_plans.proofs.laws.Theorems.{sound_plans_are_wired, sound_plans_meet_facts_facts, sound_plans_meet_facts_takes, sound_plans_suit}
use Rattle.source_lines.proofs.laws.Theorems.{taken_lines_fit}
use Rattle.stream_model.proofs.laws.Theorems.{runs_are_safe, runs_drain}

-- A run over a sound plan that calculates nothing never stops by a value that leaves the range of its type.
pub runs_stay_in_range : RunsStayInRange
runs_stay_in_range = runs_stay taken_lines_fit sound_plans_are_wired sound_plans_meet_facts_facts sound_plans_meet_facts_takes sound_plans_suit ready_arrives runs_are_safe runs_drain
