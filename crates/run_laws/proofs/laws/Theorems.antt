-- The theorems of this crate, put together of its lemmas.
use Rattle.run_laws.proofs.laws.Sinks.{sinks_fit}
use Rattle.run_laws.specs.Rows.{SinksFit, RunsPrintRows}
use Rattle.plan_shape.proofs.laws.Theorems.{shaped_plans_have_shape}
use Rattle.run_laws.proofs.laws.Passing.{end_or_stop}
use Rattle.phys_plan.specs.declared.plan.Plan.{Plan}
use Rattle.run_laws.proofs.laws.Prints.{PrintedRowsFit, printed_fit, prints_rows}
use Rattle.sound_plans.specs.Sound.{IsRuled}
use Rattle.run_laws.specs.Stops.{RunsEndOrStop}
use Rattle.sound_plans.proofs.laws.Theorems.{sound_plans_are_wired, sound_plans_meet_facts_facts, sound_plans_print}
use Rattle.source_lines.proofs.laws.Theorems.{taken_lines_fit}
use Rattle.stream_model.proofs.laws.Theorems.{plans_compose, runs_drain}
use Rattle.run_laws.proofs.laws.Answered.{carry_admitted, ends_quiet, print_answers}
use Rattle.run_laws.specs.Headline.{RunsCarryAdmitted, RunsEndQuiet, RunsPrintAnswers}

-- The columns that the sink of a sound plan sends may go into its table.
pub sinks_take_columns : SinksFit
sinks_take_columns = sinks_fit shaped_plans_have_shape

-- Each row that a run over a sound plan prints has these columns, whether the run goes to its end or halts.
pub runs_print_rows : RunsPrintRows
runs_print_rows = prints_rows taken_lines_fit sound_plans_are_wired sound_plans_meet_facts_facts sound_plans_print plans_compose runs_drain

-- So does each row that was printed in any state that the machine reaches by changes of its tables' columns.
pub printed_rows_fit : (plan : Plan) → IsRuled plan → PrintedRowsFit plan
printed_rows_fit = printed_fit sound_plans_are_wired sound_plans_meet_facts_facts sound_plans_print plans_compose

-- In a run over a sound plan that answers what a tree does, what was printed before each quiet item is a valid changelog of the sink's mode, and
-- folds by it to the tree's answer over the rows that as many first lines of each file as the item tells leave in each source: also in a run
-- that halts.
pub runs_print_answers : RunsPrintAnswers
runs_print_answers = print_answers taken_lines_fit sound_plans_are_wired sound_plans_print runs_drain

-- Every edge carries only changes that it admits.
pub runs_carry_admitted : RunsCarryAdmitted
runs_carry_admitted = carry_admitted taken_lines_fit sound_plans_are_wired sound_plans_meet_facts_facts plans_compose runs_drain

-- A run that goes to its end has told a quiet moment after all lines.
pub runs_end_quiet : RunsEndQuiet
runs_end_quiet = ends_quiet taken_lines_fit runs_drain

-- A run each of whose lines may be taken goes to its end, or halts at a line of its order, where a node is out of range or by the limit.
pub runs_end_or_stop : RunsEndOrStop
runs_end_or_stop = end_or_stop taken_lines_fit sound_plans_are_wired runs_drain
