-- The theorems of this crate, put together of its lemmas.
use Rattle.run_laws.proofs.Outs.{stops_where_out}
use Rattle.run_laws.specs.Stops.{RunsStopWhereOut, RunsStopAtRows, StopsHaveTypes}
use Rattle.sound_plans.proofs.laws.Theorems.{sound_plans_are_wired, sound_plans_meet_facts_facts, sound_plans_meet_facts_takes, sound_plans_suit}
use Rattle.source_lines.proofs.laws.Theorems.{taken_lines_fit}
use Rattle.stream_model.proofs.laws.Theorems.{plans_compose, runs_drain}
use Rattle.run_laws.proofs.Rows.{stop_at_rows}
use Rattle.run_laws.proofs.Types.{stops_have_types as stops_have_types_lemma}
use Rattle.typing_laws.proofs.laws.Columns.{columns_exist as columns_have_types}

-- A run over a sound plan that stops out of range does so where a subtask of a node is out of range.
pub runs_stop_where_out : RunsStopWhereOut
runs_stop_where_out = stops_where_out taken_lines_fit sound_plans_are_wired sound_plans_meet_facts_facts plans_compose runs_drain

-- The row at which it stops has the columns that the stop names.
pub runs_stop_at_rows : RunsStopAtRows
runs_stop_at_rows = stop_at_rows sound_plans_meet_facts_takes sound_plans_suit runs_stop_where_out

-- The types of these columns exist.
pub stops_have_types : StopsHaveTypes
stops_have_types = stops_have_types_lemma columns_have_types runs_stop_where_out
