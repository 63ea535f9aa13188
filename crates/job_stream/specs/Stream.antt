-- What a run over a plan answers and writes: it is composed of the machine's run over change files and an order.
use Rattle.std.specs.Prelude.{ℕ, Bool, List, map, Option}
use Rattle.ct_value.specs.declared.ty.Ty.{Ty}
use Rattle.ct_catalog.specs.declared.table.TableDef.{TableDef}
use Rattle.phys_plan.specs.declared.plan.Plan.{Plan}
use Rattle.plan_rules.specs.Doings.{network}
use Rattle.stream_model.specs.declared.events.StepFault.{StepFault}
use Rattle.stream_model.specs.declared.events.StepFault.TheVariants as fault
use Rattle.ct_catalog.specs.Columns.{table_mode}
use Rattle.stream_model.specs.KeysTold.{upsert_key}
use Rattle.job_text.specs.Printed.{item_lines}
use Rattle.job_text.specs.declared.orders.OrderLine.{OrderLine}
use Rattle.stream_model.specs.Machine.{State}
use Rattle.source_lines.specs.Supply.{is_by_table}
use Rattle.source_lines.specs.Run.{At, Cause, Went, on, halts, refused, disordered, stopped, printed_by, whole_run}
use Rattle.source_lines.specs.declared.supply.ChangeFiles.{ChangeFiles}
use Rattle.job_ending.specs.declared.ending.Ending.{Ending}
use Rattle.job_ending.specs.declared.ending.Ending.TheVariants.{Done, Change, Order, Range, Limit, Memory}
use Rattle.job_ending.specs.declared.ending.LimitName.TheVariants.{Sent}
use Rattle.job_ending.specs.Outcome.{Outcome, ends}

-- so many changes are sent at most
abbrev pub most_sent : ℕ
most_sent = 4294967295

abbrev pub ending_of_stop : StepFault → Ending
ending_of_stop (fault.Change code) = Change code 0 0
ending_of_stop (fault.Order code) = Order code 0
ending_of_stop (fault.Range node subtask row types) = Range node subtask row types
ending_of_stop fault.Limit = Limit Sent
ending_of_stop fault.Memory = Memory

abbrev pub ending_of_cause : Cause → Ending
ending_of_cause (refused code line table) = Change code line table
ending_of_cause (disordered code line) = Order code line
ending_of_cause (stopped cause) = ending_of_stop cause

abbrev pub ending_of_run : {A : Type 0} → Went A → Ending
ending_of_run (on p) = Done
ending_of_run (halts cause p) = ending_of_cause cause

-- what was printed is written, however the run ends: each item as a line by the types of the sink's columns and its key, where it is an upsert
-- table
abbrev pub outcome_of : Bool → List Ty → Option (List ℕ) → Went (At State) → Outcome
outcome_of by_table tys key went = record { ending = ending_of_run went; bytes = item_lines by_table tys key (printed_by went) }

-- the types of the sink's columns
abbrev pub sink_types : TableDef → List Ty
sink_types sink = map (λ c. c.ty.ty) sink.cols

-- the key of an upsert sink, of which a `-D` tells that alone
abbrev pub sink_key : TableDef → Option (List ℕ)
sink_key sink = upsert_key (table_mode sink)

-- what a run over a plan makes of change files and an order, where so many changes are sent at most
abbrev pub streamed_within : ℕ → Plan → ChangeFiles → List OrderLine → Outcome
streamed_within limit plan files orders = outcome_of (is_by_table files) (sink_types plan.sink) (sink_key plan.sink) (whole_run (network plan) limit plan.sources files orders)

-- with the limit of the program
abbrev pub streamed : Plan → ChangeFiles → List OrderLine → Outcome
streamed plan files orders = streamed_within most_sent plan files orders
