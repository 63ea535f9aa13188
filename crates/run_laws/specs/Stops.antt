-- Where a run stops out of range.
use Rattle.std.specs.Prelude.{◌≡◌, ℕ, true, List, ◌++◌, None, Ok, Err}
use Rattle.ct_value.specs.declared.row.Row.{Row}
use Rattle.ct_value.specs.declared.ty.ColTy.{ColTy}
use Rattle.ct_field.specs.Typed.{row_fits}
use Rattle.op_rules.specs.History.{Arrival}
use Rattle.op_rules.specs.Tasks.{IsReady}
use Rattle.phys_plan.specs.declared.plan.Plan.{Plan}
use Rattle.stream_model.specs.declared.events.StepFault.TheVariants.{Limit, Range}
use Rattle.stream_model.specs.Machine.{State}
use Rattle.stream_model.specs.Network.{Network, task}
use Rattle.plan_rules.specs.Doings.{network}
use Rattle.sound_plans.specs.Sound.{IsRuled}
use Rattle.typing_laws.specs.Exist.{Exist}
use Rattle.job_text.specs.declared.orders.OrderLine.{OrderLine}
use Rattle.source_lines.specs.Supply.{AreFor}
use Rattle.source_lines.specs.Run.{At, Went, on, halts, refused, disordered, stopped, whole_run}
use Rattle.source_lines.specs.declared.supply.ChangeFiles.{ChangeFiles}
use Rattle.source_lines.specs.Taken.{Taken, taken_of}

-- a subtask of a node is out of range at this row, by a piece that comes after what it took, on all of which it may rely
pub record IsOutAt (g : Network) (node subtask : ℕ) (row : Row) : Type 0 where
  pub before : List Arrival
  pub piece : List Arrival
  pub ready : IsReady (task g node) subtask (before ++ piece)
  pub out : g.emits node before piece ≡ Err row

-- a run over a sound plan that stops out of range does so where a subtask of a node is, and names the node's columns
abbrev pub RunsStopWhereOut : Type 0
RunsStopWhereOut = (plan : Plan) → IsRuled plan → (limit : ℕ) (files : ChangeFiles) (orders : List OrderLine) (node subtask : ℕ) (row : Row) (types : List ColTy) (p : At State)
    → whole_run (network plan) limit plan.sources files orders ≡ halts (stopped (Range node subtask row types)) p
    → (types ≡ (network plan).range_types node) × IsOutAt (network plan) node subtask row

-- the row has these columns
abbrev pub RunsStopAtRows : Type 0
RunsStopAtRows = (plan : Plan) → IsRuled plan → (limit : ℕ) (files : ChangeFiles) (orders : List OrderLine) (node subtask : ℕ) (row : Row) (types : List ColTy) (p : At State)
    → whole_run (network plan) limit plan.sources files orders ≡ halts (stopped (Range node subtask row types)) p → row_fits types row ≡ true

-- whose types exist
abbrev pub StopsHaveTypes : Type 0
StopsHaveTypes = (plan : Plan) → IsRuled plan → (limit : ℕ) (files : ChangeFiles) (orders : List OrderLine) (node subtask : ℕ) (row : Row) (types : List ColTy) (p : At State)
    → whole_run (network plan) limit plan.sources files orders ≡ halts (stopped (Range node subtask row types)) p → Exist types

-- a run goes to its end, or halts at a line of its order, where a node is out of range, or by the limit on changes; no line is refused
abbrev pub EndsOrStops : Went (At State) → Type 0
EndsOrStops (on p) = Unit {0}
EndsOrStops (halts (refused code line table) p) = ⊥
EndsOrStops (halts (disordered code line) p) = Unit {0}
EndsOrStops (halts (stopped (Range node subtask row types)) p) = Unit {0}
EndsOrStops (halts (stopped Limit) p) = Unit {0}
EndsOrStops (halts (stopped _) p) = ⊥

-- so does every run over a sound plan, each of whose lines may be taken
abbrev pub RunsEndOrStop : Type 0
RunsEndOrStop = (plan : Plan) → IsRuled plan → (limit : ℕ) (files : ChangeFiles) (orders : List OrderLine) (taken : Taken) → AreFor files plan.sources → taken_of plan.sources None files ≡ Ok taken
    → EndsOrStops (whole_run (network plan) limit plan.sources files orders)
