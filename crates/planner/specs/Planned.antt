-- The plan of a script's tree: what is asked of it as it is laid, and what comes of it.
use Rattle.std.specs.Prelude.{◌≡◌, ◌<◌, ◌≤◌, true, List, ◌∷◌, Option, None, Some, Bool}
use Rattle.ct_value.specs.declared.codes.ScriptCode.{ScriptCode}
use Rattle.ct_value.specs.declared.ty.ColTy.{ColTy}
use Rattle.ct_catalog.specs.declared.settings.Materialize.{Materialize}
use Rattle.rel_algebra.specs.GoesInto.{go_into}
use Rattle.rel_algebra.specs.Rel.{Rel}
use Rattle.rel_algebra.specs.Types.{columns_of}
use Rattle.rel_algebra.specs.Unions.{has_full_unions}
use Rattle.phys_plan.specs.declared.plan.Plan.{Plan}
use Rattle.ct_catalog.specs.Columns.{column_types}
use Rattle.plan_rules.specs.Pieces.{Top, bare}
use Rattle.plan_shape.specs.Tables.{are_tables}
use Rattle.plan_check.specs.Sound.{inferred_of}
use Rattle.planner.specs.Refusals.{refusal, sink_way}
use Rattle.plan_laying.specs.Topped.{topped_plan}
use Rattle.planner.specs.Tops.{top_by}
use Rattle.laid_plans.specs.Inferred.{with_inferred}
use Rattle.sound_plans.specs.Sound.{IsRuled}
use Rattle.laid_plans.specs.Shapes.{IsLaidOut, IsLaidWith, types_of}
use Rattle.planner.specs.declared.fault.PlannerFault.{PlannerFault}
use Rattle.planner.specs.declared.fault.PlannerFault.TheVariants as fault

-- the plan that is laid of a tree: a well-typed one, whose unions have two inputs or more and whose columns go into the sink's, over tables that may
-- be declared, in 1 to 16 subtasks and bundles of at most 1,000,000 changes
pub record IsLaidPlan (laid : Plan) (rel : Rel) : Type 0 where
  pub two_phase : Bool
  pub laid_out : IsLaidWith two_phase bare laid rel
  pub columns : List ColTy
  pub typed : columns_of (types_of laid.sources) rel ≡ Some columns
  pub unions : has_full_unions rel ≡ true
  pub goes : go_into columns (column_types laid.sink) ≡ true
  pub tables : are_tables (laid.sink ∷ laid.sources) ≡ true
  pub parallel : 0 < laid.parallelism
  pub narrow : laid.parallelism ≤ 16
  pub bundled : laid.mini_batch ≤ 1000000

-- what stands before its sink, by what is inferred of it
abbrev pub sink_top : Plan → Materialize → Top
sink_top laid setting = top_by (sink_way (inferred_of laid) laid setting) laid.sink.key

-- its first refusal; or it is planned: with what stands before its sink, and with what is inferred of that plan
pub data Made : Type 0 where
  Refused : ScriptCode → Made
  Planned : Plan → Made

abbrev pub made_by : Plan → Option ScriptCode → Top → Made
made_by laid (Some code) top = Refused code
made_by laid None top = Planned (with_inferred (topped_plan top laid))

abbrev pub made : Plan → Materialize → Made
made laid setting = made_by laid (refusal (inferred_of laid) laid setting) (sink_top laid setting)

-- a fault says what comes of the plan; want of memory says nothing
abbrev pub Says : Made → PlannerFault → Type 0
Says made (fault.Refused code) = made ≡ Refused code
Says made fault.Memory = Unit {0}

-- with what stands before its sink it is laid out
abbrev pub ToppedPlansAreLaidOut : Type 0
ToppedPlansAreLaidOut = (laid : Plan) (rel : Rel) (setting : Materialize) → IsLaidPlan laid rel → IsLaidOut (topped_plan (sink_top laid setting) laid) rel

-- what is planned is sound, and its operators have rules
abbrev pub PlannedPlansAreRuled : Type 0
PlannedPlansAreRuled = (laid : Plan) (rel : Rel) (setting : Materialize) (plan : Plan) → IsLaidPlan laid rel → made laid setting ≡ Planned plan → IsRuled plan
