-- The plan that is laid of a tree, into a table of any mode, which a materializer may stand before, and which rules of sound plans it meets.
use Rattle.std.specs.Prelude.{◌≡◌, ℕ, ◌<◌, ◌≤◌, Bool, true, List, ◌∷◌, length, map, Some}
use Rattle.ct_value.specs.declared.ty.ColTy.{ColTy}
use Rattle.ct_catalog.specs.declared.table.TableDef.{TableDef}
use Rattle.rel_algebra.specs.Rel.{Rel}
use Rattle.rel_algebra.specs.Types.{columns_of}
use Rattle.rel_algebra.specs.Unions.{has_full_unions}
use Rattle.phys_plan.specs.declared.node.Node.{Node}
use Rattle.phys_plan.specs.declared.plan.Plan.{Plan}
use Rattle.phys_plan.specs.declared.plan.Rule.TheVariants as rule
use Rattle.phys_plan.specs.Reading.{numbered}
use Rattle.ct_catalog.specs.Columns.{column_types}
use Rattle.plan_rules.specs.Pieces.{Top, bare, shown, plan_of_tree}
use Rattle.plan_shape.specs.Shape.{is_sink_key}
use Rattle.plan_shape.specs.Tables.{are_tables}
use Rattle.plan_check.specs.Sound.{Meets}
use Rattle.plan_check.specs.Types.{fit_sink}
use Rattle.plan_rules.specs.Behaviours.{has_rule}
use Rattle.plan_rules.specs.Phases.{Bundles}
use Rattle.laid_plans.specs.Inferred.{InferredKindsSuit}

-- the columns of the tables
abbrev pub types_of : List TableDef → List (List ColTy)
types_of sources = map column_types sources

-- what stands before the sink suits its table: a materializer, an upsert table with its key
abbrev pub SuitsTop : TableDef → Top → Type 0
SuitsTop sink bare = Unit {0}
SuitsTop sink (shown key) = is_sink_key sink key sink.key ≡ true

-- bundles as large as the plan's, with groups in one phase or in two
abbrev pub bundles_in : Plan → Bool → Bundles
bundles_in plan two_phase = record { size = plan.mini_batch; two_phase = two_phase }

-- it is the tree's plan over its tables, into its sink, in as many subtasks and bundles as large, with this before the sink
abbrev pub IsLaidWith : Bool → Top → Plan → Rel → Type 0
IsLaidWith two_phase top plan rel = plan ≡ plan_of_tree plan.sources plan.sink plan.parallelism (bundles_in plan two_phase) top rel

-- and that suits its table
pub record IsLaidOut (plan : Plan) (rel : Rel) : Type 0 where
  pub two_phase : Bool
  pub top : Top
  pub suits : SuitsTop plan.sink top
  pub laid : IsLaidWith two_phase top plan rel

-- and the tree is well-typed over tables that may be declared, its unions have two inputs or more, its rows may go into the sink's
-- table, and its plan has at most 128 nodes in at most 16 subtasks, and bundles of at most 1,000,000 changes
pub record IsLaidWell (plan : Plan) (rel : Rel) : Type 0 where
  pub laid_out : IsLaidOut plan rel
  pub columns : List ColTy
  pub typed : columns_of (types_of plan.sources) rel ≡ Some columns
  pub unions : has_full_unions rel ≡ true
  pub fits : fit_sink columns (column_types plan.sink) ≡ true
  pub tables : are_tables (plan.sink ∷ plan.sources) ≡ true
  pub few : length plan.nodes ≤ 128
  pub parallel : 0 < plan.parallelism
  pub narrow : plan.parallelism ≤ 16
  pub bundled : plan.mini_batch ≤ 1000000

-- such a plan meets the rules that don't speak of keys and modes, its operators have rules, and what is inferred suits them as what was laid
pub record HasTreeShape (plan : Plan) : Type 0 where
  pub rules : (v : ℕ) (node : Node) → numbered plan.nodes v ≡ Some node → has_rule node.op ≡ true
  pub kinds : InferredKindsSuit plan
  pub shape : Meets rule.Shape plan
  pub types : Meets rule.Types plan
  pub exchanged : Meets rule.Exchanged plan

abbrev pub LaidPlansHaveShape : Type 0
LaidPlansHaveShape = (plan : Plan) (rel : Rel) → IsLaidWell plan rel → HasTreeShape plan
