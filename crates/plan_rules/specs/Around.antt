-- What is around a node of a plan, and what its operator's rule reads of it.
use Rattle.std.specs.Prelude.{ℕ, Bool, false, cond, List, [], ◌∷◌, Option}
use Rattle.ct_value.specs.declared.ty.ColTy.{ColTy}
use Rattle.ct_change.specs.Changelog.{Mode, append, retract, upsert}
use Rattle.ct_change.specs.Kinds.{has_more_than_inserts}
use Rattle.ct_change.specs.declared.kind.Declared.{Declared}
use Rattle.ct_change.specs.declared.kind.KindSet.{KindSet}
use Rattle.ct_change.specs.declared.update.Update.{Update}
use Rattle.ct_change.specs.declared.update.Update.TheVariants.{Absent, After, Both}
use Rattle.ct_expr.specs.Expr.{Expr}
use Rattle.rel_algebra.specs.declared.agg.Agg.{Agg}
use Rattle.rel_algebra.specs.declared.join.JoinKind.{JoinKind}
use Rattle.rel_algebra.specs.declared.join.Pair.{Pair}
use Rattle.rel_algebra.specs.declared.sort.SortCol.{SortCol}
use Rattle.emission_rules.specs.Changes.{after_key}
use Rattle.emission_rules.specs.Filter.{Filter}
use Rattle.emission_rules.specs.Project.{Project}
use Rattle.emission_rules.specs.Union.{Union}
use Rattle.emission_rules.specs.Normalize.{Normalize}
use Rattle.emission_rules.specs.Sink.{Sink}
use Rattle.emission_rules.specs.Grouping.{Grouping}
use Rattle.emission_rules.specs.Joining.{Shape, joins, matched, Joining}
use Rattle.emission_rules.specs.Ranking.{Ranking}
use Rattle.phase_rules.specs.LocalGrouping.{LocalGrouping}
use Rattle.phase_rules.specs.Merging.{Merging}

abbrev pub no_kinds : KindSet
no_kinds = record { i = false; ub = false; ua = false; d = false }

-- an input: the kinds that come, how updates are told, and its columns
pub record Side : Type 0 where
  pub kinds : KindSet
  pub input : Update
  pub columns : List ColTy

-- what is around a node: the kinds that its first input carries, how that tells updates and how the node does itself, the columns
-- of its first input, the local grouping whose partial rows come by it, where none are rows, its other inputs, how many inputs it has,
-- and what the sink's table is declared as, with its key
pub record Around : Type 0 where
  pub kinds : KindSet
  pub input : Update
  pub own : Update
  pub columns : List ColTy
  pub partial : Option LocalGrouping
  pub others : List Side
  pub inputs : ℕ
  pub declared : Declared
  pub sink_key : List ℕ

-- the second input; one that isn't there has no columns
abbrev pub first_side : List Side → Side
first_side [] = record { kinds = no_kinds; input = Both; columns = [] }
first_side (side ∷ sides) = side

abbrev pub second : Around → Side
second around = first_side around.others

-- ---- edges

-- the mode in which a node writes the changes of its edge
abbrev pub mode_told : Update → Mode
mode_told Absent = retract
mode_told (After columns) = upsert columns
mode_told Both = retract

-- the mode in which a consumer reads them: where inserts alone come, nothing is ever taken back
abbrev pub mode_read : KindSet → Update → Mode
mode_read kinds Absent = cond (has_more_than_inserts kinds) retract append
mode_read kinds (After columns) = upsert columns
mode_read kinds Both = retract

-- ---- what a rule reads

abbrev pub filter_of : Expr → Filter
filter_of cond = record { condition = cond }

abbrev pub project_of : List Expr → Around → Project
project_of items around = record { items = items; after = after_key around.input }

abbrev pub union_of : Around → Union
union_of around = record { inputs = around.inputs }

abbrev pub normalize_of : List ℕ → Around → Normalize
normalize_of key around = record { key = key; output = mode_told around.own }

abbrev pub grouping_of : ℕ → List Agg → Around → Grouping
grouping_of keys aggs around = record { keys = keys; aggs = aggs; columns = around.columns; input = mode_read around.kinds around.input; output = mode_told around.own }

abbrev pub local_of : ℕ → List Agg → Around → LocalGrouping
local_of keys aggs around = record { keys = keys; aggs = aggs; columns = around.columns; input = mode_read around.kinds around.input }

abbrev pub merging_of : LocalGrouping → Around → Merging
merging_of l around = record { local = l; output = mode_told around.own }

abbrev pub joining_of : Shape → List Pair → Option Expr → Around → Joining
joining_of shape on rest around = record {
  shape = shape;
  on = on;
  rest = rest;
  left_columns = around.columns;
  right_columns = (second around).columns;
  left = mode_read around.kinds around.input;
  right = mode_read (second around).kinds (second around).input;
}

-- of a join, and of a semi join or an anti join
abbrev pub join_of : JoinKind → List Pair → Option Expr → Around → Joining
join_of kind on rest around = joining_of (joins kind) on rest around

abbrev pub semi_of : Bool → List Pair → Option Expr → Around → Joining
semi_of anti on rest around = joining_of (matched anti) on rest around

abbrev pub ranking_of : List ℕ → List SortCol → ℕ → Bool → Around → Ranking
ranking_of partition order bound ranked around = record {
  partition = partition;
  order = order;
  bound = bound;
  ranked = ranked;
  columns = around.columns;
  input = mode_read around.kinds around.input;
  output = mode_told around.own;
}

abbrev pub sink_of : Around → Sink
sink_of around = record { declared = around.declared; after = after_key around.input; key = around.sink_key }
