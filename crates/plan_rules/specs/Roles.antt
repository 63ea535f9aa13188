-- What operators are in the algebra, and which operators the algebra's are in a plan. From an operator's role follow the number of its
-- inputs, the tree of a node, its batch answer and the types of the row at which it is out of range.
use Rattle.std.specs.Prelude.{ℕ, ◌==◌, ◌&&◌, ◌||◌, nat_le, cond, Bool, List, [], ◌∷◌, ◌++◌, map, take, Option, Some, None, option_map}
use Rattle.ct_value.specs.declared.ty.ColTy.{ColTy}
use Rattle.ct_change.specs.Changelog.{Rows}
use Rattle.ct_expr.specs.View.{expr_view}
use Rattle.ct_expr.specs.Views.{expr_of}
use Rattle.rel_algebra.specs.declared.agg.Agg.{Agg}
use Rattle.rel_algebra.specs.Batch.{unary_answer, binary_answer}
use Rattle.rel_algebra.specs.Rel.{Unary, filter_by, project_on, group_by, rank_in, Binary, join_on, semi_on, set_by, Rel, Scan, One, Two, Many, no_rels, rels}
use Rattle.emission_rules.specs.GroupFits.{part}
use Rattle.emission_rules.specs.Union.{union_answer}
use Rattle.mode_infer.specs.Kinds.{asked, by_columns}
use Rattle.phys_plan.specs.declared.edge.Exchange.{Exchange}
use Rattle.phys_plan.specs.declared.node.Op.{Op}
use Rattle.phys_plan.specs.declared.node.Op.TheVariants as op
use Rattle.plan_rules.specs.Around.{Around, second, union_of, grouping_of}

pub data Role : Type 0 where
  reads_table : ℕ → Role
  one_of : Unary → Role
  two_of : Binary → Role
  -- the rows of all inputs
  all_of : Role
  -- the rows of its input, moved, told otherwise or prepared
  same_as : Role
  -- the rows of its input, summed up in part by so many first columns, with these calls
  part_of : ℕ → List Agg → Role
  -- so far the algebra has no such operator; how many inputs it takes
  not_told : (ℕ → Bool) → Role

-- ---- the role of each operator

abbrev pub role : Op → Role
role (op.Scan source) = reads_table source
role (op.Filter cond) = one_of (filter_by (expr_view cond))
role (op.Project items) = one_of (project_on (map expr_view items))
role op.Union = all_of
role (op.Normalize key) = same_as
role (op.Group keys aggs) = one_of (group_by keys aggs)
role (op.BatchGroup keys aggs) = one_of (group_by keys aggs)
role (op.Join kind on rest) = two_of (join_on kind on (option_map expr_view rest))
role (op.Semi anti on rest) = two_of (semi_on anti on (option_map expr_view rest))
role (op.TopN partition order bound ranked) = one_of (rank_in partition order bound ranked)
role (op.Materialize key) = same_as
role op.Sink = same_as
role (op.LocalGroup keys aggs) = part_of keys aggs
role (op.MultiJoin on) = not_told (λ inputs. nat_le 3 inputs && nat_le inputs 8)
role (op.SetOp except all columns) = two_of (set_by except all columns)

-- ---- the operator of each step of the algebra

-- an operator with one input, by how many changes a bundle holds, none where there are no bundles; and the exchange that it asks of its input
pub record UnaryWay : Type 0 where
  pub op : ℕ → Op
  pub asks : Exchange

-- it asks for the same with bundles and without
abbrev pub way : (ℕ → Op) → UnaryWay
way operator = record { op = operator; asks = by_columns (asked (operator 0) 0) }

-- a group by keys keeps bundles where there are any, and a group of all rows never does
abbrev pub group_op : ℕ → ℕ → List Agg → Op
group_op mini_batch keys aggs = cond (mini_batch == 0 || keys == 0) (op.Group keys aggs) (op.BatchGroup keys aggs)

abbrev pub unary_way : Unary → UnaryWay
unary_way (filter_by condition) = way (λ mini_batch. op.Filter (expr_of condition))
unary_way (project_on items) = way (λ mini_batch. op.Project (map expr_of items))
unary_way (group_by keys aggs) = way (λ mini_batch. group_op mini_batch keys aggs)
unary_way (rank_in partition order bound ranked) = way (λ mini_batch. op.TopN partition order bound ranked)

-- one with two, and the exchanges that it asks of both
pub record BinaryWay : Type 0 where
  pub op : Op
  pub left : Exchange
  pub right : Exchange

abbrev pub way_of_both : Op → BinaryWay
way_of_both operator = record { op = operator; left = by_columns (asked operator 0); right = by_columns (asked operator 1) }

abbrev pub binary_way : Binary → BinaryWay
binary_way (join_on kind pairs rest) = way_of_both (op.Join kind pairs (option_map expr_of rest))
binary_way (semi_on anti pairs rest) = way_of_both (op.Semi anti pairs (option_map expr_of rest))
binary_way (set_by except all columns) = way_of_both (op.SetOp except all columns)

-- ---- what follows from a role

-- whether it takes so many inputs
abbrev pub takes : Role → ℕ → Bool
takes (reads_table source) inputs = inputs == 0
takes (one_of how) inputs = inputs == 1
takes (two_of how) inputs = inputs == 2
takes all_of inputs = nat_le 2 inputs
takes same_as inputs = inputs == 1
takes (part_of keys aggs) inputs = inputs == 1
takes (not_told so_many) inputs = so_many inputs

-- the tree of no rows
abbrev pub nothing : Rel
nothing = Many no_rels

-- the tree of a node, by those of its inputs
abbrev pub tree_of : Role → List Rel → Rel
tree_of (reads_table source) inputs = Scan source
tree_of (one_of how) [] = One how nothing
tree_of (one_of how) (input ∷ inputs) = One how input
tree_of (two_of how) [] = Two how nothing nothing
tree_of (two_of how) (left ∷ []) = Two how left nothing
tree_of (two_of how) (left ∷ (right ∷ inputs)) = Two how left right
tree_of all_of inputs = Many (rels inputs)
tree_of same_as [] = nothing
tree_of same_as (input ∷ inputs) = input
tree_of (part_of keys aggs) [] = nothing
tree_of (part_of keys aggs) (input ∷ inputs) = input
tree_of (not_told so_many) inputs = nothing

-- the batch answer of a node, by the rows of its ports
abbrev pub batch_by : Role → Around → (ℕ → Rows) → Option Rows
batch_by (reads_table source) around rows = None
batch_by (one_of how) around rows = unary_answer how around.columns (rows 0)
batch_by (two_of how) around rows = binary_answer how around.columns (second around).columns (rows 0) (rows 1)
batch_by all_of around rows = union_answer (union_of around) rows
batch_by same_as around rows = Some (rows 0)
batch_by (part_of keys aggs) around rows = Some (rows 0)
batch_by (not_told so_many) around rows = None

-- that of a subtask, by the rows that come to it: the group of all rows is at subtask 0 alone
abbrev pub part_of_one : Unary → Around → ℕ → (ℕ → Rows) → Option Rows
part_of_one (filter_by condition) around subtask rows = unary_answer (filter_by condition) around.columns (rows 0)
part_of_one (project_on items) around subtask rows = unary_answer (project_on items) around.columns (rows 0)
part_of_one (group_by keys aggs) around subtask rows = part (grouping_of keys aggs around) subtask rows
part_of_one (rank_in partition order bound ranked) around subtask rows = unary_answer (rank_in partition order bound ranked) around.columns (rows 0)

abbrev pub part_by : Role → Around → ℕ → (ℕ → Rows) → Option Rows
part_by (reads_table source) around subtask rows = None
part_by (one_of how) around subtask rows = part_of_one how around subtask rows
part_by (two_of how) around subtask rows = batch_by (two_of how) around rows
part_by all_of around subtask rows = batch_by all_of around rows
part_by same_as around subtask rows = batch_by same_as around rows
part_by (part_of keys aggs) around subtask rows = batch_by (part_of keys aggs) around rows
part_by (not_told so_many) around subtask rows = None

-- the types of the row at which a node is out of range, by the columns of its first and of its second input: the row that came, the key of
-- its group, or two rows side by side
abbrev pub range_of_one : Unary → List ColTy → List ColTy
range_of_one (filter_by condition) columns = columns
range_of_one (project_on items) columns = columns
range_of_one (group_by keys aggs) columns = take keys columns
range_of_one (rank_in partition order bound ranked) columns = columns

abbrev pub range_by : Role → List ColTy → List ColTy → List ColTy
range_by (reads_table source) columns others = []
range_by (one_of how) columns others = range_of_one how columns
range_by (two_of how) columns others = columns ++ others
range_by all_of columns others = columns
range_by same_as columns others = columns
range_by (part_of keys aggs) columns others = take keys columns
range_by (not_told so_many) columns others = []
