-- The batch function of each node: from the bags of its inputs to a bag, or None where it is out of range.
use Rattle.std.specs.Prelude.{ℕ, Bool, List, length, map, Option, Some, option_map}
use Rattle.ct_value.specs.declared.ty.ColTy.{ColTy}
use Rattle.ct_change.specs.Changelog.{Rows}
use Rattle.ct_expr.specs.Expr.{Expr}
use Rattle.ct_expr.specs.Eval.{eval}
use Rattle.rel_algebra.specs.declared.agg.Agg.{Agg}
use Rattle.rel_algebra.specs.declared.join.JoinKind.{JoinKind}
use Rattle.rel_algebra.specs.declared.join.Pair.{Pair}
use Rattle.rel_algebra.specs.Aggregates.{agg_results}
use Rattle.rel_algebra.specs.Clauses.{filter_rows, project_rows}
use Rattle.rel_algebra.specs.Groups.{group_rows}
use Rattle.rel_algebra.specs.Ranks.{rank_rows}
use Rattle.rel_algebra.specs.Rel.{Unary, filter_by, project_on, group_by, rank_in, Binary, join_on, semi_on, set_by}
use Rattle.rel_algebra.specs.Sets.{set_form, set_rows}
use Rattle.rel_algebra.specs.Joins.{matching, join_rows, semi_join}

-- the condition is evaluated on every row
abbrev pub filter_answer : Expr → Rows → Option Rows
filter_answer condition rows = filter_rows (eval condition) rows

-- every item is evaluated on every row
abbrev pub project_answer : List Expr → Rows → Option Rows
project_answer items rows = project_rows (map eval items) rows

-- every call is evaluated in every group; the input has these columns
abbrev pub group_answer : List ColTy → ℕ → List Agg → Rows → Option Rows
group_answer columns keys aggs rows = group_rows keys (agg_results columns aggs) rows

-- the rest is evaluated on the pairs of rows that agree; the inputs have these columns
abbrev pub join_answer : List ColTy → List ColTy → JoinKind → List Pair → Option Expr → Rows → Rows → Option Rows
join_answer left_columns right_columns kind pairs rest left right = join_rows kind (length left_columns) (length right_columns) (matching pairs (option_map eval rest)) left right

abbrev pub semi_answer : Bool → List Pair → Option Expr → Rows → Rows → Option Rows
semi_answer anti pairs rest left right = semi_join anti (matching pairs (option_map eval rest)) left right

-- EXCEPT, or else INTERSECT, with ALL or without; never out of range
abbrev pub set_answer : Bool → Bool → Rows → Rows → Option Rows
set_answer except all left right = Some (set_rows (set_form except all) left right)

-- those of a node with one input, and with two, over the columns of the inputs
abbrev pub unary_answer : Unary → List ColTy → Rows → Option Rows
unary_answer (filter_by condition) columns rows = filter_answer condition rows
unary_answer (project_on items) columns rows = project_answer items rows
unary_answer (group_by keys aggs) columns rows = group_answer columns keys aggs rows
unary_answer (rank_in partition order bound ranked) columns rows = rank_rows partition order bound ranked rows

abbrev pub binary_answer : Binary → List ColTy → List ColTy → Rows → Rows → Option Rows
binary_answer (join_on kind pairs rest) l r left right = join_answer l r kind pairs rest left right
binary_answer (semi_on anti pairs rest) l r left right = semi_answer anti pairs rest left right
binary_answer (set_by except all columns) l r left right = set_answer except all left right
