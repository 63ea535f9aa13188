-- The columns of each node, and whether it is well-typed over the columns of the tables.
use Rattle.std.specs.Prelude.{ℕ, nat_le, nat_lt, ◌==◌, Bool, true, false, cond, ◌&&◌, List, [], ◌∷◌, ◌++◌, length, slice_get, Option, Some, None, option_and_then, is_some}
use Rattle.std.specs.List.{list_all}
use Rattle.ct_value.specs.declared.ty.ColTy.{ColTy}
use Rattle.ct_expr.specs.Expr.{Expr}
use Rattle.ct_expr.specs.Types.{type_of, both_of, is_truths}
use Rattle.rel_algebra.specs.declared.join.Pair.{Pair}
use Rattle.rel_algebra.specs.declared.sort.SortCol.{SortCol}
use Rattle.rel_algebra.specs.Groups.{group_columns}
use Rattle.rel_algebra.specs.Joins.{join_columns}
use Rattle.rel_algebra.specs.Ranks.{rank_columns}
use Rattle.rel_algebra.specs.declared.sets.SetKind.TheVariants.{Union}
use Rattle.rel_algebra.specs.Sets.{set_column, set_columns, set_kind}
use Rattle.rel_algebra.specs.Rel.{Unary, filter_by, project_on, group_by, rank_in, Binary, join_on, semi_on, set_by, Rel, Rels, Scan, One, Two, Many, no_rels, rel_and}

-- these columns, where a test holds
abbrev pub columns_if : Bool → List ColTy → Option (List ColTy)
columns_if test columns = cond test (Some columns) None

abbrev pub is_boolean : Option ColTy → Bool
is_boolean None = false
is_boolean (Some column) = is_truths column.ty

-- a condition is BOOLEAN over these columns
abbrev pub is_condition : List ColTy → Expr → Bool
is_condition columns condition = is_boolean (type_of condition columns)

abbrev pub is_condition_if : List ColTy → Option Expr → Bool
is_condition_if columns None = true
is_condition_if columns (Some condition) = is_condition columns condition

-- the columns of the items, where each has a type
abbrev pub item_columns : List ColTy → List Expr → Option (List ColTy)
item_columns columns [] = Some []
item_columns columns (item ∷ items) = both_of (λ column others. Some (column ∷ others)) (type_of item columns) (item_columns columns items)

-- a column that may hold the values of either, and column by column those of both
abbrev pub common_column : ColTy → ColTy → Option ColTy
common_column = set_column Union

abbrev pub common_columns : List ColTy → List ColTy → Option (List ColTy)
common_columns = set_columns Union

-- the two columns are there, and have a common type
abbrev pub pair_fits : List ColTy → List ColTy → Pair → Bool
pair_fits left right pair = is_some (both_of common_column (slice_get left pair.left) (slice_get right pair.right))

abbrev pub pairs_fit : List ColTy → List ColTy → List Pair → Bool
pairs_fit left right pairs = list_all (pair_fits left right) pairs

-- a condition on pairs of rows: its pairs, and the rest over both sides' columns
abbrev pub match_fits : List ColTy → List ColTy → List Pair → Option Expr → Bool
match_fits left right pairs rest = pairs_fit left right pairs && is_condition_if (left ++ right) rest

abbrev pub is_column : List ColTy → ℕ → Bool
is_column columns column = nat_lt column (length columns)

-- the most rows of a partition that Top-N keeps
abbrev pub largest_bound : ℕ
largest_bound = 10000

abbrev pub rank_fits : List ColTy → List ℕ → List SortCol → ℕ → Bool
rank_fits columns partition order bound = list_all (is_column columns) partition && (list_all (λ sort. is_column columns sort.col) order && (nat_le 1 bound && nat_le bound largest_bound))

-- those of a node with one input, and with two
abbrev pub unary_columns : Unary → List ColTy → Option (List ColTy)
unary_columns (filter_by condition) columns = columns_if (is_condition columns condition) columns
unary_columns (project_on items) columns = item_columns columns items
unary_columns (group_by keys aggs) columns = group_columns keys columns aggs
unary_columns (rank_in partition order bound ranked) columns = columns_if (rank_fits columns partition order bound) (rank_columns ranked columns)

abbrev pub binary_columns : Binary → List ColTy → List ColTy → Option (List ColTy)
binary_columns (join_on kind pairs rest) l r = columns_if (match_fits l r pairs rest) (join_columns kind l r)
binary_columns (semi_on anti pairs rest) l r = columns_if (match_fits l r pairs rest) l
binary_columns (set_by except all columns) l r = cond (length l == columns) (set_columns (set_kind except) l r) None

abbrev mutual
  -- the columns of a node, over the columns of the tables; none where it isn't well-typed
  pub columns_of : List (List ColTy) → Rel → Option (List ColTy)
  columns_of tables (Scan source) = slice_get tables source
  columns_of tables (One how input) = option_and_then (unary_columns how) (columns_of tables input)
  columns_of tables (Two how left right) = both_of (binary_columns how) (columns_of tables left) (columns_of tables right)
  columns_of tables (Many inputs) = union_columns tables inputs

  -- the common columns of one input or more
  pub union_columns : List (List ColTy) → Rels → Option (List ColTy)
  union_columns tables no_rels = None
  union_columns tables (rel_and input inputs) = common_from tables (columns_of tables input) inputs

  pub common_from : List (List ColTy) → Option (List ColTy) → Rels → Option (List ColTy)
  common_from tables columns no_rels = columns
  common_from tables columns (rel_and input inputs) = common_from tables (both_of common_columns columns (columns_of tables input)) inputs
