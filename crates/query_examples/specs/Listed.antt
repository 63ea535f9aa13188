-- The batch answer computed on lists of rows, so that examples of it can be worked.
use Rattle.std.specs.Prelude.{ℕ, zero, suc, ◌==◌, nat_lt, ℤ, pos, ◌+ℤ◌, length, Bool, true, false, cond, not, List, [], ◌∷◌, ◌++◌, map, filter, take, Option, Some, None, option_map, option_and_then}
use Rattle.std.specs.Option.{unwrap_or}
use Rattle.std.specs.declared.cmp.Ordering.{Ordering}
use Rattle.ct_value.specs.Bag.{put, occurs, weigh, bag_of}
use Rattle.ct_value.specs.Order.{value_cmp, row_cmp, number_of}
use Rattle.ct_value.specs.Rows.{project}
use Rattle.ct_value.specs.declared.row.Row.{Row}
use Rattle.ct_value.specs.declared.ty.Ty.{Ty}
use Rattle.ct_value.specs.declared.ty.ColTy.{ColTy}
use Rattle.ct_value.specs.declared.value.Value.{Value}
use Rattle.ct_value.specs.declared.value.Value.TheVariants.{Null}
use Rattle.ct_change.specs.Changelog.{same_row}
use Rattle.ct_field.specs.Typed.{is_null}
use Rattle.ct_expr.specs.Eval.{eval}
use Rattle.ct_expr.specs.Types.{both_of}
use Rattle.rel_algebra.specs.declared.agg.Agg.{Agg}
use Rattle.rel_algebra.specs.declared.agg.AggCall.{AggCall}
use Rattle.rel_algebra.specs.declared.agg.AggCall.TheVariants.{CountAll, Count, CountDistinct, Sum, Min, Max, Avg}
use Rattle.rel_algebra.specs.declared.join.JoinKind.{JoinKind}
use Rattle.rel_algebra.specs.declared.sort.SortCol.{SortCol}
use Rattle.rel_algebra.specs.Aggregates.{count_value, in_type, sum_type, average, first_value, last_value, argument, passes, type_in, ty_or_bigint}
use Rattle.rel_algebra.specs.Clauses.{collect, holds, row_of}
use Rattle.rel_algebra.specs.Joins.{Matching, turned, apart_if, matching, nulls, keeps_left, keeps_right}
use Rattle.rel_algebra.specs.Ranks.{rank_cmp, ranked_from, shown}
use Rattle.rel_algebra.specs.Sets.{set_copies, set_form}
use Rattle.rel_algebra.specs.Rel.{Unary, filter_by, project_on, group_by, rank_in, Binary, join_on, semi_on, set_by, Rel, Rels, Scan, One, Two, Many, no_rels, rel_and}
use Rattle.rel_algebra.specs.Answer.{Table}
use Rattle.rel_algebra.specs.Types.{columns_of}

-- ---- lists as bags

-- in order
abbrev pub sorted : {A : Type 0} → (A → A → Ordering) → List A → List A
sorted R [] = []
sorted R (x ∷ xs) = put R x (sorted R xs)

-- each once
abbrev pub each_once : {A : Type 0} → (A → A → Ordering) → List A → List A
each_once R [] = []
each_once R (x ∷ xs) = cond (occurs R x (each_once R xs) == 0) (x ∷ each_once R xs) (each_once R xs)

abbrev pub appended : {A : Type 0} → Option (List A) → Option (List A) → Option (List A)
appended None ys = None
appended (Some xs) None = None
appended (Some xs) (Some ys) = Some (xs ++ ys)

-- what is made of each, one behind the other
abbrev pub list_sum : {A B : Type 0} → (A → Option (List B)) → List A → Option (List B)
list_sum make [] = Some []
list_sum make (x ∷ xs) = appended (make x) (list_sum make xs)

abbrev pub kept_list : {A : Type 0} → Bool → A → List A
kept_list true x = x ∷ []
kept_list false x = []

-- ---- clauses

abbrev pub list_where : (Row → Option Bool) → List Row → Option (List Row)
list_where test rows = list_sum (λ row. option_map (λ t. kept_list t row) (test row)) rows

abbrev pub list_inner_join : Matching → List Row → List Row → Option (List Row)
list_inner_join match left right = list_sum (λ row. list_sum (λ other. option_map (λ t. kept_list t (row ++ other)) (match row other)) right) left

abbrev pub list_has_match : (Row → Option Bool) → List Row → Option Bool
list_has_match matches others = option_map (λ found. not (length (sorted row_cmp found) == 0)) (list_where matches others)

abbrev pub list_semi_join : Bool → Matching → List Row → List Row → Option (List Row)
list_semi_join anti match left right = list_where (λ row. option_map (apart_if anti) (list_has_match (match row) right)) left

abbrev pub list_padded_if : Bool → (Row → Row) → Matching → List Row → List Row → Option (List Row)
list_padded_if false pad match rows others = Some []
list_padded_if true pad match rows others = option_map (map pad) (list_semi_join true match rows others)

abbrev pub list_join : JoinKind → ℕ → ℕ → Matching → List Row → List Row → Option (List Row)
list_join kind left_width right_width match left right =
    appended (list_inner_join match left right)
    (appended (list_padded_if (keeps_left kind) (λ row. row ++ nulls right_width) match left right)
    (list_padded_if (keeps_right kind) (λ row. nulls left_width ++ row) (turned match) right left))

abbrev pub list_by_key : (Row → Row) → (Row → List Row → Option (List Row)) → List Row → Option (List Row)
list_by_key key_of make rows = list_sum (λ key. make key (filter (λ row. same_row key (key_of row)) rows)) (each_once row_cmp (map key_of rows))

-- ---- aggregates

abbrev pub list_known : List Value → List Value
list_known values = filter (λ value. not (is_null value)) values

abbrev pub list_size : List Value → ℕ
list_size values = weigh (λ _. 1) values

abbrev pub list_sum_of : List Value → ℤ
list_sum_of [] = pos 0
list_sum_of (value ∷ values) = number_of value +ℤ list_sum_of values

abbrev pub list_unless_none : List Value → Option Value → Option Value
list_unless_none values result = cond (list_size values == 0) (Some Null) result

abbrev pub list_agg_value : AggCall → Ty → List Value → Option Value
list_agg_value CountAll ty values = count_value (list_size values)
list_agg_value Count ty values = count_value (list_size (list_known values))
list_agg_value CountDistinct ty values = count_value (list_size (each_once value_cmp (list_known values)))
list_agg_value Sum ty values = list_unless_none (list_known values) (in_type (sum_type ty) (list_sum_of (list_known values)))
list_agg_value Min ty values = Some (first_value (sorted value_cmp (list_known values)))
list_agg_value Max ty values = Some (last_value (sorted value_cmp (list_known values)))
list_agg_value Avg ty values = list_unless_none (list_known values) (average ty (list_sum_of (list_known values)) (list_size (list_known values)))

abbrev pub list_result : List ColTy → List Row → Agg → Option Value
list_result columns rows agg = list_agg_value agg.call (ty_or_bigint (type_in columns agg.arg)) (map (argument agg.arg) (filter (passes agg.filter) rows))

abbrev pub list_results : List ColTy → List Agg → List Row → Option Row
list_results columns aggs rows = collect (map (list_result columns rows) aggs)

abbrev pub list_group : ℕ → (List Row → Option Row) → List Row → Option (List Row)
list_group zero results rows = option_map (λ values. values ∷ []) (results rows)
list_group (suc keys) results rows = list_by_key (take (suc keys)) (λ key members. option_map (λ values. (key ++ values) ∷ []) (results members)) rows

abbrev pub list_first_rows : List SortCol → ℕ → Bool → List Row → List Row
list_first_rows sorts bound ranked members = map (shown ranked) (take bound (ranked_from 1 (sorted (rank_cmp sorts) (sorted row_cmp members))))

abbrev pub list_rank : List ℕ → List SortCol → ℕ → Bool → List Row → Option (List Row)
list_rank partition sorts bound ranked rows = list_by_key (project partition) (λ key members. Some (list_first_rows sorts bound ranked members)) rows

-- at most so many of each
abbrev pub list_thinned : (Row → ℕ) → List Row → List Row
list_thinned most [] = []
list_thinned most (x ∷ xs) = cond (nat_lt (occurs row_cmp x (list_thinned most xs)) (most x)) (x ∷ list_thinned most xs) (list_thinned most xs)

abbrev pub list_set : Bool → Bool → List Row → List Row → List Row
list_set except all xs ys = list_thinned (λ row. set_copies (set_form except all) (occurs row_cmp row xs) (occurs row_cmp row ys)) xs

-- ---- the answer

pub record ListedTable : Type 0 where
  pub columns : List ColTy
  pub rows : List Row

-- as the tables of the algebra
abbrev pub table_of : ListedTable → Table
table_of table = record { columns = table.columns; rows = bag_of table.rows }

abbrev pub listed_rows : List ListedTable → ℕ → List Row
listed_rows [] source = []
listed_rows (table ∷ tables) zero = table.rows
listed_rows (table ∷ tables) (suc source) = listed_rows tables source

-- those of a node with one input, and with two, over the columns of the inputs
abbrev pub list_unary : Unary → List ColTy → List Row → Option (List Row)
list_unary (filter_by condition) columns = list_where (holds (eval condition))
list_unary (project_on items) columns = list_sum (λ row. option_map (λ made. made ∷ []) (row_of (map eval items) row))
list_unary (group_by keys aggs) columns = list_group keys (list_results columns aggs)
list_unary (rank_in partition order bound ranked) columns = list_rank partition order bound ranked

abbrev pub list_binary : Binary → List ColTy → List ColTy → List Row → List Row → Option (List Row)
list_binary (join_on kind pairs rest) l r = list_join kind (length l) (length r) (matching pairs (option_map eval rest))
list_binary (semi_on anti pairs rest) l r = list_semi_join anti (matching pairs (option_map eval rest))
list_binary (set_by except all columns) l r = λ xs ys. Some (list_set except all xs ys)

module _ (tables : List ListedTable) where
  abbrev pub listed_columns : Rel → List ColTy
  listed_columns rel = unwrap_or (columns_of (map (λ table. table.columns) tables) rel) []

  abbrev mutual
    pub listed : Rel → Option (List Row)
    listed (Scan source) = Some (listed_rows tables source)
    listed (One how input) = option_and_then (list_unary how (listed_columns input)) (listed input)
    listed (Two how left right) = both_of (list_binary how (listed_columns left) (listed_columns right)) (listed left) (listed right)
    listed (Many inputs) = listed_all inputs

    pub listed_all : Rels → Option (List Row)
    listed_all no_rels = Some []
    listed_all (rel_and input inputs) = appended (listed input) (listed_all inputs)
