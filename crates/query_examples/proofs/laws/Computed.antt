-- The answer computed on lists is the answer.
use Rattle.std.proofs.Common.{◌≡◌, ℕ, zero, suc, ◌==◌, Bool, true, false, cond, not, List, [], ◌∷◌, ◌++◌, map, filter, length, take, Option, Some, None, refl, sym, ap, ◌∙◌, arith}
use Rattle.std.specs.Prelude.{min, nat_lt, ◌+ℤ◌, option_map, option_and_then}
use Rattle.std.specs.Option.{unwrap_or}
use Rattle.std.specs.declared.cmp.Ordering.{Ordering}
use Rattle.std.specs.Cmp.{IsTotalOrder}
use Rattle.std.specs.FinMap.{IsAntisymmetric}
use Rattle.ct_value.specs.Bag.{Bag, none, add, items, put, copies, bag_of, occurs}
use Rattle.ct_value.proofs.laws.Bags.{items-none, items-add, total-bag_of, copies-bag_of, same_bag}
use Rattle.ct_value.specs.Order.{value_cmp, value_total, value_exact, number_of, row_cmp, row_total, row_exact}
use Rattle.ct_value.specs.Rows.{project}
use Rattle.ct_value.specs.declared.row.Row.{Row}
use Rattle.ct_value.specs.declared.ty.Ty.{Ty}
use Rattle.ct_value.specs.declared.ty.ColTy.{ColTy}
use Rattle.ct_value.specs.declared.value.Value.{Value}
use Rattle.ct_value.specs.declared.value.Value.TheVariants.{Null}
use Rattle.ct_change.specs.Changelog.{Rows, same_row, is_empty}
use Rattle.ct_field.specs.Typed.{is_null}
use Rattle.ct_expr.specs.Eval.{eval}
use Rattle.ct_expr.specs.Types.{both_of}
use Rattle.rel_algebra.specs.declared.agg.Agg.{Agg}
use Rattle.rel_algebra.specs.declared.agg.AggCall.{AggCall}
use Rattle.rel_algebra.specs.declared.agg.AggCall.TheVariants.{CountAll, Count, CountDistinct, Sum, Min, Max, Avg}
use Rattle.rel_algebra.specs.declared.join.JoinKind.{JoinKind}
use Rattle.rel_algebra.specs.declared.sort.SortCol.{SortCol}
use Rattle.rel_algebra.specs.Sums.{gather, one, kept, together, plus, add_where, restrict, distinct, mapped, sum_over}
use Rattle.rel_algebra.specs.Aggregates.{size, known, sum_of, agg_value, argument, passes, agg_result, agg_results, count_value, type_in, ty_or_bigint, in_type, sum_type, unless_none, average, first_value, last_value}
use Rattle.rel_algebra.specs.Clauses.{collect, holds, row_of, rows_where}
use Rattle.rel_algebra.specs.Groups.{group_rows}
use Rattle.rel_algebra.specs.Joins.{Matching, turned, inner_join, has_match, apart_if, semi_join, padded_if, matching, nulls, keeps_left, keeps_right, join_rows}
use Rattle.rel_algebra.specs.Keys.{by_key}
use Rattle.rel_algebra.specs.Ranks.{rank_cmp, first_rows, rank_rows, ranked_from, shown}
use Rattle.rel_algebra.specs.Sets.{set_copies, set_form, set_rows}
use Rattle.rel_algebra.proofs.laws.Sets.{copies-set_form, few_copies, list_thins}
use Rattle.rel_algebra.proofs.laws.Ranks.{rank_total, rank_exact}
use Rattle.rel_algebra.proofs.laws.Aggregates.{sum_of-none, sum_of-add}
use Rattle.rel_algebra.proofs.laws.Bags.{together-none, together-add, sum_over-none, sum_over-add, restrict-none, restrict-add, mapped-none, mapped-add, copies-distinct, distinct_from}
use Rattle.rel_algebra.specs.Rel.{Unary, filter_by, project_on, group_by, rank_in, Binary, join_on, semi_on, set_by, Rel, Rels, Scan, One, Two, Many, no_rels, rel_and}
use Rattle.rel_algebra.specs.Batch.{unary_answer, binary_answer}
use Rattle.rel_algebra.specs.Types.{columns_of}
use Rattle.rel_algebra.specs.Answer.{types_in, rows_in, columns_in, answer, answers}
use Rattle.query_examples.specs.Relations.{examples}
use Rattle.query_examples.specs.Listed.{sorted, each_once, appended, list_sum, kept_list, list_where, list_inner_join, list_has_match, list_semi_join, list_padded_if, list_join, list_by_key, list_known, list_size, list_sum_of, list_unless_none, list_agg_value, list_result, list_results, list_group, list_first_rows, list_rank, list_thinned, list_set, list_unary, list_binary, ListedTable, table_of, listed_rows, listed_columns, listed, listed_all}

-- ---- bags of lists

module _ {A : Type 0} {R : A → A → Ordering} (o : IsTotalOrder R) (exact : IsAntisymmetric R) where
  pub items-bag_of : (xs : List A) → items (bag_of {R = R} xs) ≡ sorted R xs
  items-bag_of [] = items-none R
  items-bag_of (x ∷ xs) = items-add o (bag_of xs) x ∙ ap (put R x) (items-bag_of xs)

  together-bag_of : (xs ys : List A) → together (bag_of {R = R} xs) (bag_of ys) ≡ bag_of (xs ++ ys)
  together-bag_of [] ys = together-none o exact (bag_of ys)
  together-bag_of (x ∷ xs) ys = together-add o exact (bag_of xs) (bag_of ys) x ∙ ap (λ b. add b x) (together-bag_of xs ys)

  plus-bag_of : (xs ys : Option (List A)) → plus (option_map (bag_of {R = R}) xs) (option_map bag_of ys) ≡ option_map bag_of (appended xs ys)
  plus-bag_of None ys = refl
  plus-bag_of (Some xs) None = refl
  plus-bag_of (Some xs) (Some ys) = ap Some (together-bag_of xs ys)

  restrict-bag_of : (test : A → Bool) (xs : List A) → restrict test (bag_of {R = R} xs) ≡ bag_of (filter test xs)
  restrict-bag_of test [] = restrict-none o exact test
  restrict-bag_of test (x ∷ xs) = restrict-add o exact test (bag_of xs) x ∙ ap (add_where (test x) x) (restrict-bag_of test xs) ∙ one_way (test x)
    where
      one_way : (t : Bool) → add_where t x (bag_of {R = R} (filter test xs)) ≡ bag_of (cond t (x ∷ filter test xs) (filter test xs))
      one_way true = refl
      one_way false = refl

  once-bag_of : (xs : List A) → gather (λ x c. add_where (copies c x == 0) x c) (none {R = R}) xs ≡ bag_of (each_once R xs)
  once-bag_of [] = refl
  once-bag_of (x ∷ xs) =
      ap (λ c. add_where (copies c x == 0) x c) (once-bag_of xs)
      ∙ ap (λ n. add_where (n == 0) x (bag_of (each_once R xs))) (copies-bag_of o (each_once R xs) x)
      ∙ one_way (occurs R x (each_once R xs) == 0)
    where
      one_way : (t : Bool) → add_where t x (bag_of {R = R} (each_once R xs)) ≡ bag_of (cond t (x ∷ each_once R xs) (each_once R xs))
      one_way true = refl
      one_way false = refl

  distinct-bag_of : (xs : List A) → distinct (bag_of {R = R} xs) ≡ bag_of (each_once R xs)
  distinct-bag_of xs = same_bag o exact _ _ (λ x.
      copies-distinct o exact (bag_of xs) x
      ∙ ap (λ n. cond (n == 0) 0 1) (copies-bag_of o xs x)
      ∙ sym (ap (λ b. copies b x) (sym (once-bag_of xs)) ∙ distinct_from o exact xs x))

module _ {B : Type 0} {S : B → B → Ordering} (p : IsTotalOrder S) (exactS : IsAntisymmetric S) {A : Type 0} {R : A → A → Ordering} (o : IsTotalOrder R) (exact : IsAntisymmetric R) where
  mapped-bag_of : (f : A → B) (xs : List A) → mapped {S = S} f (bag_of {R = R} xs) ≡ bag_of (map f xs)
  mapped-bag_of f [] = mapped-none p exactS R f
  mapped-bag_of f (x ∷ xs) = mapped-add p exactS o exact f (bag_of xs) x ∙ ap (λ b. add b (f x)) (mapped-bag_of f xs)

  sum_over-bag_of : (make : A → Option (Bag S)) (list_make : A → Option (List B)) → ((x : A) → make x ≡ option_map bag_of (list_make x)) → (xs : List A) → sum_over make (bag_of {R = R} xs) ≡ option_map bag_of (list_sum list_make xs)
  sum_over-bag_of make list_make same [] = sum_over-none p exactS R make
  sum_over-bag_of make list_make same (x ∷ xs) =
      sum_over-add p exactS o exact make (bag_of xs) x
      ∙ (λ i. plus (same x i) (sum_over-bag_of make list_make same xs i))
      ∙ plus-bag_of p exactS (list_make x) (list_sum list_make xs)

-- ---- clauses

kept-listed : (row : Row) (t : Option Bool) → option_map (λ t. kept {R = row_cmp} t row) t ≡ option_map bag_of (option_map (λ t. kept_list t row) t)
kept-listed row None = refl
kept-listed row (Some true) = refl
kept-listed row (Some false) = refl

where-listed : (test list_test : Row → Option Bool) → ((row : Row) → test row ≡ list_test row) → (xs : List Row) → rows_where test (bag_of xs) ≡ option_map bag_of (list_where list_test xs)
where-listed test list_test same xs = sum_over-bag_of row_total row_exact row_total row_exact (λ row. option_map (λ t. kept t row) (test row)) (λ row. option_map (λ t. kept_list t row) (list_test row))
    (λ row. ap (option_map (λ t. kept t row)) (same row) ∙ kept-listed row (list_test row)) xs

inner-listed : (match : Matching) (left right : List Row) → inner_join match (bag_of left) (bag_of right) ≡ option_map bag_of (list_inner_join match left right)
inner-listed match left right = sum_over-bag_of row_total row_exact row_total row_exact _ _
    (λ row. sum_over-bag_of row_total row_exact row_total row_exact _ _ (λ other. kept-listed (row ++ other) (match row other)) right) left

found-listed : (found : Option (List Row)) → option_map (λ b. not (is_empty b)) (option_map (bag_of {R = row_cmp}) found) ≡ option_map (λ xs. not (length (sorted row_cmp xs) == 0)) found
found-listed None = refl
found-listed (Some xs) = ap (λ ys. Some (not (length ys == 0))) (items-bag_of row_total row_exact xs)

match-listed : (matches : Row → Option Bool) (others : List Row) → has_match matches (bag_of others) ≡ list_has_match matches others
match-listed matches others = ap (option_map (λ b. not (is_empty b))) (where-listed matches matches (λ row. refl) others) ∙ found-listed (list_where matches others)

semi-listed : (anti : Bool) (match : Matching) (left right : List Row) → semi_join anti match (bag_of left) (bag_of right) ≡ option_map bag_of (list_semi_join anti match left right)
semi-listed anti match left right = where-listed _ _ (λ row. ap (option_map (apart_if anti)) (match-listed (match row) right)) left

padded-listed : (outer : Bool) (pad : Row → Row) (match : Matching) (rows others : List Row) → padded_if outer pad match (bag_of rows) (bag_of others) ≡ option_map bag_of (list_padded_if outer pad match rows others)
padded-listed false pad match rows others = refl
padded-listed true pad match rows others = ap (option_map (mapped pad)) (semi-listed true match rows others) ∙ go (list_semi_join true match rows others)
  where
    go : (xs : Option (List Row)) → option_map (mapped {S = row_cmp} pad) (option_map (bag_of {R = row_cmp}) xs) ≡ option_map bag_of (option_map (map pad) xs)
    go None = refl
    go (Some xs) = ap Some (mapped-bag_of row_total row_exact row_total row_exact pad xs)

join-listed : (kind : JoinKind) (left_width right_width : ℕ) (match : Matching) (left right : List Row) → join_rows kind left_width right_width match (bag_of left) (bag_of right) ≡ option_map bag_of (list_join kind left_width right_width match left right)
join-listed kind left_width right_width match left right =
    (λ i. plus (inner-listed match left right i)
    (plus (padded-listed (keeps_left kind) (λ row. row ++ nulls right_width) match left right i) (padded-listed (keeps_right kind) (λ row. nulls left_width ++ row) (turned match) right left i)))
    ∙ ap (plus (option_map bag_of (list_inner_join match left right)))
    (plus-bag_of row_total row_exact (list_padded_if (keeps_left kind) (λ row. row ++ nulls right_width) match left right) (list_padded_if (keeps_right kind) (λ row. nulls left_width ++ row) (turned match) right left))
    ∙ plus-bag_of row_total row_exact (list_inner_join match left right) (appended (list_padded_if (keeps_left kind) (λ row. row ++ nulls right_width) match left right) (list_padded_if (keeps_right kind) (λ row. nulls left_width ++ row) (turned match) right left))

by_key-listed : (key_of : Row → Row) (make : Row → Rows → Option Rows) (list_make : Row → List Row → Option (List Row)) → ((key : Row) (members : List Row) → make key (bag_of members) ≡ option_map bag_of (list_make key members))
    → (xs : List Row) → by_key key_of make (bag_of xs) ≡ option_map bag_of (list_by_key key_of list_make xs)
by_key-listed key_of make list_make same xs =
    ap (sum_over (λ key. make key (restrict (λ row. same_row key (key_of row)) (bag_of xs)))) (ap distinct (mapped-bag_of row_total row_exact row_total row_exact key_of xs) ∙ distinct-bag_of row_total row_exact (map key_of xs))
    ∙ sum_over-bag_of row_total row_exact row_total row_exact _ (λ key. list_make key (filter (λ row. same_row key (key_of row)) xs))
    (λ key. ap (make key) (restrict-bag_of row_total row_exact (λ row. same_row key (key_of row)) xs) ∙ same key (filter (λ row. same_row key (key_of row)) xs))
    (each_once row_cmp (map key_of xs))

-- ---- aggregates

known-listed : (values : List Value) → known (bag_of values) ≡ bag_of (list_known values)
known-listed values = restrict-bag_of value_total value_exact (λ value. not (is_null value)) values

size-listed : (values : List Value) → size (bag_of values) ≡ list_size values
size-listed values = total-bag_of value_total (λ _. 1) values

sum-listed : (values : List Value) → sum_of (bag_of values) ≡ list_sum_of values
sum-listed [] = sum_of-none
sum-listed (value ∷ values) = sum_of-add (bag_of values) value ∙ ap (λ n. number_of value +ℤ n) (sum-listed values)

unless-listed : (values : List Value) (result : Option Value) → unless_none (bag_of values) result ≡ list_unless_none values result
unless-listed values result = ap (λ n. cond (n == 0) (Some Null) result) (size-listed values)

agg-listed : (call : AggCall) (ty : Ty) (values : List Value) → agg_value call ty (bag_of values) ≡ list_agg_value call ty values
agg-listed CountAll ty values = ap count_value (size-listed values)
agg-listed Count ty values = ap count_value (ap size (known-listed values) ∙ size-listed (list_known values))
agg-listed CountDistinct ty values = ap count_value (ap size (ap distinct (known-listed values) ∙ distinct-bag_of value_total value_exact (list_known values)) ∙ size-listed (each_once value_cmp (list_known values)))
agg-listed Sum ty values = ap (λ b. unless_none b (in_type (sum_type ty) (sum_of b))) (known-listed values)
    ∙ ap (λ n. unless_none (bag_of (list_known values)) (in_type (sum_type ty) n)) (sum-listed (list_known values)) ∙ unless-listed (list_known values) (in_type (sum_type ty) (list_sum_of (list_known values)))
agg-listed Min ty values = ap (λ b. Some (first_value (items b))) (known-listed values) ∙ ap (λ xs. Some (first_value xs)) (items-bag_of value_total value_exact (list_known values))
agg-listed Max ty values = ap (λ b. Some (last_value (items b))) (known-listed values) ∙ ap (λ xs. Some (last_value xs)) (items-bag_of value_total value_exact (list_known values))
agg-listed Avg ty values = ap (λ b. unless_none b (average ty (sum_of b) (size b))) (known-listed values)
    ∙ (λ i. unless_none (bag_of (list_known values)) (average ty (sum-listed (list_known values) i) (size-listed (list_known values) i)))
    ∙ unless-listed (list_known values) (average ty (list_sum_of (list_known values)) (list_size (list_known values)))

result-listed : (columns : List ColTy) (rows : List Row) (agg : Agg) → agg_result columns (bag_of rows) agg ≡ list_result columns rows agg
result-listed columns rows agg =
    ap (agg_value agg.call (ty_or_bigint (type_in columns agg.arg))) (ap (mapped (argument agg.arg)) (restrict-bag_of row_total row_exact (passes agg.filter) rows) ∙ mapped-bag_of value_total value_exact row_total row_exact (argument agg.arg) (filter (passes agg.filter) rows))
    ∙ agg-listed agg.call (ty_or_bigint (type_in columns agg.arg)) (map (argument agg.arg) (filter (passes agg.filter) rows))

results-listed : (columns : List ColTy) (aggs : List Agg) (rows : List Row) → agg_results columns aggs (bag_of rows) ≡ list_results columns aggs rows
results-listed columns aggs rows = ap (λ (f : Agg → Option Value). collect (map f aggs)) (λ i agg. result-listed columns rows agg i)

one-listed : (key : Row) (values : Option Row) → option_map (λ v. one {R = row_cmp} (key ++ v)) values ≡ option_map bag_of (option_map (λ v. (key ++ v) ∷ []) values)
one-listed key None = refl
one-listed key (Some v) = refl

all-listed : (values : Option Row) → option_map (one {R = row_cmp}) values ≡ option_map bag_of (option_map (λ v. v ∷ []) values)
all-listed None = refl
all-listed (Some v) = refl

group-listed : (keys : ℕ) (columns : List ColTy) (aggs : List Agg) (rows : List Row) → group_rows keys (agg_results columns aggs) (bag_of rows) ≡ option_map bag_of (list_group keys (list_results columns aggs) rows)
group-listed zero columns aggs rows = ap (option_map one) (results-listed columns aggs rows) ∙ all-listed (list_results columns aggs rows)
group-listed (suc keys) columns aggs rows = by_key-listed (take (suc keys)) (λ key members. option_map (λ values. one (key ++ values)) (agg_results columns aggs members)) (λ key members. option_map (λ values. (key ++ values) ∷ []) (list_results columns aggs members))
    (λ key members. ap (option_map (λ values. one (key ++ values))) (results-listed columns aggs members) ∙ one-listed key (list_results columns aggs members)) rows

first-listed : (sorts : List SortCol) (bound : ℕ) (ranked : Bool) (members : List Row) → first_rows sorts bound ranked (bag_of members) ≡ bag_of (list_first_rows sorts bound ranked members)
first-listed sorts bound ranked members =
    ap (λ xs. bag_of (map (shown ranked) (take bound (ranked_from 1 xs))))
    (ap (λ xs. items (bag_of {R = rank_cmp sorts} xs)) (items-bag_of row_total row_exact members) ∙ items-bag_of (rank_total sorts) (rank_exact sorts) (sorted row_cmp members))

rank-listed : (partition : List ℕ) (sorts : List SortCol) (bound : ℕ) (ranked : Bool) (rows : List Row) → rank_rows partition sorts bound ranked (bag_of rows) ≡ option_map bag_of (list_rank partition sorts bound ranked rows)
rank-listed partition sorts bound ranked rows = by_key-listed (project partition) (λ key members. Some (first_rows sorts bound ranked members)) (λ key members. Some (list_first_rows sorts bound ranked members)) (λ key members. ap Some (first-listed sorts bound ranked members)) rows

-- ---- the answer

scan-listed : (tables : List ListedTable) (source : ℕ) → rows_in (map table_of tables) source ≡ bag_of (listed_rows tables source)
scan-listed [] source = refl
scan-listed (table ∷ tables) zero = refl
scan-listed (table ∷ tables) (suc source) = scan-listed tables source

types-listed : (tables : List ListedTable) → types_in (map table_of tables) ≡ map (λ table. table.columns) tables
types-listed [] = refl
types-listed (table ∷ tables) = ap (λ ts. table.columns ∷ ts) (types-listed tables)

then-listed : (f : Rows → Option Rows) (g : List Row → Option (List Row)) → ((xs : List Row) → f (bag_of xs) ≡ option_map bag_of (g xs)) → (o : Option (List Row)) → option_and_then f (option_map bag_of o) ≡ option_map bag_of (option_and_then g o)
then-listed f g same None = refl
then-listed f g same (Some xs) = same xs

both-listed : (f : Rows → Rows → Option Rows) (g : List Row → List Row → Option (List Row)) → ((xs ys : List Row) → f (bag_of xs) (bag_of ys) ≡ option_map bag_of (g xs ys)) → (o p : Option (List Row)) → both_of f (option_map bag_of o) (option_map bag_of p) ≡ option_map bag_of (both_of g o p)
both-listed f g same None p = refl
both-listed f g same (Some xs) None = refl
both-listed f g same (Some xs) (Some ys) = same xs ys

unary-listed : (how : Unary) (columns : List ColTy) (xs : List Row) → unary_answer how columns (bag_of xs) ≡ option_map bag_of (list_unary how columns xs)
unary-listed (filter_by condition) columns xs = where-listed (holds (eval condition)) (holds (eval condition)) (λ row. refl) xs
unary-listed (project_on items) columns xs = sum_over-bag_of row_total row_exact row_total row_exact _ _ (λ row. all-listed (row_of (map eval items) row)) xs
unary-listed (group_by keys aggs) columns xs = group-listed keys columns aggs xs
unary-listed (rank_in partition order bound ranked) columns xs = rank-listed partition order bound ranked xs

thinned-listed : (most : Row → ℕ) (xs : List Row) → bag_of {R = row_cmp} (list_thinned most xs) ≡ gather (λ x c. add_where (nat_lt (copies c x) (most x)) x c) none xs
thinned-listed most [] = refl
thinned-listed most (x ∷ xs) = step (list_thinned most xs) (gather (λ x c. add_where (nat_lt (copies c x) (most x)) x c) none xs) (thinned-listed most xs)
  where
    step : (rest : List Row) (c : Rows) → bag_of {R = row_cmp} rest ≡ c → bag_of {R = row_cmp} (cond (nat_lt (occurs row_cmp x rest) (most x)) (x ∷ rest) rest) ≡ add_where (nat_lt (copies c x) (most x)) x c
    step rest c h =
        go (nat_lt (occurs row_cmp x rest) (most x))
        ∙ (λ i. add_where (nat_lt ((sym (copies-bag_of row_total rest x) ∙ ap (λ (b : Rows). copies b x) h) i) (most x)) x (h i))
      where
        go : (b : Bool) → bag_of {R = row_cmp} (cond b (x ∷ rest) rest) ≡ add_where b x (bag_of {R = row_cmp} rest)
        go true = refl
        go false = refl

set-listed : (except all : Bool) (xs ys : List Row) → set_rows (set_form except all) (bag_of xs) (bag_of ys) ≡ bag_of (list_set except all xs ys)
set-listed except all xs ys =
    let form = set_form except all in
    let most : Row → ℕ = λ row. set_copies form (occurs row_cmp row xs) (occurs row_cmp row ys) in
    same_bag row_total row_exact _ _ (λ row.
    copies-set_form except all (bag_of xs) (bag_of ys) row
    ∙ (λ i. set_copies form (copies-bag_of row_total xs row i) (copies-bag_of row_total ys row i))
    ∙ (let l = few_copies except all (occurs row_cmp row xs) (occurs row_cmp row ys) in let e : most row ≡ min (occurs row_cmp row xs) (most row) = omega arith in e)
    ∙ sym (ap (λ (b : Rows). copies b row) (thinned-listed most xs) ∙ list_thins row_total row_exact most xs row))

binary-listed : (how : Binary) (l r : List ColTy) (xs ys : List Row) → binary_answer how l r (bag_of xs) (bag_of ys) ≡ option_map bag_of (list_binary how l r xs ys)
binary-listed (join_on kind pairs rest) l r xs ys = join-listed kind (length l) (length r) (matching pairs (option_map eval rest)) xs ys
binary-listed (semi_on anti pairs rest) l r xs ys = semi-listed anti (matching pairs (option_map eval rest)) xs ys
binary-listed (set_by except all columns) l r xs ys = ap Some (set-listed except all xs ys)

module _ (tables : List ListedTable) where
  columns-listed : (rel : Rel) → columns_in (map table_of tables) rel ≡ listed_columns tables rel
  columns-listed rel = ap (λ ts. unwrap_or (columns_of ts rel) []) (types-listed tables)

  mutual
    pub answer-listed : (rel : Rel) → answer (map table_of tables) rel ≡ option_map bag_of (listed tables rel)
    answer-listed (Scan source) = ap Some (scan-listed tables source)
    answer-listed (One how input) =
        (λ i. option_and_then (unary_answer how (columns-listed input i)) (answer-listed input i))
        ∙ then-listed (unary_answer how (listed_columns tables input)) (list_unary how (listed_columns tables input)) (unary-listed how (listed_columns tables input)) (listed tables input)
    answer-listed (Two how left right) =
        (λ i. both_of (binary_answer how (columns-listed left i) (columns-listed right i)) (answer-listed left i) (answer-listed right i))
        ∙ both-listed (binary_answer how (listed_columns tables left) (listed_columns tables right)) (list_binary how (listed_columns tables left) (listed_columns tables right))
        (binary-listed how (listed_columns tables left) (listed_columns tables right)) (listed tables left) (listed tables right)
    answer-listed (Many inputs) = answers-listed inputs

    answers-listed : (inputs : Rels) → answers (map table_of tables) inputs ≡ option_map bag_of (listed_all tables inputs)
    answers-listed no_rels = refl
    answers-listed (rel_and input inputs) = (λ i. plus (answer-listed input i) (answers-listed inputs i)) ∙ plus-bag_of row_total row_exact (listed tables input) (listed_all tables inputs)

  -- the rows of the answer, in order, each copy by itself
  pub answer_items : (rel : Rel) → option_map items (answer (map table_of tables) rel) ≡ option_map (sorted row_cmp) (listed tables rel)
  answer_items rel = ap (option_map items) (answer-listed rel) ∙ go (listed tables rel)
    where
      go : (xs : Option (List Row)) → option_map items (option_map (bag_of {R = row_cmp}) xs) ≡ option_map (sorted row_cmp) xs
      go None = refl
      go (Some xs) = ap Some (items-bag_of row_total row_exact xs)

-- ---- the examples

pub answers_of_examples : map (λ e. option_map items (answer (map table_of e.tables) e.rel)) examples ≡ map (λ e. e.rows) examples
answers_of_examples = (λ i. map (λ e. answer_items e.tables e.rel i) examples) ∙ refl

pub columns_of_examples : map (λ e. columns_of (map (λ table. table.columns) e.tables) e.rel) examples ≡ map (λ e. e.columns) examples
columns_of_examples = refl
