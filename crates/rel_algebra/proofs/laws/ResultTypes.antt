-- The results of aggregates are of the types of their calls.
use Rattle.std.proofs.Common.{◌≡◌, ℕ, zero, suc, ◌<◌, ◌==◌, ◌^◌, Bool, true, false, cond, not, ◌&&◌, ◌||◌, List, [], ◌∷◌, map, Option, Some, None, refl, sym, ap, ◌∙◌, subst, arith}
use Rattle.std.specs.Prelude.{ℤ, pos, ◌-◌, ◌*ℤ◌, option_map, is_some, slice_get}
use Rattle.std.specs.List.{AllByRecursion}
use Rattle.std.proofs.lemmas.Bool.{eqb-true}
use Rattle.ct_value.specs.Bag.{items, total, weigh}
use Rattle.ct_value.specs.Order.{value_total, value_exact, number_of, row_cmp, row_total, row_exact}
use Rattle.ct_value.specs.declared.row.Row.{Row}
use Rattle.ct_value.specs.declared.ty.Ty.{Ty}
use Rattle.ct_value.specs.declared.ty.Ty.TheVariants.{Bool as Truths, Int, BigInt, Decimal, Text as Texts}
use Rattle.ct_value.specs.declared.ty.ColTy.{ColTy}
use Rattle.ct_value.specs.declared.value.Value.{Value}
use Rattle.ct_value.specs.declared.value.Value.TheVariants.{Null, Bool as Truth, Num, Text}
use Rattle.ct_change.specs.Changelog.{Rows}
use Rattle.ct_field.specs.Numbers.{in_range, has_38_digits, raised}
use Rattle.ct_field.specs.Typed.{value_fits, is_null, is_number, col_fits, cell}
use Rattle.rel_algebra.specs.declared.agg.Agg.{Agg}
use Rattle.rel_algebra.specs.declared.agg.AggCall.{AggCall}
use Rattle.rel_algebra.specs.declared.agg.AggCall.TheVariants.{CountAll, Count, CountDistinct, Sum, Min, Max, Avg}
use Rattle.rel_algebra.specs.Sums.{Each, distinct, restrict, mapped}
use Rattle.rel_algebra.specs.Clauses.{Fits, collect}
use Rattle.rel_algebra.specs.Aggregates.{Values, size, known, sum_of, in_type, unless_none, first_value, last_value, sum_type, avg_scale, avg_type, average, truncated, rounded, agg_value, argument, passes, values_of, type_in, ty_or_bigint, agg_result, column_if, count_column, call_type, filter_fits, arg_fits, agg_type, column_before, agg_types}
use Rattle.rel_algebra.proofs.laws.Averages.{within, within_pos, average_within, rounded_within}
use Rattle.rel_algebra.proofs.laws.Bags.{each-copies, copies-each, each-restrict, each-mapped, total-mapped, total-restrict, total-same}
use Rattle.rel_algebra.proofs.laws.Fits.{first, second, both, fits-cell}

-- ---- values of a call

-- a value of the argument's column; of no column, any
abbrev ArgFits : Option ColTy → Value → Type 0
ArgFits None value = Unit {0}
ArgFits (Some column) value = col_fits column value ≡ true

-- NULL may come, or some value is known
abbrev Gaps : Bool → Option ColTy → Values → Type 0
Gaps gaps None values = Unit {0}
Gaps gaps (Some column) values = (column.nullable || gaps) ≡ false → 0 < size (known values)

in_type_fits : (ty : Ty) (nullable : Bool) (n : ℤ) (value : Value) → in_type ty n ≡ Some value → (value_fits ty value && (nullable || not (is_null value))) ≡ true
in_type_fits ty nullable n value e = go (in_range ty n) refl e
  where
    may : (b : Bool) → (b || true) ≡ true
    may true = refl
    may false = refl

    go : (b : Bool) → in_range ty n ≡ b → cond b (Some (Num n)) None ≡ Some value → (value_fits ty value && (nullable || not (is_null value))) ≡ true
    go false i j = absurd (cc)
    go true i j = let k : Num n ≡ value = cc in subst (λ v. (value_fits ty v && (nullable || not (is_null v))) ≡ true) k (both (in_range ty n) (nullable || true) i (may nullable))

-- NULL of nothing known is where it may stand
null_fits : (nullable : Bool) (values : Values) (value : Value) → (nullable ≡ false → 0 < size values) → size values ≡ 0 → Null ≡ value → (ty : Ty) → (value_fits ty value && (nullable || not (is_null value))) ≡ true
null_fits true values value gaps none_known e ty = subst (λ v. (value_fits ty v && true) ≡ true) e refl
null_fits false values value gaps none_known e ty = absurd (let h = gaps refl in omega arith)

unless_none_fits : (ty : Ty) (nullable : Bool) (values : Values) (result : Option Value) (value : Value) → (nullable ≡ false → 0 < size values)
    → (0 < size values → result ≡ Some value → (value_fits ty value && (nullable || not (is_null value))) ≡ true)
    → unless_none values result ≡ Some value → (value_fits ty value && (nullable || not (is_null value))) ≡ true
unless_none_fits ty nullable values result value gaps some e = go (size values == 0) refl e
  where
    go : (b : Bool) → (size values == 0) ≡ b → cond b (Some Null) result ≡ Some value → (value_fits ty value && (nullable || not (is_null value))) ≡ true
    go true i j = null_fits nullable values value gaps (eqb-true (size values) 0 i) (let k : Null ≡ value = cc in k) ty
    go false i j = some (positive (size values) i) j
      where
        positive : (n : ℕ) → (n == 0) ≡ false → 0 < n
        positive zero e = absurd (cc)
        positive (suc n) e = omega arith

-- ---- what is known of the values

abbrev IsKnown : Ty → Value → Type 0
IsKnown ty value = (value_fits ty value ≡ true) × (is_null value ≡ false)

known_of : (column : ColTy) (value : Value) → col_fits column value ≡ true → not (is_null value) ≡ true → IsKnown column.ty value
known_of column value h k = (first (value_fits column.ty value) _ h, flip (is_null value) k)
  where
    flip : (b : Bool) → not b ≡ true → b ≡ false
    flip true e = absurd (cc)
    flip false e = refl

each_known : (column : ColTy) (values : Values) → Each (λ value. col_fits column value ≡ true) values → Each (IsKnown column.ty) (known values)
each_known column values h = go (items (known values)) (each-restrict value_total value_exact (λ value. col_fits column value ≡ true) (λ value. not (is_null value)) values h)
  where
    go : (xs : List Value) → AllByRecursion (λ value. (col_fits column value ≡ true) × (not (is_null value) ≡ true)) xs → AllByRecursion (IsKnown column.ty) xs
    go [] k = tt
    go (x ∷ xs) k = (known_of column x k.0.0 k.0.1, go xs k.1)

fits_known : (ty : Ty) (nullable : Bool) (value : Value) → IsKnown ty value → (value_fits ty value && (nullable || not (is_null value))) ≡ true
fits_known ty nullable value h = both (value_fits ty value) _ h.0 (ap (λ b. nullable || not b) h.1 ∙ may nullable)
  where
    may : (b : Bool) → (b || true) ≡ true
    may true = refl
    may false = refl

-- ---- the least and the greatest

first_fits : (ty : Ty) (nullable : Bool) (xs : List Value) (size : ℕ) → (xs ≡ [] → size ≡ 0) → (nullable ≡ false → 0 < size) → AllByRecursion (IsKnown ty) xs → (value_fits ty (first_value xs) && (nullable || not (is_null (first_value xs)))) ≡ true
first_fits ty true [] n e gaps h = refl
first_fits ty false [] n e gaps h = absurd (let i = e refl in let j = gaps refl in omega arith)
first_fits ty nullable (x ∷ xs) n e gaps h = fits_known ty nullable x h.0

last_fits : (ty : Ty) (nullable : Bool) (xs : List Value) (size : ℕ) → (xs ≡ [] → size ≡ 0) → (nullable ≡ false → 0 < size) → AllByRecursion (IsKnown ty) xs → (value_fits ty (last_value xs) && (nullable || not (is_null (last_value xs)))) ≡ true
last_fits ty true [] n e gaps h = refl
last_fits ty false [] n e gaps h = absurd (let i = e refl in let j = gaps refl in omega arith)
last_fits ty nullable (x ∷ []) n e gaps h = fits_known ty nullable x h.0
last_fits ty nullable (x ∷ y ∷ xs) n e gaps h = last_fits ty nullable (y ∷ xs) n (λ i. absurd (cc)) gaps h.1

no_size : (values : Values) → items (known values) ≡ [] → size (known values) ≡ 0
no_size values e = ap (λ xs. weigh (λ _. 1) xs) e

-- ---- averages

known_within : (values : Values) (ty : Ty) (bound : ℕ) → ((n : ℤ) → in_range ty n ≡ within bound n) → 0 < bound → Each (IsKnown ty) values → Each (λ value. within bound (number_of value) ≡ true) values
known_within values ty bound same positive h = go (items values) h
  where
    one : (value : Value) → IsKnown ty value → within bound (number_of value) ≡ true
    one Null k = absurd (let e = k.1 in cc)
    one (Num n) k = sym (same n) ∙ k.0
    one (Truth b) k = within_pos bound 0 positive
    one (Text t) k = within_pos bound 0 positive

    go : (xs : List Value) → AllByRecursion (IsKnown ty) xs → AllByRecursion (λ value. within bound (number_of value) ≡ true) xs
    go [] k = tt
    go (x ∷ xs) k = (one x k.0, go xs k.1)

whole_average : (ty : Ty) (nullable : Bool) (bound : ℕ) (values : Values) (value : Value) → ((n : ℤ) → in_range ty n ≡ within bound n) → 0 < bound → 0 < size values → Each (IsKnown ty) values
    → Num (truncated (sum_of values) (size values)) ≡ value → (value_fits ty value && (nullable || not (is_null value))) ≡ true
whole_average ty nullable bound values value same positive some h e =
    subst (λ v. (value_fits ty v && (nullable || not (is_null v))) ≡ true) e
    (fits_known ty nullable (Num (truncated (sum_of values) (size values))) (same (truncated (sum_of values) (size values)) ∙ average_within bound values positive some (known_within values ty bound same positive h), refl))

decimal_average : (p s : ℕ) (nullable : Bool) (sum : ℤ) (count : ℕ) (value : Value) → 0 < count → average (Decimal p s) sum count ≡ Some value → (value_fits (Decimal 38 (avg_scale s)) value && (nullable || not (is_null value))) ≡ true
decimal_average p s nullable sum count value some e = go (has_38_digits sum) (raised sum (avg_scale s - s)) refl e
  where
    rescaled : (m : ℤ) (b : Bool) → has_38_digits m ≡ b → option_map (λ n. Num (rounded n count)) (cond b (Some m) None) ≡ Some value → (value_fits (Decimal 38 (avg_scale s)) value && (nullable || not (is_null value))) ≡ true
    rescaled m false i j = absurd (cc)
    rescaled m true i j =
        let k : Num (rounded m count) ≡ value = cc in
        subst (λ v. (value_fits (Decimal 38 (avg_scale s)) v && (nullable || not (is_null v))) ≡ true) k
        (fits_known (Decimal 38 (avg_scale s)) nullable (Num (rounded m count)) (rounded_within (10 ^ 38) count m some i, refl))

    go : (b : Bool) (r : Option ℤ) → raised sum (avg_scale s - s) ≡ r → cond b (option_map (λ n. Num (rounded n count)) r) None ≡ Some value → (value_fits (Decimal 38 (avg_scale s)) value && (nullable || not (is_null value))) ≡ true
    go false r i j = absurd (cc)
    go true r i j = rescaled (sum *ℤ pos (10 ^ (avg_scale s - s))) (has_38_digits (sum *ℤ pos (10 ^ (avg_scale s - s)))) refl (ap (option_map (λ n. Num (rounded n count))) i ∙ j)

average_fits : (ty : Ty) (nullable : Bool) (values : Values) (value : Value) → is_number ty ≡ true → 0 < size values → Each (IsKnown ty) values
    → average ty (sum_of values) (size values) ≡ Some value → (value_fits (avg_type ty) value && (nullable || not (is_null value))) ≡ true
average_fits Truths nullable values value number some h e = absurd (cc)
average_fits Int nullable values value number some h e = whole_average Int nullable (2 ^ 31) values value (λ n. refl) (omega arith) some h (let k : Num (truncated (sum_of values) (size values)) ≡ value = cc in k)
average_fits BigInt nullable values value number some h e = whole_average BigInt nullable (2 ^ 63) values value (λ n. refl) (omega arith) some h (let k : Num (truncated (sum_of values) (size values)) ≡ value = cc in k)
average_fits (Decimal p s) nullable values value number some h e = decimal_average p s nullable (sum_of values) (size values) value some e
average_fits Texts nullable values value number some h e = absurd (cc)

-- ---- each call

column_if_parts : (test : Bool) (column other : ColTy) → column_if test column ≡ Some other → (test ≡ true) × (column ≡ other)
column_if_parts true column other e = (refl, cc)
column_if_parts false column other e = absurd (cc)

call_fits : (gaps : Bool) (call : AggCall) (arg : Option ColTy) (column : ColTy) (values : Values) (value : Value) → call_type gaps call arg ≡ Some column
    → Each (ArgFits arg) values → Gaps gaps arg values → agg_value call (ty_or_bigint arg) values ≡ Some value → col_fits column value ≡ true
call_fits gaps CountAll None column values value t h g e = let i : count_column ≡ column = cc in subst (λ c. col_fits c value ≡ true) i (in_type_fits BigInt false (pos (size values)) value e)
call_fits gaps CountAll (Some arg) column values value t h g e = absurd (cc)
call_fits gaps Count None column values value t h g e = absurd (cc)
call_fits gaps Count (Some arg) column values value t h g e = let i : count_column ≡ column = cc in subst (λ c. col_fits c value ≡ true) i (in_type_fits BigInt false (pos (size (known values))) value e)
call_fits gaps CountDistinct None column values value t h g e = absurd (cc)
call_fits gaps CountDistinct (Some arg) column values value t h g e = let i : count_column ≡ column = cc in subst (λ c. col_fits c value ≡ true) i (in_type_fits BigInt false (pos (size (distinct (known values)))) value e)
call_fits gaps Sum None column values value t h g e = absurd (cc)
call_fits gaps Sum (Some arg) column values value t h g e =
    let p = column_if_parts (is_number arg.ty) _ column t in
    subst (λ c. col_fits c value ≡ true) p.1
    (unless_none_fits (sum_type arg.ty) (arg.nullable || gaps) (known values) (in_type (sum_type arg.ty) (sum_of (known values))) value g (λ some i. in_type_fits (sum_type arg.ty) (arg.nullable || gaps) (sum_of (known values)) value i) e)
call_fits gaps Min None column values value t h g e = absurd (cc)
call_fits gaps Min (Some arg) column values value t h g e =
    let i : ◌≡◌ {A = ColTy} (record { ty = arg.ty; nullable = arg.nullable || gaps }) column = cc in
    let j : first_value (items (known values)) ≡ value = cc in
    subst (λ c. col_fits c value ≡ true) i (subst (λ v. (value_fits arg.ty v && ((arg.nullable || gaps) || not (is_null v))) ≡ true) j
    (first_fits arg.ty (arg.nullable || gaps) (items (known values)) (size (known values)) (no_size values) g (each_known arg values h)))
call_fits gaps Max None column values value t h g e = absurd (cc)
call_fits gaps Max (Some arg) column values value t h g e =
    let i : ◌≡◌ {A = ColTy} (record { ty = arg.ty; nullable = arg.nullable || gaps }) column = cc in
    let j : last_value (items (known values)) ≡ value = cc in
    subst (λ c. col_fits c value ≡ true) i (subst (λ v. (value_fits arg.ty v && ((arg.nullable || gaps) || not (is_null v))) ≡ true) j
    (last_fits arg.ty (arg.nullable || gaps) (items (known values)) (size (known values)) (no_size values) g (each_known arg values h)))
call_fits gaps Avg None column values value t h g e = absurd (cc)
call_fits gaps Avg (Some arg) column values value t h g e =
    let p = column_if_parts (is_number arg.ty) _ column t in
    subst (λ c. col_fits c value ≡ true) p.1
    (unless_none_fits (avg_type arg.ty) (arg.nullable || gaps) (known values) (average arg.ty (sum_of (known values)) (size (known values))) value g
    (λ some i. average_fits arg.ty (arg.nullable || gaps) (known values) value p.0 some (each_known arg values h) i) e)

-- ---- all calls over the rows of a group

abbrev pub collect_before : Option Value → Option Row → Option Row
collect_before None values = None
collect_before (Some value) values = option_map (λ others. value ∷ others) values

pub collected : (value : Option Value) (others : List (Option Value)) → collect_before value (collect others) ≡ collect (value ∷ others)
collected None others = refl
collected (Some value) others = refl

abbrev taken : Option ℕ → Option ℕ → Rows → Values
taken arg filter members = mapped (argument arg) (restrict (passes filter) members)

each_taken : (columns : List ColTy) (arg filter : Option ℕ) (members : Rows) → arg_fits columns arg ≡ true → Each (Fits columns) members → Each (ArgFits (type_in columns arg)) (taken arg filter members)
each_taken columns arg filter members a h =
    each-mapped value_total value_exact row_total row_exact (λ row. Fits columns row × (passes filter row ≡ true)) (ArgFits (type_in columns arg)) (argument arg) (λ row k. at arg a row k.0)
    (restrict (passes filter) members) (each-restrict row_total row_exact (Fits columns) (passes filter) members h)
  where
    of_column : (row : Row) (n : ℕ) (c : Option ColTy) → slice_get columns n ≡ c → is_some c ≡ true → Fits columns row → ArgFits c (cell n row)
    of_column row n None i j k = absurd (cc)
    of_column row n (Some column) i j k = fits-cell columns row n column k i

    at : (arg : Option ℕ) → arg_fits columns arg ≡ true → (row : Row) → Fits columns row → ArgFits (type_in columns arg) (argument arg row)
    at None j row k = tt
    at (Some n) j row k = of_column row n (slice_get columns n) refl j k

gaps_taken : (columns : List ColTy) (global : Bool) (arg filter : Option ℕ) (members : Rows) → Each (Fits columns) members → (global ≡ false → 0 < total (λ _. 1) members)
    → Gaps (global || is_some filter) (type_in columns arg) (taken arg filter members)
gaps_taken columns global None filter members h some = tt
gaps_taken columns global (Some n) filter members h some = of_column (slice_get columns n) refl
  where
    known_value : (column : ColTy) (row : Row) → column.nullable ≡ false → col_fits column (cell n row) ≡ true → ◌≡◌ {A = ℕ} (cond (not (is_null (cell n row))) 1 0) 1
    known_value column row e k = ap (λ b. cond {A = ℕ} b 1 0) (ap (λ b. b || not (is_null (cell n row))) (sym e) ∙ second (value_fits column.ty (cell n row)) _ k)

    parts : (a b c : Bool) → (a || (b || c)) ≡ false → (a ≡ false) × (b ≡ false) × (c ≡ false)
    parts true b c e = absurd (cc)
    parts false true c e = absurd (cc)
    parts false false c e = (refl, refl, e)

    unfiltered : (filter : Option ℕ) → is_some filter ≡ false → (row : Row) → passes filter row ≡ true
    unfiltered None e row = refl
    unfiltered (Some c) e row = absurd (cc)

    of_column : (c : Option ColTy) → slice_get columns n ≡ c → Gaps (global || is_some filter) c (taken (Some n) filter members)
    of_column None i = tt
    of_column (Some column) i = λ e.
        let p = parts column.nullable global (is_some filter) e in
        let q : size (known (mapped {R = row_cmp} (argument (Some n)) (restrict (passes filter) members))) ≡ total (λ _. 1) members =
        total-restrict value_total value_exact (λ _. 1) (λ value. not (is_null value)) (mapped (argument (Some n)) (restrict (passes filter) members))
        ∙ total-mapped value_total value_exact row_total row_exact (λ value. cond (not (is_null value)) 1 0) (argument (Some n)) (restrict (passes filter) members)
        ∙ total-restrict row_total row_exact (λ row. cond (not (is_null (cell n row))) 1 0) (passes filter) members
        ∙ total-same (λ row. cond (passes filter row) (cond (not (is_null (cell n row))) 1 0) 0) (λ _. 1) members
        (copies-each row_total row_exact _ members (λ row there.
        ap (λ b. cond {A = ℕ} b (cond (not (is_null (cell n row))) 1 0) 0) (unfiltered filter p.2 row)
        ∙ known_value column row p.0 (fits-cell columns row n column (each-copies row_total row_exact (Fits columns) members h row there) i))) in
        let r = some p.1 in omega arith

agg_fits : (columns : List ColTy) (global : Bool) (agg : Agg) (column : ColTy) (members : Rows) (value : Value) → agg_type columns global agg ≡ Some column → Each (Fits columns) members
    → (global ≡ false → 0 < total (λ _. 1) members) → agg_result columns members agg ≡ Some value → col_fits column value ≡ true
agg_fits columns global agg column members value t h some e = go (filter_fits columns agg.filter && arg_fits columns agg.arg) refl t
  where
    go : (b : Bool) → (filter_fits columns agg.filter && arg_fits columns agg.arg) ≡ b → cond b (call_type (global || is_some agg.filter) agg.call (type_in columns agg.arg)) None ≡ Some column → col_fits column value ≡ true
    go false i j = absurd (cc)
    go true i j = call_fits (global || is_some agg.filter) agg.call (type_in columns agg.arg) column (values_of agg members) value j
        (each_taken columns agg.arg agg.filter members (second (filter_fits columns agg.filter) _ i) h)
        (gaps_taken columns global agg.arg agg.filter members h some) e

pub agg_results_fit : (columns : List ColTy) (global : Bool) (aggs : List Agg) (results : List ColTy) (members : Rows) (values : Row) → agg_types columns global aggs ≡ Some results → Each (Fits columns) members
    → (global ≡ false → 0 < total (λ _. 1) members) → collect (map (agg_result columns members) aggs) ≡ Some values → Fits results values
agg_results_fit columns global [] results members values t h some e =
    let i : [] ≡ results = cc in let j : [] ≡ values = cc in subst (λ r. Fits r values) i (subst (λ v. Fits [] v) j refl)
agg_results_fit columns global (agg ∷ aggs) results members values t h some e =
    go (λ others rest i j. agg_results_fit columns global aggs others members rest i h some j) (agg_type columns global agg) refl (agg_types columns global aggs) refl (agg_result columns members agg) refl (collect (map (agg_result columns members) aggs)) refl t (collected (agg_result columns members agg) (map (agg_result columns members) aggs) ∙ e)
  where
    go : ((others : List ColTy) (rest : Row) → agg_types columns global aggs ≡ Some others → collect (map (agg_result columns members) aggs) ≡ Some rest → Fits others rest)
        → (c : Option ColTy) → agg_type columns global agg ≡ c → (cs : Option (List ColTy)) → agg_types columns global aggs ≡ cs → (v : Option Value) → agg_result columns members agg ≡ v → (vs : Option Row) → collect (map (agg_result columns members) aggs) ≡ vs
        → column_before c cs ≡ Some results → collect_before v vs ≡ Some values → Fits results values
    go ih None a cs b v c vs d i j = absurd (cc)
    go ih (Some column) a None b v c vs d i j = absurd (cc)
    go ih (Some column) a (Some others) b None c vs d i j = absurd (cc)
    go ih (Some column) a (Some others) b (Some value) c None d i j = absurd (cc)
    go ih (Some column) a (Some others) b (Some value) c (Some rest) d i j =
        let k : column ∷ others ≡ results = cc in
        let l : value ∷ rest ≡ values = cc in
        subst (λ r. Fits r values) k (subst (λ v. Fits (column ∷ others) v) l (both (col_fits column value) _ (agg_fits columns global agg column members value a h some c) (ih others rest b d)))
