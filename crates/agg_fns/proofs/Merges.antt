-- What the columns of partials amount to with a partial more.
use Rattle.std.proofs.Common.{◌≡◌, ℕ, Bool, true, false, not, List, [], ◌∷◌, ◌++◌, Option, Some, None, Ok, Err, refl, sym, ap, ◌∙◌}
use Rattle.std.specs.Prelude.{ℤ, pos, ◌+ℤ◌, ◌&&◌, is_none, is_some, slice_get, Result, OnOk}
use Rattle.std.specs.List.{AllByRecursion}
use Rattle.std.specs.Option.{unwrap_or}
use Rattle.std.specs.Cmp.{Equal-is}
use Rattle.std.proofs.lemmas.Option.{unwrap_or-slice_get}
use Rattle.ct_value.specs.Bag.{items, none, add}
use Rattle.ct_value.proofs.laws.Bags.{add-add}
use Rattle.ct_value.specs.Order.{value_cmp, value_total, value_exact, number_of}
use Rattle.ct_value.specs.declared.value.Value.{Value}
use Rattle.ct_value.specs.declared.value.Value.TheVariants.{Null, Num}
use Rattle.ct_field.specs.Typed.{cell, is_null}
use Rattle.rel_algebra.specs.Aggregates.{Values, known, sum_of, first_value, last_value}
use Rattle.rel_algebra.proofs.laws.Aggregates.{sum_of-none, sum_of-add}
use Rattle.agg_fns.specs.Partial.{column_of}
use Rattle.agg_fns.specs.Reading.{summed, is_blank}
use Rattle.agg_fns.specs.Standing.{first_item, last_item, gained}
use Rattle.agg_fns.proofs.Added.{known_add}
use Rattle.agg_fns.proofs.laws.Readings.{knowns, zero_blank}

-- ---- with a partial more

pub column_more : (n : ℕ) (rows : List (List Value)) (row : List Value) → column_of n (rows ++ row ∷ []) ≡ add (column_of n rows) (cell n row)
column_more n [] row = refl
column_more n (other ∷ rows) row = ap (λ b. add b (cell n other)) (column_more n rows row) ∙ add-add value_total value_exact (column_of n rows) (cell n row) (cell n other)

pub sum_more : (n : ℕ) (rows : List (List Value)) (row : List Value) → sum_of (column_of n (rows ++ row ∷ [])) ≡ number_of (cell n row) +ℤ sum_of (column_of n rows)
sum_more n rows row = ap sum_of (column_more n rows row) ∙ sum_of-add (column_of n rows) (cell n row)

-- ---- of no partials

pub no_sum : pos 0 ≡ sum_of none
no_sum = sym sum_of-none

-- ---- the first column

pub unwrapped : (row : List Value) (column : ℕ) → unwrap_or (slice_get row column) Null ≡ cell column row
unwrapped row column = unwrap_or-slice_get row column Null

pub known_with : (values : Values) (row : List Value) (o : Option Value) → o ≡ slice_get row 0 → known (add values (cell 0 row)) ≡ gained (known values) (unwrap_or o Null)
known_with values row o e = known_add values (cell 0 row) ∙ ap (gained (known values)) (sym (unwrapped row 0) ∙ ap (λ q. unwrap_or q Null) (sym e))

-- ---- what is worth nothing

pub is_zero : (n : ℤ) → is_blank summed (Num n) ≡ true → n ≡ pos 0
is_zero n e = ap number_of (value_exact (Num n) (Num (pos 0)) ((Equal-is (value_cmp (Num n) (Num (pos 0)))).0 e))

-- a test that holds exactly where a number is 0
pub zero_tested : (b : Bool) (n : ℤ) → (b ≡ true → n ≡ pos 0) → (n ≡ pos 0 → b ≡ true) → b ≡ (is_blank summed (Num n) && true)
zero_tested true n holds back = sym (ap (λ c. c && true) (zero_blank n (sym (holds refl))))
zero_tested false n holds back = go (is_blank summed (Num n)) refl
  where
    go : (c : Bool) → is_blank summed (Num n) ≡ c → false ≡ (is_blank summed (Num n) && true)
    go true e = absurd (let f : false ≡ true = back (is_zero n e) in cc)
    go false e = sym (ap (λ c. c && true) e)

-- and where two are
pub zeros_tested : (b : Bool) (n m : ℤ) → (b ≡ true → (n ≡ pos 0) × (m ≡ pos 0)) → (n ≡ pos 0 → m ≡ pos 0 → b ≡ true) → b ≡ (is_blank summed (Num n) && (is_blank summed (Num m) && true))
zeros_tested true n m holds back = let both = holds refl in sym ((λ i. zero_blank n (sym both.0) i && (zero_blank m (sym both.1) i && true)))
zeros_tested false n m holds back = go (is_blank summed (Num n)) (is_blank summed (Num m)) refl refl
  where
    go : (c d : Bool) → is_blank summed (Num n) ≡ c → is_blank summed (Num m) ≡ d → false ≡ (is_blank summed (Num n) && (is_blank summed (Num m) && true))
    go true true e f = absurd (let g : false ≡ true = back (is_zero n e) (is_zero m f) in cc)
    go true false e f = sym (λ i. e i && (f i && true))
    go false d e f = sym (ap (λ c. c && (is_blank summed (Num m) && true)) e)

none_first : (xs : List Value) → AllByRecursion (λ value. is_null value ≡ false) xs → is_none (first_item xs) ≡ (is_null (first_value xs) && true)
none_first [] h = refl
none_first (x ∷ xs) h = sym (ap (λ b. b && true) h.0)

none_last : (xs : List Value) → AllByRecursion (λ value. is_null value ≡ false) xs → is_none (last_item xs) ≡ (is_null (last_value xs) && true)
none_last [] h = refl
none_last (x ∷ []) h = sym (ap (λ b. b && true) h.0)
none_last (x ∷ y ∷ ys) h = none_last (y ∷ ys) h.1

told_none : (o : Option Value) (b : Bool) → is_some o ≡ not b → b ≡ is_none o
told_none None true e = refl
told_none None false e = absurd (cc)
told_none (Some x) true e = absurd (cc)
told_none (Some x) false e = refl

pub least_blank : (values : Values) (kept : Option Value) (b : Bool) → kept ≡ first_item (items (known values)) → is_some kept ≡ not b → b ≡ (is_null (first_value (items (known values))) && true)
least_blank values kept b e f = told_none kept b f ∙ ap is_none e ∙ none_first (items (known values)) (knowns values)

pub greatest_blank : (values : Values) (kept : Option Value) (b : Bool) → kept ≡ last_item (items (known values)) → is_some kept ≡ not b → b ≡ (is_null (last_value (items (known values))) && true)
greatest_blank values kept b e f = told_none kept b f ∙ ap is_none e ∙ none_last (items (known values)) (knowns values)

-- ---- what follows of a result

pub on_ok : {T E : Type 0} (r : Result T E) {P Q : Type 0} → (P → Q) → OnOk r P → OnOk r Q
on_ok (Ok x) h p = h p
on_ok (Err x) h p = tt
