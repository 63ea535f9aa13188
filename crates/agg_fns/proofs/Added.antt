-- What a bag of values is with a value more, and with one less.
use Rattle.std.proofs.Common.{◌≡◌, ℕ, ◌+◌, ◌<◌, ◌≤◌, ◌==◌, Bool, true, false, cond, not, refl, sym, ap, ◌∙◌, arith}
use Rattle.std.proofs.Math.IntN.{+ℤ_idl}
use Rattle.std.specs.Prelude.{ℤ, ◌+ℤ◌}
use Rattle.std.specs.Ordering.{eq_by_cmp}
use Rattle.std.specs.Cmp.{Equal-is}
use Rattle.std.proofs.lemmas.Bool.{eqb-true}
use Rattle.ct_value.specs.Bag.{none, add, remove, copies, one_at}
use Rattle.ct_value.proofs.laws.Bags.{total-none, total-add, total-le, copies-occurs, copies-add, remove-add, add-remove, same_bag}
use Rattle.ct_value.specs.Order.{value_cmp, value_total, value_exact, number_of}
use Rattle.ct_value.specs.declared.value.Value.{Value}
use Rattle.ct_value.specs.declared.value.Value.TheVariants.{Null, Bool as Truth, Num, Text}
use Rattle.ct_field.specs.Typed.{is_null}
use Rattle.rel_algebra.specs.Sums.{add_where, distinct}
use Rattle.rel_algebra.specs.Aggregates.{Values, size, known, sum_of}
use Rattle.rel_algebra.proofs.laws.Aggregates.{sum_of-add}
use Rattle.rel_algebra.proofs.laws.Bags.{by_items, restrict-none, restrict-add, copies-restrict, copies-distinct, distinct-none}
use Rattle.agg_fns.specs.Standing.{gained, lost}

pub size_add : (values : Values) (value : Value) → size (add values value) ≡ 1 + size values
size_add values value = total-add value_total (λ _. 1) values value

pub known-none : known none ≡ none
known-none = restrict-none value_total value_exact (λ value. not (is_null value))

pub known_add : (values : Values) (value : Value) → known (add values value) ≡ gained (known values) value
known_add values value = restrict-add value_total value_exact (λ value. not (is_null value)) values value ∙ turned (is_null value)
  where
    turned : (b : Bool) → add_where (not b) value (known values) ≡ cond b (known values) (add (known values) value)
    turned true = refl
    turned false = refl

pub copies_known : (values : Values) (value : Value) → is_null value ≡ false → copies (known values) value ≡ copies values value
copies_known values value e = copies-restrict value_total value_exact (λ value. not (is_null value)) values value ∙ ap (λ b. cond (not b) (copies values value) 0) e

pub known_remove : (values : Values) (value : Value) → 0 < copies values value → known (remove values value) ≡ lost (known values) value
known_remove values value some =
    let back : known values ≡ gained (known (remove values value)) value = ap known (sym (add-remove value_total value_exact values value some)) ∙ known_add (remove values value) value in
    elim (is_null value) as (λ b. known values ≡ cond b (known (remove values value)) (add (known (remove values value)) value) → known (remove values value) ≡ cond b (known values) (remove (known values) value)) [
      | true ↦ λ e. sym e
      | false ↦ λ e. sym (ap (λ b. remove b value) e ∙ remove-add value_total value_exact (known (remove values value)) value)
    ] back

pub known_size_add : (values : Values) (value : Value) → size (known (add values value)) ≡ cond (is_null value) 0 1 + size (known values)
known_size_add values value = ap size (known_add values value) ∙ elim (is_null value) as (λ b. size (cond b (known values) (add (known values) value)) ≡ cond b 0 1 + size (known values)) [ true ↦ omega arith | false ↦ size_add (known values) value ]

null_number : (value : Value) (sum : ℤ) → is_null value ≡ true → sum ≡ number_of value +ℤ sum
null_number Null sum e = sym (+ℤ_idl sum)
null_number (Truth b) sum e = absurd (cc)
null_number (Num n) sum e = absurd (cc)
null_number (Text t) sum e = absurd (cc)

pub known_sum_add : (values : Values) (value : Value) → sum_of (known (add values value)) ≡ number_of value +ℤ sum_of (known values)
known_sum_add values value = ap sum_of (known_add values value) ∙ elim (is_null value) as (λ b. is_null value ≡ b → sum_of (cond b (known values) (add (known values) value)) ≡ number_of value +ℤ sum_of (known values)) [ true ↦ λ e. null_number value (sum_of (known values)) e | false ↦ λ e. sum_of-add (known values) value ] refl

pub known_few : (values : Values) → size (known values) ≤ size values
known_few values = by_items value_total value_exact (λ values. size (known values) ≤ size values)
    (let a = ap size known-none in let b = total-none {R = value_cmp} value_total (λ _. 1) in omega arith)
    (λ values value h. let a = known_size_add values value in let b = size_add values value in let c : cond (is_null value) 0 1 ≤ 1 = most (is_null value) in omega arith)
    values
  where
    most : (b : Bool) → cond b 0 1 ≤ 1
    most true = omega arith
    most false = omega arith

pub copies_few : (values : Values) (value : Value) → copies values value ≤ size values
copies_few values value = let a = total-le (one_at value_cmp value) (λ other. most (eq_by_cmp value_cmp value other)) values in let b = copies-occurs values value in omega arith
  where
    most : (b : Bool) → cond b 1 0 ≤ 1
    most true = omega arith
    most false = omega arith

apart : (x y : Value) (n : ℕ) → cond (n == 0) 1 0 + cond (n == 0) 0 1 ≡ 1
apart x y n = elim (n == 0) as (λ b. cond b 1 0 + cond b 0 1 ≡ 1) [ true ↦ refl | false ↦ refl ]

some_test : (n : ℕ) → (1 + n == 0) ≡ false
some_test n = elim (1 + n == 0) as (λ b. (1 + n == 0) ≡ b → b ≡ false) [ true ↦ λ e. absurd (let z = eqb-true (1 + n) 0 e in omega arith) | false ↦ λ e. refl ] refl

none_more : (b : Bool) (n : ℕ) → n ≡ cond {A = ℕ} b 0 0 + n
none_more true n = omega arith
none_more false n = omega arith

copies-add_where : (t : Bool) (x y : Value) (b : Values) → copies (add_where t x b) y ≡ cond t (one_at value_cmp y x) 0 + copies b y
copies-add_where true x y b = copies-add value_total b x y
copies-add_where false x y b = omega arith

pub distinct-add : (values : Values) (value : Value) → distinct (add values value) ≡ add_where (copies values value == 0) value (distinct values)
distinct-add values value = same_bag value_total value_exact _ _ (λ x.
    copies-distinct value_total value_exact (add values value) x ∙ ap (λ n. cond (n == 0) 0 1) (copies-add value_total values value x)
    ∙ at x
    ∙ sym (copies-add_where (copies values value == 0) value x (distinct values) ∙ ap (λ n. cond (copies values value == 0) (one_at value_cmp x value) 0 + n) (copies-distinct value_total value_exact values x)))
  where
    at : (x : Value) → cond (one_at value_cmp x value + copies values x == 0) 0 1 ≡ cond (copies values value == 0) (one_at value_cmp x value) 0 + cond (copies values x == 0) 0 1
    at x =
        elim (eq_by_cmp value_cmp x value) as (λ b. eq_by_cmp value_cmp x value ≡ b → cond (cond b 1 0 + copies values x == 0) 0 1 ≡ cond (copies values value == 0) (cond b 1 0) 0 + cond (copies values x == 0) 0 1) [
          | true ↦ λ e.
              let same : x ≡ value = value_exact x value ((Equal-is (value_cmp x value)).0 e) in
              ap (λ b. cond b 0 1) (some_test (copies values x)) ∙ sym (apart x value (copies values value)) ∙ ap (λ v. cond (copies values value == 0) 1 0 + cond (copies values v == 0) 0 1) (sym same)
          | false ↦ λ e. ap (λ n. cond (n == 0) 0 1) (let g : 0 + copies values x ≡ copies values x = omega arith in g) ∙ none_more (copies values value == 0) (cond (copies values x == 0) 0 1)
        ] refl

size-distinct-add : (values : Values) (value : Value) → size (distinct (add values value)) ≡ cond (copies values value == 0) 1 0 + size (distinct values)
size-distinct-add values value = ap size (distinct-add values value) ∙ elim (copies values value == 0) as (λ b. size (add_where b value (distinct values)) ≡ cond b 1 0 + size (distinct values)) [ true ↦ size_add (distinct values) value | false ↦ omega arith ]

pub distinct_few : (values : Values) → size (distinct values) ≤ size values
distinct_few values = by_items value_total value_exact (λ values. size (distinct values) ≤ size values)
    (let a = ap size (distinct-none {R = value_cmp} value_total value_exact) in omega arith)
    (λ values value h. let a = size-distinct-add values value in let b = size_add values value in let c = most (copies values value == 0) in omega arith)
    values
  where
    most : (b : Bool) → cond b 1 0 ≤ 1
    most true = omega arith
    most false = omega arith

pub one_new : (values : Values) (value : Value) → copies values value ≡ 0 → size (distinct (add values value)) ≡ 1 + size (distinct values)
one_new values value e = size-distinct-add values value ∙ ap (λ n. cond (n == 0) 1 0 + size (distinct values)) e

pub one_again : (values : Values) (value : Value) → (copies values value == 0) ≡ false → size (distinct (add values value)) ≡ size (distinct values)
one_again values value e = size-distinct-add values value ∙ ap (λ b. cond b 1 0 + size (distinct values)) e ∙ (omega arith)

pub last_gone : (values : Values) (value : Value) → 0 < copies values value → copies (remove values value) value ≡ 0 → size (distinct values) ≡ 1 + size (distinct (remove values value))
last_gone values value some e = ap (λ b. size (distinct b)) (sym (add-remove value_total value_exact values value some)) ∙ one_new (remove values value) value e

pub one_stays : (values : Values) (value : Value) → 0 < copies values value → (copies (remove values value) value == 0) ≡ false → size (distinct values) ≡ size (distinct (remove values value))
one_stays values value some e = ap (λ b. size (distinct b)) (sym (add-remove value_total value_exact values value some)) ∙ one_again (remove values value) value e

pub some_distinct : (values : Values) (value : Value) → 0 < copies values value → copies (remove values value) value ≡ 0 → 1 ≤ size (distinct values)
some_distinct values value some e = let a = last_gone values value some e in omega arith
