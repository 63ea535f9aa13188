-- An average of whole numbers of a type is a number of that type.
use Rattle.std.proofs.Common.{◌≡◌, ℕ, zero, suc, ◌+◌, ◌*◌, ◌/◌, ◌<◌, ◌≤◌, Bool, true, false, ◌&&◌, refl, sym, ap, ◌∙◌, arith}
use Rattle.std.proofs.Math.Nat.{div-lt_iff_lt-mul, mul-suc, suc-mul, mul-zero, mul-le-mul_left, mul-one, mul_left_comm}
use Rattle.std.proofs.lemmas.Int.{ints}
use Rattle.std.proofs.lemmas.Bool.{ltb-true, lt-ltb}
use Rattle.std.specs.Int.{is_negative}
use Rattle.std.specs.Prelude.{ℤ, pos, negsuc, neg_ℤ, ◌+ℤ◌, int_le, int_lt, unsigned_abs, nat_lt, ◌≤ℤ◌}
use Rattle.ct_value.specs.Bag.{total}
use Rattle.ct_value.proofs.laws.Bags.{total-none, total-add}
use Rattle.ct_value.specs.Order.{value_total, value_exact, number_of}
use Rattle.ct_field.specs.Numbers.{signed, nearest_magnitude}
use Rattle.rel_algebra.specs.Sums.{Each}
use Rattle.rel_algebra.specs.Aggregates.{Values, size, sum_of, truncated, rounded}
use Rattle.rel_algebra.proofs.laws.Aggregates.{sum_of-none, sum_of-add}
use Rattle.rel_algebra.proofs.laws.Bags.{by_each, by_items}
use Rattle.rel_algebra.proofs.laws.Fits.{first, second, both}

-- a number at least -bound and below bound
abbrev pub within : ℕ → ℤ → Bool
within bound n = int_le (neg_ℤ (pos bound)) n && int_lt n (pos bound)

-- where a sum of `count` numbers may lie, `most` being the sum of their bounds
record Reaches (most count : ℕ) (sum : ℤ) : Type 0 where
  low : neg_ℤ (pos most) ≤ℤ sum
  high : (sum +ℤ pos count) ≤ℤ pos most

one_low : (bound : ℕ) (n : ℤ) → within bound n ≡ true → neg_ℤ (pos bound) ≤ℤ n
one_low bound n e = le_of (neg_ℤ (pos bound)) n (first (int_le (neg_ℤ (pos bound)) n) _ e)
  where
    le_of : (a b : ℤ) → int_le a b ≡ true → a ≤ℤ b
    le_of a b e = grind (arith, ints)

one_high : (bound : ℕ) (n : ℤ) → within bound n ≡ true → (n +ℤ pos 1) ≤ℤ pos bound
one_high bound n e = lt_of n (pos bound) (second (int_le (neg_ℤ (pos bound)) n) _ e)
  where
    lt_of : (a b : ℤ) → int_lt a b ≡ true → (a +ℤ pos 1) ≤ℤ b
    lt_of a b e = grind (arith, ints)

step_low : (a s : ℤ) (b m : ℕ) → neg_ℤ (pos b) ≤ℤ a → neg_ℤ (pos m) ≤ℤ s → neg_ℤ (pos (b + m)) ≤ℤ (a +ℤ s)
step_low a s b m h k = omega (arith, ints)

step_high : (a s : ℤ) (b m c : ℕ) → (a +ℤ pos 1) ≤ℤ pos b → (s +ℤ pos c) ≤ℤ pos m → ((a +ℤ s) +ℤ pos (1 + c)) ≤ℤ pos (b + m)
step_high a s b m c h k = omega (arith, ints)

sum_reaches : (bound : ℕ) (values : Values) → Each (λ value. within bound (number_of value) ≡ true) values → Reaches (total (λ _. bound) values) (size values) (sum_of values)
sum_reaches bound values h = by_each value_total value_exact (λ value. within bound (number_of value) ≡ true) (λ values. Reaches (total (λ _. bound) values) (size values) (sum_of values))
    (rw (sum_of-none, total-none value_total (λ _. bound), total-none value_total (λ _. 1)) (record { low = omega (arith, ints); high = omega (arith, ints) }))
    (λ values value e k. rw (sum_of-add values value, total-add value_total (λ _. bound) values value, total-add value_total (λ _. 1) values value) (record {
      low = step_low (number_of value) (sum_of values) bound (total (λ _. bound) values) (one_low bound (number_of value) e) k.low;
      high = step_high (number_of value) (sum_of values) bound (total (λ _. bound) values) (size values) (one_high bound (number_of value) e) k.high;
    }))
    values h

total-const : (bound : ℕ) (values : Values) → total (λ _. bound) values ≡ bound * size values
total-const bound values = by_items value_total value_exact (λ values. total (λ _. bound) values ≡ bound * size values)
    (total-none value_total (λ _. bound) ∙ sym (ap (λ n. bound * n) (total-none value_total (λ _. 1)) ∙ mul-zero bound))
    (λ values value h. total-add value_total (λ _. bound) values value ∙ ap (λ n. bound + n) h ∙ sym (ap (λ n. bound * n) (total-add value_total (λ _. 1) values value) ∙ turned (size values)))
    values
  where
    turned : (n : ℕ) → bound * (1 + n) ≡ bound + bound * n
    turned n = ap (λ k. bound * k) (let e : 1 + n ≡ suc n = omega arith in e) ∙ mul-suc bound n ∙ let f : bound * n + bound ≡ bound + bound * n = omega arith in f

le_test : (a b : ℤ) → a ≤ℤ b → int_le a b ≡ true
le_test a b h = grind (arith, ints)

lt_test : (a b : ℤ) → (a +ℤ pos 1) ≤ℤ b → int_lt a b ≡ true
lt_test a b h = grind (arith, ints)

pub within_pos : (bound q : ℕ) → q < bound → within bound (pos q) ≡ true
within_pos bound q h = both (int_le (neg_ℤ (pos bound)) (pos q)) _ (le_test (neg_ℤ (pos bound)) (pos q) (omega (arith, ints))) (lt_test (pos q) (pos bound) (omega (arith, ints)))

within_neg : (bound q : ℕ) → 0 < bound → q ≤ bound → within bound (neg_ℤ (pos q)) ≡ true
within_neg bound q some h = both (int_le (neg_ℤ (pos bound)) (neg_ℤ (pos q))) _ (le_test (neg_ℤ (pos bound)) (neg_ℤ (pos q)) (omega (arith, ints))) (lt_test (neg_ℤ (pos q)) (pos bound) (omega (arith, ints)))

-- a number within a bound is within a larger one
pub within_widens : (bound other : ℕ) (n : ℤ) → bound ≤ other → within bound n ≡ true → within other n ≡ true
within_widens bound other n l e =
    let h = one_low bound n e in
    let k = one_high bound n e in
    both (int_le (neg_ℤ (pos other)) n) _ (le_test (neg_ℤ (pos other)) n (omega (arith, ints))) (lt_test n (pos other) (omega (arith, ints)))

not_negative : (n : ℕ) → is_negative (pos n) ≡ false
not_negative n = elim (nat_lt n 0) as (λ b. nat_lt n 0 ≡ b → b ≡ false) [ true ↦ λ e. absurd (let h = ltb-true n 0 e in omega arith) | false ↦ λ e. refl ] refl

-- an average of whole numbers lies where they do
pub average_within : (bound : ℕ) (values : Values) → 0 < bound → 0 < size values → Each (λ value. within bound (number_of value) ≡ true) values → within bound (truncated (sum_of values) (size values)) ≡ true
average_within bound values positive some h = go (sum_of values) (sum_reaches bound values h) (total-const bound values)
  where
    go : (sum : ℤ) → Reaches (total (λ _. bound) values) (size values) sum → total (λ _. bound) values ≡ bound * size values → within bound (truncated sum (size values)) ≡ true
    go (pos s) r e =
        let l : s < bound * size values = let g = r.high in omega (arith, ints) in
        ap (λ b. within bound (signed b (s / size values))) (not_negative s) ∙ within_pos bound (s / size values) ((div-lt_iff_lt-mul some).1 l)
    go (negsuc s) r e =
        let l : suc s ≤ bound * size values = let g = r.low in omega (arith, ints) in
        let m : suc s < suc bound * size values = rw suc-mul (omega arith) in
        let q : suc s / size values < suc bound = (div-lt_iff_lt-mul some).1 m in
        within_neg bound (suc s / size values) positive (omega arith)

abs-signed : (negative : Bool) (q : ℕ) → unsigned_abs (signed negative q) ≡ q
abs-signed false q = refl
abs-signed true zero = refl
abs-signed true (suc q) = refl

-- what is rounded to a whole part of it is no larger
nearest_le : (m d : ℕ) → 0 < d → nearest_magnitude m d ≤ m
nearest_le m d some =
    let g : m * 1 ≤ m * d = mul-le-mul_left m some in
    let f : m * 1 ≡ m = mul-one m in
    let e : suc m * (2 * d) ≡ m * (2 * d) + 2 * d = suc-mul m (2 * d) in
    let i : m * (2 * d) ≡ 2 * (m * d) = mul_left_comm m 2 d in
    let l : 2 * m + d < suc m * (2 * d) = omega arith in
    let q : (2 * m + d) / (2 * d) < suc m = (div-lt_iff_lt-mul (let h : 0 < 2 * d = omega arith in h)).1 l in
    omega arith

pub rounded_within : (limit count : ℕ) (n : ℤ) → 0 < count → nat_lt (unsigned_abs n) limit ≡ true → nat_lt (unsigned_abs (rounded n count)) limit ≡ true
rounded_within limit count n some h =
    ap (λ m. nat_lt m limit) (abs-signed (is_negative n) (nearest_magnitude (unsigned_abs n) count))
    ∙ lt-ltb _ _ (let k = ltb-true (unsigned_abs n) limit h in let l = nearest_le (unsigned_abs n) count some in omega arith)
