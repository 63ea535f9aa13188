-- How many digits a number has, and numbers of more than 38 digits.
use Rattle.std.proofs.Common.{◌≡◌, ℕ, suc, zero, ◌+◌, ◌*◌, ◌-◌, ◌/◌, ◌%◌, ◌^◌, ◌<◌, ◌≤◌, ◌==◌, Bool, true, false, cond, List, [], ◌∷◌, Some, None, ◌++◌, length, drop, get_or, refl, ap, sym, subst, ◌∙◌, arith, lit<}
use Rattle.std.specs.Prelude.{if◌then◌else◌, nat_le, max, pos}
use Rattle.std.specs.Char.{digit_value}
use Rattle.std.specs.Fmt.{decimal, digits, digits_onto, digit_glyph}
use Rattle.std.specs.Str.Parse.{digits_value_after}
use Rattle.std.proofs.lemmas.Bool.Decides.{nat_tests}
use Rattle.std.proofs.lemmas.Fmt.{length-decimal-le_wide}
use Rattle.std.proofs.lemmas.List.{at_drop_more}
use Rattle.std.proofs.Math.Nat.{le-div_iff_mul-le, pow-suc, one-le-pow, pow-le-pow_right}
use Rattle.ct_value.specs.declared.ty.Ty.{Ty}
use Rattle.ct_value.specs.declared.ty.Ty.TheVariants.{Decimal}
use Rattle.ct_field.specs.Numbers.{bounded_number}
use Rattle.query_answer.specs.Literals.{digits_of, number_if, pointed_number, pointed_type}

-- ---- a number has at least as many digits as powers of ten lie below it

least-if : (b : Bool) (xs ys : List ℕ) (m : ℕ) → (b ≡ true → m ≤ length xs) → (b ≡ false → m ≤ length ys) → m ≤ length (if b then xs else ys)
least-if true xs ys m h k = h refl
least-if false xs ys m h k = k refl

grows : (k n : ℕ) (acc : List ℕ) → length acc ≤ length (digits_onto k 10 false n acc)
grows zero n acc = omega arith
grows (suc k) n acc =
    let g = digit_glyph false (n % 10) in
    least-if (n / 10 == 0) (g ∷ acc) (digits_onto k 10 false (n / 10) (g ∷ acc)) (length acc) (λ e. omega arith) (λ e. omega (arith, grows k (n / 10) (g ∷ acc)))

tenth : (j n : ℕ) → 10 ^ suc j ≤ n → 10 ^ j ≤ n / 10
tenth j n h = (le-div_iff_mul-le (lit< tt)).1 (omega (arith, pow-suc 10 j))

not-small : (j n : ℕ) → 10 ^ j ≤ n / 10 → (n / 10 == 0) ≡ true → ⊥
not-small j n h e = let p : 1 ≤ 10 ^ j = one-le-pow j 10 (lit< tt) in let q : n / 10 ≡ 0 = grind (arith, nat_tests) in omega arith

onto-least : (k j n : ℕ) (acc : List ℕ) → j < k → 10 ^ j ≤ n → suc j + length acc ≤ length (digits_onto k 10 false n acc)
onto-least zero j n acc l h = absurd (omega arith)
onto-least (suc k) zero n acc l h =
    let g = digit_glyph false (n % 10) in
    least-if (n / 10 == 0) (g ∷ acc) (digits_onto k 10 false (n / 10) (g ∷ acc)) (suc zero + length acc) (λ e. omega arith) (λ e. omega (arith, grows k (n / 10) (g ∷ acc)))
onto-least (suc k) (suc j) n acc l h =
    let g = digit_glyph false (n % 10) in
    least-if (n / 10 == 0) (g ∷ acc) (digits_onto k 10 false (n / 10) (g ∷ acc)) (suc (suc j) + length acc) (λ e. absurd (not-small j n (tenth j n h) e)) (λ e. omega (arith, onto-least k j (n / 10) (g ∷ acc) (omega arith) (tenth j n h)))

least : (j n : ℕ) → j < 64 → 10 ^ j ≤ n → suc j ≤ length (decimal n)
unfolding digits
least j n l h = omega (arith, onto-least 64 j n [] l h)

least-one : (n : ℕ) → 1 ≤ length (decimal n)
unfolding digits
least-one n = let g = digit_glyph false (n % 10) in
    least-if (n / 10 == 0) (g ∷ []) (digits_onto 63 10 false (n / 10) (g ∷ [])) 1 (λ e. omega arith) (λ e. omega (arith, grows 63 (n / 10) (g ∷ [])))

-- ---- counted by powers of ten

at-least : (k n : ℕ) → 1 ≤ k → k ≤ 38 → (2 ≤ k → 10 ^ (k - 1) ≤ n) → k ≤ length (decimal n)
at-least zero n l m h = omega arith
at-least (suc zero) n l m h = least-one n
at-least (suc (suc k)) n l m h = least (suc k) n (omega arith) (subst (λ (j : ℕ). 10 ^ j ≤ n) (let e : suc (suc k) - 1 ≡ suc k = omega arith in e) (h (omega arith)))

below-wide : (k n : ℕ) → k ≤ 38 → n < 10 ^ k → n < 10 ^ 64
below-wide k n m h = let l : k ≤ 64 = omega arith in let p : 10 ^ k ≤ 10 ^ 64 = pow-le-pow_right (lit< tt) l in omega arith

pub counted : (k n : ℕ) → 1 ≤ k → k ≤ 38 → (2 ≤ k → 10 ^ (k - 1) ≤ n) → n < 10 ^ k → k ≡ digits_of n
counted k n l m h below = omega (arith, at-least k n l m h, length-decimal-le_wide k n (omega arith) below (below-wide k n m below))

pub few : (n : ℕ) → n < 10 ^ 38 → nat_le (digits_of n) 38 ≡ true
few n h = let p : digits_of n ≤ 38 = length-decimal-le_wide 38 n (lit< tt) h (below-wide 38 n (omega arith) h) in grind (arith, nat_tests)

pub many : (n : ℕ) → 10 ^ 38 ≤ n → nat_le (digits_of n) 38 ≡ false
many n h = let p : 39 ≤ digits_of n = least 38 n (omega arith) h in grind (arith, nat_tests)

-- ---- more digits make no smaller number

pub after-le : (n : ℕ) (ds : List ℕ) → n ≤ digits_value_after 10 n ds
after-le n [] = omega arith
after-le n (d ∷ ds) = omega (arith, after-le (n * 10 + digit_value d) ds)

pub too_large : (n : ℕ) (ds : List ℕ) → 10 ^ 38 ≤ n → bounded_number (digits_value_after 10 n ds) ≡ None
too_large n ds h = let p = after-le n ds in let q : 10 ^ 38 ≤ digits_value_after 10 n ds = omega arith in grind (arith, nat_tests)

-- the digit that makes it too large
pub stopped : (n m i whole : ℕ) (ds : List ℕ) → i < length ds → m ≡ n * 10 + digit_value (get_or ds i 0) → digits_value_after 10 n (drop i ds) ≡ whole → 10 ^ 38 ≤ m → None ≡ bounded_number whole
stopped n m i whole ds l e same h =
    let turn : digits_value_after 10 n (drop i ds) ≡ digits_value_after 10 m (drop (i + 1) ds) =
    at_drop_more (digits_value_after 10 n) ds i 0 l ∙ ap (λ k. digits_value_after 10 k (drop (i + 1) ds)) (sym e) in
    sym (ap bounded_number (sym same ∙ turn) ∙ too_large m (drop (i + 1) ds) h)

-- ---- numbers with a point

behind : (n : ℕ) (ds es : List ℕ) → digits_value_after 10 n (ds ++ es) ≡ digits_value_after 10 (digits_value_after 10 n ds) es
behind n [] es = refl
behind n (d ∷ ds) es = behind (n * 10 + digit_value d) ds es

bounded-none : (n : ℕ) → None ≡ bounded_number n → 10 ^ 38 ≤ n
bounded-none n h = grind (arith, nat_tests)

bounded-some : (n m : ℕ) → Some m ≡ bounded_number n → (m ≡ n) × (n < 10 ^ 38)
bounded-some n m h = (grind (arith, nat_tests), grind (arith, nat_tests))

too-many : (n decimals : ℕ) (ty : Ty) → 10 ^ 38 ≤ n → None ≡ number_if n (max (digits_of n) decimals) ty
too-many n decimals ty h = let p : 39 ≤ digits_of n = least 38 n (omega arith) h in let q : nat_le (max (digits_of n) decimals) 38 ≡ false = grind (arith, nat_tests) in sym (ap (λ b. cond b (Some (pos n, ty)) None) q)

pub long_whole : (whole fraction : List ℕ) → None ≡ bounded_number (digits_value_after 10 0 whole) → None ≡ pointed_number whole fraction
long_whole whole fraction h =
    let n = digits_value_after 10 0 (whole ++ fraction) in
    let p = bounded-none _ h in
    let q = after-le (digits_value_after 10 0 whole) fraction in
    too-many n (length fraction) (pointed_type n (length fraction)) (omega (arith, behind 0 whole fraction))

pub long_fraction : (whole fraction : List ℕ) (m : ℕ) → Some m ≡ bounded_number (digits_value_after 10 0 whole) → None ≡ bounded_number (digits_value_after 10 m fraction) → None ≡ pointed_number whole fraction
long_fraction whole fraction m e h =
    let n = digits_value_after 10 0 (whole ++ fraction) in
    let p = bounded-none _ h in
    let k = (bounded-some _ m e).0 in
    let q : digits_value_after 10 m fraction ≡ n = ap (λ j. digits_value_after 10 j fraction) k ∙ sym (behind 0 whole fraction) in
    too-many n (length fraction) (pointed_type n (length fraction)) (omega arith)

pub with_point : (whole fraction : List ℕ) (m n : ℕ) → length fraction ≤ 38 → Some m ≡ bounded_number (digits_value_after 10 0 whole) → Some n ≡ bounded_number (digits_value_after 10 m fraction)
    → Some (pos n, Decimal (max (digits_of n) (length fraction)) (length fraction)) ≡ pointed_number whole fraction
with_point whole fraction m n l e f =
    let k = (bounded-some _ m e).0 in
    let j = bounded-some _ n f in
    let q : n ≡ digits_value_after 10 0 (whole ++ fraction) = j.0 ∙ ap (λ j. digits_value_after 10 j fraction) k ∙ sym (behind 0 whole fraction) in
    let p : digits_of n ≤ 38 = length-decimal-le_wide 38 n (lit< tt) (omega (arith, j.1, j.0)) (below-wide 38 n (omega arith) (omega (arith, j.1, j.0))) in
    let b : nat_le (max (digits_of n) (length fraction)) 38 ≡ true = grind (arith, nat_tests) in
    sym (ap (λ x. number_if x (max (digits_of x) (length fraction)) (pointed_type x (length fraction))) (sym q) ∙ ap (λ c. cond c (Some (pos n, pointed_type n (length fraction))) None) b)
