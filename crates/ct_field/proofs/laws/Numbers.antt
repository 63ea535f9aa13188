-- A number is read exactly from the bytes that spell it.
use Rattle.std.proofs.Common.{◌≡◌, ℕ, suc, ◌+◌, ◌*◌, ◌-◌, ◌^◌, ◌≤◌, ◌==◌, ℤ, Bool, true, false, cond, not, ◌&&◌, List, [], ◌∷◌, ◌++◌, length, take, drop, get_or, Option, Some, None, refl, sym, ap, ◌∙◌, subst, arith, inl, inr}
use Rattle.std.specs.Prelude.{nat_lt, nat_le, codes, position, option_map, option_and_then, ◌⊎◌}
use Rattle.std.specs.List.{list_all, position_or_len}
use Rattle.std.specs.Char.{is_ascii_digit}
use Rattle.std.specs.Str.Parse.{digits_value, starts_with_minus, without_leading_sign}
use Rattle.std.proofs.lemmas.List.{take-append-drop, at_drop_more}
use Rattle.std.proofs.lemmas.List.Quantifiers.{position-Some}
use Rattle.std.proofs.Math.Seq.{take-append_seam}
use Rattle.std.proofs.lemmas.Bool.{ltb-true, lt-ltb, leb-true, eqb-true}
use Rattle.std.proofs.lemmas.Bool.Decides.{nat_tests}
use Rattle.ct_value.specs.declared.ty.Ty.{Ty}
use Rattle.ct_field.specs.Numbers.{in_range, signed}
use Rattle.ct_field.specs.Fields.{scale_of, digits_spelled, scaled, sum_of, pointed, is_point, at_point, unsigned_spelled, number_spelled, number_of_type}
use Rattle.ct_field.specs.Spells.{IsDigits, IsSign, WholeSpells, PointSpells, NumberSpells}

-- ---- parts

pub both_true : (a b : Bool) → a ≡ true → b ≡ true → (a && b) ≡ true
both_true true b p q = q
both_true false b p q = p

pub first_true : (a b : Bool) → (a && b) ≡ true → a ≡ true
first_true true b e = refl
first_true false b e = e

pub second_true : (a b : Bool) → (a && b) ≡ true → b ≡ true
second_true true b e = e
second_true false b e = absurd (cc)

pub if_some : {A : Type 0} (test : Bool) (a b : A) → cond test (Some a) None ≡ Some b → (test ≡ true) × (a ≡ b)
if_some true a b e = (refl, cc)
if_some false a b e = absurd (cc)

pub map_parts : {A B : Type 0} (f : A → B) (o : Option A) (b : B) → option_map f o ≡ Some b → (a : A) × (o ≡ Some a) × (f a ≡ b)
map_parts f None b e = absurd (cc)
map_parts f (Some a) b e = (a, refl, cc)

pub then_parts : {A B : Type 0} (f : A → Option B) (o : Option A) (b : B) → option_and_then f o ≡ Some b → (a : A) × (o ≡ Some a) × (f a ≡ Some b)
then_parts f None b e = absurd (cc)
then_parts f (Some a) b e = (a, refl, e)

sum_parts : (o p : Option ℕ) (n : ℕ) → sum_of o p ≡ Some n → (a : ℕ) × (b : ℕ) × (o ≡ Some a) × (p ≡ Some b) × (a + b ≡ n)
sum_parts None p n e = absurd (cc)
sum_parts (Some a) None n e = absurd (cc)
sum_parts (Some a) (Some b) n e = (a, b, refl, refl, cc)

-- ---- digits

pub digits_read : (ds : List ℕ) (n : ℕ) → digits_spelled ds ≡ Some n → IsDigits ds × (n ≡ digits_value 10 ds)
digits_read ds n e =
    let p = if_some (nat_lt 0 (length ds) && list_all is_ascii_digit ds) (digits_value 10 ds) n e in
    ((ltb-true 0 (length ds) (first_true (nat_lt 0 (length ds)) (list_all is_ascii_digit ds) p.0), second_true (nat_lt 0 (length ds)) (list_all is_ascii_digit ds) p.0), sym p.1)

digits_are_read : (ds : List ℕ) → IsDigits ds → digits_spelled ds ≡ Some (digits_value 10 ds)
digits_are_read ds h = ap (λ b. cond b (Some (digits_value 10 ds)) None) (both_true (nat_lt 0 (length ds)) (list_all is_ascii_digit ds) (lt-ltb 0 (length ds) h.0) h.1)

scaled_read : (zeros : ℕ) (ds : List ℕ) (n : ℕ) → scaled zeros ds ≡ Some n → IsDigits ds × (n ≡ digits_value 10 ds * 10 ^ zeros)
scaled_read zeros ds n e =
    let p = map_parts (λ n. n * 10 ^ zeros) (digits_spelled ds) n e in
    let q = digits_read ds p.0 p.1 in
    (q.0, sym p.2 ∙ ap (λ m. m * 10 ^ zeros) q.1)

scaled_are_read : (zeros : ℕ) (ds : List ℕ) → IsDigits ds → scaled zeros ds ≡ Some (digits_value 10 ds * 10 ^ zeros)
scaled_are_read zeros ds h = ap (option_map (λ n. n * 10 ^ zeros)) (digits_are_read ds h)

-- ---- the point

at_the_point : (bs : List ℕ) (at : ℕ) → position is_point bs ≡ Some at → bs ≡ take at bs ++ 46 ∷ drop (at + 1) bs
at_the_point bs at e =
    let p = position-Some is_point bs at 0 e in
    let point : get_or bs at 0 ≡ 46 = eqb-true (get_or bs at 0) 46 p.1 in
    sym (take-append-drop at bs) ∙ at_drop_more (λ r. take at bs ++ r) bs at 0 p.0 ∙ ap (λ c. take at bs ++ c ∷ drop (at + 1) bs) point

digit_no_point : (c : ℕ) → is_ascii_digit c ≡ true → is_point c ≡ false
digit_no_point c h = grind (arith, nat_tests)

digit_no_minus : (c : ℕ) → is_ascii_digit c ≡ true → (c == 45) ≡ false
digit_no_minus c h = grind (arith, nat_tests)

digit_no_plus : (c : ℕ) → is_ascii_digit c ≡ true → (c == 43) ≡ false
digit_no_plus c h = grind (arith, nat_tests)

before_point : (ds rest : List ℕ) → list_all is_ascii_digit ds ≡ true → position_or_len is_point (ds ++ rest) ≡ length ds + position_or_len is_point rest
before_point [] rest h = omega arith
before_point (d ∷ ds) rest h =
    let i = digit_no_point d (first_true (is_ascii_digit d) (list_all is_ascii_digit ds) h) in
    let k = before_point ds rest (second_true (is_ascii_digit d) (list_all is_ascii_digit ds) h) in
    ap (λ b. cond (not b) (1 + position_or_len is_point (ds ++ rest)) 0) i ∙ omega (arith, k)

no_point : (ds : List ℕ) → list_all is_ascii_digit ds ≡ true → position_or_len is_point ds ≡ length ds
no_point [] h = refl
no_point (d ∷ ds) h =
    let i = digit_no_point d (first_true (is_ascii_digit d) (list_all is_ascii_digit ds) h) in
    let k = no_point ds (second_true (is_ascii_digit d) (list_all is_ascii_digit ds) h) in
    ap (λ b. cond (not b) (1 + position_or_len is_point ds) 0) i ∙ omega (arith, k)

not_less : (n : ℕ) → nat_lt n n ≡ false
not_less n = grind (arith, nat_tests)

less_more : (n m : ℕ) → nat_lt n (n + suc m) ≡ true
less_more n m = lt-ltb n (n + suc m) (omega arith)

pub digits_without_point : (ds : List ℕ) → list_all is_ascii_digit ds ≡ true → position is_point ds ≡ None
digits_without_point ds h = ap (λ k. cond (nat_lt k (length ds)) (Some k) None) (no_point ds h) ∙ ap (λ b. cond b (Some (length ds)) None) (not_less (length ds))

length_point : (whole fraction : List ℕ) → length (whole ++ 46 ∷ fraction) ≡ length whole + suc (length fraction)
length_point [] fraction = omega arith
length_point (d ∷ whole) fraction = omega (arith, length_point whole fraction)

point_found : (whole fraction : List ℕ) → list_all is_ascii_digit whole ≡ true → position is_point (whole ++ 46 ∷ fraction) ≡ Some (length whole)
point_found whole fraction h =
    let k : position_or_len is_point (whole ++ 46 ∷ fraction) ≡ length whole = before_point whole (46 ∷ fraction) h ∙ omega arith in
    ap (λ k. cond (nat_lt k (length (whole ++ 46 ∷ fraction))) (Some k) None) k
    ∙ ap (λ m. cond (nat_lt (length whole) m) (Some (length whole)) None) (length_point whole fraction)
    ∙ ap (λ b. cond b (Some (length whole)) None) (less_more (length whole) (length fraction))

drop_next : (whole fraction : List ℕ) → drop (suc (length whole)) (whole ++ 46 ∷ fraction) ≡ fraction
drop_next [] fraction = refl
drop_next (d ∷ whole) fraction = drop_next whole fraction

drop_point : (whole fraction : List ℕ) → drop (length whole + 1) (whole ++ 46 ∷ fraction) ≡ fraction
drop_point whole fraction = let e : length whole + 1 ≡ suc (length whole) = omega arith in ap (λ k. drop k (whole ++ 46 ∷ fraction)) e ∙ drop_next whole fraction

-- ---- numbers without a sign

point_read : (s : ℕ) (bs whole fraction : List ℕ) (n : ℕ) → bs ≡ whole ++ 46 ∷ fraction → pointed s whole fraction ≡ Some n → PointSpells s n bs
point_read s bs whole fraction n at e =
    let p : (nat_le (length fraction) s ≡ true) × (sum_of (scaled s whole) (scaled (s - length fraction) fraction) ≡ Some n) = within (nat_le (length fraction) s) e in
    let q = sum_parts (scaled s whole) (scaled (s - length fraction) fraction) n p.1 in
    let w = scaled_read s whole q.0 q.2 in
    let f = scaled_read (s - length fraction) fraction q.1 q.3 in
    (whole, fraction, at, w.0, f.0, leb-true (length fraction) s p.0, let i = w.1 in let j = f.1 in let k = q.4 in omega arith)
  where
    within : (b : Bool) → cond b (sum_of (scaled s whole) (scaled (s - length fraction) fraction)) None ≡ Some n → (b ≡ true) × (sum_of (scaled s whole) (scaled (s - length fraction) fraction) ≡ Some n)
    within true i = (refl, i)
    within false i = absurd (cc)

unsigned_read : (s : ℕ) (bs : List ℕ) (n : ℕ) → unsigned_spelled s bs ≡ Some n → WholeSpells s n bs ⊎ PointSpells s n bs
unsigned_read s bs n e = go (position is_point bs) refl e
  where
    go : (o : Option ℕ) → position is_point bs ≡ o → at_point s bs o ≡ Some n → WholeSpells s n bs ⊎ PointSpells s n bs
    go None i h = inl (scaled_read s bs n h)
    go (Some at) i h = inr (point_read s bs (take at bs) (drop (at + 1) bs) n (at_the_point bs at i) h)

le_test : (n m : ℕ) → n ≤ m → nat_le n m ≡ true
le_test n m h = grind (arith, nat_tests)

unsigned_are_read : (s n : ℕ) (bs : List ℕ) → WholeSpells s n bs ⊎ PointSpells s n bs → unsigned_spelled s bs ≡ Some n
unsigned_are_read s n bs (inl h) = ap (at_point s bs) (digits_without_point bs h.0.1) ∙ scaled_are_read s bs h.0 ∙ ap Some (sym h.1)
unsigned_are_read s n bs (inr (whole, fraction, at, w, f, l, e)) =
    ap (unsigned_spelled s) at
    ∙ ap (at_point s (whole ++ 46 ∷ fraction)) (point_found whole fraction w.1)
    ∙ (λ i. pointed s (take-append_seam whole (46 ∷ fraction) i) (drop_point whole fraction i))
    ∙ ap (λ b. cond b (sum_of (scaled s whole) (scaled (s - length fraction) fraction)) None) (le_test (length fraction) s l)
    ∙ (λ i. sum_of (scaled_are_read s whole w i) (scaled_are_read (s - length fraction) fraction f i))
    ∙ ap Some (sym e)

-- ---- signs

sign_read : (bs : List ℕ) → (sign : List ℕ) × (bs ≡ sign ++ without_leading_sign bs) × IsSign (starts_with_minus bs) sign
sign_read [] = ([], refl, inl refl)
sign_read (c ∷ cs) = elim (c == 45) as (λ b. (c == 45) ≡ b → (sign : List ℕ) × (c ∷ cs ≡ sign ++ cond b cs (drop (cond (c == 43) 1 0) (c ∷ cs))) × IsSign b sign) [
  | true ↦ λ e. (codes "-", ap (λ d. d ∷ cs) (eqb-true c 45 e), refl)
  | false ↦ λ e. elim (c == 43) as (λ b. (c == 43) ≡ b → (sign : List ℕ) × (c ∷ cs ≡ sign ++ drop (cond b 1 0) (c ∷ cs)) × IsSign false sign) [
    | true ↦ λ k. (codes "+", ap (λ d. d ∷ cs) (eqb-true c 43 k), inr refl)
    | false ↦ λ k. ([], refl, inl refl)
  ] refl
] refl

begins_with_digit : (bs : List ℕ) → Type 0
begins_with_digit bs = (d : ℕ) × (ds : List ℕ) × (bs ≡ d ∷ ds) × (is_ascii_digit d ≡ true)

digits_begin : (ds rest : List ℕ) → IsDigits ds → begins_with_digit (ds ++ rest)
unfolding begins_with_digit
digits_begin [] rest h = absurd (let k = h.0 in omega arith)
digits_begin (d ∷ ds) rest h = (d, ds ++ rest, refl, first_true (is_ascii_digit d) (list_all is_ascii_digit ds) h.1)

append_nothing : (bs : List ℕ) → bs ++ [] ≡ bs
append_nothing [] = refl
append_nothing (b ∷ bs) = ap (λ r. b ∷ r) (append_nothing bs)

unsigned_begins : (s n : ℕ) (bs : List ℕ) → WholeSpells s n bs ⊎ PointSpells s n bs → begins_with_digit bs
unsigned_begins s n bs (inl h) = subst begins_with_digit (append_nothing bs) (digits_begin bs [] h.0)
unsigned_begins s n bs (inr (whole, fraction, at, w, f, l, e)) = subst begins_with_digit (sym at) (digits_begin whole (46 ∷ fraction) w)

-- what is left without the sign, and whether that is a minus
sign_is_read : (negative : Bool) (sign digits : List ℕ) → IsSign negative sign → begins_with_digit digits → (starts_with_minus (sign ++ digits) ≡ negative) × (without_leading_sign (sign ++ digits) ≡ digits)
unfolding begins_with_digit
sign_is_read true sign digits e b = (ap (λ x. starts_with_minus (x ++ digits)) e, ap (λ x. without_leading_sign (x ++ digits)) e)
sign_is_read false sign digits (inr e) b = (ap (λ x. starts_with_minus (x ++ digits)) e, ap (λ x. without_leading_sign (x ++ digits)) e)
sign_is_read false sign digits (inl e) (d, ds, at, digit) =
    let plain : (sign ++ digits) ≡ d ∷ ds = ap (λ x. x ++ digits) e ∙ at in
    let minus : (d == 45) ≡ false = digit_no_minus d digit in
    let plus : (d == 43) ≡ false = digit_no_plus d digit in (
      ap starts_with_minus plain ∙ minus,
      ap without_leading_sign plain ∙ ap (λ b. cond b ds (drop (cond (d == 43) 1 0) (d ∷ ds))) minus ∙ ap (λ b. drop (cond b 1 0) (d ∷ ds)) plus ∙ sym at,
    )

-- ---- numbers of a type

pub number_read : (ty : Ty) (bs : List ℕ) (z : ℤ) → number_of_type ty bs ≡ Some z → (in_range ty z ≡ true) × NumberSpells (scale_of ty) z bs
number_read ty bs z e =
    let p = then_parts (λ n. cond (in_range ty n) (Some n) None) (number_spelled (scale_of ty) bs) z e in
    let q = if_some (in_range ty p.0) p.0 z p.2 in
    let r = map_parts (signed (starts_with_minus bs)) (unsigned_spelled (scale_of ty) (without_leading_sign bs)) p.0 p.1 in
    let s = sign_read bs in
    (ap (in_range ty) (sym q.1) ∙ q.0, (starts_with_minus bs, r.0, s.0, without_leading_sign bs, s.1, s.2, unsigned_read (scale_of ty) (without_leading_sign bs) r.0 r.1, sym q.1 ∙ sym r.2))

pub number_is_read : (ty : Ty) (bs : List ℕ) (z : ℤ) → in_range ty z ≡ true → NumberSpells (scale_of ty) z bs → number_of_type ty bs ≡ Some z
number_is_read ty bs z inside (negative, n, sign, digits, at, is_sign, unsigned, is) =
    let p = sign_is_read negative sign digits is_sign (unsigned_begins (scale_of ty) n digits unsigned) in
    let read : number_spelled (scale_of ty) bs ≡ Some z = ap (number_spelled (scale_of ty)) at ∙ (λ i. option_map (signed (p.0 i)) (unsigned_spelled (scale_of ty) (p.1 i))) ∙ ap (option_map (signed negative)) (unsigned_are_read (scale_of ty) n digits unsigned) ∙ ap Some (sym is) in
    ap (option_and_then (λ m. cond (in_range ty m) (Some m) None)) read ∙ ap (λ b. cond b (Some z) None) inside
