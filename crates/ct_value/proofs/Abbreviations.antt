-- Of two rows that differ in their abbreviations the one with the less stands first.
use Rattle.std.proofs.Common.{◌≡◌, ℕ, zero, suc, ◌+◌, ◌-◌, ◌*◌, ◌/◌, ◌%◌, ◌^◌, ◌<◌, ◌≤◌, ℤ, pos, negsuc, List, [], ◌∷◌, ◌++◌, length, true, false, cond, leb, ltb, ◌⊎◌, replicate, inl, inr, refl, sym, ap, subst, ◌∙◌, arith, nat_cmp, Ordering, Less, Equal, Greater}
use Rattle.std.specs.List.{AllByRecursion}
use Rattle.std.proofs.lemmas.Bool.{ltb-true, ltb-false}
use Rattle.std.proofs.lemmas.Bool.Decides.{leb_tells, nat_tests}
use Rattle.std.proofs.lemmas.Nat.{div-add-mod', div_below, le-div, mod_below}
use Rattle.std.proofs.Math.Nat.{div-div-eq-div-mul, div-eq_of_lt, mod-eq_of_lt}
use Rattle.std.specs.Ordering.{ordering_then, ordering_reverse, int_cmp}
use Rattle.std.specs.Cmp.{ranked}
use Rattle.std.specs.Cmp.Lexicographic.{slice_cmp}
use Rattle.ct_value.specs.declared.value.Value.{Value}
use Rattle.ct_value.specs.declared.value.Value.TheVariants.{Null, Bool as Truth, Num, Text}
use Rattle.ct_value.specs.Order.{value_cmp, row_cmp, value_exact, row_exact, row_total}
use Rattle.ct_value.specs.Abbreviations.{first_digits, number_onto, unit, digits_of, place, place_digits, text_digits, value_digits, row_digits, row_abbreviation}

-- what the first k digits behind a number make of it
abbrev pub onto : ℕ → ℕ → List ℕ → ℕ
onto k a digits = number_onto a (first_digits k digits)

-- the most that they make of it
abbrev pub most : ℕ → ℕ → ℕ
most zero a = a
most (suc k) a = most k (a * 256 + 255)

abbrev pub AreDigits : List ℕ → Type 0
AreDigits = AllByRecursion (λ digit. digit < 256)

most_rises : (k a b : ℕ) → a < b → most k a < most k b
most_rises zero a b h = h
most_rises (suc k) a b h = most_rises k (a * 256 + 255) (b * 256 + 255) (omega arith)

most_follows : (k a b : ℕ) → a ≤ b → most k a ≤ most k b
most_follows zero a b h = h
most_follows (suc k) a b h = most_follows k (a * 256 + 255) (b * 256 + 255) (omega arith)

pub at_most : (k a : ℕ) (digits : List ℕ) → AreDigits digits → onto k a digits ≤ most k a
at_most zero a digits are = omega arith
at_most (suc k) a [] are = let l = at_most k (a * 256 + 0) [] tt in let m = most_follows k (a * 256 + 0) (a * 256 + 255) (omega arith) in omega arith
at_most (suc k) a (d ∷ digits) are = let l = at_most k (a * 256 + d) digits are.1 in let m = most_follows k (a * 256 + d) (a * 256 + 255) (let s = are.0 in omega arith) in omega arith

beyond : (k a b : ℕ) (digits : List ℕ) → a < b → most k a < onto k b digits
beyond zero a b digits h = h
beyond (suc k) a b [] h = beyond k (a * 256 + 255) (b * 256 + 0) [] (omega arith)
beyond (suc k) a b (d ∷ digits) h = beyond k (a * 256 + 255) (b * 256 + d) digits (omega arith)

least : (k a b : ℕ) (digits : List ℕ) → a ≤ b → onto k a [] ≤ onto k b digits
least zero a b digits h = h
least (suc k) a b [] h = least k (a * 256 + 0) (b * 256 + 0) [] (omega arith)
least (suc k) a b (d ∷ digits) h = least k (a * 256 + 0) (b * 256 + d) digits (omega arith)

-- where the first digits differ, they decide
head_less : (k a x y : ℕ) (xs ys : List ℕ) → x < y → AreDigits xs → onto k a (x ∷ xs) ≤ onto k a (y ∷ ys)
head_less zero a x y xs ys h are = omega arith
head_less (suc k) a x y xs ys h are = let l = at_most k (a * 256 + x) xs are in let m = beyond k (a * 256 + x) (a * 256 + y) ys (omega arith) in omega arith

-- behind the same digits the others decide
after_same : (digits r s : List ℕ) (k a : ℕ) → ((j b : ℕ) → j ≤ k → onto j b r ≤ onto j b s) → onto k a (digits ++ r) ≤ onto k a (digits ++ s)
after_same [] r s k a h = h k a (omega arith)
after_same (d ∷ digits) r s zero a h = omega arith
after_same (d ∷ digits) r s (suc k) a h = after_same digits r s k (a * 256 + d) (λ j b l. h j b (omega arith))

-- behind enough of them none counts
full : (digits r s : List ℕ) (k a : ℕ) → k ≤ length digits → onto k a (digits ++ r) ≤ onto k a (digits ++ s)
full digits r s zero a h = omega arith
full [] r s (suc k) a h = absurd (omega arith)
full (d ∷ digits) r s (suc k) a h = full digits r s k (a * 256 + d) (omega arith)

both_digits : (xs ys : List ℕ) → AreDigits xs → AreDigits ys → AreDigits (xs ++ ys)
both_digits [] ys p q = q
both_digits (x ∷ xs) ys p q = (p.0, both_digits xs ys p.1 q)

-- ---- digits of numbers

pub unit_some : (k : ℕ) → 0 < unit k
unit_some zero = omega arith
unit_some (suc k) = let l = unit_some k in omega arith

pub are_digits : (k n : ℕ) → AreDigits (digits_of k n)
are_digits zero n = tt
are_digits (suc k) n = (mod_below (n / unit k) 256 (omega arith), are_digits k n)

pub unit_follows : (k j : ℕ) → k ≤ j → unit k ≤ unit j
unit_follows zero zero h = omega arith
unit_follows (suc k) zero h = absurd (omega arith)
unit_follows zero (suc j) h = let l = unit_follows zero j (omega arith) in omega arith
unit_follows (suc k) (suc j) h = let l = unit_follows k j (omega arith) in omega arith

div_follows : (s t d : ℕ) → 0 < d → s ≤ t → s / d ≤ t / d
div_follows s t d some h = le-div (s / d) t d some (let e = div-add-mod' s d in omega arith)

last_digits : (p q : ℕ) → p < q → p / 256 ≡ q / 256 → p % 256 < q % 256
last_digits p q h e = let a = div-add-mod' p 256 in let b = div-add-mod' q 256 in omega arith

-- of two numbers with the same digits before the last j, the one with the less last ones is the less
digits_follow : (j s t k a : ℕ) (r u : List ℕ) → s < t → s / unit j ≡ t / unit j → AreDigits r → onto k a (digits_of j s ++ r) ≤ onto k a (digits_of j t ++ u)
digits_follow zero s t k a r u l e are =
    absurd (let x = div-add-mod' s 1 in let y = div-add-mod' t 1 in let m = mod_below s 1 (omega arith) in let n = mod_below t 1 (omega arith) in omega arith)
digits_follow (suc j) s t zero a r u l e are = omega arith
digits_follow (suc j) s t (suc k) a r u l e are =
    let same : s / unit j / 256 ≡ t / unit j / 256 = div-div-eq-div-mul s (unit j) 256 ∙ e ∙ sym (div-div-eq-div-mul t (unit j) 256) in
    let follows = div_follows s t (unit j) (unit_some j) (omega arith) in
    elim (leb_tells (t / unit j) (s / unit j)) [
      | inl f ↦
          let equal : s / unit j ≡ t / unit j = let g = f.1 in omega arith in
          subst (λ q. onto k (a * 256 + s / unit j % 256) (digits_of j s ++ r) ≤ onto k (a * 256 + q % 256) (digits_of j t ++ u)) equal
          (digits_follow j s t k (a * 256 + s / unit j % 256) r u l equal are)
      | inr f ↦ head_less (suc k) a (s / unit j % 256) (t / unit j % 256) (digits_of j s ++ r) (digits_of j t ++ u) (last_digits (s / unit j) (t / unit j) f.1 same)
          (both_digits (digits_of j s) r (are_digits j s) are)
    ]

-- ---- digits of places

abbrev Low : ℕ
Low = 2 ^ 55 - 4096

abbrev High : ℕ
High = 2 ^ 55 + 4096

by_place : (p : ℕ) (P : List ℕ → Type 0) → (p < Low → P (5 ∷ digits_of 7 p)) → (Low ≤ p → p < High → P (digits_of 2 (p - Low + 8192))) → (High ≤ p → P (70 ∷ digits_of 7 p)) → P (place_digits p)
by_place p P low near high =
    elim (ltb p Low) as (λ t. ltb p Low ≡ t → P (cond t (5 ∷ digits_of 7 p) (cond (ltb p High) (digits_of 2 (p - Low + 8192)) (70 ∷ digits_of 7 p)))) [
      | true ↦ λ e. low (ltb-true p Low e)
      | false ↦ λ e. elim (ltb p High) as (λ t. ltb p High ≡ t → P (cond t (digits_of 2 (p - Low + 8192)) (70 ∷ digits_of 7 p))) [
        | true ↦ λ f. near (ltb-false p Low e) (ltb-true p High f)
        | false ↦ λ f. high (ltb-false p High f)
      ] refl
    ] refl

near_head : (p : ℕ) → Low ≤ p → p < High → (31 < (p - Low + 8192) / 256 % 256) × ((p - Low + 8192) / 256 % 256 < 64)
near_head p l h =
    let a : 32 ≤ (p - Low + 8192) / 256 = le-div 32 (p - Low + 8192) 256 (omega arith) (omega arith) in
    let b : (p - Low + 8192) / 256 < 64 = div_below (p - Low + 8192) 256 64 (omega arith) (omega arith) in
    let c : (p - Low + 8192) / 256 % 256 ≡ (p - Low + 8192) / 256 = mod-eq_of_lt (omega arith) in
    (omega arith, omega arith)

number_above : (x q k a : ℕ) (r u : List ℕ) → x ≤ 4 → AreDigits r → onto k a (x ∷ r) ≤ onto k a (place_digits q ++ u)
number_above x q k a r u h are = by_place q (λ ds. onto k a (x ∷ r) ≤ onto k a (ds ++ u))
    (λ l. head_less k a x 5 r (digits_of 7 q ++ u) (omega arith) are)
    (λ l m. let b = near_head q l m in head_less k a x ((q - Low + 8192) / 256 % 256) r (digits_of 1 (q - Low + 8192) ++ u) (let c = b.0 in omega arith) are)
    (λ l. head_less k a x 70 r (digits_of 7 q ++ u) (omega arith) are)

number_below : (p k a : ℕ) (r u : List ℕ) → AreDigits r → onto k a (place_digits p ++ r) ≤ onto k a (128 ∷ u)
number_below p k a r u are = by_place p (λ ds. onto k a (ds ++ r) ≤ onto k a (128 ∷ u))
    (λ l. head_less k a 5 128 (digits_of 7 p ++ r) u (omega arith) (both_digits (digits_of 7 p) r (are_digits 7 p) are))
    (λ l m. let b = near_head p l m in head_less k a ((p - Low + 8192) / 256 % 256) 128 (digits_of 1 (p - Low + 8192) ++ r) u (let c = b.1 in omega arith) (both_digits (digits_of 1 (p - Low + 8192)) r (are_digits 1 (p - Low + 8192)) are))
    (λ l. head_less k a 70 128 (digits_of 7 p ++ r) u (omega arith) (both_digits (digits_of 7 p) r (are_digits 7 p) are))

far_follow : (x p q k a : ℕ) (r u : List ℕ) → p < q → q < 2 ^ 56 → AreDigits r → onto k a (x ∷ (digits_of 7 p ++ r)) ≤ onto k a (x ∷ (digits_of 7 q ++ u))
far_follow x p q zero a r u h s are = omega arith
far_follow x p q (suc k) a r u h s are = digits_follow 7 p q k (a * 256 + x) r u h (div-eq_of_lt (omega arith) ∙ sym (div-eq_of_lt s)) are

places_follow : (p q k a : ℕ) (r u : List ℕ) → p < q → q < 2 ^ 56 → AreDigits r → onto k a (place_digits p ++ r) ≤ onto k a (place_digits q ++ u)
places_follow p q k a r u h s are = by_place p (λ ds. onto k a (ds ++ r) ≤ onto k a (place_digits q ++ u))
    (λ l. by_place q (λ es. onto k a (5 ∷ (digits_of 7 p ++ r)) ≤ onto k a (es ++ u))
    (λ m. far_follow 5 p q k a r u h s are)
    (λ m n. let b = near_head q m n in head_less k a 5 ((q - Low + 8192) / 256 % 256) (digits_of 7 p ++ r) (digits_of 1 (q - Low + 8192) ++ u) (let c = b.0 in omega arith) (both_digits (digits_of 7 p) r (are_digits 7 p) are))
    (λ m. head_less k a 5 70 (digits_of 7 p ++ r) (digits_of 7 q ++ u) (omega arith) (both_digits (digits_of 7 p) r (are_digits 7 p) are)))
    (λ l l2. by_place q (λ es. onto k a (digits_of 2 (p - Low + 8192) ++ r) ≤ onto k a (es ++ u))
    (λ m. absurd (omega arith))
    (λ m n. digits_follow 2 (p - Low + 8192) (q - Low + 8192) k a r u (omega arith) (div-eq_of_lt (omega arith) ∙ sym (div-eq_of_lt (omega arith))) are)
    (λ m. let b = near_head p l l2 in head_less k a ((p - Low + 8192) / 256 % 256) 70 (digits_of 1 (p - Low + 8192) ++ r) (digits_of 7 q ++ u) (let c = b.1 in omega arith) (both_digits (digits_of 1 (p - Low + 8192)) r (are_digits 1 (p - Low + 8192)) are)))
    (λ l. by_place q (λ es. onto k a (70 ∷ (digits_of 7 p ++ r)) ≤ onto k a (es ++ u))
    (λ m. absurd (omega arith))
    (λ m n. absurd (omega arith))
    (λ m. far_follow 70 p q k a r u h s are))

-- at the ends all eight digits are told
ends_follow : (p k a : ℕ) (r u : List ℕ) → k ≤ 8 → (p ≡ 0) ⊎ (p ≡ 2 ^ 56 - 1) → onto k a (place_digits p ++ r) ≤ onto k a (place_digits p ++ u)
ends_follow p k a r u h (inl e) = subst (λ x. onto k a (place_digits x ++ r) ≤ onto k a (place_digits x ++ u)) (sym e) (full (place_digits 0) r u k a h)
ends_follow p k a r u h (inr e) = subst (λ x. onto k a (place_digits x ++ r) ≤ onto k a (place_digits x ++ u)) (sym e) (full (place_digits (2 ^ 56 - 1)) r u k a h)

place_small : (n : ℤ) → place n < 2 ^ 56
place_small (pos n) = omega arith
place_small (negsuc n) = omega arith

abbrev IsAtEnd : ℕ → Type 0
IsAtEnd p = (p ≡ 0) ⊎ (p ≡ 2 ^ 56 - 1)

place_follows : (m n : ℤ) → int_cmp m n ≡ Less → (place m < place n) ⊎ ((place m ≡ place n) × IsAtEnd (place m))
place_follows (pos m) (pos n) h = let l : m < n = grind (arith, nat_tests) in up (leb_tells (2 ^ 55 - 1) m) l
  where
    up : ((leb (2 ^ 55 - 1) m ≡ true) × (2 ^ 55 - 1 ≤ m)) ⊎ ((leb (2 ^ 55 - 1) m ≡ false) × (m < 2 ^ 55 - 1)) → m < n → (place (pos m) < place (pos n)) ⊎ ((place (pos m) ≡ place (pos n)) × IsAtEnd (place (pos m)))
    up (inl e) l = inr (let f = e.1 in omega arith, inr (let f = e.1 in omega arith))
    up (inr e) l = inl (let f = e.1 in omega arith)
place_follows (pos m) (negsuc n) h = absurd (cc)
place_follows (negsuc m) (pos n) h = inl (omega arith)
place_follows (negsuc m) (negsuc n) h = let l : n < m = grind (arith, nat_tests) in down (leb_tells (2 ^ 55) (n + 1)) l
  where
    down : ((leb (2 ^ 55) (n + 1) ≡ true) × (2 ^ 55 ≤ n + 1)) ⊎ ((leb (2 ^ 55) (n + 1) ≡ false) × (n + 1 < 2 ^ 55)) → n < m → (place (negsuc m) < place (negsuc n)) ⊎ ((place (negsuc m) ≡ place (negsuc n)) × IsAtEnd (place (negsuc m)))
    down (inl e) l = inr (let f = e.1 in omega arith, inl (let f = e.1 in omega arith))
    down (inr e) l = inl (let f = e.1 in omega arith)

numbers_follow : (m n : ℤ) (k a : ℕ) (r u : List ℕ) → int_cmp m n ≡ Less → k ≤ 8 → AreDigits r → onto k a (place_digits (place m) ++ r) ≤ onto k a (place_digits (place n) ++ u)
numbers_follow m n k a r u h l are = elim (place_follows m n h) [
  | inl e ↦ places_follow (place m) (place n) k a r u e (place_small n) are
  | inr e ↦ subst (λ p. onto k a (place_digits (place m) ++ r) ≤ onto k a (place_digits p ++ u)) e.0 (ends_follow (place m) k a r u l e.1)
]

-- ---- digits of texts

pub are_text : (text : List ℕ) → AreDigits (text_digits text)
are_text [] = (omega arith, tt)
are_text (b ∷ text) = elim (ltb b 254) as (λ t. ltb b 254 ≡ t → AreDigits (cond t ((b + 1) ∷ text_digits text) (replicate 8 255))) [
  | true ↦ λ e. (let l = ltb-true b 254 e in omega arith, are_text text)
  | false ↦ λ e. (omega arith, (omega arith, (omega arith, (omega arith, (omega arith, (omega arith, (omega arith, (omega arith, tt))))))))
] refl

by_byte : (b : ℕ) (text : List ℕ) (P : List ℕ → Type 0) → (b < 254 → P ((b + 1) ∷ text_digits text)) → (254 ≤ b → P (replicate 8 255)) → P (text_digits (b ∷ text))
by_byte b text P is isnt = elim (ltb b 254) as (λ t. ltb b 254 ≡ t → P (cond t ((b + 1) ∷ text_digits text) (replicate 8 255))) [
  | true ↦ λ e. is (ltb-true b 254 e)
  | false ↦ λ e. isnt (ltb-false b 254 e)
] refl

text_follows : (s t : List ℕ) (k a : ℕ) (r u : List ℕ) → slice_cmp nat_cmp s t ≡ Less → k ≤ 8 → AreDigits r → onto k a (text_digits s ++ r) ≤ onto k a (text_digits t ++ u)
text_follows s t zero a r u h l are = omega arith
text_follows [] [] (suc k) a r u h l are = absurd (cc)
text_follows [] (c ∷ t) (suc k) a r u h l are = by_byte c t (λ ds. onto (suc k) a (0 ∷ r) ≤ onto (suc k) a (ds ++ u))
    (λ e. head_less (suc k) a 0 (c + 1) r (text_digits t ++ u) (omega arith) are)
    (λ e. head_less (suc k) a 0 255 r (replicate 7 255 ++ u) (omega arith) are)
text_follows (b ∷ s) [] (suc k) a r u h l are = absurd (cc)
text_follows (b ∷ s) (c ∷ t) (suc k) a r u h l are = elim (nat_cmp b c) as (λ o. o ≡ nat_cmp b c → ordering_then o (slice_cmp nat_cmp s t) ≡ Less → onto (suc k) a (text_digits (b ∷ s) ++ r) ≤ onto (suc k) a (text_digits (c ∷ t) ++ u)) [
  | Less ↦ λ e d. let less : b < c = ranked b c Less e in
      by_byte b s (λ ds. onto (suc k) a (ds ++ r) ≤ onto (suc k) a (text_digits (c ∷ t) ++ u))
      (λ x. by_byte c t (λ es. onto (suc k) a ((b + 1) ∷ (text_digits s ++ r)) ≤ onto (suc k) a (es ++ u))
      (λ y. head_less (suc k) a (b + 1) (c + 1) (text_digits s ++ r) (text_digits t ++ u) (omega arith) (both_digits (text_digits s) r (are_text s) are))
      (λ y. head_less (suc k) a (b + 1) 255 (text_digits s ++ r) (replicate 7 255 ++ u) (omega arith) (both_digits (text_digits s) r (are_text s) are)))
      (λ x. by_byte c t (λ es. onto (suc k) a (replicate 8 255 ++ r) ≤ onto (suc k) a (es ++ u))
      (λ y. absurd (omega arith))
      (λ y. full (replicate 8 255) r u (suc k) a l))
  | Equal ↦ λ e d. let same : b ≡ c = ranked b c Equal e in subst (λ x. onto (suc k) a (text_digits (b ∷ s) ++ r) ≤ onto (suc k) a (text_digits (x ∷ t) ++ u)) same
      (elim (ltb b 254) as (λ t2. onto (suc k) a (cond t2 ((b + 1) ∷ text_digits s) (replicate 8 255) ++ r) ≤ onto (suc k) a (cond t2 ((b + 1) ∷ text_digits t) (replicate 8 255) ++ u)) [
        | true ↦ text_follows s t k (a * 256 + (b + 1)) r u d (omega arith) are
        | false ↦ full (replicate 8 255) r u (suc k) a l
      ])
  | Greater ↦ λ e d. absurd (cc)
] refl h

-- ---- digits of values and of rows

then_none : (o : Ordering) → ordering_then o Equal ≡ Less → o ≡ Less
then_none Less h = refl
then_none Equal h = h
then_none Greater h = absurd (cc)

are_place : (p : ℕ) → AreDigits (place_digits p)
are_place p = by_place p AreDigits
    (λ l. (omega arith, are_digits 7 p)) (λ l m. are_digits 2 (p - Low + 8192)) (λ l. (omega arith, are_digits 7 p))

pub are_value : (v : Value) → AreDigits (value_digits v)
are_value Null = (omega arith, tt)
are_value (Truth false) = (omega arith, tt)
are_value (Truth true) = (omega arith, tt)
are_value (Num n) = are_place (place n)
are_value (Text text) = (omega arith, are_text text)

are_row : (values : List Value) → AreDigits (row_digits values)
are_row [] = tt
are_row (value ∷ values) = both_digits (value_digits value) (row_digits values) (are_value value) (are_row values)

value_follows : (v w : Value) (k a : ℕ) (r u : List ℕ) → value_cmp v w ≡ Less → k ≤ 8 → AreDigits r → onto k a (value_digits v ++ r) ≤ onto k a (value_digits w ++ u)
value_follows Null Null k a r u h l are = absurd (cc)
value_follows Null (Truth false) k a r u h l are = head_less k a 1 2 r u (omega arith) are
value_follows Null (Truth true) k a r u h l are = head_less k a 1 3 r u (omega arith) are
value_follows Null (Num b) k a r u h l are = number_above 1 (place b) k a r u (omega arith) are
value_follows Null (Text b) k a r u h l are = head_less k a 1 128 r (text_digits b ++ u) (omega arith) are
value_follows (Truth false) Null k a r u h l are = absurd (cc)
value_follows (Truth false) (Truth false) k a r u h l are = absurd (cc)
value_follows (Truth false) (Truth true) k a r u h l are = head_less k a 2 3 r u (omega arith) are
value_follows (Truth false) (Num b) k a r u h l are = number_above 2 (place b) k a r u (omega arith) are
value_follows (Truth false) (Text b) k a r u h l are = head_less k a 2 128 r (text_digits b ++ u) (omega arith) are
value_follows (Truth true) Null k a r u h l are = absurd (cc)
value_follows (Truth true) (Truth false) k a r u h l are = absurd (cc)
value_follows (Truth true) (Truth true) k a r u h l are = absurd (cc)
value_follows (Truth true) (Num b) k a r u h l are = number_above 3 (place b) k a r u (omega arith) are
value_follows (Truth true) (Text b) k a r u h l are = head_less k a 3 128 r (text_digits b ++ u) (omega arith) are
value_follows (Num m) Null k a r u h l are = absurd (cc)
value_follows (Num m) (Truth false) k a r u h l are = absurd (cc)
value_follows (Num m) (Truth true) k a r u h l are = absurd (cc)
value_follows (Num m) (Num n) k a r u h l are = numbers_follow m n k a r u (then_none _ h) l are
value_follows (Num m) (Text t) k a r u h l are = number_below (place m) k a r (text_digits t ++ u) are
value_follows (Text s) Null k a r u h l are = absurd (cc)
value_follows (Text s) (Truth false) k a r u h l are = absurd (cc)
value_follows (Text s) (Truth true) k a r u h l are = absurd (cc)
value_follows (Text s) (Num b) k a r u h l are = absurd (cc)
value_follows (Text s) (Text t) zero a r u h l are = omega arith
value_follows (Text s) (Text t) (suc k) a r u h l are = text_follows s t k (a * 256 + 128) r u h (omega arith) are

rows_follow : (r s : List Value) (k a : ℕ) → row_cmp r s ≡ Less → k ≤ 8 → onto k a (row_digits r) ≤ onto k a (row_digits s)
rows_follow [] s k a h l = least k a a (row_digits s) (omega arith)
rows_follow (v ∷ r) [] k a h l = absurd (cc)
rows_follow (v ∷ r) (w ∷ s) k a h l = elim (value_cmp v w) as (λ o. value_cmp v w ≡ o → ordering_then o (row_cmp r s) ≡ Less → onto k a (value_digits v ++ row_digits r) ≤ onto k a (value_digits w ++ row_digits s)) [
  | Less ↦ λ e d. value_follows v w k a (row_digits r) (row_digits s) e l (are_row r)
  | Equal ↦ λ e d. subst (λ x. onto k a (value_digits v ++ row_digits r) ≤ onto k a (value_digits x ++ row_digits s)) (value_exact v w e)
      (after_same (value_digits v) (row_digits r) (row_digits s) k a (λ j b m. rows_follow r s j b d (omega arith)))
  | Greater ↦ λ e d. absurd (cc)
] refl h

abbreviation_follows : (r s : List Value) → row_cmp r s ≡ Less → row_abbreviation r ≤ row_abbreviation s
abbreviation_follows r s h = rows_follow r s 8 0 h (omega arith)

pub less_first : (r s : List Value) → row_abbreviation r < row_abbreviation s → Less ≡ row_cmp r s
less_first r s h = elim (row_cmp r s) as (λ o. row_cmp r s ≡ o → Less ≡ o) [
  | Less ↦ λ e. refl
  | Equal ↦ λ e. let same = ap row_abbreviation (row_exact r s e) in absurd (omega arith)
  | Greater ↦ λ e. let l = abbreviation_follows s r (turned e) in absurd (omega arith)
] refl
  where
    turned : row_cmp r s ≡ Greater → row_cmp s r ≡ Less
    turned e = row_total.antisymm s r ∙ ap ordering_reverse e

pub more_last : (r s : List Value) → row_abbreviation s < row_abbreviation r → Greater ≡ row_cmp r s
more_last r s h = ap ordering_reverse (less_first s r h) ∙ sym (row_total.antisymm r s)

-- an abbreviation has room in 64 bits
pub row_small : (r : List Value) → row_abbreviation r < 2 ^ 64
row_small r = let l = at_most 8 0 (row_digits r) (are_row r) in let m : most 8 0 ≡ 2 ^ 64 - 1 = refl in omega arith
