-- The first digits of the values of a row make its abbreviation.
use Rattle.std.proofs.Common.{◌≡◌, ℕ, zero, suc, ◌+◌, ◌-◌, ◌*◌, ◌/◌, ◌%◌, ◌^◌, ◌<◌, ◌≤◌, ◌⊎◌, min, true, false, cond, leb, ltb, inl, inr, List, [], ◌∷◌, ◌++◌, length, get_or, drop, drop-cons, IsUtf8, refl, sym, ap, ap₂, subst, ◌∙◌, arith}
use Rattle.std.specs.List.{AllByRecursion}
use Rattle.std.proofs.lemmas.Bool.{and_parts, ltb-true, lt-ltb}
use Rattle.std.proofs.lemmas.Bool.Decides.{leb_tells}
use Rattle.std.proofs.lemmas.List.{drop_all}
use Rattle.std.proofs.lemmas.Nat.{pow-add}
use Rattle.std.proofs.Math.Nat.{div-mul-le_self, mul-add-div_right, div-eq_of_lt, mod-eq_of_lt}
use lib.Utf8.{scalar, scalars, encode, encodes, next, scalar_cases}
use Rattle.ct_value.specs.declared.value.Value.{Value}
use Rattle.ct_value.specs.Abbreviations.{unit, text_digits, value_digits, row_digits, row_abbreviation}
use Rattle.ct_value.proofs.Abbreviations.{onto, most, AreDigits, at_most, unit_some, are_text, are_value}

pub unit_power : (k : ℕ) → unit k ≡ 2 ^ (8 * k)
unit_power zero = refl
unit_power (suc k) =
    let p = pow-add 2 (8 * k) 8 in
    let q = unit_power k in
    let e : 2 ^ (8 * suc k) ≡ 2 ^ (8 * k + 8) = ap (λ n. 2 ^ n) (omega arith) in
    omega arith

-- the digits behind a number count as they do alone
onto_split : (k a : ℕ) (digits : List ℕ) → onto k a digits ≡ a * unit k + onto k 0 digits
onto_split zero a digits = omega arith
onto_split (suc k) a [] = let p = onto_split k (a * 256 + 0) [] in let q = onto_split k 0 [] in omega arith
onto_split (suc k) a (d ∷ digits) = let p = onto_split k (a * 256 + d) digits in let q = onto_split k (0 * 256 + d) digits in omega arith

pub onto_none : (k a : ℕ) → onto k a [] ≡ a * unit k
onto_none zero a = omega arith
onto_none (suc k) a = let p = onto_none k (a * 256 + 0) in omega arith

most_is : (k a : ℕ) → most k a + 1 ≡ (a + 1) * unit k
most_is zero a = omega arith
most_is (suc k) a = let p = most_is k (a * 256 + 255) in omega arith

small : (k : ℕ) (digits : List ℕ) → AreDigits digits → onto k 0 digits < unit k
small k digits are = let p = at_most k 0 digits are in let q = most_is k 0 in omega arith

-- without the last j of them
pub fewer : (n k j a : ℕ) (digits : List ℕ) → n ≡ k + j → AreDigits digits → onto n a digits / unit j ≡ onto k a digits
fewer n zero j a digits e are =
    let same : n ≡ j = omega arith in
    ap (λ m. onto m a digits / unit j) same ∙ ap (λ m. m / unit j) (onto_split j a digits)
    ∙ mul-add-div_right (unit_some j) a (onto j 0 digits) ∙ ap (λ m. a + m) (div-eq_of_lt (small j digits are)) ∙ omega arith
fewer zero (suc k) j a digits e are = absurd (omega arith)
fewer (suc n) (suc k) j a [] e are = fewer n k j (a * 256 + 0) [] (omega arith) tt
fewer (suc n) (suc k) j a (d ∷ digits) e are = fewer n k j (a * 256 + d) digits (omega arith) are.1

behind : (digits more : List ℕ) (k a : ℕ) → onto k a (digits ++ more) ≡ onto k a digits + onto (k - length digits) 0 more
behind [] more k a =
    let p = onto_split k a more in
    let q = onto_none k a in
    let both : onto k a more ≡ onto k a [] + onto k 0 more = omega arith in
    let none : k ≡ k - length {A = ℕ} [] = omega arith in
    both ∙ ap (λ n. onto k a [] + onto n 0 more) none
behind (d ∷ digits) more zero a =
    let none : zero ≡ zero - suc (length digits) = omega arith in
    let alone : a ≡ a + onto zero 0 more = omega arith in
    alone ∙ ap (λ n. a + onto n 0 more) none
behind (d ∷ digits) more (suc k) a =
    let left : k - length digits ≡ suc k - suc (length digits) = omega arith in
    behind digits more k (a * 256 + d) ∙ ap (λ n. onto k (a * 256 + d) digits + onto n 0 more) left

-- behind so many digits as were used those of a value count so much, and then those of the values behind it
pub joined : (used : ℕ) (digits more : List ℕ) → used ≤ 8 → AreDigits digits
    → onto (8 - used) 0 (digits ++ more) ≡ onto 8 0 digits / unit used + onto (8 - (used + min 8 (length digits))) 0 more
joined used digits more few are =
    let left : 8 - used - length digits ≡ 8 - (used + min 8 (length digits)) = omega arith in
    behind digits more (8 - used) 0
    ∙ ap₂ (λ (m n : ℕ). m + n) (sym (fewer 8 (8 - used) used 0 digits (omega arith) are)) (ap (λ n. onto n 0 more) left)

-- the part from i on begins with x
pub rest_from : {X : Type 0} (xs : List X) (i : ℕ) (x : X) → i < length xs → x ≡ get_or xs i x → drop i xs ≡ x ∷ drop (i + 1) xs
rest_from xs i x h e = let s : suc i ≡ i + 1 = omega arith in drop-cons xs i x h ∙ (λ j. sym e j ∷ drop (s j) xs)

-- what a value counts behind others, where the digits of all make an abbreviation
pub turn : (number used taken word : ℕ) (value : Value) (values : List Value) (abbreviation : ℕ) → used ≤ 8
    → word ≡ onto 8 0 (value_digits value) → taken ≡ min 8 (length (value_digits value))
    → number + onto (8 - used) 0 (row_digits (value ∷ values)) ≡ abbreviation
    → number + word / 2 ^ (8 * used) + onto (8 - (used + taken)) 0 (row_digits values) ≡ abbreviation
turn number used taken word value values abbreviation few is shown same =
    let j = joined used (value_digits value) (row_digits values) few (are_value value) in
    let w : word / 2 ^ (8 * used) ≡ onto 8 0 (value_digits value) / unit used = ap₂ (λ (m n : ℕ). m / n) is (sym (unit_power used)) in
    let t : onto (8 - (used + taken)) 0 (row_digits values) ≡ onto (8 - (used + min 8 (length (value_digits value)))) 0 (row_digits values)
    = ap (λ n. onto (8 - (used + n)) 0 (row_digits values)) shown in
    omega arith

-- ---- texts

abbrev pub AreBelow : List ℕ → Type 0
AreBelow = AllByRecursion (λ byte. byte < 254)

both_below : (xs ys : List ℕ) → AreBelow xs → AreBelow ys → AreBelow (xs ++ ys)
both_below [] ys p q = q
both_below (x ∷ xs) ys p q = (p.0, both_below xs ys p.1 q)

char_below : (c : ℕ) → scalar c ≡ true → AreBelow (encode c)
unfolding encode
char_below c h = elim (ltb c 128) as (λ t. ltb c 128 ≡ t → AreBelow (cond t (c ∷ []) (cond (ltb c 2048) ((192 + c / 64) ∷ next c ∷ []) (cond (ltb c 65536) ((224 + c / 4096) ∷ next (c / 64) ∷ next c ∷ []) ((240 + c / 262144) ∷ next (c / 4096) ∷ next (c / 64) ∷ next c ∷ []))))) [
  | true ↦ λ e. (let l = ltb-true c 128 e in omega arith, tt)
  | false ↦ λ e. elim (ltb c 2048) as (λ t. ltb c 2048 ≡ t → AreBelow (cond t ((192 + c / 64) ∷ next c ∷ []) (cond (ltb c 65536) ((224 + c / 4096) ∷ next (c / 64) ∷ next c ∷ []) ((240 + c / 262144) ∷ next (c / 4096) ∷ next (c / 64) ∷ next c ∷ [])))) [
    | true ↦ λ f. (let l = ltb-true c 2048 f in omega arith, (omega arith, tt))
    | false ↦ λ f. elim (ltb c 65536) as (λ t. ltb c 65536 ≡ t → AreBelow (cond t ((224 + c / 4096) ∷ next (c / 64) ∷ next c ∷ []) ((240 + c / 262144) ∷ next (c / 4096) ∷ next (c / 64) ∷ next c ∷ []))) [
      | true ↦ λ g. (let l = ltb-true c 65536 g in omega arith, (omega arith, (omega arith, tt)))
      | false ↦ λ g. (elim (scalar_cases c h) [ inl l ↦ omega arith | inr l ↦ let m = l.1 in omega arith ], (omega arith, (omega arith, (omega arith, tt))))
    ] refl
  ] refl
] refl

chars_below : (cs : List ℕ) → scalars cs ≡ true → AreBelow (encodes cs)
chars_below [] h = tt
chars_below (c ∷ cs) h = let p = and_parts (scalar c) (scalars cs) h in both_below (encode c) (encodes cs) (char_below c p.0) (chars_below cs p.1)

-- the bytes of a text
pub text_below : (text : List ℕ) → IsUtf8 text → AreBelow text
text_below text u = subst AreBelow u.1.1 (chars_below u.0 u.1.0)

first_byte : (b : ℕ) (bytes : List ℕ) → b < 254 → text_digits (b ∷ bytes) ≡ (b + 1) ∷ text_digits bytes
first_byte b bytes h = rw (lt-ltb b 254 h) refl

pub length_text : (bytes : List ℕ) → AreBelow bytes → length (text_digits bytes) ≡ length bytes + 1
length_text [] are = refl
length_text (b ∷ bytes) are = let e = ap length (first_byte b bytes are.0) in let p = length_text bytes are.1 in omega arith

are_text_seven : (text : List ℕ) → onto 7 128 (text_digits text) < 2 ^ 64
are_text_seven text = let l = at_most 7 128 (text_digits text) (are_text text) in let m : most 7 128 < 2 ^ 64 = omega arith in omega arith

-- what is one more in each of n digits
abbrev pub ones : ℕ → ℕ
ones zero = 0
ones (suc n) = unit n + ones n

abbrev Ones : ℕ
Ones = 282578800148737

ones_first : (n j : ℕ) → n + j ≡ 7 → Ones / unit j ≡ ones n
ones_first n j e = let rest : j ≡ 7 - n = omega arith in ap (λ k. Ones / unit k) rest ∙ first n (omega arith)
  where
    first : (n : ℕ) → n ≤ 7 → Ones / unit (7 - n) ≡ ones n
    first zero h = refl
    first (suc zero) h = refl
    first (suc (suc zero)) h = refl
    first (suc (suc (suc zero))) h = refl
    first (suc (suc (suc (suc zero)))) h = refl
    first (suc (suc (suc (suc (suc zero))))) h = refl
    first (suc (suc (suc (suc (suc (suc zero)))))) h = refl
    first (suc (suc (suc (suc (suc (suc (suc zero))))))) h = refl
    first (suc (suc (suc (suc (suc (suc (suc (suc n)))))))) h = absurd (omega arith)

-- n digits are all, or all that are wanted
abbrev Covers : ℕ → ℕ → List ℕ → Type 0
Covers n j bytes = (j ≡ 0) ⊎ (n ≡ length bytes)

covers_rest : (n j b : ℕ) (bytes : List ℕ) → Covers (suc n) j (b ∷ bytes) → Covers n j bytes
covers_rest n j b bytes (inl e) = inl e
covers_rest n j b bytes (inr e) = inr (let f : suc n ≡ suc (length bytes) = e in omega arith)

-- zeros stand behind them
padded : (m n j a : ℕ) (bytes : List ℕ) → m ≡ n + j → n ≤ length bytes → Covers n j bytes → onto m a bytes ≡ onto n a bytes * unit j
padded m zero j a bytes e h (inl z) =
    let none : m ≡ zero = omega arith in
    let u : a * unit zero ≡ a * unit j = ap (λ k. a * unit k) (sym z) in
    ap (λ k. onto k a bytes) none ∙ omega arith
padded m zero j a [] e h (inr z) = let all : m ≡ j = omega arith in ap (λ k. onto k a []) all ∙ onto_none j a
padded m zero j a (b ∷ bytes) e h (inr z) = absurd (let f : zero ≡ suc (length bytes) = z in omega arith)
padded m (suc n) j a [] e h c = absurd (omega arith)
padded zero (suc n) j a (b ∷ bytes) e h c = absurd (omega arith)
padded (suc m) (suc n) j a (b ∷ bytes) e h c = padded m n j (a * 256 + b) bytes (omega arith) (omega arith) (covers_rest n j b bytes c)

-- the same where each is one less than a digit
raised : (m n j a : ℕ) (bytes : List ℕ) → m ≡ n + j → n ≤ length bytes → Covers n j bytes → AreBelow bytes → onto m a (text_digits bytes) ≡ (onto n a bytes + ones n) * unit j
raised m zero j a bytes e h (inl z) are =
    let none : m ≡ zero = omega arith in
    let u : (a + 0) * unit zero ≡ (a + 0) * unit j = ap (λ k. (a + 0) * unit k) (sym z) in
    ap (λ k. onto k a (text_digits bytes)) none ∙ omega arith
raised m zero j a [] e h (inr z) are = let all : m ≡ j = omega arith in ap (λ k. onto k a (0 ∷ [])) all ∙ zeros j ∙ omega arith
  where
    zeros : (k : ℕ) → onto k a (0 ∷ []) ≡ a * unit k
    zeros zero = omega arith
    zeros (suc k) = let p = onto_none k (a * 256 + 0) in omega arith
raised m zero j a (b ∷ bytes) e h (inr z) are = absurd (let f : zero ≡ suc (length bytes) = z in omega arith)
raised m (suc n) j a [] e h c are = absurd (omega arith)
raised zero (suc n) j a (b ∷ bytes) e h c are = absurd (omega arith)
raised (suc m) (suc n) j a (b ∷ bytes) e h c are =
    let p = onto_split n (a * 256 + (b + 1)) bytes in
    let q = onto_split n (a * 256 + b) bytes in
    let same : onto n (a * 256 + (b + 1)) bytes + ones n ≡ onto n (a * 256 + b) bytes + (unit n + ones n) = omega arith in
    ap (onto (suc m) a) (first_byte b bytes are.0)
    ∙ raised m n j (a * 256 + (b + 1)) bytes (omega arith) (omega arith) (covers_rest n j b bytes c) are.1
    ∙ ap (λ k. k * unit j) same

unit_add : (n j : ℕ) → unit n * unit j ≡ unit (n + j)
unit_add n j =
    let p = unit_power n in
    let q = unit_power j in
    ap₂ (λ (x y : ℕ). x * y) p q ∙ sym (pow-add 2 (8 * n) (8 * j)) ∙ ap (λ k. 2 ^ k) {x = 8 * n + 8 * j} {y = 8 * (n + j)} (omega arith) ∙ sym (unit_power (n + j))

-- the front of a text, raised, makes its digits
pub of_front : (text : List ℕ) (seen front : ℕ) → AreBelow text → seen ≡ min (length text) 7 → front ≡ onto 7 0 text
    → 2 ^ 63 + front + Ones / 2 ^ (8 * (7 - seen)) * 2 ^ (8 * (7 - seen)) % 2 ^ 64 ≡ onto 7 128 (text_digits text)
of_front text n front are is shown =
    let j = 7 - n in
    let whole : 7 ≡ n + j = omega arith in
    let c = covers (leb_tells 7 (length text)) in
    let r = raised 7 n j 128 text whole (omega arith) c are in
    let p = padded 7 n j 0 text whole (omega arith) c in
    let s = onto_split n 128 text in
    let o = ones_first n j (omega arith) in
    let u = unit_add n j ∙ ap unit {x = n + j} {y = 7} (omega arith) in
    let w : unit 7 ≡ 2 ^ 56 = refl in
    let d : Ones / unit j * unit j ≡ ones n * unit j = ap (λ k. k * unit j) o in
    let l : onto 7 128 (text_digits text) ≡ 128 * unit 7 + onto 7 0 text + ones n * unit j = r ∙ sum u s p in
    let b = div-mul-le_self Ones (unit j) in
    let m : Ones / unit j * unit j % 2 ^ 64 ≡ Ones / unit j * unit j = mod-eq_of_lt (omega arith) in
    ap (λ k. 2 ^ 63 + front + Ones / k * k % 2 ^ 64) (sym (unit_power j)) ∙ omega arith
  where
    covers : ((leb 7 (length text) ≡ true) × (7 ≤ length text)) ⊎ ((leb 7 (length text) ≡ false) × (length text < 7)) → Covers n (7 - n) text
    covers (inl e) = inl (let f = e.1 in omega arith)
    covers (inr e) = inr (let f = e.1 in omega arith)

    sum : unit n * unit (7 - n) ≡ unit 7 → onto n 128 text ≡ 128 * unit n + onto n 0 text → onto 7 0 text ≡ onto n 0 text * unit (7 - n)
        → (onto n 128 text + ones n) * unit (7 - n) ≡ 128 * unit 7 + onto 7 0 text + ones n * unit (7 - n)
    sum u s p = ap (λ k. (k + ones n) * unit (7 - n)) s ∙ grind (arith, u, p)

pub front_fits : (text : List ℕ) (front more : ℕ) → 2 ^ 63 + front + more ≡ onto 7 128 (text_digits text) → 2 ^ 63 + front + more < 2 ^ 64
front_fits text front more e = let q = are_text_seven text in omega arith

-- with no digits wanted, or none there, nothing is added
pub none_wanted : (k number abbreviation : ℕ) (digits : List ℕ) → k ≡ 0 → number + onto k 0 digits ≡ abbreviation → number ≡ abbreviation
none_wanted k number abbreviation digits e same = let z : onto k 0 digits ≡ onto 0 0 digits = ap (λ n. onto n 0 digits) e in omega arith

pub none_there : (values : List Value) (i used number : ℕ) → length values ≤ i → number + onto (8 - used) 0 (row_digits (drop i values)) ≡ row_abbreviation values → number ≡ row_abbreviation values
none_there values i used number h same =
    let e : onto (8 - used) 0 (row_digits (drop i values)) ≡ onto (8 - used) 0 [] = ap (λ l. onto (8 - used) 0 (row_digits l)) (drop_all i values h) in
    let n = onto_none (8 - used) 0 in
    omega arith
