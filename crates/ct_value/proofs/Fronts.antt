-- The first seven bytes of a text as one number.
use Rattle.std.proofs.Common.{◌≡◌, ℕ, zero, suc, ◌+◌, ◌-◌, ◌*◌, ◌/◌, ◌%◌, ◌^◌, ◌<◌, ◌≤◌, ◌⊎◌, min, true, false, leb, inl, inr, List, [], ◌∷◌, length, get_or, take, refl, sym, ap, ◌∙◌, arith}
use Rattle.std.proofs.lemmas.Bool.Decides.{leb_tells}
use Rattle.std.proofs.Math.Nat.{div-mul-le_self, mod-eq_of_lt}
use Rattle.ct_value.specs.Abbreviations.{unit}
use Rattle.ct_value.proofs.Abbreviations.{onto, AreDigits, unit_follows}
use Rattle.ct_value.proofs.Heads.{onto_none, fewer, unit_power}

pub front_more : (i a : ℕ) (bytes : List ℕ) → onto (suc i) a bytes ≡ onto i a bytes * 256 + get_or bytes i 0
front_more zero a [] = omega arith
front_more zero a (b ∷ bytes) = omega arith
front_more (suc i) a [] = front_more i (a * 256 + 0) []
front_more (suc i) a (b ∷ bytes) = front_more i (a * 256 + b) bytes

-- a turn of the loop
pub front_turn : (bytes : List ℕ) (i number byte : ℕ) → byte ≡ get_or bytes i 0 → byte < 256 → number ≡ onto i 0 bytes → number < unit i
    → record { same : number * 256 + byte ≡ onto (i + 1) 0 bytes; fits : number * 256 + byte < unit (i + 1) }
front_turn bytes i number byte is small same fits =
    let s : suc i ≡ i + 1 = omega arith in
    let f = front_more i 0 bytes in
    let o : onto (suc i) 0 bytes ≡ onto (i + 1) 0 bytes = ap (λ k. onto k 0 bytes) s in
    let u : unit (suc i) ≡ unit (i + 1) = ap unit s in
    let v : unit (suc i) ≡ unit i * 256 = refl in
    record { same = omega arith; fits = omega arith }

pub room : (i number : ℕ) → i < 7 → number < unit i → number < 2 ^ 48
room i number few fits = let u = unit_follows i 6 (omega arith) in let m : unit 6 ≡ 2 ^ 48 = refl in omega arith

are_from : (bytes : List ℕ) → ((i : ℕ) → get_or bytes i 0 < 256) → AreDigits bytes
are_from [] h = tt
are_from (b ∷ bytes) h = (h 0, are_from bytes (λ i. h (suc i)))

-- n digits are all that are taken, or all that are wanted
cut : (m n j a len : ℕ) (bytes : List ℕ) → m ≡ n + j → n ≤ length bytes → n ≤ len → (j ≡ 0) ⊎ (n ≡ len) → onto m a (take len bytes) ≡ onto n a bytes * unit j
cut m zero j a len bytes e h few (inl z) =
    let none : m ≡ zero = omega arith in
    let u : a * unit zero ≡ a * unit j = ap (λ k. a * unit k) (sym z) in
    ap (λ k. onto k a (take len bytes)) none ∙ omega arith
cut m zero j a zero bytes e h few (inr z) = let all : m ≡ j = omega arith in ap (λ k. onto k a []) all ∙ onto_none j a
cut m zero j a (suc len) bytes e h few (inr z) = absurd (omega arith)
cut m (suc n) j a len [] e h few c = absurd (omega arith)
cut m (suc n) j a zero (b ∷ bytes) e h few c = absurd (omega arith)
cut zero (suc n) j a (suc len) (b ∷ bytes) e h few c = absurd (omega arith)
cut (suc m) (suc n) j a (suc len) (b ∷ bytes) e h few c = cut m n j (a * 256 + b) len bytes (omega arith) (omega arith) (omega arith) (before c)
  where
    before : (j ≡ 0) ⊎ (suc n ≡ suc len) → (j ≡ 0) ⊎ (n ≡ len)
    before (inl z) = inl z
    before (inr z) = inr (omega arith)

seven : (bytes : List ℕ) → onto 7 0 bytes ≡ get_or bytes 0 0 * 2 ^ 48 + get_or bytes 1 0 * 2 ^ 40 + get_or bytes 2 0 * 2 ^ 32 + get_or bytes 3 0 * 2 ^ 24 + get_or bytes 4 0 * 2 ^ 16 + get_or bytes 5 0 * 2 ^ 8 + get_or bytes 6 0
seven bytes =
    let a = front_more 0 0 bytes in
    let b = front_more 1 0 bytes in
    let c = front_more 2 0 bytes in
    let d = front_more 3 0 bytes in
    let e = front_more 4 0 bytes in
    let f = front_more 5 0 bytes in
    let g = front_more 6 0 bytes in
    let z : onto 0 0 bytes ≡ 0 = refl in
    omega arith

-- what eight bytes hold, cut to those that are a text's
pub near_is : (bytes : List ℕ) (len eight shown : ℕ) → length bytes ≡ 22 → ((i : ℕ) → get_or bytes i 0 < 256) → shown ≡ min len 7
    → eight ≡ get_or bytes 0 0 * 2 ^ 56 + get_or bytes 1 0 * 2 ^ 48 + get_or bytes 2 0 * 2 ^ 40 + get_or bytes 3 0 * 2 ^ 32 + get_or bytes 4 0 * 2 ^ 24 + get_or bytes 5 0 * 2 ^ 16 + get_or bytes 6 0 * 2 ^ 8 + get_or bytes 7 0
    → eight / 256 / 2 ^ (8 * (7 - shown)) * 2 ^ (8 * (7 - shown)) % 2 ^ 64 ≡ onto 7 0 (take len bytes)
near_is bytes len eight n long are is holds =
    let j = 7 - n in
    let s = seven bytes in
    let l = are 7 in
    let q : eight / 256 ≡ onto 7 0 bytes = omega arith in
    let w : onto 7 0 bytes / unit j * unit j ≡ onto n 0 bytes * unit j = ap (λ k. k * unit j) (fewer 7 n j 0 bytes (omega arith) (are_from bytes are)) in
    let c = cut 7 n j 0 len bytes (omega arith) (omega arith) (omega arith) (covers (leb_tells 7 len)) in
    let b = div-mul-le_self (onto 7 0 bytes) (unit j) in
    let t = sizes in
    let m : onto 7 0 bytes / unit j * unit j % 2 ^ 64 ≡ onto 7 0 bytes / unit j * unit j = mod-eq_of_lt (omega arith) in
    ap (λ k. eight / 256 / k * k % 2 ^ 64) (sym (unit_power j)) ∙ ap (λ k. k / unit j * unit j % 2 ^ 64) q ∙ m ∙ w ∙ sym c
  where
    covers : ((leb 7 len ≡ true) × (7 ≤ len)) ⊎ ((leb 7 len ≡ false) × (len < 7)) → (7 - n ≡ 0) ⊎ (n ≡ len)
    covers (inl e) = inl (let f = e.1 in omega arith)
    covers (inr e) = inr (let f = e.1 in omega arith)

    sizes : onto 7 0 bytes < 2 ^ 56
    sizes =
        let s = seven bytes in
        let a0 = are 0 in
        let a1 = are 1 in
        let a2 = are 2 in
        let a3 = are 3 in
        let a4 = are 4 in
        let a5 = are 5 in
        let a6 = are 6 in
        omega arith
