-- Numbers of digits.
use Rattle.std.proofs.Common.{◌≡◌, ℕ, ◌+◌, ◌*◌, ◌-◌, ◌<◌, ◌≤◌, Bool, true, false, ◌&&◌, List, [], ◌∷◌, Some, None, refl, sym, ap, ◌∙◌, length, drop, drop-cons, get_or, suc, arith}
use Rattle.std.specs.Prelude.{nat_le, if◌then◌else◌}
use Rattle.std.specs.Str.{all_ascii_digits}
use Rattle.ct_catalog.specs.Numbers.{number_from, number_up_to}

-- more digits make no smaller number
pub number_from-le : (n : ℕ) (ds : List ℕ) → n ≤ number_from n ds
number_from-le n [] = omega arith
number_from-le n (d ∷ ds) = let h = number_from-le (n * 10 + (d - 48)) ds in omega arith

too_large : (most n : ℕ) (t : Bool) → most < n → None ≡ (if t && nat_le n most then Some n else None)
too_large most n true h = grind arith
too_large most n false h = refl

pub none_if_larger : (most n : ℕ) (rest digits : List ℕ) → most < n → number_from n rest ≡ number_from 0 digits → None ≡ number_up_to most digits
none_if_larger most n rest [] h e = refl
none_if_larger most n rest (d ∷ ds) h e =
    let k = number_from-le n rest in
    too_large most (number_from 0 (d ∷ ds)) (all_ascii_digits (d ∷ ds)) (omega arith)

pub none_if_no_digits : (most : ℕ) (digits : List ℕ) → all_ascii_digits digits ≡ false → None ≡ number_up_to most digits
none_if_no_digits most [] e = refl
none_if_no_digits most (d ∷ ds) e = sym (ap (λ t. if t && nat_le (number_from 0 (d ∷ ds)) most then Some (number_from 0 (d ∷ ds)) else None) e)

-- one digit more makes the number too large
pub none_after_digit : (most n m i : ℕ) (digits : List ℕ) → i < length digits → number_from n (drop i digits) ≡ number_from 0 digits → most < m → m ≡ n * 10 + (get_or digits i 0 - 48)
    → None ≡ number_up_to most digits
none_after_digit most n m i digits l same h e =
    let k : number_from m (drop (suc i) digits) ≡ number_from 0 digits = ap (λ j. number_from j (drop (suc i) digits)) e ∙ sym (ap (number_from n) (drop-cons digits i 0 l)) ∙ same in
    none_if_larger most m (drop (suc i) digits) digits h k
