-- Places among shapes, of which some are yet to be entered.
use Rattle.std.proofs.Common.{◌≡◌, ℕ, suc, ◌+◌, Bool, List, [], ◌∷◌, ◌++◌, Option, Some, None, true, false, cond, length, refl, sym, ap, ◌∙◌, arith}
use Rattle.std.specs.Str.{bytes_eq}
use Rattle.std.proofs.lemmas.Bool.Decides.{same_from_decides}
use Rattle.std.proofs.lemmas.Slice.Eq.{bytes_eq-Decides}
use Rattle.bind_shapes.specs.Codes.{place_in}

-- what is found among the first ones, or else among the others
abbrev pub first_of : Option ℕ → Option ℕ → Option ℕ
first_of (Some n) other = Some n
first_of None other = other

pub none_behind : (o : Option ℕ) → first_of o None ≡ o
none_behind (Some n) = refl
none_behind None = refl

through : (b : Bool) (n : ℕ) (o p : Option ℕ) → cond b (Some n) (first_of o p) ≡ first_of (cond b (Some n) o) p
through true n o p = refl
through false n o p = refl

pub last_entered : (n : ℕ) (ys : List (List ℕ)) (y x : List ℕ) (found : Option ℕ)
    → first_of (place_in n (ys ++ y ∷ []) x) found ≡ first_of (place_in n ys x) (cond (bytes_eq x y) (Some (n + length ys)) found)
last_entered n [] y x found =
    ap (λ k. first_of (cond (bytes_eq x y) (Some k) None) found) (let same : n ≡ n + 0 = omega arith in same) ∙ sym (through (bytes_eq x y) (n + 0) None found)
last_entered n (z ∷ ys) y x found =
    sym (through (bytes_eq x z) n (place_in (suc n) (ys ++ y ∷ []) x) found)
    ∙ ap (cond (bytes_eq x z) (Some n)) (last_entered (suc n) ys y x found
    ∙ ap (λ k. first_of (place_in (suc n) ys x) (cond (bytes_eq x y) (Some k) found)) (let same : suc n + length ys ≡ n + suc (length ys) = omega arith in same))
    ∙ through (bytes_eq x z) n (place_in (suc n) ys x) (cond (bytes_eq x y) (Some (n + suc (length ys))) found)

pub swapped : (xs ys : List ℕ) → bytes_eq xs ys ≡ bytes_eq ys xs
swapped xs ys =
    let other = bytes_eq-Decides ys xs in
    same_from_decides (bytes_eq xs ys) (bytes_eq ys xs) (bytes_eq-Decides xs ys) ((λ e. sym (other.0 e)), λ e. other.1 (sym e))
