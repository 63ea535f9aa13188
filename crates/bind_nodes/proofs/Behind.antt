-- What was bound so far, and then what is left.
use Rattle.std.proofs.Common.{◌≡◌, List, [], ◌∷◌, ◌++◌, Ok, Err, refl, ap, sym, append_assoc}
use Rattle.binding.specs.Checked.{Checked, ◌>>=◌}

-- these, and then those that are left
abbrev pub behind : {A : Type 0} → List A → Checked (List A) → Checked (List A)
behind xs (Ok ys) = Ok (xs ++ ys)
behind xs (Err code) = Err code

pub nothing_before : {A : Type 0} (r : Checked (List A)) → behind [] r ≡ r
nothing_before (Ok ys) = refl
nothing_before (Err code) = refl

pub one_behind : {A : Type 0} (xs : List A) (x : A) (r : Checked (List A)) → behind xs (r >>= λ ys. Ok (x ∷ ys)) ≡ behind (xs ++ x ∷ []) r
one_behind xs x (Ok ys) = ap Ok (sym (append_assoc xs (x ∷ []) ys))
one_behind xs x (Err code) = refl
