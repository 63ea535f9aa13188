-- Columns from the first on.
use Rattle.std.proofs.Common.{◌≡◌, ℕ, zero, suc, ◌+◌, List, [], ◌∷◌, ◌++◌, ap, ◌∙◌, arith}
use Rattle.std.specs.List.{range_with_len}
use Rattle.column_sets.specs.Places.{first_columns}

range_more : (from n : ℕ) → range_with_len from (suc n) ≡ range_with_len from n ++ (from + n) ∷ []
range_more from zero = let e : from ≡ from + 0 = omega arith in ap (λ k. k ∷ []) e
range_more from (suc n) =
    let e : from + 1 + n ≡ from + suc n = omega arith in
    ap (λ (ks : List ℕ). from ∷ ks) (range_more (from + 1) n ∙ ap (λ k. range_with_len (from + 1) n ++ k ∷ []) e)

-- one column more stands behind the others
pub one_more : (n : ℕ) → first_columns (suc n) ≡ first_columns n ++ n ∷ []
one_more n = let z : 0 + n ≡ n = omega arith in range_more 0 n ∙ ap (λ k. first_columns n ++ k ∷ []) z

pub columns_more : (n : ℕ) → first_columns (n + 1) ≡ first_columns n ++ n ∷ []
columns_more n = let e : n + 1 ≡ suc n = omega arith in ap first_columns e ∙ one_more n
