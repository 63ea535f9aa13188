-- The first columns of a row.
use Rattle.std.proofs.Common.{◌≡◌, ℕ, zero, suc, ◌<◌, ◌≤◌, List, [], ◌∷◌, ◌++◌, length, take, refl, sym, ap, ◌∙◌, arith, slice_index_or}
use Rattle.ct_value.specs.Rows.{project}
use Rattle.ct_value.specs.declared.row.Row.{Row}
use Rattle.ct_value.specs.declared.value.Value.TheVariants.{Null}
use Rattle.column_sets.specs.Places.{first_columns}
use Rattle.column_sets.proofs.laws.Ranges.{one_more}

project-append : (a b : List ℕ) (row : Row) → project (a ++ b) row ≡ project a row ++ project b row
project-append [] b row = refl
project-append (x ∷ a) b row = ap (λ r. slice_index_or row x Null ∷ r) (project-append a b row)

take-one_more : (row : Row) (n : ℕ) → n < length row → take n row ++ slice_index_or row n Null ∷ [] ≡ take (suc n) row
take-one_more [] n l = absurd (omega arith)
take-one_more (x ∷ row) zero l = refl
take-one_more (x ∷ row) (suc n) l = ap (λ r. x ∷ r) (take-one_more row n (omega arith))

one_more_value : (n : ℕ) (row : Row) → project (first_columns (suc n)) row ≡ project (first_columns n) row ++ slice_index_or row n Null ∷ []
one_more_value n row = ap (λ columns. project columns row) (one_more n) ∙ project-append (first_columns n) (n ∷ []) row

pub project-first : (keys : ℕ) (row : Row) → keys ≤ length row → project (first_columns keys) row ≡ take keys row
project-first zero row l = refl
project-first (suc n) row l =
    one_more_value n row
    ∙ (ap (λ r. r ++ slice_index_or row n Null ∷ []) (project-first n row (omega arith)) ∙ take-one_more row n (omega arith))

-- the first columns are those of the front, of whatever length
index-take : (row : Row) (n m : ℕ) → n < m → slice_index_or row n Null ≡ slice_index_or (take m row) n Null
index-take row n zero l = absurd (omega arith)
index-take [] n (suc m) l = refl
index-take (x ∷ row) zero (suc m) l = refl
index-take (x ∷ row) (suc n) (suc m) l = index-take row n m (omega arith)

pub project-taken : (n keys : ℕ) (row : Row) → n ≤ keys → project (first_columns n) row ≡ project (first_columns n) (take keys row)
project-taken zero keys row l = refl
project-taken (suc n) keys row l =
    one_more_value n row
    ∙ (ap (λ r. r ++ slice_index_or row n Null ∷ []) (project-taken n keys row (omega arith))
    ∙ (ap (λ v. project (first_columns n) (take keys row) ++ v ∷ []) (index-take row n keys (omega arith))
    ∙ sym (one_more_value n (take keys row))))
