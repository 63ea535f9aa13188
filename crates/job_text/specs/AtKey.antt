-- What stands at a key's columns, among what stands at each column.
use Rattle.std.specs.Prelude.{ℕ, suc, cond, List, [], ◌∷◌}
use Rattle.ct_change.specs.KeyRows.{is_among}

-- in the order of the columns, which are numbered from this one on
abbrev pub at_key : {A : Type 0} → List ℕ → ℕ → List A → List A
at_key key column [] = []
at_key key column (x ∷ xs) = cond (is_among key column) (x ∷ at_key key (suc column) xs) (at_key key (suc column) xs)
