-- The columns of a join of several inputs: a chain of inner joins, each input joined to those before it.
use Rattle.std.specs.Prelude.{ℕ, ◌+◌, ◌==◌, Bool, true, false, ◌&&◌, cond, List, [], ◌∷◌, ◌++◌, drop, length, map, slice_get, Option, Some, None}
use Rattle.std.specs.List.{list_any}
use Rattle.ct_value.specs.declared.ty.ColTy.{ColTy}
use Rattle.rel_algebra.specs.declared.join.Pair.{Pair}
use Rattle.rel_algebra.specs.Types.{pairs_fit}
use Rattle.plan_check.specs.declared.chains.Chain.{Chain}

-- the key of the first input: the left columns of the first pairs
abbrev pub left_column : Pair → ℕ
left_column pair = pair.left

-- the key of a further input, whose columns stand behind so many: the right columns of its pairs
abbrev pub right_key : ℕ → List Pair → List ℕ
right_key width pairs = map (λ pair. width + pair.right) pairs

abbrev pub is_column_in : ℕ → Option ℕ → Bool
is_column_in column None = false
is_column_in column (Some other) = other == column

-- the key has this column at this place
abbrev pub stands_at : ℕ → ℕ → List ℕ → Bool
stands_at place column key = is_column_in column (slice_get key place)

-- the left column of each pair is, at the pair's place, a column of one of these keys; places are counted from this one
abbrev pub follow : List (List ℕ) → ℕ → List Pair → Bool
follow keys place [] = true
follow keys place (pair ∷ pairs) = list_any (stands_at place pair.left) keys && follow keys (place + 1) pairs

-- so many pairs, of columns that are there and have common types, each by a key column of an earlier input
abbrev pub links : ℕ → List (List ℕ) → List ColTy → List ColTy → List Pair → Bool
links many keys joined input pairs = length pairs == many && (pairs_fit joined input pairs && follow keys 0 pairs)

-- the first input, with the left columns of the first pairs as its key; there is at least one pair
abbrev pub begun_by : List Pair → Option (List ColTy) → Option Chain
begun_by pairs None = None
begun_by pairs (Some first) = cond (length pairs == 0) None (Some (record { columns = first; keys = map left_column pairs ∷ []; pairs = length pairs }))

abbrev pub begun : List (List Pair) → List (Option (List ColTy)) → Option Chain
begun (pairs ∷ on) (first ∷ inputs) = begun_by pairs first
begun on inputs = None

-- with an input more, by pairs that link it
abbrev pub with_input : Chain → List ColTy → List Pair → Chain
with_input chain input pairs = record { columns = chain.columns ++ input; keys = chain.keys ++ right_key (length chain.columns) pairs ∷ []; pairs = chain.pairs }

abbrev pub longer : Chain → List Pair → Option (List ColTy) → Option Chain
longer chain pairs None = None
longer chain pairs (Some input) = cond (links chain.pairs chain.keys chain.columns input pairs) (Some (with_input chain input pairs)) None

-- the columns of a chain with these further inputs, each by its pairs
abbrev pub ended : Option Chain → List (List Pair) → List (Option (List ColTy)) → Option (List ColTy)
ended None on inputs = None
ended (Some chain) [] [] = Some chain.columns
ended (Some chain) [] (input ∷ inputs) = None
ended (Some chain) (pairs ∷ on) [] = None
ended (Some chain) (pairs ∷ on) (input ∷ inputs) = ended (longer chain pairs input) on inputs

-- those of inputs that are joined by these lists of pairs, one for each input but the first
abbrev pub chain_columns : List (List Pair) → List (Option (List ColTy)) → Option (List ColTy)
chain_columns on inputs = ended (begun on inputs) on (drop 1 inputs)
