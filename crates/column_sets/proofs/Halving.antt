-- What halving finds in ascending columns.
use Rattle.std.proofs.Common.{◌≡◌, ◌==◌, ◌<◌, ◌≤◌, ℕ, true, false, List, length, get_or, sym, arith}
use Rattle.std.specs.List.{list_any}
use Rattle.std.specs.Prelude.{Result, Ok, Err}
use Rattle.std.specs.Result.{MatchResult, is_ok}
use Rattle.std.proofs.lemmas.Grind.{common_steps}
use Rattle.std.proofs.lemmas.List.Folds.{list_any_at, list_any_none}
use Rattle.std.proofs.lemmas.List.Elements.{All-from_get_or}

pub found_any : (cols : List ℕ) (col i : ℕ) → i < length cols → get_or cols i 0 ≡ col → list_any (λ other. other == col) cols ≡ true
found_any cols col i h e = list_any_at (λ other. other == col) cols i 0 h (grind (arith, common_steps, e))

apart : (cols : List ℕ) (col i k : ℕ) → ((k : ℕ) → k < i → get_or cols k 0 < col) → ((k : ℕ) → i ≤ k → k < length cols → col < get_or cols k 0) → k < length cols → (get_or cols k 0 == col) ≡ false
apart cols col i k below above h = grind (arith, common_steps, below k, above k)

pub none_any : (cols : List ℕ) (col i : ℕ) → ((k : ℕ) → k < i → get_or cols k 0 < col) → ((k : ℕ) → i ≤ k → k < length cols → col < get_or cols k 0) → list_any (λ other. other == col) cols ≡ false
none_any cols col i below above = list_any_none (λ other. other == col) cols (All-from_get_or (λ other. (other == col) ≡ false) cols 0 (λ k h. apart cols col i k below above h))

-- the answer of a halving is whether the column is there
pub halved : (cols : List ℕ) (col : ℕ) (r : Result ℕ ℕ) → MatchResult r (λ i. (i < length cols) × (get_or cols i 0 ≡ col)) (λ i. (i ≤ length cols) × ((k : ℕ) → k < i → get_or cols k 0 < col) × ((k : ℕ) → i ≤ k → k < length cols → col < get_or cols k 0)) → is_ok r ≡ list_any (λ other. other == col) cols
halved cols col (Ok i) (h, e) = sym (found_any cols col i h e)
halved cols col (Err i) (h, below, above) = sym (none_any cols col i below above)
