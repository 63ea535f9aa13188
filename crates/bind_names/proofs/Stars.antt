-- The columns of a star, as far as a loop has come.
use Rattle.std.proofs.Common.{◌≡◌, ℕ, suc, ◌+◌, ◌<◌, true, false, cond, List, ◌∷◌, length, drop, get_or, sym, ap, ◌∙◌, arith}
use Rattle.std.proofs.lemmas.List.{at_drop_more}
use Rattle.query_answer.specs.declared.scope.ScopeColumn.{ScopeColumn}
use Rattle.query_answer.specs.Answer.{Placed, placed_of}
use Rattle.query_answer.specs.Names.{is_called}

step : (source : List ℕ) (n m : ℕ) (xs : List ScopeColumn) (i : ℕ) (x : ScopeColumn) → i < length xs → x ≡ get_or xs i x → m ≡ n + 1
    → placed_of source n (drop i xs) ≡ cond (is_called source x.source) (record { listed = Placed n; name = x.name } ∷ placed_of source m (drop (i + 1) xs)) (placed_of source m (drop (i + 1) xs))
step source n m xs i x l h k =
    at_drop_more (λ ys. placed_of source n ys) xs i x l ∙ ap (λ y. placed_of source n (y ∷ drop (i + 1) xs)) (sym h)
    ∙ ap (λ j. cond (is_called source x.source) (record { listed = Placed n; name = x.name } ∷ placed_of source j (drop (i + 1) xs)) (placed_of source j (drop (i + 1) xs))) (let one : suc n ≡ m = omega arith in one)

pub own : (source : List ℕ) (n m : ℕ) (xs : List ScopeColumn) (i : ℕ) (x : ScopeColumn) → i < length xs → x ≡ get_or xs i x → m ≡ n + 1 → is_called source x.source ≡ true
    → placed_of source n (drop i xs) ≡ record { listed = Placed n; name = x.name } ∷ placed_of source m (drop (i + 1) xs)
own source n m xs i x l h k e =
    step source n m xs i x l h k ∙ ap (λ b. cond b (record { listed = Placed n; name = x.name } ∷ placed_of source m (drop (i + 1) xs)) (placed_of source m (drop (i + 1) xs))) e

pub other : (source : List ℕ) (n m : ℕ) (xs : List ScopeColumn) (i : ℕ) (x : ScopeColumn) → i < length xs → x ≡ get_or xs i x → m ≡ n + 1 → is_called source x.source ≡ false
    → placed_of source n (drop i xs) ≡ placed_of source m (drop (i + 1) xs)
other source n m xs i x l h k e =
    step source n m xs i x l h k ∙ ap (λ b. cond b (record { listed = Placed n; name = x.name } ∷ placed_of source m (drop (i + 1) xs)) (placed_of source m (drop (i + 1) xs))) e
