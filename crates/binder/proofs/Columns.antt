-- Columns that go into a sink's, as far as a loop has come.
use Rattle.std.proofs.Common.{◌≡◌, ℕ, suc, ◌+◌, ◌<◌, ◌≤◌, Bool, true, false, ◌&&◌, List, [], ◌∷◌, length, drop, get_or, map, refl, ap, sym, ◌∙◌}
use Rattle.std.proofs.lemmas.List.{at_drop_more, drop_all}
use Rattle.ct_catalog.specs.declared.table.ColDef.{ColDef}
use Rattle.query_answer.specs.declared.scope.ScopeColumn.{ScopeColumn}
use Rattle.query_answer.specs.Answer.{types}
use Rattle.rel_algebra.specs.GoesInto.{go_into, goes_into}

abbrev pub into_from : List ScopeColumn → List ColDef → ℕ → Bool
into_from xs ys i = go_into (types (drop i xs)) (map (λ c. c.ty) (drop i ys))

step : (xs : List ScopeColumn) (ys : List ColDef) (i : ℕ) (x : ScopeColumn) (y : ColDef) → i < length xs → i < length ys → x ≡ get_or xs i x → y ≡ get_or ys i y
    → into_from xs ys i ≡ (goes_into x.ty y.ty && into_from xs ys (i + 1))
step xs ys i x y l m h k =
    at_drop_more (λ zs. go_into (types zs) (map (λ c. c.ty) (drop i ys))) xs i x l ∙ ap (λ z. go_into (types (z ∷ drop (i + 1) xs)) (map (λ c. c.ty) (drop i ys))) (sym h)
    ∙ at_drop_more (λ zs. go_into (types (x ∷ drop (i + 1) xs)) (map (λ c. c.ty) zs)) ys i y m ∙ ap (λ z. go_into (types (x ∷ drop (i + 1) xs)) (map (λ c. c.ty) (z ∷ drop (i + 1) ys))) (sym k)

pub stops : (xs : List ScopeColumn) (ys : List ColDef) (i : ℕ) (x : ScopeColumn) (y : ColDef) → i < length xs → i < length ys → x ≡ get_or xs i x → y ≡ get_or ys i y → goes_into x.ty y.ty ≡ false
    → into_from xs ys i ≡ false
stops xs ys i x y l m h k e = step xs ys i x y l m h k ∙ ap (λ b. b && into_from xs ys (i + 1)) e

pub goes_on : (xs : List ScopeColumn) (ys : List ColDef) (i : ℕ) (x : ScopeColumn) (y : ColDef) → i < length xs → i < length ys → x ≡ get_or xs i x → y ≡ get_or ys i y → goes_into x.ty y.ty ≡ true
    → into_from xs ys i ≡ into_from xs ys (i + 1)
goes_on xs ys i x y l m h k e = step xs ys i x y l m h k ∙ ap (λ b. b && into_from xs ys (i + 1)) e

pub ends : (xs : List ScopeColumn) (ys : List ColDef) (i : ℕ) → length xs ≤ i → length ys ≤ i → into_from xs ys i ≡ true
ends xs ys i l m = ap (λ zs. go_into (types zs) (map (λ c. c.ty) (drop i ys))) (drop_all i xs l) ∙ ap (λ zs. go_into [] (map (λ c. c.ty) zs)) (drop_all i ys m)

no-and : (b : Bool) → (b && false) ≡ false
no-and true = refl
no-and false = refl

pub other_length : (xs : List ScopeColumn) (ys : List ColDef) → ¬ (length xs ≡ length ys) → go_into (types xs) (map (λ c. c.ty) ys) ≡ false
other_length [] [] h = absurd (h refl)
other_length [] (y ∷ ys) h = refl
other_length (x ∷ xs) [] h = refl
other_length (x ∷ xs) (y ∷ ys) h = ap (λ b. goes_into x.ty y.ty && b) (other_length xs ys (λ e. h (ap suc e))) ∙ no-and (goes_into x.ty y.ty)
