-- The first conjunct that sets a bound, as far as a loop has come.
use Rattle.std.proofs.Common.{◌≡◌, ℕ, suc, ◌+◌, ◌<◌, ◌≤◌, List, ◌∷◌, length, drop, map, get_or, Option, Some, None, sym, ap, ◌∙◌, arith}
use Rattle.std.proofs.lemmas.List.{at_drop_more, drop_all}
use Rattle.query_answer.specs.Names.{Lookup}
use Rattle.query_answer.specs.Ranks.{Top, bound_of, top_from, top_or}
use Rattle.bind_forms.specs.Views.{conjunct_view}
use Rattle.bind_forms.specs.declared.conjuncts.Conjunct.{Conjunct}

-- from the i-th conjunct on
abbrev pub from : Lookup → ℕ → List Conjunct → ℕ → Option Top
from look place xs i = top_from i look place (map conjunct_view (drop i xs))

step : (look : Lookup) (place : ℕ) (xs : List Conjunct) (i : ℕ) (x : Conjunct) → i < length xs → x ≡ get_or xs i x → from look place xs i ≡ top_or i (bound_of look place (conjunct_view x)) (top_from (suc i) look place (map conjunct_view (drop (i + 1) xs)))
step look place xs i x l h = at_drop_more (λ ys. top_from i look place (map conjunct_view ys)) xs i x l ∙ ap (λ y. top_from i look place (map conjunct_view (y ∷ drop (i + 1) xs))) (sym h)

pub here : (look : Lookup) (place : ℕ) (xs : List Conjunct) (i : ℕ) (x : Conjunct) (most : ℕ) → i < length xs → x ≡ get_or xs i x → bound_of look place (conjunct_view x) ≡ Some most → from look place xs i ≡ Some (record { conjunct = i; bound = most })
here look place xs i x most l h e = step look place xs i x l h ∙ ap (λ o. top_or i o (top_from (suc i) look place (map conjunct_view (drop (i + 1) xs)))) e

pub further : (look : Lookup) (place : ℕ) (xs : List Conjunct) (i : ℕ) (x : Conjunct) → i < length xs → x ≡ get_or xs i x → bound_of look place (conjunct_view x) ≡ None → from look place xs i ≡ from look place xs (i + 1)
further look place xs i x l h e =
    step look place xs i x l h
    ∙ ap (λ o. top_or i o (top_from (suc i) look place (map conjunct_view (drop (i + 1) xs)))) e
    ∙ ap (λ n. top_from n look place (map conjunct_view (drop (i + 1) xs))) (let k : suc i ≡ i + 1 = omega arith in k)

pub nowhere : (look : Lookup) (place : ℕ) (xs : List Conjunct) (i : ℕ) → length xs ≤ i → from look place xs i ≡ None
nowhere look place xs i l = ap (λ ys. top_from i look place (map conjunct_view ys)) (drop_all i xs l)
