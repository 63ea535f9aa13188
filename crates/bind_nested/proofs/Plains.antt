-- Conjuncts within a subquery, and conjuncts that are all BOOLEAN.
use Rattle.std.proofs.Common.{◌≡◌, ℕ, ◌+◌, ◌<◌, ◌≤◌, Bool, true, false, ◌&&◌, List, ◌∷◌, length, drop, get_or, cond, sym, ap, ◌∙◌}
use Rattle.std.specs.List.{list_all}
use Rattle.std.proofs.lemmas.List.{at_drop_more, drop_all}
use Rattle.sql_syntax.specs.Tree.{Tree}
use Rattle.query_answer.specs.Names.{Scope}
use Rattle.query_answer.specs.Outside.{looks_outside}
use Rattle.binding.specs.Queries.{is_test, linked_part, own_part, within_part}
use Rattle.bind_nested.specs.declared.part.Part.{Part}
use Rattle.bind_nested.specs.PartViews.{part_view, parts_view}

pub linked : (outside own : Scope) (x : Tree) → looks_outside own x ≡ true → within_part outside own x ≡ linked_part outside own x
linked outside own x e = ap (λ b. cond b (linked_part outside own x) (own_part own x)) e

pub not_linked : (outside own : Scope) (x : Tree) → looks_outside own x ≡ false → within_part outside own x ≡ own_part own x
not_linked outside own x e = ap (λ b. cond b (linked_part outside own x) (own_part own x)) e

-- ---- as far as a loop has come

abbrev pub tests_from : List Part → Bool
tests_from ps = list_all is_test (parts_view ps)

step : (ps : List Part) (i : ℕ) (p : Part) → i < length ps → p ≡ get_or ps i p → tests_from (drop i ps) ≡ (is_test (part_view p) && tests_from (drop (i + 1) ps))
step ps i p l h = at_drop_more tests_from ps i p l ∙ ap (λ q. tests_from (q ∷ drop (i + 1) ps)) (sym h)

pub fails : (ps : List Part) (i : ℕ) (p : Part) → i < length ps → p ≡ get_or ps i p → is_test (part_view p) ≡ false → tests_from (drop i ps) ≡ false
fails ps i p l h e = step ps i p l h ∙ ap (λ b. b && tests_from (drop (i + 1) ps)) e

pub goes_on : (ps : List Part) (i : ℕ) (p : Part) → i < length ps → p ≡ get_or ps i p → is_test (part_view p) ≡ true → tests_from (drop i ps) ≡ tests_from (drop (i + 1) ps)
goes_on ps i p l h e = step ps i p l h ∙ ap (λ b. b && tests_from (drop (i + 1) ps)) e

pub ends : (ps : List Part) (i : ℕ) → length ps ≤ i → tests_from (drop i ps) ≡ true
ends ps i l = ap tests_from (drop_all i ps l)
