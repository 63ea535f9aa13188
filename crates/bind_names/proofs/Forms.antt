-- The form of a select and of a query, by their lists.
use Rattle.std.proofs.Common.{◌≡◌, ◌==◌, true, false, ◌&&◌, List, [], ◌∷◌, length, map, Some, None, refl, sym, ap, ◌∙◌, arith}
use Rattle.std.proofs.lemmas.Bool.Decides.{nat_tests}
use Rattle.sql_syntax.specs.Tree as t
use Rattle.sql_syntax.specs.View.{query_view, select_tails_view, sorts_view, term_tails_view, trees_view}
use Rattle.sql_syntax.specs.declared.tree.Args.TheViews.{out-Query, out-Term}
use Rattle.sql_syntax.specs.declared.tree.Query.{Query}
use Rattle.sql_syntax.specs.declared.tree.SelectTail.{SelectTail}
use Rattle.sql_syntax.specs.declared.tree.Sort.{Sort}
use Rattle.sql_syntax.specs.declared.tree.TermTail.{TermTail}
use Rattle.sql_syntax.specs.declared.tree.Tree.{Tree}
use Rattle.sql_syntax.proofs.laws.Views.{query_parts}
use Rattle.query_answer.specs.Calls.{Call}
use Rattle.query_answer.specs.Forms.{has_groups, is_alone, is_plain, is_sole, none_behind}
use Rattle.bind_names.specs.declared.calls.CallRef.{CallRef}

some : {A : Type 0} (x : A) (xs : List A) → (length (x ∷ xs) == 0) ≡ false
some x xs = grind (arith, nat_tests)

pub no_groups : (xs : List Tree) → (length xs == 0) ≡ true → has_groups (t.trees (trees_view xs)) ≡ false
no_groups [] e = refl
no_groups (x ∷ xs) e = absurd (let h = some x xs in cc)

pub some_groups : (xs : List Tree) → (length xs == 0) ≡ false → has_groups (t.trees (trees_view xs)) ≡ true
some_groups [] e = absurd (cc)
some_groups (x ∷ xs) e = refl

-- the calls that were found are as many as the definition's
pub some_calls : (found : List CallRef) (cs : List Call) (view : CallRef → Call) → map view found ≡ cs → (length found == 0) ≡ (length cs == 0)
some_calls found cs view e = go found ∙ ap (λ ds. length ds == 0) e
  where
    go : (xs : List CallRef) → (length xs == 0) ≡ (length (map view xs) == 0)
    go [] = refl
    go (x ∷ xs) = some x xs ∙ sym (some (view x) (map view xs))

-- ---- a query

pub by_order : (xs : List Sort) → (length xs == 0) ≡ is_plain (t.sort_list (sorts_view xs)) None
by_order [] = refl
by_order (x ∷ xs) = some x xs

pub limited : (order : t.SortList) (limit : t.Text) → is_plain order (Some limit) ≡ false
limited t.no_sorts limit = refl
limited (t.sort_and x xs) limit = refl

behind_by : (xs : List SelectTail) (ts : List TermTail) → ((length xs == 0) && (length ts == 0)) ≡ none_behind (t.select_tails (select_tails_view xs)) (t.term_tails (term_tails_view ts))
behind_by [] [] = refl
behind_by [] (y ∷ ts) = ap (λ b. true && b) (some y ts)
behind_by (x ∷ xs) ts = ap (λ b. b && (length ts == 0)) (some x xs)

alone_by : (x : Query) → ((length (out-Term (out-Query x).first).rest == 0) && (length (out-Query x).rest == 0)) ≡ is_alone (query_view x)
alone_by x = behind_by (out-Term (out-Query x).first).rest (out-Query x).rest ∙ ap is_alone (sym (query_parts x))

pub alone_then : (x : Query) → (length (out-Term (out-Query x).first).rest == 0) ≡ true → (length (out-Query x).rest == 0) ≡ is_alone (query_view x)
alone_then x e = sym (ap (λ b. b && (length (out-Query x).rest == 0)) e) ∙ alone_by x

pub alone_else : (x : Query) → (length (out-Term (out-Query x).first).rest == 0) ≡ false → false ≡ is_alone (query_view x)
alone_else x e = sym (ap (λ b. b && (length (out-Query x).rest == 0)) e) ∙ alone_by x

sole_by : (x : Query) → (is_alone (query_view x) && is_plain (t.sort_list (sorts_view (out-Query x).order)) (out-Query x).limit) ≡ is_sole (query_view x)
sole_by x = ap (λ q. is_alone q && is_plain (t.sort_list (sorts_view (out-Query x).order)) (out-Query x).limit) (query_parts x) ∙ ap is_sole (sym (query_parts x))

pub sole_then : (x : Query) → is_alone (query_view x) ≡ true → is_plain (t.sort_list (sorts_view (out-Query x).order)) (out-Query x).limit ≡ is_sole (query_view x)
sole_then x e = sym (ap (λ b. b && is_plain (t.sort_list (sorts_view (out-Query x).order)) (out-Query x).limit) e) ∙ sole_by x

pub sole_else : (x : Query) → is_alone (query_view x) ≡ false → false ≡ is_sole (query_view x)
sole_else x e = sym (ap (λ b. b && is_plain (t.sort_list (sorts_view (out-Query x).order)) (out-Query x).limit) e) ∙ sole_by x
