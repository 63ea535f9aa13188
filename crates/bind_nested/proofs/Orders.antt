-- The columns of OVER, as far as a loop has come.
use Rattle.std.proofs.Common.{◌≡◌, ℕ, ◌+◌, ◌<◌, List, [], ◌∷◌, ◌++◌, length, drop, get_or, Ok, Err, refl, sym, ap, ◌∙◌}
use Rattle.std.proofs.lemmas.List.{at_drop_more}
use Rattle.ct_value.specs.declared.codes.ScriptCode.{ScriptCode}
use Rattle.rel_algebra.specs.declared.sort.SortCol.{SortCol}
use Rattle.sql_syntax.specs.Tree as t
use Rattle.sql_syntax.specs.View.{sort_view, sorts_view}
use Rattle.sql_syntax.specs.declared.tree.Sort.{Sort}
use Rattle.query_answer.specs.Joins.{plain_column}
use Rattle.query_answer.specs.Names.{Scope, find}
use Rattle.binding.specs.Checked.{Checked, ◌>>=◌}
use Rattle.binding.specs.Queries.{plain_place, sorts_bound}
use Rattle.bind_nested.specs.Sorts.{sort_bound}
use Rattle.bind_nested.proofs.Behind.{behind, one_behind}

abbrev pub each_sort : Scope → List t.Sort → Checked (List SortCol)
each_sort scope xs = sorts_bound scope (t.sort_list xs)

-- one column, and then the others
one_more : (scope : Scope) (x : t.Sort) (xs : List t.Sort) → each_sort scope (x ∷ xs) ≡ (sort_bound scope x >>= λ s. each_sort scope xs >>= λ ss. Ok (s ∷ ss))
one_more scope (t.sort_of x desc) xs = go (plain_place (plain_column (find scope) x))
  where
    go : (o : Checked ℕ) → (o >>= λ n. each_sort scope xs >>= λ sorts. Ok (record { col = n; desc = desc } ∷ sorts)) ≡ (o >>= (λ n. Ok (record { col = n; desc = desc })) >>= λ s. each_sort scope xs >>= λ ss. Ok (s ∷ ss))
    go (Ok n) = refl
    go (Err code) = refl

sorts_step : (scope : Scope) (xs : List Sort) (i : ℕ) (x : Sort) → i < length xs → x ≡ get_or xs i x
    → each_sort scope (sorts_view (drop i xs)) ≡ (sort_bound scope (sort_view x) >>= λ s. each_sort scope (sorts_view (drop (i + 1) xs)) >>= λ ss. Ok (s ∷ ss))
sorts_step scope xs i x l h =
    at_drop_more (λ ys. each_sort scope (sorts_view ys)) xs i x l ∙ ap (λ y. each_sort scope (sorts_view (y ∷ drop (i + 1) xs))) (sym h)
    ∙ one_more scope (sort_view x) (sorts_view (drop (i + 1) xs))

module _ (scope : Scope) (whole : Checked (List SortCol)) (xs : List Sort) (i : ℕ) (ss : List SortCol) (from : whole ≡ behind ss (each_sort scope (sorts_view (drop i xs)))) where
  abbrev rest : SortCol → Checked (List SortCol)
  rest s = each_sort scope (sorts_view (drop (i + 1) xs)) >>= λ ss. Ok (s ∷ ss)

  pub sorts_failed : (x : Sort) (code : ScriptCode) → i < length xs → x ≡ get_or xs i x → sort_bound scope (sort_view x) ≡ Err code → whole ≡ Err code
  sorts_failed x code l h k = from ∙ ap (behind ss) (sorts_step scope xs i x l h ∙ ap (λ r. r >>= rest) k)

  pub sorts_turn : (x : Sort) (s : SortCol) (more : List SortCol) → i < length xs → x ≡ get_or xs i x → sort_bound scope (sort_view x) ≡ Ok s → more ≡ ss ++ s ∷ [] → whole ≡ behind more (each_sort scope (sorts_view (drop (i + 1) xs)))
  sorts_turn x s more l h k p =
      from ∙ ap (behind ss) (sorts_step scope xs i x l h ∙ ap (λ r. r >>= rest) k)
      ∙ one_behind ss s (each_sort scope (sorts_view (drop (i + 1) xs))) ∙ ap (λ rs. behind rs (each_sort scope (sorts_view (drop (i + 1) xs)))) (sym p)
