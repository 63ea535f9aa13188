-- Columns of entries, at the end of either list.
use Rattle.std.proofs.Common.{◌≡◌, ℕ, ◌≤◌, List, [], ◌∷◌, ◌++◌, length, drop, refl, ap, sym, ◌∙◌, append-nil}
use Rattle.std.proofs.lemmas.List.{drop_all}
use Rattle.binding.specs.Queries.{headed}
use Rattle.query_answer.specs.Answer as a
use Rattle.query_answer.specs.declared.scope.ScopeColumn.{ScopeColumn}
use Rattle.bind_nodes.specs.declared.bound.Bound.{Bound}
use Rattle.bind_nodes.specs.Views.{bounds_view}
use Rattle.bind_names.specs.declared.entries.Entry.{Entry}
use Rattle.bind_names.specs.Entries.{entries_view}

none-behind : (es : List a.Entry) → headed es [] ≡ []
none-behind [] = refl
none-behind (e ∷ es) = refl

module _ (es : List Entry) (bs : List Bound) (i : ℕ) (made whole : List ScopeColumn) (from : made ++ headed (entries_view (drop i es)) (bounds_view (drop i bs)) ≡ whole) where
  pub entries_end : length es ≤ i → made ≡ whole
  entries_end l = sym (append-nil made) ∙ ap (λ xs. made ++ headed (entries_view xs) (bounds_view (drop i bs))) (sym (drop_all i es l)) ∙ from

  pub bounds_end : length bs ≤ i → made ≡ whole
  bounds_end l = sym (append-nil made) ∙ ap (λ xs. made ++ xs) (sym (ap (λ xs. headed (entries_view (drop i es)) (bounds_view xs)) (drop_all i bs l) ∙ none-behind (entries_view (drop i es)))) ∙ from
