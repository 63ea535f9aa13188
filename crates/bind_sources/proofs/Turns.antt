-- What entries list, as far as a loop has come.
use Rattle.std.proofs.Common.{◌≡◌, ℕ, ◌+◌, ◌<◌, List, [], ◌∷◌, ◌++◌, length, drop, get_or, Ok, ap, sym, ◌∙◌}
use Rattle.std.proofs.lemmas.List.{at_drop_more}
use Rattle.query_answer.specs.Answer.{listed_calls}
use Rattle.binding.specs.Checked.{Checked, ◌>>=◌}
use Rattle.binding.specs.Nodes.{Bound}
use Rattle.binding.specs.Queries.{Lister, in_turn}
use Rattle.bind_names.specs.declared.entries.Entry.{Entry}
use Rattle.bind_names.specs.Entries.{entries_view, listed_view}
use Rattle.bind_sources.proofs.Behind.{behind, one_behind}

abbrev pub turns_from : Lister → ℕ → List Entry → Checked (List Bound)
turns_from list n xs = in_turn list n (entries_view xs)

abbrev turned : Lister → ℕ → Entry → List Entry → Checked Bound → Checked (List Bound)
turned list n x xs r = r >>= λ a. turns_from list (n + length (listed_calls (listed_view x.listed))) xs >>= λ bs. Ok (a ∷ bs)

turns_step : (list : Lister) (n : ℕ) (xs : List Entry) (i : ℕ) (x : Entry) → i < length xs → x ≡ get_or xs i x → turns_from list n (drop i xs) ≡ turned list n x (drop (i + 1) xs) (list n (listed_view x.listed))
turns_step list n xs i x l h = at_drop_more (turns_from list n) xs i x l ∙ ap (λ y. turns_from list n (y ∷ drop (i + 1) xs)) (sym h)

module _ (list : Lister) (n : ℕ) (whole : Checked (List Bound)) (xs : List Entry) (i : ℕ) (bs : List Bound) (from : whole ≡ behind bs (turns_from list n (drop i xs))) where
  pub turns_turn : (x : Entry) (a : Bound) (m : ℕ) (more : List Bound) → i < length xs → x ≡ get_or xs i x → list n (listed_view x.listed) ≡ Ok a → m ≡ n + length (listed_calls (listed_view x.listed)) → more ≡ bs ++ a ∷ []
      → whole ≡ behind more (turns_from list m (drop (i + 1) xs))
  turns_turn x a m more l h k e p =
      from ∙ ap (behind bs) (turns_step list n xs i x l h ∙ ap (turned list n x (drop (i + 1) xs)) k)
      ∙ one_behind bs a (turns_from list (n + length (listed_calls (listed_view x.listed))) (drop (i + 1) xs))
      ∙ (λ j. behind (sym p j) (turns_from list (sym e j) (drop (i + 1) xs)))
