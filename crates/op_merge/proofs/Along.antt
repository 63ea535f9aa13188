-- Partial rows of a group of which the first ones were merged.
use Rattle.std.proofs.Common.{◌≡◌, ℕ, ◌<◌, ◌+◌, ◌++◌, true, false, List, [], ◌∷◌, take, drop, length, sym, ap, subst, ◌∙◌, append_assoc, append-nil, slice_index_or}
use Rattle.std.proofs.lemmas.Bool.{and_from, and_left, and_parts, and_right}
use Rattle.std.proofs.lemmas.List.{drop_more, map-append, take-append-drop, take_more}
use Rattle.ct_value.specs.declared.value.Value.{Value}
use Rattle.ct_change.specs.declared.change.Change.{Change}
use Rattle.phase_rules.specs.LocalGrouping.{LocalGrouping}
use Rattle.phase_rules.specs.Merging.{within_after}
use Rattle.op_merge.specs.declared.kept.Kept.{Kept}
use Rattle.op_merge.specs.Kept.{IsKept, is_within}
use Rattle.op_merge.specs.Groups.{amounts_of}

module _ (g : LocalGrouping) (row : List Value) where
  -- a sum that stays within its limit with one row more
  within-push : (earlier rows : List (List Value)) → within_after g earlier rows ≡ true → is_within g ((earlier ++ rows) ++ row ∷ []) ≡ true → within_after g earlier (rows ++ row ∷ []) ≡ true
  within-push earlier [] before e = and_from (is_within g (earlier ++ row ∷ [])) true (ap (λ r. is_within g (r ++ row ∷ [])) (sym (append-nil earlier)) ∙ e) before
  within-push earlier (other ∷ rows) before e =
      let parts = and_parts (is_within g (earlier ++ other ∷ [])) (within_after g (earlier ++ other ∷ []) rows) before in
      and_from (is_within g (earlier ++ other ∷ [])) (within_after g (earlier ++ other ∷ []) (rows ++ row ∷ [])) parts.0
      (within-push (earlier ++ other ∷ []) rows parts.1 (ap (λ r. is_within g (r ++ row ∷ [])) (append_assoc earlier (other ∷ []) rows) ∙ e))

  -- a sum that leaves its limit after so many rows
  past : (earlier before behind : List (List Value)) → is_within g ((earlier ++ before) ++ row ∷ []) ≡ false → within_after g earlier (before ++ row ∷ behind) ≡ false
  past earlier [] behind e = and_left (is_within g (earlier ++ row ∷ [])) (within_after g (earlier ++ row ∷ []) behind) (ap (λ r. is_within g (r ++ row ∷ [])) (sym (append-nil earlier)) ∙ e)
  past earlier (other ∷ before) behind e =
      and_right (is_within g (earlier ++ other ∷ [])) (within_after g (earlier ++ other ∷ []) (before ++ row ∷ behind))
      (past (earlier ++ other ∷ []) before behind (ap (λ r. is_within g (r ++ row ∷ [])) (append_assoc earlier (other ∷ []) before) ∙ e))

module _ (g : LocalGrouping) (keys : ℕ) (rows : List (List Value)) (n : ℕ) (changes : List Change) (d : Change) (l : n < length changes) (is : d ≡ slice_index_or changes n d) where
  -- the amounts of one more
  next : amounts_of keys (take (n + 1) changes) ≡ amounts_of keys (take n changes) ++ drop keys d.row ∷ []
  next =
      ap (amounts_of keys) (take_more changes n d l)
      ∙ map-append (λ (change : Change). drop keys change.row) (take n changes) (slice_index_or changes n d ∷ [])
      ∙ ap (λ change. amounts_of keys (take n changes) ++ drop keys change.row ∷ []) (sym is)

  -- the amounts of all
  whole : amounts_of keys changes ≡ amounts_of keys (take n changes) ++ drop keys d.row ∷ amounts_of keys (drop (n + 1) changes)
  whole =
      ap (amounts_of keys) (sym (take-append-drop n changes) ∙ ap (λ cs. take n changes ++ cs) (drop_more changes n d l))
      ∙ map-append (λ (change : Change). drop keys change.row) (take n changes) (slice_index_or changes n d ∷ drop (n + 1) changes)
      ∙ ap (λ change. amounts_of keys (take n changes) ++ drop keys change.row ∷ amounts_of keys (drop (n + 1) changes)) (sym is)

  pub kept_more : (kept : Kept) → IsKept g kept ((rows ++ amounts_of keys (take n changes)) ++ drop keys d.row ∷ []) → IsKept g kept (rows ++ amounts_of keys (take (n + 1) changes))
  kept_more kept k = subst (IsKept g kept) (append_assoc rows (amounts_of keys (take n changes)) (drop keys d.row ∷ []) ∙ ap (λ r. rows ++ r) (sym next)) k

  pub within_more : within_after g rows (amounts_of keys (take n changes)) ≡ true → is_within g ((rows ++ amounts_of keys (take n changes)) ++ drop keys d.row ∷ []) ≡ true
      → within_after g rows (amounts_of keys (take (n + 1) changes)) ≡ true
  within_more before e = ap (within_after g rows) next ∙ within-push g (drop keys d.row) rows (amounts_of keys (take n changes)) before e

  pub past_at : is_within g ((rows ++ amounts_of keys (take n changes)) ++ drop keys d.row ∷ []) ≡ false → within_after g rows (amounts_of keys changes) ≡ false
  past_at e = ap (within_after g rows) whole ∙ past g (drop keys d.row) rows (amounts_of keys (take n changes)) (amounts_of keys (drop (n + 1) changes)) e
