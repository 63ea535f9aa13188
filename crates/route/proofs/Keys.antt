-- One more column behind the text of a key.
use Rattle.std.proofs.Common.{◌≡◌, ℕ, List, [], ◌∷◌, ◌++◌, length, take, slice_index_or, sym, ap, ◌∙◌, ◌<◌, ◌+◌, append_assoc, append-nil}
use Rattle.std.proofs.lemmas.List.{take_more}
use Rattle.ct_value.specs.Rows.{project}
use Rattle.ct_value.specs.declared.ty.ColTy.{ColTy}
use Rattle.ct_value.specs.declared.value.Value.TheVariants.{Null}
use Rattle.ct_value.specs.declared.row.Row.{Row}
use Rattle.ct_field.specs.Fields.{field_text}
use Rattle.route.specs.Routing.{behind_commas, type_at, types_at}

module _ (row : Row) (tys : List ColTy) where
  -- the texts of these columns, a comma before each
  abbrev pub behind : List ℕ → List ℕ
  behind cols = behind_commas (types_at cols tys) (project cols row)

  abbrev pub text_at : ℕ → List ℕ
  text_at col = field_text (type_at tys col) (slice_index_or row col Null)

  behind-push : (cols : List ℕ) (col : ℕ) → behind (cols ++ col ∷ []) ≡ behind cols ++ 44 ∷ text_at col
  behind-push [] col = ap (λ xs. 44 ∷ xs) (append-nil (text_at col))
  behind-push (first ∷ cols) col = ap (λ xs. 44 ∷ (text_at first ++ xs)) (behind-push cols col) ∙ ap (λ xs. 44 ∷ xs) (sym (append_assoc (text_at first) (behind cols) (44 ∷ text_at col)))

  -- after one more column of a list
  pub behind-more : (start text pushed fresh : List ℕ) (cols : List ℕ) (i : ℕ) → i < length cols → text ≡ start ++ behind (take i cols)
      → pushed ≡ text ++ 44 ∷ [] → fresh ≡ pushed ++ text_at (slice_index_or cols i 0) → fresh ≡ start ++ behind (take (i + 1) cols)
  behind-more start text pushed fresh cols i below so_far comma column =
      let t = text_at (slice_index_or cols i 0) in
      column ∙ ap (λ xs. xs ++ t) comma ∙ append_assoc text (44 ∷ []) t
      ∙ ap (λ xs. xs ++ 44 ∷ t) so_far ∙ append_assoc start (behind (take i cols)) (44 ∷ t)
      ∙ ap (λ xs. start ++ xs) (sym (behind-push (take i cols) (slice_index_or cols i 0)))
      ∙ ap (λ xs. start ++ behind xs) (sym (take_more cols i 0 below))
