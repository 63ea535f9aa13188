-- The columns of two terms, as far as a loop has come.
use Rattle.std.proofs.Common.{◌≡◌, ℕ, suc, ◌+◌, ◌<◌, ◌≤◌, List, [], ◌∷◌, ◌++◌, Option, Some, None, Ok, Err, length, drop, get_or, refl, sym, ap, ◌∙◌, append-nil}
use Rattle.std.specs.Prelude.{option_map}
use Rattle.std.proofs.lemmas.List.{at_drop_more, drop_all}
use Rattle.ct_value.specs.declared.codes.ScriptCode.{ScriptCode}
use Rattle.ct_value.specs.declared.codes.ScriptCode.TheVariants.{TypeMismatch}
use Rattle.ct_value.specs.declared.ty.ColTy.{ColTy}
use Rattle.ct_expr.specs.Types.{both_of}
use Rattle.rel_algebra.specs.declared.sets.SetKind.{SetKind}
use Rattle.rel_algebra.specs.Sets.{set_column, set_columns}
use Rattle.query_answer.specs.declared.scope.ScopeColumn.{ScopeColumn}
use Rattle.query_answer.specs.Answer.{types, retyped, under}
use Rattle.binding.specs.Checked.{Checked, ◌>>=◌, or_code}
use Rattle.binding.specs.Queries.{united_by}
use Rattle.bind_clauses.specs.Unions.{one_united}
use Rattle.bind_clauses.proofs.Behind.{behind, one_behind}

module _ (kind : SetKind) where
  two : (c d : ScopeColumn) (cs : List ScopeColumn) (o : Option ColTy) (p : Option (List ColTy))
      → or_code TypeMismatch (option_map (retyped (c ∷ cs)) (both_of (λ common rest. Some (common ∷ rest)) o p))
      ≡ (or_code TypeMismatch (option_map (under c.source c.name) o) >>= λ x. or_code TypeMismatch (option_map (retyped cs) p) >>= λ xs. Ok (x ∷ xs))
  two c d cs None p = refl
  two c d cs (Some ty) None = refl
  two c d cs (Some ty) (Some tys) = refl

  united-cons : (c d : ScopeColumn) (cs ds : List ScopeColumn) → united_by kind (c ∷ cs) (d ∷ ds) ≡ (one_united kind c d.ty >>= λ x. united_by kind cs ds >>= λ xs. Ok (x ∷ xs))
  united-cons c d cs ds = two c d cs (set_column kind c.ty d.ty) (set_columns kind (types cs) (types ds))

  pub united_step : (cs ds : List ScopeColumn) (i : ℕ) (c d : ScopeColumn) → i < length cs → i < length ds → c ≡ get_or cs i c → d ≡ get_or ds i d
      → united_by kind (drop i cs) (drop i ds) ≡ (one_united kind c d.ty >>= λ x. united_by kind (drop (i + 1) cs) (drop (i + 1) ds) >>= λ xs. Ok (x ∷ xs))
  united_step cs ds i c d l m h k =
      at_drop_more (λ xs. united_by kind xs (drop i ds)) cs i c l ∙ ap (λ x. united_by kind (x ∷ drop (i + 1) cs) (drop i ds)) (sym h)
      ∙ at_drop_more (λ ys. united_by kind (c ∷ drop (i + 1) cs) ys) ds i d m ∙ ap (λ y. united_by kind (c ∷ drop (i + 1) cs) (y ∷ drop (i + 1) ds)) (sym k)
      ∙ united-cons c d (drop (i + 1) cs) (drop (i + 1) ds)

  pub united_end : (cs ds : List ScopeColumn) (i : ℕ) → length cs ≤ i → length ds ≤ i → united_by kind (drop i cs) (drop i ds) ≡ Ok []
  united_end cs ds i l m = ap (λ xs. united_by kind xs (drop i ds)) (drop_all i cs l) ∙ ap (united_by kind []) (drop_all i ds m)

  no-rest : (o : Option ColTy) → both_of {B = List ColTy} (λ common rest. Some (common ∷ rest)) o None ≡ None
  no-rest None = refl
  no-rest (Some ty) = refl

  other-length : (cs ds : List ColTy) → ¬ (length cs ≡ length ds) → set_columns kind cs ds ≡ None
  other-length [] [] h = absurd (h refl)
  other-length [] (d ∷ ds) h = refl
  other-length (c ∷ cs) [] h = refl
  other-length (c ∷ cs) (d ∷ ds) h = ap (both_of (λ common rest. Some (common ∷ rest)) (set_column kind c d)) (other-length cs ds (λ e. h (ap suc e))) ∙ no-rest (set_column kind c d)

  same-length : (cs : List ScopeColumn) → length (types cs) ≡ length cs
  same-length [] = refl
  same-length (c ∷ cs) = ap suc (same-length cs)

  pub united_refused : (cs ds : List ScopeColumn) → ¬ (length cs ≡ length ds) → united_by kind cs ds ≡ Err TypeMismatch
  united_refused cs ds h =
      ap (λ o. or_code TypeMismatch (option_map (retyped cs) o)) (other-length (types cs) (types ds) (λ e. h (sym (same-length cs) ∙ e ∙ same-length ds)))

  -- ---- one turn of a loop, a refusal in it, and its end

  module _ (whole : Checked (List ScopeColumn)) (cs ds : List ScopeColumn) (i : ℕ) (made : List ScopeColumn) (from : whole ≡ behind made (united_by kind (drop i cs) (drop i ds))) where
    pub united_failed : (c d : ScopeColumn) (code : ScriptCode) → i < length cs → i < length ds → c ≡ get_or cs i c → d ≡ get_or ds i d → one_united kind c d.ty ≡ Err code → whole ≡ Err code
    united_failed c d code l m h k e =
        from ∙ ap (behind made) (united_step cs ds i c d l m h k ∙ ap (λ r. r >>= λ x. united_by kind (drop (i + 1) cs) (drop (i + 1) ds) >>= λ xs. Ok (x ∷ xs)) e)

    pub united_turn : (c d x : ScopeColumn) (more : List ScopeColumn) → i < length cs → i < length ds → c ≡ get_or cs i c → d ≡ get_or ds i d → one_united kind c d.ty ≡ Ok x → more ≡ made ++ x ∷ []
        → whole ≡ behind more (united_by kind (drop (i + 1) cs) (drop (i + 1) ds))
    united_turn c d x more l m h k e p =
        from ∙ ap (behind made) (united_step cs ds i c d l m h k ∙ ap (λ r. r >>= λ x. united_by kind (drop (i + 1) cs) (drop (i + 1) ds) >>= λ xs. Ok (x ∷ xs)) e)
        ∙ one_behind made x (united_by kind (drop (i + 1) cs) (drop (i + 1) ds)) ∙ ap (λ ys. behind ys (united_by kind (drop (i + 1) cs) (drop (i + 1) ds))) (sym p)

    pub united_ends : length cs ≤ i → length ds ≤ i → whole ≡ Ok made
    united_ends l m = from ∙ ap (behind made) (united_end cs ds i l m) ∙ ap Ok (append-nil made)
