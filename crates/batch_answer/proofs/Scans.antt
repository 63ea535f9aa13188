-- The columns and rows of a table that is there.
use Rattle.std.proofs.Common.{◌≡◌, ℕ, zero, suc, List, [], ◌∷◌, Some, refl, sym, ap, subst, ◌∙◌, arith, length}
use Rattle.std.specs.Prelude.{slice_get}
use Rattle.std.specs.Option.{unwrap_or}
use Rattle.ct_value.specs.Bag.{none}
use Rattle.ct_value.specs.declared.ty.ColTy.{ColTy}
use Rattle.ct_change.specs.Changelog.{Rows}
use Rattle.rel_algebra.specs.Rel.{Scan}
use Rattle.rel_algebra.specs.Answer.{types_in, rows_in, answer, too_many}
use Rattle.batch_answer.specs.Tallies.{Unfit}
use Rattle.batch_answer.specs.Parts.{IsFew, IsPart}
use Rattle.batch_answer.specs.Tables.{IsTyped, IsOut, tables_of}
use Rattle.batch_answer.proofs.Parts.{few-narrow, unfit-lost}

columns_there : (types : List (List ColTy)) (bags : List Rows) (source : ℕ) (columns : List ColTy) → slice_get (types_in (tables_of types bags)) source ≡ Some columns → slice_get types source ≡ Some columns
columns_there [] bags source columns e = absurd (cc)
columns_there (first ∷ types) [] source columns e = absurd (cc)
columns_there (first ∷ types) (rows ∷ bags) zero columns e = e
columns_there (first ∷ types) (rows ∷ bags) (suc source) columns e = columns_there types bags source columns e

rows_there : (types : List (List ColTy)) (bags : List Rows) (source : ℕ) (columns : List ColTy) → slice_get (types_in (tables_of types bags)) source ≡ Some columns → rows_in (tables_of types bags) source ≡ unwrap_or (slice_get bags source) none
rows_there [] bags source columns e = absurd (cc)
rows_there (first ∷ types) [] source columns e = absurd (cc)
rows_there (first ∷ types) (rows ∷ bags) zero columns e = refl
rows_there (first ∷ types) (rows ∷ bags) (suc source) columns e = rows_there types bags source columns e

module _ (types : List (List ColTy)) (bags : List Rows) (source : ℕ) (typed : IsTyped (tables_of types bags) (Scan source)) where
  pub scan-part : (columns : List ColTy) (rows : Rows) → columns ≡ unwrap_or (slice_get types source) [] → rows ≡ unwrap_or (slice_get bags source) none → IsFew rows → IsPart (tables_of types bags) (Scan source) columns rows
  scan-part columns rows e g few =
      let there : rows_in (tables_of types bags) source ≡ rows = rows_there types bags source typed.0 typed.1 ∙ sym g in
      record {
        typed = typed.1 ∙ ap Some (sym (e ∙ ap (λ o. unwrap_or o []) (columns_there types bags source typed.0 typed.1)));
        answered = ap Some there;
        narrow = ap (λ (r : Rows). too_many (tables_of types bags) (Some r)) there ∙ few-narrow (tables_of types bags) rows few;
      }

  pub scan-out : Unfit (Some (unwrap_or (slice_get bags source) none)) → IsOut (tables_of types bags) (Scan source)
  scan-out u = unfit-lost (tables_of types bags) (answer (tables_of types bags) (Scan source)) (subst (λ (r : Rows). Unfit (Some r)) (sym (rows_there types bags source typed.0 typed.1)) u)

-- each list of types is a table's
pub types_of_tables : (types : List (List ColTy)) (bags : List Rows) → length types ≡ length bags → types_in (tables_of types bags) ≡ types
types_of_tables [] bags e = refl
types_of_tables (columns ∷ types) [] e = absurd (let n : suc (length types) ≡ 0 = e in omega arith)
types_of_tables (columns ∷ types) (rows ∷ bags) e = ap (λ (ts : List (List ColTy)). columns ∷ ts) (types_of_tables types bags (let n : suc (length types) ≡ suc (length bags) = e in omega arith))
