-- Keys and columns, element by element.
use Rattle.std.proofs.Common.{◌≡◌, Bool, true, false, List, [], ◌∷◌, ◌++◌, Option, Some, None, ℕ, ◌+◌, ◌<◌, suc, refl, sym, ap, ◌∙◌, length, drop, drop-cons, get_or, append_assoc, arith}
use Rattle.ct_value.specs.declared.ty.Ty.{Ty}
use Rattle.sql_syntax.specs.declared.statement.Element.{Element}
use Rattle.sql_syntax.specs.declared.statement.Element.TheVariants as el
use Rattle.sql_syntax.specs.Tree as t
use Rattle.ct_catalog.specs.Tables.{keys, columns, with_column}
use Rattle.ct_catalog.specs.Types.{type_of}
use Rattle.ct_catalog.specs.declared.table.ColDef.{ColDef}

pub keys_one_by_one : (e : Element) (es : List Element) → keys (e ∷ es) ≡ keys (e ∷ []) ++ keys es
keys_one_by_one (el.Column name ty not_null true) es = refl
keys_one_by_one (el.Column name ty not_null false) es = refl
keys_one_by_one (el.Key names) es = refl

one_column : (name : t.Text) (nullable : Bool) (ty : Option Ty) (cols : List ColDef) → with_column name nullable ty cols ≡ with_column name nullable ty [] ++ cols
one_column name nullable None cols = refl
one_column name nullable (Some ty) cols = refl

pub columns_one_by_one : (key : List t.Text) (e : Element) (es : List Element) → columns key (e ∷ es) ≡ columns key (e ∷ []) ++ columns key es
columns_one_by_one key (el.Column name ty not_null own) es = one_column _ _ (type_of ty) (columns key es)
columns_one_by_one key (el.Key names) es = refl

-- what the elements up to a place give, with what the element there gives
pub gathered_step : {E X : Type 0} (f : List E → List X) → ((e : E) (es : List E) → f (e ∷ es) ≡ f (e ∷ []) ++ f es) → (elements : List E) (i : ℕ) (e : E) (so_far new more all : List X) → i < length elements → e ≡ get_or elements i e
    → so_far ++ f (drop i elements) ≡ all → more ≡ f (e ∷ []) → new ≡ so_far ++ more → new ++ f (drop (i + 1) elements) ≡ all
gathered_step f one_by_one elements i e so_far new more all l here same found pushed =
    let next : suc i ≡ i + 1 = omega arith in
    let split : drop i elements ≡ e ∷ drop (i + 1) elements = drop-cons elements i e l ∙ ap (λ x. x ∷ drop (suc i) elements) (sym here) ∙ ap (λ j. e ∷ drop j elements) next in
    ap (λ x. x ++ f (drop (i + 1) elements)) (pushed ∙ ap (λ x. so_far ++ x) found) ∙ append_assoc so_far (f (e ∷ [])) (f (drop (i + 1) elements))
    ∙ ap (λ x. so_far ++ x) (sym (one_by_one e (drop (i + 1) elements))) ∙ ap (λ x. so_far ++ f x) (sym split) ∙ same
