-- The values of a Project's items are of their columns, so that nothing has to be asked of them.
use Rattle.std.proofs.Common.{◌≡◌, true, List, [], ◌∷◌, map, Option, Some, None, refl, subst}
use Rattle.ct_value.specs.declared.ty.ColTy.{ColTy}
use Rattle.ct_value.specs.declared.value.Value.{Value}
use Rattle.ct_field.specs.Typed.{col_fits}
use Rattle.ct_expr.specs.Expr.{Expr}
use Rattle.ct_expr.specs.Eval.{eval}
use Rattle.ct_expr.specs.Types.{type_of, both_of}
use Rattle.typing_laws.specs.Meaning.{IsOf}
use Rattle.typing_laws.proofs.laws.Typed.{is_of_its_column}
use Rattle.rel_algebra.specs.Clauses.{MeanTypes}
use Rattle.rel_algebra.specs.Types.{item_columns}

at_value : (column : ColTy) (m : Option Value) (value : Value) → IsOf column m → m ≡ Some value → col_fits column value ≡ true
at_value column None value h e = absurd (cc)
at_value column (Some v) value h e = let i : v ≡ value = cc in subst (λ w. col_fits column w ≡ true) i h

pub items_mean : (columns : List ColTy) (items : List Expr) (made : List ColTy) → item_columns columns items ≡ Some made → MeanTypes columns (map eval items) made
items_mean columns [] [] e = tt
items_mean columns [] (column ∷ made) e = absurd (cc)
items_mean columns (item ∷ items) made e = go (type_of item columns) (item_columns columns items) refl (items_mean columns items) made e
  where
    go : (o : Option ColTy) (others : Option (List ColTy)) → type_of item columns ≡ o → ((rest : List ColTy) → others ≡ Some rest → MeanTypes columns (map eval items) rest) → (made : List ColTy)
        → both_of (λ column rest. Some (column ∷ rest)) o others ≡ Some made → MeanTypes columns (eval item ∷ map eval items) made
    go None others i f made e = absurd (cc)
    go (Some column) None i f made e = absurd (cc)
    go (Some column) (Some rest) i f made e =
        let j : column ∷ rest ≡ made = cc in
        subst (λ m. MeanTypes columns (eval item ∷ map eval items) m) j ((λ row value h k. at_value column (eval item row) value (is_of_its_column columns row h item column i) k), f rest refl)
