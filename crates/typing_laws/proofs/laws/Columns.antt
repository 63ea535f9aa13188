-- Each column of a well-typed tree has a type that columns may have, where the columns of the tables have.
use Rattle.std.proofs.Common.{◌≡◌, ℕ, zero, suc, List, [], ◌∷◌, Option, Some, None, subst}
use Rattle.std.specs.Prelude.{slice_get}
use Rattle.std.specs.List.{AllByRecursion}
use Rattle.ct_value.specs.declared.ty.ColTy.{ColTy}
use Rattle.ct_expr.specs.Types.{both_of}
use Rattle.rel_algebra.specs.Rel.{Rel, Rels, Scan, One, Two, Many, no_rels, rel_and}
use Rattle.rel_algebra.specs.declared.sets.SetKind.TheVariants.{Union}
use Rattle.rel_algebra.specs.Types.{common_columns, unary_columns, binary_columns, columns_of, common_from}
use Rattle.typing_laws.specs.Exist.{Exist}
use Rattle.typing_laws.proofs.laws.Exists.{FineList, list_then, list_both, set_lists}
use Rattle.typing_laws.proofs.laws.Operators.{unary_types, binary_types}

tables_fine : (tables : List (List ColTy)) (n : ℕ) → AllByRecursion Exist tables → FineList (slice_get tables n)
tables_fine [] n h = tt
tables_fine (cols ∷ tables) zero h = h.0
tables_fine (cols ∷ tables) (suc n) h = tables_fine tables n h.1

module _ (tables : List (List ColTy)) (exist : AllByRecursion Exist tables) where
  mutual
    fine_tree : (rel : Rel) → FineList (columns_of tables rel)
    fine_tree (Scan source) = tables_fine tables source exist
    fine_tree (One how input) = list_then (unary_columns how) (unary_types how).exist (columns_of tables input) (fine_tree input)
    fine_tree (Two how left right) = list_both (binary_columns how) (binary_types how).exist (columns_of tables left) (columns_of tables right) (fine_tree left) (fine_tree right)
    fine_tree (Many no_rels) = tt
    fine_tree (Many (rel_and input inputs)) = fine_from (columns_of tables input) inputs (fine_tree input)

    fine_from : (o : Option (List ColTy)) (inputs : Rels) → FineList o → FineList (common_from tables o inputs)
    fine_from o no_rels h = h
    fine_from o (rel_and input inputs) h = fine_from (both_of common_columns o (columns_of tables input)) inputs (list_both common_columns (set_lists Union) o (columns_of tables input) h (fine_tree input))

  at_some : (o : Option (List ColTy)) (cols : List ColTy) → FineList o → o ≡ Some cols → Exist cols
  at_some None cols h e = absurd (cc (e))
  at_some (Some own) cols h e = let same : own ≡ cols = cc (e) in subst Exist same h

  pub columns_exist : (rel : Rel) (columns : List ColTy) → columns_of tables rel ≡ Some columns → Exist columns
  columns_exist rel columns e = at_some (columns_of tables rel) columns (fine_tree rel) e
