-- The types of columns whose types exist.
use Rattle.std.proofs.Common.{◌≡◌, List, [], ◌∷◌, map, IsTrue, subst, sym}
use Rattle.std.specs.List.{AllByRecursion}
use Rattle.ct_value.specs.declared.ty.ColTy.{ColTy}
use Rattle.ct_value.specs.declared.ty.Ty.{Ty}
use Rattle.ct_field.specs.Numbers.{is_type}
use Rattle.job_ending.specs.Endings.{AreTypes}

types_exist : (columns : List ColTy) → AreTypes columns → AllByRecursion (λ ty. IsTrue (is_type ty)) (map (λ c. c.ty) columns)
types_exist [] are = tt
types_exist (column ∷ columns) are = (are.0, types_exist columns are.1)

pub tys_exist : (columns : List ColTy) (tys : List Ty) → tys ≡ map (λ c. c.ty) columns → AreTypes columns → AllByRecursion (λ ty. IsTrue (is_type ty)) tys
tys_exist columns tys same are = subst (λ (l : List Ty). AllByRecursion (λ ty. IsTrue (is_type ty)) l) (sym same) (types_exist columns are)
