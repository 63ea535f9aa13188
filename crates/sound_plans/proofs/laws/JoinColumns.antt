-- The columns of a node that is well-typed.
use Rattle.std.specs.Prelude.{◌≡◌, Bool, List, Some}
use Rattle.std.proofs.Common.{true, false, refl}
use Rattle.ct_value.specs.declared.ty.ColTy.{ColTy}
use Rattle.rel_algebra.specs.Types.{columns_if}

-- where a test is asked for, it holds, and the columns are these
pub made_if : (test : Bool) (columns made : List ColTy) → columns_if test columns ≡ Some made → (test ≡ true) × (columns ≡ made)
made_if true columns made e = (refl, cc)
made_if false columns made e = absurd (cc)
