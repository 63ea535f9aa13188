-- What is told of both inputs is told of each.
use Rattle.std.specs.Prelude.{◌≡◌, Option}
use Rattle.std.proofs.Common.{refl, Some, None}
use Rattle.ct_expr.specs.Types.{both_of}

pub both_parts : {A B C : Type 0} (f : A → B → Option C) (o : Option A) (p : Option B) (c : C) → both_of f o p ≡ Some c → (a : A) × (b : B) × (o ≡ Some a) × (p ≡ Some b) × (f a b ≡ Some c)
both_parts f None p c e = absurd (cc)
both_parts f (Some a) None c e = absurd (cc)
both_parts f (Some a) (Some b) c e = (a, b, refl, refl, e)
