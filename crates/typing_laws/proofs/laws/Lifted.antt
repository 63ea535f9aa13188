-- What holds of a type and a meaning, where both are there, holds of what is made of them.
use Rattle.std.proofs.Common.{◌≡◌, Bool, true, false, cond, List, [], ◌∷◌, Option, Some, None, refl}
use Rattle.std.specs.Prelude.{option_map, option_and_then}
use Rattle.ct_expr.specs.Types.{both_of, gather}

-- nothing is said where the first is none, which is no type, or the second, which is out of range
abbrev pub Lift : {A B : Type 0} → (A → B → Type 0) → Option A → Option B → Type 0
Lift R None m = Unit {0}
Lift R (Some a) None = Unit {0}
Lift R (Some a) (Some b) = R a b

abbrev pub LiftAll : {A B : Type 0} → (A → B → Type 0) → List (Option A) → List (Option B) → Type 0
LiftAll R [] [] = Unit {0}
LiftAll R [] (m ∷ ms) = ⊥
LiftAll R (o ∷ os) [] = ⊥
LiftAll R (o ∷ os) (m ∷ ms) = Lift R o m × LiftAll R os ms

pub lift_out : {A B : Type 0} (R : A → B → Type 0) (o : Option A) → Lift R o None
lift_out R None = tt
lift_out R (Some a) = tt

-- where a test fails there is no type
pub lift_if : {A B : Type 0} (R : A → B → Type 0) (test : Bool) (a : A) (m : Option B) → (test ≡ true → Lift R (Some a) m) → Lift R (cond test (Some a) None) m
lift_if R true a m h = h refl
lift_if R false a m h = tt

module _ {A A' B B' : Type 0} (R : A → A' → Type 0) (S : B → B' → Type 0) where
  pub lift_then : (f : A → Option B) (g : A' → Option B') → ((a : A) (b : A') → R a b → Lift S (f a) (g b)) → (o : Option A) (m : Option A') → Lift R o m → Lift S (option_and_then f o) (option_and_then g m)
  lift_then f g step None m h = tt
  lift_then f g step (Some a) None h = lift_out S (f a)
  lift_then f g step (Some a) (Some b) h = step a b h

  pub lift_map : (f : A → Option B) (g : A' → B') → ((a : A) (b : A') → R a b → Lift S (f a) (Some (g b))) → (o : Option A) (m : Option A') → Lift R o m → Lift S (option_and_then f o) (option_map g m)
  lift_map f g step None m h = tt
  lift_map f g step (Some a) None h = lift_out S (f a)
  lift_map f g step (Some a) (Some b) h = step a b h

module _ {A A' B B' C C' : Type 0} (R : A → A' → Type 0) (S : B → B' → Type 0) (Q : C → C' → Type 0) where
  pub lift_both : (f : A → B → Option C) (g : A' → B' → Option C') → ((a : A) (b : A') (c : B) (d : B') → R a b → S c d → Lift Q (f a c) (g b d)) → (o : Option A) (m : Option A') (p : Option B) (k : Option B') → Lift R o m → Lift S p k → Lift Q (both_of f o p) (both_of g m k)
  lift_both f g step None m p k h i = tt
  lift_both f g step (Some a) m None k h i = tt
  lift_both f g step (Some a) None (Some c) k h i = lift_out Q (f a c)
  lift_both f g step (Some a) (Some b) (Some c) None h i = lift_out Q (f a c)
  lift_both f g step (Some a) (Some b) (Some c) (Some d) h i = step a b c d h i

module _ {A A' B B' : Type 0} (R : A → A' → Type 0) (S : B → B' → Type 0) where
  pub lift_gather : (f : A → B → Option A) (g : A' → B' → Option A') → ((a : A) (b : A') (c : B) (d : B') → R a b → S c d → Lift R (f a c) (g b d)) → (os : List (Option B)) (ms : List (Option B')) → LiftAll S os ms → (o : Option A) (m : Option A') → Lift R o m → Lift R (gather f o os) (gather g m ms)
  lift_gather f g step [] [] h o m i = i
  lift_gather f g step [] (m' ∷ ms) h o m i = absurd h
  lift_gather f g step (o' ∷ os) [] h o m i = absurd h
  lift_gather f g step (o' ∷ os) (m' ∷ ms) h o m i = lift_gather f g step os ms h.1 (both_of f o o') (both_of g m m') (lift_both R S R f g step o m o' m' i h.0)
