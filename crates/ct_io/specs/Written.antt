-- Written bytes that may be told.
use Rattle.std.specs.Prelude.{◌≡◌, ℕ, List, ◌++◌, Option, Some, None}

abbrev pub AppendsWhereTold : Option (List ℕ) → Option (List ℕ) → List ℕ → Type 0
AppendsWhereTold old None more = Unit {0}
AppendsWhereTold None (Some new) more = ⊥
AppendsWhereTold (Some old) (Some new) more = new ≡ old ++ more

-- where the bytes are told afterwards, they were told before, and these were appended
pub record Appends (old new : Option (List ℕ)) (more : List ℕ) : Type 0 where
  pub told : AppendsWhereTold old new more

-- the same of these bytes up to a rest
pub record AppendsUpTo (old new : Option (List ℕ)) (whole rest : List ℕ) : Type 0 where
  pub part : List ℕ
  pub split : whole ≡ part ++ rest
  pub appends : Appends old new part

-- the same of a first part of these bytes
pub record AppendsPart (old new : Option (List ℕ)) (whole : List ℕ) : Type 0 where
  pub rest : List ℕ
  pub up_to : AppendsUpTo old new whole rest
