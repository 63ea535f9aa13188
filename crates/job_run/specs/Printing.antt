-- What is seen of a sink that sums: the bytes that it took, its faults, and whether the process ends with it.
use Rattle.std.specs.Prelude.{ℕ, Bool, List}

pub record Printing : Type 0 where
  pub bytes : List ℕ
  pub faults : ℕ
  pub last : Bool
