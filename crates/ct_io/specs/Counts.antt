-- Counts of calls and of faults, numbers of 64 bits that stay at their last value.
use Rattle.std.specs.Prelude.{ℕ, ◌+◌, ◌-◌, ◌^◌, ◌≤◌, ◌==◌, Bool, List, min, Result, OnErr}
use Rattle.std.specs.List.{list_any}

-- one more, up to the last number of 64 bits
abbrev pub next : ℕ → ℕ
next count = min (count + 1) (2 ^ 64 - 1)

-- a count of faults rose, or stands at its last value
abbrev pub Rose : ℕ → ℕ → Type 0
Rose before now = next before ≤ now

-- a count of faults didn't fall, and it rose where an error is answered
pub record HasCause {T E : Type 0} (before now : ℕ) (result : Result T E) : Type 0 where
  pub later : before ≤ now
  pub failed : OnErr result (Rose before now)

-- whether a call is listed
abbrev pub is_listed : List ℕ → ℕ → Bool
is_listed numbers call = list_any (λ listed. listed == call) numbers
