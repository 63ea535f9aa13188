-- Differences of 127 bits or more.
use Rattle.std.specs.Prelude.{ℕ, ◌+◌, ◌≤◌, ◌^◌}
use mathlib.Core.Logic.{◌⊎◌}

-- the two lie 2^127 or more apart
abbrev pub IsBeyond : ℕ → ℕ → Type 0
IsBeyond above below = (2 ^ 127 + below ≤ above) ⊎ (2 ^ 127 + above ≤ below)
