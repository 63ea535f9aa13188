-- What a shelf holds, and what a load of it gives.
use Rattle.std.specs.Prelude.{ℕ, Bool, true, false, List, [], length, Option, Some, None, nat_le, cond}
use Rattle.std.specs.Ordering.{nat_cmp}
use Rattle.std.specs.Cmp.Lexicographic.{slice_cmp}
use Rattle.std.specs.FinMap.{FinMap, get, code}
use Rattle.std.specs.Coded.{Coded, code_by, coded×, coded_ℕ, coded_bool, coded_list}
use Rattle.std.proofs.Common.{refl}

-- bytes by name
abbrev pub FileMap : Type 0
FileMap = FinMap (slice_cmp nat_cmp) (List ℕ)

-- these files, and where `others` is true every other name too, with no bytes
pub record Holdings : Type 0 where
  pub files : FileMap
  pub others : Bool

-- by these codes proofs tell files and holdings apart
abbrev pub coded_files : Coded FileMap
coded_files = code (coded_list coded_ℕ) (coded_list coded_ℕ)

abbrev pub coded_holdings : Coded Holdings
coded_holdings = code_by (FileMap × Bool) (coded× coded_files coded_bool) (λ h. (h.files, h.others)) (λ p. record { files = p.0; others = p.1 }) (λ _. refl)

abbrev pub held_or : Bool → Option (List ℕ) → Option (List ℕ)
held_or others (Some bytes) = Some bytes
held_or true None = Some []
held_or false None = None

-- the bytes held under a name
abbrev pub held : Holdings → List ℕ → Option (List ℕ)
held holdings name = held_or holdings.others (get holdings.files name)

-- what a load finds under a name
pub data Loaded : Type 0 where
  Missing : Loaded
  Long : Loaded
  Whole : List ℕ → Loaded

-- bytes that are held are whole within the limit
abbrev pub within : ℕ → List ℕ → Loaded
within limit bytes = cond (nat_le (length bytes) limit) (Whole bytes) Long

abbrev pub found : ℕ → Option (List ℕ) → Loaded
found limit None = Missing
found limit (Some bytes) = within limit bytes

-- what a load of a name within a limit finds
abbrev pub loaded : Holdings → List ℕ → ℕ → Loaded
loaded holdings name limit = found limit (held holdings name)
