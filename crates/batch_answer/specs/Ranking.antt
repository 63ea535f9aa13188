-- The rows of a partition that are left to be shown.
use Rattle.std.specs.Prelude.{ℕ, ◌+◌, ◌-◌, Bool, List, map, take}
use Rattle.ct_value.specs.Bag.{bag_of}
use Rattle.ct_value.specs.declared.row.Row.{Row}
use Rattle.ct_change.specs.Changelog.{Rows}
use Rattle.rel_algebra.specs.Ranks.{ranked_from, shown}

-- of the rows that follow in rank order, the first ones, where so many of all of them were taken before
abbrev pub tail : ℕ → Bool → ℕ → List Row → Rows
tail bound ranked taken rows = bag_of (map (shown ranked) (take (bound - taken) (ranked_from (taken + 1) rows)))
