-- Changes by the groups of their rows, which so many first columns name.
use Rattle.std.specs.Prelude.{ℕ, List, filter, map, take}
use Rattle.ct_value.specs.declared.row.Row.{Row}
use Rattle.ct_change.specs.declared.change.Change.{Change}
use Rattle.rel_algebra.specs.GroupedCounts.{first_seen, in_group}
use Rattle.mini_batch.specs.Held.{Entries}

-- those of these changes whose rows are of one group
abbrev pub of_group : ℕ → Row → List Change → List Change
of_group keys key changes = filter (λ change. in_group keys key change.row) changes

-- each group's changes, in first-seen order
abbrev pub by_group : ℕ → List Change → Entries
by_group keys changes = map (λ key. (key, of_group keys key changes)) (first_seen (map (λ change. take keys change.row) changes))
