use Rattle.std.proofs.Common.{◌≡◌, ◌++◌, ◌-◌, length, drop}
use Rattle.binding.specs.Queries.{headed}
use Rattle.bind_nodes.specs.Views.{bounds_view}
use Rattle.bind_names.specs.Entries.{entries_view}
use Rattle.bind_clauses.proofs.lists.headed.Given as goal

abbrev pub invariant-columns : goal.invariant-columns
invariant-columns l = l.scope ++ headed (entries_view (drop l.place l.entries)) (bounds_view (drop l.place l.bounds)) ≡ headed (entries_view l.entries) (bounds_view l.bounds)

abbrev pub decreases-columns : goal.decreases-columns
decreases-columns l = length l.entries - l.place
