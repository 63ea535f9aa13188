use Rattle.std.proofs.Common.{◌≡◌, ◌++◌, drop}
use Rattle.std.specs.List.{filter}
use Rattle.upsert_keys.specs.Joins.{has_required}
use Rattle.upsert_keys.proofs.joins.required_sets.Given as goal

abbrev pub invariant-loop-set : goal.invariant-loop-set
invariant-loop-set l = l.kept ++ filter (has_required l.columns) (drop l.set-index l.sets) ≡ filter (has_required l.columns) l.sets
