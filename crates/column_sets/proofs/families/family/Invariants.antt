use Rattle.std.proofs.Common.{◌≡◌, drop, []}
use Rattle.std.specs.List.{filter, fold}
use Rattle.std.specs.BTreeSet.{insert_key}
use Rattle.column_sets.specs.Sets.{is_least, set_cmp}
use Rattle.column_sets.proofs.families.family.Given as goal

abbrev pub invariant-loop-set : goal.invariant-loop-set
invariant-loop-set l =
    fold (insert_key set_cmp) l.least.keys (filter (is_least l.sets) (drop l.set-index l.sets)) ≡ fold (insert_key set_cmp) [] (filter (is_least l.sets) l.sets)
