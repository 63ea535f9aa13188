use Rattle.std.proofs.Common.{◌≡◌, ◌++◌, drop, map}
use Rattle.phys_plan.specs.Reading.{at, no_keys}
use Rattle.phys_plan.specs.Columns.{columns_in}
use Rattle.upsert_keys.specs.Seen as s
use Rattle.upsert_keys.proofs.seen.all_seen.Given as goal

abbrev pub invariant-loop-input : goal.invariant-loop-input
invariant-loop-input l =
    l.all ++ s.all_seen (columns_in l.columns) l.edges (drop l.input-index l.inputs) (map (at no_keys l.done) (drop l.input-index l.inputs)) ≡ s.all_seen (columns_in l.columns) l.edges l.inputs (map (at no_keys l.done) l.inputs)
