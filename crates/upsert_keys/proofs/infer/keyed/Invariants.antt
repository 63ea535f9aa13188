use Rattle.std.proofs.Common.{◌≡◌, ◌+◌, ◌++◌, length}
use Rattle.std.specs.Vec.Iter.{into_iter_items}
use Rattle.upsert_keys.specs.Keys.{keyed, keyed_from}
use Rattle.upsert_keys.proofs.infer.keyed.Given as goal

abbrev pub invariant-loop-node : goal.invariant-loop-node
invariant-loop-node l = l.made ++ keyed_from (length l.made + 1) l.keys (into_iter_items l.node-iterator) ≡ keyed l.keys l.fn.nodes
