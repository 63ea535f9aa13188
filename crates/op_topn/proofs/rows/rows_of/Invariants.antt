use Rattle.std.proofs.Common.{◌≡◌, map, take}
use Rattle.op_topn.proofs.rows.rows_of.Given as goal

abbrev pub invariant-loop-key : goal.invariant-loop-key
invariant-loop-key l = l.rows.items ≡ map (λ key. key.now.1) (take l.key-index l.keys)
