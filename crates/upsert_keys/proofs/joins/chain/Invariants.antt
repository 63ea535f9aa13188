use Rattle.std.proofs.Common.{◌≡◌, drop}
use Rattle.upsert_keys.specs.Joins.{chain}
use Rattle.upsert_keys.proofs.joins.chain.Given as goal

abbrev pub invariant-loop-i : goal.invariant-loop-i
invariant-loop-i l = chain l.so_far (drop l.i l.on) (drop l.i l.others) ≡ chain l.fn.first l.on l.others
