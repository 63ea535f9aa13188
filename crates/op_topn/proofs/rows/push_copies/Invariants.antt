use Rattle.std.proofs.Common.{◌≡◌, ◌+◌, ◌++◌, length, map, replicate}
use Rattle.op_topn.proofs.rows.push_copies.Given as goal

abbrev pub invariant-fill : goal.invariant-fill
invariant-fill g l = record {
  rows : map (λ key. key.now.1) l.keys.items ≡ map (λ key. key.now.1) l.fn.keys.items ++ replicate l._copy l.key.1;
  long : length l.keys.items ≡ length l.fn.keys.items + l._copy;
  cost : l.steps ≡ l.fn.steps + l._copy;
}
