use Rattle.std.proofs.Common.{◌≡◌, ◌+◌, ◌++◌, ◌≤◌, length, map, take}
use Rattle.op_topn.specs.Keys.{rows_in}
use Rattle.op_topn.proofs.rows.first_keys.Given as goal

-- the rows so far and those that are left begin as all do
abbrev pub invariant-walk : goal.invariant-walk
invariant-walk g l = record {
  rows : take l.bound (map (λ key. key.now.1) l.keys.items ++ rows_in l.left) ≡ take l.bound (rows_in l.counts.entries);
  short : length l.keys.items ≤ l.bound;
  cost : l.steps ≤ l.fn.steps + length l.keys.items;
}

abbrev pub decreases-walk : goal.decreases-walk
decreases-walk g l = length l.left
