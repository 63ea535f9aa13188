use Rattle.std.proofs.Common.{◌≡◌, ◌≤◌, ◌-◌, ◌+◌, length, drop}
use Rattle.ct_expr.specs.Like.{part_len}
use Rattle.ct_expr.proofs.like.part_len.Given as goal

abbrev pub invariant-items : goal.invariant-items
invariant-items l = record {
  so_far : part_len l.pattern ≡ l.len + part_len (drop l.len l.pattern);
  within : l.len ≤ length l.pattern;
}

abbrev pub decreases-items : goal.decreases-items
decreases-items l = length l.pattern - l.len
