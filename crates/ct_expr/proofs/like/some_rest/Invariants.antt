use Rattle.std.proofs.Common.{◌≡◌, ◌+◌, length}
use Rattle.ct_expr.specs.Like.{part_len}
use Rattle.ct_expr.proofs.Parts.{some_rest}
use Rattle.ct_expr.proofs.like.some_rest.Given as goal

abbrev pub invariant-places : goal.invariant-places
invariant-places l = record {
  same : some_rest l.fn.pattern l.fn.text ≡ some_rest l.parts l.rest;
  part : l.len ≡ part_len l.parts;
}

abbrev pub decreases-places : goal.decreases-places
decreases-places l = length l.rest + length l.parts
