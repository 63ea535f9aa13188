use Rattle.std.proofs.Common.{◌≡◌, drop, false, option_map}
use Rattle.binding.specs.Queries as b
use Rattle.bind_sources.proofs.sides.share_source.Given as goal

abbrev pub invariant-loop-column : goal.invariant-loop-column
invariant-loop-column l = record {
  lacked : b.has_source l.left (option_map (λ t. t.now) l.last) ≡ false;
  same : b.share_source l.left l.right ≡ b.share_source l.left (drop l.column-index l.column-items);
}
