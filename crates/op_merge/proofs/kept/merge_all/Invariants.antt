use Rattle.std.proofs.Common.{◌≡◌}
use Rattle.op_merge.proofs.Mergers.{Upto, row_at}
use Rattle.op_merge.proofs.kept.merge_all.Given as goal

abbrev pub invariant-loop-merger : goal.invariant-loop-merger
invariant-loop-merger l = Upto l.merger-index l.fn.partials l.fn.mergers l.mergers × (l.rest ≡ row_at l.merger-index l.fn.mergers l.fn.partials)
