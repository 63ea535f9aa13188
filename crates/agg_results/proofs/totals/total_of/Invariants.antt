use Rattle.std.proofs.Common.{drop}
use Rattle.agg_results.proofs.Weights.{Summed}
use Rattle.agg_results.proofs.totals.total_of.Given as goal

abbrev pub invariant-loop-row : goal.invariant-loop-row
invariant-loop-row l = Summed l.agg l.members l.sum l.row-index (drop l.row-index l.members)
