use Rattle.agg_fns.proofs.laws.Upto.{Upto}
use Rattle.op_local.proofs.Tallied.{IsTaken}
use Rattle.op_local.proofs.amounts.take_all.Given as goal

abbrev pub invariant-loop-tally : goal.invariant-loop-tally
invariant-loop-tally l = Upto (IsTaken l.comes l.row) l.tally-index l.fn.tallies l.tallies
