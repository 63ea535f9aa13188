use Rattle.std.proofs.Common.{option_copied}
use Rattle.agg_fns.proofs.laws.Upto.{Upto}
use Rattle.op_group.proofs.Shifts.{IsShifted}
use Rattle.op_group.proofs.kept.shift_all.Given as goal

abbrev pub invariant-loop-counter : goal.invariant-loop-counter
invariant-loop-counter l = Upto (IsShifted (option_copied l.gone) (option_copied l.come)) l.counter-index l.fn.counters l.counters
