use Rattle.op_setops.proofs.Turns.{at_start}
use Rattle.op_setops.proofs.set_op.SetOp.new.Goals as goal

pub returns-clause-stands : goal.returns-clause-stands
returns-clause-stands c = at_start c.new.result c.new-2.result c.new.ensures c.new-2.ensures
