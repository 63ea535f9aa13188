use Rattle.std.proofs.Common.{drop, sym, ◌∙◌}
use Rattle.op_topn.proofs.Beyond.{heads-past}
use Rattle.op_topn.proofs.telling.past.Goals as goal

pub returns-then-is_at-clause-rest : goal.returns-then-is_at-clause-rest
returns-then-is_at-clause-rest c = heads-past c.args.order.now c.args.row.now (drop c.args.from c.args.others.now) (sym c.is_at.ensures ∙ c.if-is_at.true)
