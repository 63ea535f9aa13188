use Rattle.std.proofs.Common.{length, ap, arith}
use Rattle.sql_parse.proofs.chain_nodes.alone.Goals as goal

pub returns-in-None-clause-others : goal.returns-in-None-clause-others
returns-in-None-clause-others c = absurd (omega (arith, ap length c.in-None.ensures.none))
