use Rattle.std.proofs.Common.{◌∙◌}
use Rattle.op_topn.proofs.Links.{key-rank}
use Rattle.op_topn.proofs.compare.rank_compare.Goals as goal

pub returns : goal.returns
returns c = c.compare_keys.ensures ∙ key-rank c.args.order.now c.args.row.now c.args.other.now
