use Rattle.std.proofs.Common.{◌∙◌, arith}
use Rattle.op_topn.proofs.Columns.{ended}
use Rattle.op_topn.proofs.compare.compare_columns.Goals as goal

pub returns : goal.returns
returns c =
    let inv = c.columns.invariant in
    let both = inv.both in
    let within = inv.within in
    let stop = c.columns-test.false in
    ended c.args.row.now c.args.other.now c.args.order.now c.args.other_order.now c.columns.i c.cmp.result (omega arith) c.cmp.ensures ∙ inv.rest
