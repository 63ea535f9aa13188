use Rattle.route.proofs.Keys.{behind-more}
use Rattle.route.proofs.key.push_others.Goals as goal

pub loop-col-preserved : goal.loop-col-preserved
loop-col-preserved c =
    behind-more c.args.row.now c.args.tys.now c.args.text.now c.loop-col.text c.push.new.self c.push_column.new.text c.args.cols.now c.loop-col.col-index
    c.loop-col-test.true c.loop-col.invariant c.in_ok-push.ensures.ok c.in_ok-push_column.ensures
