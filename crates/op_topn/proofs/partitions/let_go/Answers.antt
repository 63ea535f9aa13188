use Rattle.op_topn.proofs.Shifts.{key_of_row, gone_kept}
use Rattle.op_topn.proofs.partitions.let_go.Goals as goal

pub returns-in_ok-remove-in-Some : goal.returns-in_ok-remove-in-Some
returns-in_ok-remove-in-Some c = λ rows keeps has.
    let order = c.args.by.now.order in
    let key = c.in_ok-key-in-Some.key in
    let row = c.in-Some.row in
    gone_kept order c.remove.new.self.counts rows key row c.args.gone c.in_ok-key-in-Some.ensures c.in-Some.is
    (c.in_ok-remove-in-Some.ensures order rows (key_of_row order key row c.in_ok-key-in-Some.ensures) keeps)
