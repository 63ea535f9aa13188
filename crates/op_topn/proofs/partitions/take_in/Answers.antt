use Rattle.op_topn.proofs.Shifts.{key_of_row, room_at, come_kept}
use Rattle.op_topn.proofs.partitions.take_in.Goals as goal

pub add-requires : goal.add-requires
add-requires c =
    let r = c.requires in
    room_at c.args.by.now.order c.args.kept.now.counts r.0 c.in_ok-key-in-Some.key c.in-Some.row r.1 c.in_ok-key-in-Some.ensures r.2

pub returns-in_ok-add-in-Some : goal.returns-in_ok-add-in-Some
returns-in_ok-add-in-Some c = λ rows keeps.
    let order = c.args.by.now.order in
    let key = c.in_ok-key-in-Some.key in
    let row = c.in-Some.row in
    come_kept order c.add.new.self.counts rows key row c.args.come c.in_ok-key-in-Some.ensures c.in-Some.is
    (c.in_ok-add-in-Some.ensures order rows (key_of_row order key row c.in_ok-key-in-Some.ensures) keeps)
