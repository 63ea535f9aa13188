use Rattle.std.proofs.Common.{sym, subst}
use Rattle.op_topn.specs.RankedRows.{IsRanked}
use Rattle.op_topn.proofs.Turns.{empty_there, kept_after}
use Rattle.op_topn.proofs.partitions.start_partition.Goals as goal

pub turn_rows-requires : goal.turn_rows-requires
turn_rows-requires g c =
    let r = c.requires.kept in
    let order = c.args.by.now.order in
    let there = subst (IsRanked order c.new-kept.result.counts) (sym (empty_there order c.args.partitions.now r.0 r.1 c.args.key.now c.requires.absent)) (c.new-kept.ensures order) in
    (r.0 c.args.key.now, there, r.2, r.3)

pub returns-clause-firsts : goal.returns-clause-firsts
returns-clause-firsts g c = λ of all has.
    let order = c.args.by.now.order in
    let there = subst (IsRanked order c.new-kept.result.counts) (sym (empty_there order c.args.partitions.now of all c.args.key.now c.requires.absent)) (c.new-kept.ensures order) in
    c.in_ok-firsts.ensures.firsts (of c.args.key.now) there has

pub returns-clause-kept : goal.returns-clause-kept
returns-clause-kept g c = λ of after all has turned.
    let order = c.args.by.now.order in
    let there = subst (IsRanked order c.new-kept.result.counts) (sym (empty_there order c.args.partitions.now of all c.args.key.now c.requires.absent)) (c.new-kept.ensures order) in
    kept_after order c.args.key.now of after c.args.gone c.args.come turned c.args.partitions.now c.put_in.new.partitions c.turn_rows.new.kept all
    (c.in_ok-firsts.ensures.kept (of c.args.key.now) there has) (rw c.in_ok-own.ensures at c.in_ok-put_in.ensures.put) c.in_ok-put_in.ensures.ordered
