use Rattle.std.proofs.Common.{length, arith}
use Rattle.job_stream.proofs.Items.{item_more, item_next, item_part, item_wide}
use Rattle.job_stream.proofs.lines.put_items.Goals as goal

pub returns-in_err-put_item-clause-part : goal.returns-in_err-put_item-clause-part
returns-in_err-put_item-clause-part g c =
    let next = item_next c.as_slice-item-items.result.now c.loop-item.item-index c.item-item.result c.loop-item-test.true c.item-item.is in
    item_part c.args.sheet.now _ _ _ _ _ _ _ next c.loop-item.invariant.taken c.in_err-put_item.ensures.part

pub loop-item-preserved : goal.loop-item-preserved
loop-item-preserved g c =
    let next = item_next c.as_slice-item-items.result.now c.loop-item.item-index c.item-item.result c.loop-item-test.true c.item-item.is in
    record {
      taken = item_more c.args.sheet.now _ _ _ _ _ _ _ next c.loop-item.invariant.taken c.in_ok-put_item.ensures.whole;
      later = omega (arith, c.loop-item.invariant.later, c.in_ok-put_item.ensures.later);
      wide = (item_wide (length c.args.sheet.now.tys.items) _ _ _ next c.loop-item.invariant.wide).1;
    }
