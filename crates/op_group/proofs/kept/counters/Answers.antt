use Rattle.std.proofs.Common.{sym, ap, subst, ◌∙◌, arith}
use Rattle.ct_value.specs.Bag.{none}
use Rattle.op_group.specs.Kept.{Stands, AllStand, AllRetract, calls}
use Rattle.op_group.proofs.Shifts.{fresh_stands, all_push, calls_more}
use Rattle.op_group.proofs.kept.counters.Goals as goal

pub loop-agg-preserved : goal.loop-agg-preserved
loop-agg-preserved c =
    let before = c.loop-agg.invariant in
    let items = c.in_ok-push.ensures.items in (
      subst (AllStand c.args.tys.now none) (sym items) (all_push (Stands c.args.tys.now none) c.loop-agg.counters.items c.new.result before.0 (fresh_stands c.args.tys.now _ c.new.result c.new.ensures.agg c.new.ensures.stands)),
      ap calls items ∙ calls_more c.loop-agg.agg-index c.as_slice-agg-items.result.now _ c.loop-agg.counters.items c.new.result (omega arith) before.1 c.new.ensures.agg,
      λ may. subst AllRetract (sym items) (all_push _ c.loop-agg.counters.items c.new.result (before.2 may) (c.new.ensures.retracts may)),
    )
