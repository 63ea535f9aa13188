use Rattle.std.proofs.Common.{List, [], sym, ap, subst, ◌∙◌, arith}
use Rattle.op_merge.specs.declared.merger.Merger.{Merger}
use Rattle.op_merge.specs.Kept.{StandAll, calls}
use Rattle.op_merge.proofs.Mergers.{fresh_stands, none_push, calls_more}
use Rattle.op_merge.proofs.kept.new_mergers.Goals as goal

pub loop-agg-preserved : goal.loop-agg-preserved
loop-agg-preserved c =
    let before = c.loop-agg.invariant in
    let items = c.in_ok-push.ensures.items in (
      subst (λ ms. StandAll c.args.tys.now ms []) (sym {A = List Merger} items) (none_push c.args.tys.now c.loop-agg.mergers.items c.new.result before.0 (fresh_stands c.args.tys.now _ c.new.result c.new.ensures.agg c.new.ensures.stands)),
      ap calls items ∙ calls_more c.loop-agg.agg-index c.as_slice-agg-items.result.now _ c.loop-agg.mergers.items c.new.result (omega arith) before.1 c.new.ensures.agg,
    )
