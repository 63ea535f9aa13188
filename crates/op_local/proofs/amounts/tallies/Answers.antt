use Rattle.std.proofs.Common.{◌≡◌, true, sym, ap, subst, ◌∙◌, arith}
use Rattle.std.proofs.lemmas.List.Elements.{All-from_recursion}
use Rattle.ct_value.specs.Bag.{none}
use Rattle.agg_fns.specs.Partial.{has_partial}
use Rattle.op_local.specs.Amounting.{AllStand, HavePartials, calls}
use Rattle.op_local.proofs.Tallied.{stand_push, calls_push}
use Rattle.op_local.proofs.amounts.tallies.Goals as goal

pub new-requires : goal.new-requires
new-requires c = All-from_recursion (λ agg. has_partial agg.call ≡ true) c.as_slice-agg-items.result.now (subst HavePartials (sym c.as_slice-agg-items.ensures) c.requires) c.loop-agg.agg-index _ (omega arith)

pub loop-agg-preserved : goal.loop-agg-preserved
loop-agg-preserved c =
    let before = c.loop-agg.invariant in
    let items = c.in_ok-push.ensures.items in (
      subst (AllStand none none) (sym items) (stand_push none none c.loop-agg.tallies.items c.new.result before.0 c.new.ensures.stands),
      ap calls items ∙ calls_push c.loop-agg.agg-index c.as_slice-agg-items.result.now _ c.loop-agg.tallies.items c.new.result (omega arith) before.1 c.new.ensures.agg,
    )
