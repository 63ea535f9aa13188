use Rattle.std.proofs.Common.{List, sym, ap, subst, arith}
use Rattle.ct_change.specs.declared.change.Change.{Change}
use Rattle.mini_batch.specs.Held.{held_in}
use Rattle.op_local.specs.Telling.{AreOnTheWay}
use Rattle.op_local.proofs.TellingOn.{at_first, may_next, onward, out_now, all_told, if_range}
use Rattle.op_local.proofs.groups.tell_groups.Goals as goal

pub tell_group-requires : goal.tell_group-requires
tell_group-requires g c = may_next c.args.aggs.now c.args.bundle.entries c.groups.left.entries c.groups.sent c.groups.invariant.way c.in-Some.key c.in-Some.changes c.take_first.new.self.entries c.in-Some.ensures.some

pub groups-init : goal.groups-init
groups-init g c = record {
  way = subst (AreOnTheWay c.args.aggs.now c.args.bundle.entries c.args.bundle.entries) (sym c.new-sent.ensures) (at_first c.args.aggs.now c.args.bundle.entries c.requires);
  steps = omega arith;
}

pub groups-preserved : goal.groups-preserved
groups-preserved g c = record {
  way = subst (AreOnTheWay c.args.aggs.now c.args.bundle.entries c.take_first.new.self.entries) (sym c.in_ok-append-in-Ok.ensures.ok)
      (onward c.args.aggs.now c.args.bundle.entries c.groups.left.entries c.groups.sent c.groups.invariant.way c.in-Some.key c.in-Some.changes c.take_first.new.self.entries c.in-Some.ensures.some c.in-Ok.told c.in-Ok.ensures.sent);
  steps =
      let steps = c.groups.invariant.steps in
      let held = ap held_in c.in-Some.ensures.some in
      let cost = c.tell_group.ensures.cost in
      omega (arith, steps, held, cost);
}

pub returns-in-Err-clause-range : goal.returns-in-Err-clause-range
returns-in-Err-clause-range g c = if_range (List Change) (List Change) c.in-Err.fault (λ row out.
    out_now c.args.aggs.now c.args.bundle.entries c.groups.left.entries c.groups.sent c.groups.invariant.way c.in-Some.key c.in-Some.changes c.take_first.new.self.entries c.in-Some.ensures.some row out) c.in-Err.ensures.range

pub returns-in-Err-clause-cost : goal.returns-in-Err-clause-cost
returns-in-Err-clause-cost g c =
    let steps = c.groups.invariant.steps in
    let held = ap held_in c.in-Some.ensures.some in
    let cost = c.tell_group.ensures.cost in
    omega (arith, steps, held, cost)

pub returns-clause-sent : goal.returns-clause-sent
returns-clause-sent g c = all_told c.args.aggs.now c.args.bundle.entries c.groups.left.entries c.groups.sent c.groups.invariant.way c.in_default.ensures.none.0
