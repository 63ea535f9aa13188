use Rattle.std.proofs.Common.{List, sym, subst}
use Rattle.ct_change.specs.declared.change.Change.{Change}
use Rattle.op_merge.specs.Bundles.{AreOnTheWay}
use Rattle.op_merge.proofs.OnTheWay.{at_first, named_next, onward, out_now, all_told, all_merged}
use Rattle.op_merge.proofs.Told.{if_range}
use Rattle.op_merge.proofs.pieces.take_groups.Goals as goal

pub groups-init : goal.groups-init
groups-init g c =
    let output = g.O.ChangeMode.mode c.args.output.now in
    record {
      way = λ of are.
          subst (AreOnTheWay c.args.by.now output of c.args.bundle.entries c.args.groups.now c.args.bundle.entries) (sym c.new-sent.ensures) (at_first c.args.by.now output of c.args.bundle.entries c.args.groups.now are c.requires.named);
    }

pub take_group-requires-clause-are : goal.take_group-requires-clause-are
take_group-requires-clause-are g c =
    let r = c.requires.are in
    let w = c.groups.invariant.way r.0 r.1 in
    (w.now, w.are)

pub take_group-requires-clause-named : goal.take_group-requires-clause-named
take_group-requires-clause-named g c =
    let output = g.O.ChangeMode.mode c.args.output.now in
    let r = c.requires.are in
    named_next c.args.by.now output r.0 c.args.bundle.entries c.groups.groups c.groups.left.entries c.groups.sent (c.groups.invariant.way r.0 r.1) c.in-Some.key c.in-Some.changes c.take_first.new.self.entries c.in-Some.ensures.some

pub groups-preserved : goal.groups-preserved
groups-preserved g c =
    let output = g.O.ChangeMode.mode c.args.output.now in
    record {
      way = λ of are.
          let w = c.groups.invariant.way of are in
          onward c.args.by.now output of c.args.bundle.entries c.groups.groups c.groups.left.entries c.groups.sent w c.in-Some.key c.in-Some.changes c.take_first.new.self.entries c.in-Some.ensures.some
          c.take_group.new.groups c.take_group.new.to (c.in_default-take_group.ensures.sent w.now w.are) (c.in_default-take_group.ensures.kept w.now w.are);
    }

pub returns-in-Err-clause-range : goal.returns-in-Err-clause-range
returns-in-Err-clause-range g c = if_range (Unit {0}) (List Change) c.in-Err.fault (λ row out of are.
    let output = g.O.ChangeMode.mode c.args.output.now in
    let w = c.groups.invariant.way of are in
    out_now c.args.by.now output of c.args.bundle.entries c.groups.groups c.groups.left.entries c.groups.sent w c.in-Some.key c.in-Some.changes c.take_first.new.self.entries c.in-Some.ensures.some row (out w.now w.are)) c.in-Err.ensures.range

pub returns-clause-sent : goal.returns-clause-sent
returns-clause-sent g c = λ of are. all_told c.args.by.now (g.O.ChangeMode.mode c.args.output.now) of c.args.bundle.entries c.groups.groups c.groups.left.entries c.groups.sent (c.groups.invariant.way of are) c.in_default.ensures.none.0

pub returns-clause-kept : goal.returns-clause-kept
returns-clause-kept g c = λ of are. all_merged c.args.by.now (g.O.ChangeMode.mode c.args.output.now) of c.args.bundle.entries c.groups.groups c.groups.left.entries c.groups.sent (c.groups.invariant.way of are) c.in_default.ensures.none.0
