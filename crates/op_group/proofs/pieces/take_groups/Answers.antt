use Rattle.std.proofs.Common.{List, sym, subst}
use Rattle.ct_change.specs.declared.change.Change.{Change}
use Rattle.op_group.specs.Bundles.{AreOnTheWay}
use Rattle.op_group.specs.Groups.{grouping}
use Rattle.op_group.proofs.OnTheWay.{at_first, may_next, onward, out_now, all_told, all_stand, all_grouped}
use Rattle.op_group.proofs.Taken.{if_range}
use Rattle.op_group.proofs.pieces.take_groups.Goals as goal

pub take_group-requires : goal.take_group-requires
take_group-requires g c =
    let input = g.I.ChangeMode.mode c.args.input.now in
    let output = g.O.ChangeMode.mode c.args.output.now in
    let r = c.requires in
    let w = c.groups.invariant.way r.0 r.1 r.2 r.3 in
    (w.now, w.taken, w.stand, may_next c.args.by.now input output r.0 r.1 c.args.bundle.entries (g.I.InMode.stands_for c.args.input.now c.groups.rows) c.groups.groups c.groups.left.entries c.groups.sent w c.in-Some.key c.in-Some.changes c.take_first.new.self.entries c.in-Some.ensures.some)

pub groups-preserved : goal.groups-preserved
groups-preserved g c =
    let input = g.I.ChangeMode.mode c.args.input.now in
    let output = g.O.ChangeMode.mode c.args.output.now in
    record {
      way = λ rows held stands m.
          let w = c.groups.invariant.way rows held stands m in
          let next = may_next c.args.by.now input output rows held c.args.bundle.entries (g.I.InMode.stands_for c.args.input.now c.groups.rows) c.groups.groups c.groups.left.entries c.groups.sent w c.in-Some.key c.in-Some.changes c.take_first.new.self.entries c.in-Some.ensures.some in
          onward c.args.by.now input output rows held c.args.bundle.entries (g.I.InMode.stands_for c.args.input.now c.groups.rows) c.groups.groups c.groups.left.entries c.groups.sent w c.in-Some.key c.in-Some.changes c.take_first.new.self.entries c.in-Some.ensures.some
          (g.I.InMode.stands_for c.args.input.now c.take_group.new.rows) c.take_group.new.groups c.take_group.new.to (c.in_default-take_group.ensures.sent w.now w.taken w.stand next) (c.in_default-take_group.ensures.rows w.now w.taken w.stand next) (c.in_default-take_group.ensures.kept w.now w.taken w.stand next);
    }

pub groups-init : goal.groups-init
groups-init g c =
    let input = g.I.ChangeMode.mode c.args.input.now in
    let output = g.O.ChangeMode.mode c.args.output.now in
    record {
      way = λ rows held stands m.
          subst (AreOnTheWay c.args.by.now (grouping c.args.by.now input output) rows held c.args.bundle.entries (g.I.InMode.stands_for c.args.input.now c.args.rows.now) c.args.groups.now c.args.bundle.entries) (sym c.new-sent.ensures)
          (at_first c.args.by.now (grouping c.args.by.now input output) rows held c.args.bundle.entries (g.I.InMode.stands_for c.args.input.now c.args.rows.now) c.args.groups.now stands m);
    }

pub returns-in-Err-clause-range : goal.returns-in-Err-clause-range
returns-in-Err-clause-range g c = if_range (Unit {0}) (List Change) c.in-Err.fault (λ row out rows held stands m.
    let input = g.I.ChangeMode.mode c.args.input.now in
    let output = g.O.ChangeMode.mode c.args.output.now in
    let w = c.groups.invariant.way rows held stands m in
    let next = may_next c.args.by.now input output rows held c.args.bundle.entries (g.I.InMode.stands_for c.args.input.now c.groups.rows) c.groups.groups c.groups.left.entries c.groups.sent w c.in-Some.key c.in-Some.changes c.take_first.new.self.entries c.in-Some.ensures.some in
    out_now c.args.by.now input output rows held c.args.bundle.entries (g.I.InMode.stands_for c.args.input.now c.groups.rows) c.groups.groups c.groups.left.entries c.groups.sent w c.in-Some.key c.in-Some.changes c.take_first.new.self.entries c.in-Some.ensures.some
    row (out w.now w.taken w.stand next)) c.in-Err.ensures.range

pub returns-clause-sent : goal.returns-clause-sent
returns-clause-sent g c = λ rows held stands m.
    let input = g.I.ChangeMode.mode c.args.input.now in
    let output = g.O.ChangeMode.mode c.args.output.now in
    all_told c.args.by.now input output rows held c.args.bundle.entries (g.I.InMode.stands_for c.args.input.now c.groups.rows) c.groups.groups c.groups.left.entries c.groups.sent (c.groups.invariant.way rows held stands m) c.in_default.ensures.none.0

pub returns-clause-rows : goal.returns-clause-rows
returns-clause-rows g c = λ rows held stands m.
    let input = g.I.ChangeMode.mode c.args.input.now in
    let output = g.O.ChangeMode.mode c.args.output.now in
    all_stand c.args.by.now input output rows held c.args.bundle.entries (g.I.InMode.stands_for c.args.input.now c.groups.rows) c.groups.groups c.groups.left.entries c.groups.sent (c.groups.invariant.way rows held stands m) c.in_default.ensures.none.0

pub returns-clause-kept : goal.returns-clause-kept
returns-clause-kept g c = λ rows held stands m.
    let input = g.I.ChangeMode.mode c.args.input.now in
    let output = g.O.ChangeMode.mode c.args.output.now in
    all_grouped c.args.by.now input output rows held c.args.bundle.entries (g.I.InMode.stands_for c.args.input.now c.groups.rows) c.groups.groups c.groups.left.entries c.groups.sent (c.groups.invariant.way rows held stands m) c.in_default.ensures.none.0
