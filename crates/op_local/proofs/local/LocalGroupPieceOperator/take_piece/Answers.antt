use Rattle.std.proofs.Common.{List, Ok, Err}
use Rattle.ct_change.specs.declared.change.Change.{Change}
use Rattle.phase_rules.specs.LocalGrouping.{LocalGrouping}
use Rattle.op_local.proofs.Rules.{may_tell, emits_told, within}
use Rattle.op_local.proofs.TellingOn.{if_range}
use Rattle.op_local.proofs.local.LocalGroupPieceOperator.take_piece.Goals as goal

pub tell_changes-requires : goal.tell_changes-requires
tell_changes-requires g c =
    let s = c.args.self.now in
    let l : LocalGrouping = record { keys = s.keys; aggs = s.aggs; columns = s.tys; input = g.M.ChangeMode.mode s.mode } in
    let r = c.requires.may in
    may_tell l r.2 r.0 r.1 c.args.changes r.3

pub returns-clause-sent : goal.returns-clause-sent
returns-clause-sent g c = λ before piece stands may.
    let s = c.args.self.now in
    let l : LocalGrouping = record { keys = s.keys; aggs = s.aggs; columns = s.tys; input = g.M.ChangeMode.mode s.mode } in
    emits_told l stands before piece c.args.changes may (Ok c.in-Ok.sent) c.in-Ok.ensures.sent

pub returns-in-Err-clause-range : goal.returns-in-Err-clause-range
returns-in-Err-clause-range g c = if_range (List Change) (List Change) c.in-Err.fault (λ row out before piece stands may.
    let s = c.args.self.now in
    let l : LocalGrouping = record { keys = s.keys; aggs = s.aggs; columns = s.tys; input = g.M.ChangeMode.mode s.mode } in
    emits_told l stands before piece c.args.changes may (Err row) out) c.in-Err.ensures.range

pub returns-in-Err-clause-cost : goal.returns-in-Err-clause-cost
returns-in-Err-clause-cost g c = λ before piece stands may.
    let s = c.args.self.now in
    let l : LocalGrouping = record { keys = s.keys; aggs = s.aggs; columns = s.tys; input = g.M.ChangeMode.mode s.mode } in
    within l stands before piece c.args.changes may c.args.steps.now c.tell_changes.new.steps c.tell_changes.ensures.cost

pub returns-clause-cost : goal.returns-clause-cost
returns-clause-cost g c = λ before piece stands may.
    let s = c.args.self.now in
    let l : LocalGrouping = record { keys = s.keys; aggs = s.aggs; columns = s.tys; input = g.M.ChangeMode.mode s.mode } in
    within l stands before piece c.args.changes may c.args.steps.now c.tell_changes.new.steps c.tell_changes.ensures.cost
