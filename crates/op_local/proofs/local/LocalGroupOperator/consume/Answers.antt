use Rattle.std.proofs.Common.{◌≡◌, Ok, sym, subst}
use Rattle.op_rules.specs.History.{arrival}
use Rattle.op_rules.specs.Rules.{Answer}
use Rattle.op_rules.proofs.laws.Emits.{emits_onto}
use Rattle.emission_rules.specs.Grouping.{answers, groups_of}
use Rattle.phase_rules.specs.LocalGrouping.{LocalGrouping, local_answer, local_rule, members_of}
use Rattle.op_local.specs.Telling.{MayBeTold}
use Rattle.op_local.proofs.Rules.{may_tell_one, emits_one}
use Rattle.op_local.proofs.local.LocalGroupOperator.consume.Goals as goal

pub tell_changes-requires : goal.tell_changes-requires
tell_changes-requires g c =
    let s = c.args.self.now in
    let l : LocalGrouping = record { keys = s.keys; aggs = s.aggs; columns = s.tys; input = g.M.ChangeMode.mode s.mode } in
    let r = c.requires.may in
    subst (MayBeTold s.aggs) (sym c.in_ok-changes.ensures) (may_tell_one l r.2 r.0 c.args._port r.1 c.args.change r.3)

pub returns-clause-ok : goal.returns-clause-ok
returns-clause-ok g c = λ before from stands may few.
    let s = c.args.self.now in
    let l : LocalGrouping = record { keys = s.keys; aggs = s.aggs; columns = s.tys; input = g.M.ChangeMode.mode s.mode } in
    let all : Answer = Ok c.in-Ok.sent in
    let told = subst (λ cs. answers (λ key. local_answer s.aggs key (members_of s.keys key cs)) (groups_of s.keys cs) ≡ all) c.in_ok-changes.ensures c.in-Ok.ensures.sent in
    (emits_onto (local_rule l) before (arrival c.args._port from c.args.change) c.args.to.now c.in-Ok.sent c.append.new.self (emits_one l stands before c.args._port from c.args.change may all told) c.in_ok-append.ensures.ok, stands)
