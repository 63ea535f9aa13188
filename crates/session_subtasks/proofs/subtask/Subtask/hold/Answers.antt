use Rattle.std.proofs.Common.{true, ◌++◌, ◌∷◌, [], refl, arith}
use Rattle.op_rules.specs.History.{arrival}
use Rattle.session_subtasks.specs.Subtasks.{is_full}
use Rattle.session_subtasks.proofs.laws.Outcomes.{on_ok, if_range}
use Rattle.session_subtasks.proofs.Subtasks.{fills, may_fold, run_as}
use Rattle.session_subtasks.proofs.subtask.Subtask.hold.Goals as goal

pub fold-requires : goal.fold-requires
fold-requires b c =
    let r = c.requires.ready in
    record { ready = (r.0, r.1, r.2, r.3, r.4 ++ arrival c.args.port r.5 c.args.change ∷ [], may_fold b.O.Operator.rule b.O.Operator.broken b.O.Operator.stands_for b.O.PieceOperator.takes_pieces c.args.self.now c.args.size c.args.port c.args.change r.0 r.1 r.2 r.3 r.4 r.5 r.6 _ refl c.in_ok-push.ensures.ok) }

pub returns-clause-ok : goal.returns-clause-ok
returns-clause-ok b c = on_ok _ _ c.fold.result c.fold.ensures.ok (λ told g v j history bundle from m.
    let old = c.args.self.now in
    let all = bundle ++ arrival c.args.port from c.args.change ∷ [] in
    run_as b.O.Operator.rule b.O.Operator.broken b.O.Operator.stands_for b.O.PieceOperator.takes_pieces true (is_full g v all) g v c.fold.new.self history all c.fold.new.to
    (fills b.O.Operator.rule b.O.Operator.broken b.O.Operator.stands_for b.O.PieceOperator.takes_pieces old c.args.size c.args.port c.args.change g v j history bundle from m _ c.in_ok-push.ensures.ok (λ few. omega (arith, few, c.len.ensures)))
    (told g v j history all (may_fold b.O.Operator.rule b.O.Operator.broken b.O.Operator.stands_for b.O.PieceOperator.takes_pieces old c.args.size c.args.port c.args.change g v j history bundle from m _ refl c.in_ok-push.ensures.ok)))

pub returns-clause-range : goal.returns-clause-range
returns-clause-range b c = if_range _ _ c.fold.result c.fold.ensures.range (λ row told g v j history bundle from m.
    let old = c.args.self.now in
    let all = bundle ++ arrival c.args.port from c.args.change ∷ [] in (
      fills b.O.Operator.rule b.O.Operator.broken b.O.Operator.stands_for b.O.PieceOperator.takes_pieces old c.args.size c.args.port c.args.change g v j history bundle from m _ c.in_ok-push.ensures.ok (λ few. omega (arith, few, c.len.ensures)),
      told g v j history all (may_fold b.O.Operator.rule b.O.Operator.broken b.O.Operator.stands_for b.O.PieceOperator.takes_pieces old c.args.size c.args.port c.args.change g v j history bundle from m _ refl c.in_ok-push.ensures.ok),
    ))
