use Rattle.std.proofs.Common.{ℕ, ◌+◌, ◌*◌, subst}
use Rattle.std.proofs.lemmas.Result.{err_from_is_err_and}
use Rattle.op_rules.specs.Tasks.{total}
use Rattle.session_open.specs.Opening.{HaveOpened, IsTooMany, opens_with}
use Rattle.session_open.proofs.Started.{may_start}
use Rattle.session_open.proofs.opening.open_subtask.Goals as goal

pub returns-in_err-start-clause-err : goal.returns-in_err-start-clause-err
returns-in_err-start-clause-err b c = let p = err_from_is_err_and c.from_residual-in_err-start.result c.from_residual-in_err-start.ensures.1 in rw (p.1, p.2) (λ g limit opens have.
    let plan = c.args.plan.now in
    let v = c.args.node in
    let j = c.args.subtask in
    let may = may_start b.O.Operator.rule b.O.Operator.broken b.O.Operator.stands_for b.O.PieceOperator.takes_pieces b.O.PlanOperator.runs plan c.args.columns.now c.args.wiring.now g limit c.args.channels.now v j c.in_ok-op.op c.in_ok-op.sent opens have c.requires.node c.requires.subtask (c.in_ok-op.ensures g opens.runs_as) in
    subst (λ (n : ℕ). IsTooMany limit (total (v * n + j + 1) (opens_with g)) c.in_err-start.field-0.0) opens.subtasks_are (c.in_err-start.ensures.err g limit may))

pub returns-clause-opened : goal.returns-clause-opened
returns-clause-opened b c = λ g limit opens have.
    let plan = c.args.plan.now in
    let v = c.args.node in
    let j = c.args.subtask in
    let may = may_start b.O.Operator.rule b.O.Operator.broken b.O.Operator.stands_for b.O.PieceOperator.takes_pieces b.O.PlanOperator.runs plan c.args.columns.now c.args.wiring.now g limit c.args.channels.now v j c.in_ok-op.op c.in_ok-op.sent opens have c.requires.node c.requires.subtask (c.in_ok-op.ensures g opens.runs_as) in
    subst (λ (n : ℕ). HaveOpened g limit (v * n + j + 1) c.start.new.channels) opens.subtasks_are (c.in_ok-start.ensures.ok g limit may)
