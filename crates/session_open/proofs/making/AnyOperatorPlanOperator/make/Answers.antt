use Rattle.std.proofs.Common.{sym}
use Rattle.std.proofs.lemmas.Result.{IfOk-weaker}
use Rattle.session_open.proofs.Nodes.{node_made}
use Rattle.session_open.proofs.making.AnyOperatorPlanOperator.make.Goals as goal

pub returns-in-Some : goal.returns-in-Some
returns-in-Some c = IfOk-weaker c.operator_of.result _ _ (λ made of g built. node_made _ _ _ _ c.args.plan.now c.args.columns.now g c.args.node built c.in-Some.of.now made (sym c.in-Some.ensures) of) c.operator_of.ensures
