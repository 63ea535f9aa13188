use Rattle.std.proofs.Common.{sym, ◌∙◌}
use Rattle.std.proofs.lemmas.Result.{IfOk-weaker}
use Rattle.session_open.proofs.Nodes.{types_of}
use Rattle.session_open.proofs.making.AnyOperatorPlanOperator.range_types.Goals as goal

pub returns-in-Some : goal.returns-in-Some
returns-in-Some c = IfOk-weaker c.range_types_of.result _ _ (λ types is g built. is ∙ types_of c.args.plan.now c.args.columns.now g c.args.node c.in-Some.of.now built (sym c.in-Some.ensures)) c.range_types_of.ensures
