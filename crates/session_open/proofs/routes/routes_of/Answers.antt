use Rattle.session_open.proofs.Laying.{routed}
use Rattle.session_open.proofs.routes.routes_of.Goals as goal

pub returns-clause-routes : goal.returns-clause-routes
returns-clause-routes c = λ of doing are e route is. routed of doing c.args.plan.now c.args.columns.now e route are (c.requires.may.exchanged e) (c.loop-edge.invariant.routes e route is)
