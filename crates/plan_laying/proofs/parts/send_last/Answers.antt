use Rattle.plan_laying.proofs.laws.LastEdges.{hashed_at_end}
use Rattle.plan_laying.proofs.parts.send_last.Goals as goal

pub returns : goal.returns
returns c = hashed_at_end c.args.exchange c.args.edges.now c.pop.new.self c.push.new.self c.pop.result c.in-Some.edge c.in-Some.is c.pop.ensures.last c.in_ok-push.ensures.ok
