use Rattle.plan_laying.proofs.laws.Ways.{step_down}
use Rattle.plan_laying.proofs.way.way_down.Goals as goal

pub down-preserved : goal.down-preserved
down-preserved c = step_down _ _ _ _ _ c.in-Some.top c.down.invariant c.in-Some.is c.first_input-next.ensures c.in_ok-push.ensures.ok
