use Rattle.plan_rules.specs.Doings.{network}
use Rattle.exec_core.proofs.laws.Standing.{held}
use Rattle.exec_core.proofs.session.Session.taken.Goals as goal

pub returns : goal.returns
returns c = λ plan limit handed items stands. c.taken.ensures (network plan) limit handed items (held c.args.self.now c.deref.result.now c.deref.ensures plan limit handed items stands)
