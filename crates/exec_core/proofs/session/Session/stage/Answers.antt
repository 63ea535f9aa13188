use Rattle.plan_rules.specs.Doings.{network}
use Rattle.exec_core.proofs.laws.Standing.{held}
use Rattle.exec_core.proofs.session.Session.stage.Goals as goal

pub stage-requires : goal.stage-requires
stage-requires c = let r = c.requires in (network r.0, r.1, r.2, r.3, held c.args.self.now c.deref.result.now c.deref.ensures r.0 r.1 r.2 r.3 r.4, r.5)

pub returns-clause-there : goal.returns-clause-there
returns-clause-there c = λ plan limit handed items stands. c.stage.ensures.there (network plan) limit handed items (held c.args.self.now c.deref.result.now c.deref.ensures plan limit handed items stands)

pub returns-clause-next : goal.returns-clause-next
returns-clause-next c = λ plan limit handed items stands. c.stage.ensures.next (network plan) limit handed items (held c.args.self.now c.deref.result.now c.deref.ensures plan limit handed items stands)
