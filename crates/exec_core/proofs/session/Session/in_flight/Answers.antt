use Rattle.plan_rules.specs.Doings.{network}
use Rattle.exec_core.proofs.laws.Standing.{held}
use Rattle.exec_core.proofs.session.Session.in_flight.Goals as goal

pub in_flight-requires : goal.in_flight-requires
in_flight-requires c = let r = c.requires.ready in record { ready = (network r.0, r.1, r.2, r.3, held c.args.self.now c.deref.result.now c.deref.ensures r.0 r.1 r.2 r.3 r.4) }

pub returns : goal.returns
returns c = record { value = λ plan limit handed items stands. c.in_flight.ensures.value (network plan) limit handed items (held c.args.self.now c.deref.result.now c.deref.ensures plan limit handed items stands) }
