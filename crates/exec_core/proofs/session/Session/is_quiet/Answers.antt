use Rattle.plan_rules.specs.Doings.{network}
use Rattle.sound_plans.proofs.laws.Theorems.{sound_plans_print}
use Rattle.exec_core.proofs.laws.Standing.{held}
use Rattle.exec_core.proofs.session.Session.is_quiet.Goals as goal

pub is_quiet-requires : goal.is_quiet-requires
is_quiet-requires c = let r = c.requires.ready in record { ready = (network r.0, r.1, r.2, r.3, held c.args.self.now c.deref.result.now c.deref.ensures r.0 r.1 r.2 r.3 r.4) }

pub returns-clause-quiet : goal.returns-clause-quiet
returns-clause-quiet c = λ plan limit handed items stands told. c.is_quiet.ensures.quiet (network plan) limit handed items (held c.args.self.now c.deref.result.now c.deref.ensures plan limit handed items stands) told

pub returns-clause-answers : goal.returns-clause-answers
returns-clause-answers c = λ told plan limit handed items stands.
    let prints = sound_plans_print plan stands.ruled limit items stands.stands_for.typed in
    record { valid = prints.valid; answer = prints.folds (c.is_quiet.ensures.quiet (network plan) limit handed items (held c.args.self.now c.deref.result.now c.deref.ensures plan limit handed items stands) told) }

pub returns-clause-busy : goal.returns-clause-busy
returns-clause-busy c = λ plan limit handed items stands quiet. c.is_quiet.ensures.busy (network plan) limit handed items (held c.args.self.now c.deref.result.now c.deref.ensures plan limit handed items stands) quiet
