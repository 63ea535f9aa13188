use Rattle.std.proofs.Common.{◌++◌, ap, sym, ◌∙◌}
use Rattle.plan_rules.specs.Doings.{network}
use Rattle.exec_core.proofs.laws.Standing.{held}
use Rattle.exec_core.proofs.session.Session.hand_over.Goals as goal

pub returns-clause-items : goal.returns-clause-items
returns-clause-items c = λ plan limit handed items stands.
    let job = held c.args.self.now c.deref_mut.result.now c.deref_mut.ensures.value plan limit handed items stands in
    job.keeps.carries.printed ∙ ap (λ l. handed ++ l) (sym c.hand_over.ensures.items)

pub returns-clause-stands : goal.returns-clause-stands
returns-clause-stands c = λ plan limit handed items stands.
    let job = held c.args.self.now c.deref_mut.result.now c.deref_mut.ensures.value plan limit handed items stands in
    record { ruled = stands.ruled; stands_for = c.hand_over.ensures.stands (network plan) limit handed items job }
