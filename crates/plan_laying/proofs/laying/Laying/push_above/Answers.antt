use Rattle.std.proofs.Common.{sym, ◌∙◌}
use Rattle.plan_laying.proofs.laws.Answered.{if_ok}
use Rattle.plan_laying.proofs.laws.Phased.{phases_tops, whole_tops}
use Rattle.plan_laying.proofs.laying.Laying.push_above.Goals as goal

pub returns-in-Some-clause-laid : goal.returns-in-Some-clause-laid
returns-in-Some-clause-laid c = if_ok _ _ _ (λ laid p. phases_tops _ _ _ laid _ _ (sym c.in_ok-local.ensures ∙ c.in-Some.is) p) c.push_phases.ensures.phased

pub returns-in-None-clause-laid : goal.returns-in-None-clause-laid
returns-in-None-clause-laid c = if_ok _ _ _ (λ laid p. whole_tops _ _ _ laid _ (sym c.in_ok-local.ensures ∙ c.in-None.is) p) c.push_whole.ensures.above
