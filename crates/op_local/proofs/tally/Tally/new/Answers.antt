use Rattle.std.proofs.Common.{sym, subst}
use Rattle.agg_fns.specs.ComeAndGone.{StandsForBoth}
use Rattle.phase_rules.proofs.laws.LocalWorths.{values_nothing}
use Rattle.op_local.proofs.tally.Tally.new.Goals as goal

pub returns-clause-stands : goal.returns-clause-stands
returns-clause-stands c = subst (λ v. StandsForBoth c.args.agg.call c.new.result v v) (sym (values_nothing c.args.agg)) c.new.ensures
