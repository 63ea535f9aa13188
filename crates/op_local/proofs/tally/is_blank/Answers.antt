use Rattle.std.proofs.Common.{subst, ◌∙◌}
use Rattle.agg_fns.specs.ComeAndGone.{StandsForBoth}
use Rattle.op_local.proofs.Blanks.{least_blank, greatest_blank}
use Rattle.op_local.proofs.tally.is_blank.Goals as goal

pub returns-in-Least : goal.returns-in-Least
returns-in-Least c = λ call come gone stands. c.has_none.ensures ∙ least_blank call c.in-Least.kept come gone (subst (λ acc. StandsForBoth call acc come gone) c.in-Least.is stands)

pub returns-in-Greatest : goal.returns-in-Greatest
returns-in-Greatest c = λ call come gone stands. c.has_none-in-Greatest.ensures ∙ greatest_blank call c.in-Greatest.kept come gone (subst (λ acc. StandsForBoth call acc come gone) c.in-Greatest.is stands)
