use Rattle.job_text.proofs.Texts.{texts_step}
use Rattle.job_text.proofs.lines.push_values.Goals as goal

pub loop-i-preserved : goal.loop-i-preserved
loop-i-preserved c = texts_step _ _ _ c.args.tys.now c.args.values.now c.loop-i.i _ _ c.requires.wide c.loop-i-test.true c.index-values-i.is c.in_ok-push_value.ensures c.loop-i.invariant
