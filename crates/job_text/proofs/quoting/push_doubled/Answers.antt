use Rattle.job_text.proofs.Quotes.{doubled_step}
use Rattle.job_text.proofs.quoting.push_doubled.Goals as goal

pub loop-i-preserved : goal.loop-i-preserved
loop-i-preserved c = doubled_step _ _ _ c.args.text.now c.loop-i.i c.loop-i-test.true c.in_ok-push_byte.ensures c.loop-i.invariant
