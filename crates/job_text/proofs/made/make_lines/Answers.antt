use Rattle.std.proofs.Common.{refl}
use Rattle.job_text.proofs.MadeLines.{lines_more}
use Rattle.job_text.proofs.made.make_lines.Goals as goal

pub loop-k-preserved : goal.loop-k-preserved
loop-k-preserved c = record {
  lines = lines_more c.args.seed c.loop-k.k _ _ c.loop-k.invariant.lines (c.in_ok-push_line.ensures c.args.seed c.loop-k.k refl c.loop-k.invariant.last);
  last = c.behind-numbers.ensures c.args.seed c.loop-k.k c.loop-k.invariant.last;
}
