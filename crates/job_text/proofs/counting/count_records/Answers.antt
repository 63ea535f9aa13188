use Rattle.std.proofs.Common.{arith}
use Rattle.job_text.proofs.Ends.{no_longer, total}
use Rattle.job_text.proofs.counting.count_records.Goals as goal

pub overflow_add-count : goal.overflow_add-count
overflow_add-count c =
    omega (arith, c.requires, no_longer c.args.bytes.now c.without_mark-text.result.now c.without_mark-text.ensures, c.loop-at.invariant.few, c.loop-at-test.true, c.one_if-count.ensures.small)

pub returns : goal.returns
returns c = total c.args.bytes.now c.without_mark-text.result.now c.loop-at.at c.loop-at.count c.without_mark-text.ensures c.loop-at-test.false c.loop-at.invariant.counted
