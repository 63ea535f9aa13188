use Rattle.std.proofs.Common.{◌≡◌, arith, length}
use Rattle.job_text.specs.Ends.{state_at}
use Rattle.job_text.proofs.RecordEnds.{none_before}
use Rattle.job_text.proofs.counting.quoted_end.Goals as goal

pub returns-clause-is : goal.returns-clause-is
returns-clause-is c =
    let text = c.args.text.now in
    let all : c.loop-i.i ≡ length text = omega (arith, c.loop-i-test.false, c.loop-i.auto.i-end, c.requires) in
    omega (arith, all, c.loop-i.invariant, none_before text c.loop-i.i (state_at c.loop-i.place) all)
