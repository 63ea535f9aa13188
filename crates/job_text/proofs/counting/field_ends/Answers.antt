use Rattle.std.proofs.Common.{◌≡◌, arith, length}
use Rattle.job_text.specs.Ends.{state_at}
use Rattle.job_text.proofs.RecordEnds.{no_field}
use Rattle.job_text.proofs.counting.field_ends.Goals as goal

pub returns : goal.returns
returns c =
    let bytes = c.args.text.now in
    let all : c.loop-byte.byte-index ≡ length bytes = omega arith in
    omega (arith, all, c.loop-byte.invariant.counted, no_field bytes c.loop-byte.byte-index (state_at c.loop-byte.place) all)
