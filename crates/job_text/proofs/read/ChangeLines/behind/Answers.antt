use Rattle.std.proofs.Common.{arith, rules}
use Rattle.job_text.proofs.Reading.{few_records}
use Rattle.job_text.proofs.read.ChangeLines.behind.Goals as goal

pub invariant_of-result : goal.invariant_of-result
invariant_of-result c =
    let counted = c.in_ok-left.ensures in
    record {
      within = omega (arith, counted, c.requires, few_records c.args.bytes.now);
      reads_on = λ some. record { counted = search rules; good = c.reader_of.ensures.reading };
    }
