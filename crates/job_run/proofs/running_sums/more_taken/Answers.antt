use Rattle.std.proofs.Common.{◌++◌, ℕ, List, subst}
use Rattle.job_judgement.specs.Views.{accepted_view}
use Rattle.job_text.specs.Lines.{records_of}
use Rattle.source_lines.specs.Feeds.{feed_taken}
use Rattle.source_lines.specs.Taken.{IsRefused}
use Rattle.source_lines.specs.declared.fault.TakeFault.{TakeFault}
use Rattle.job_run.proofs.Summed.{refused_sums}
use Rattle.job_run.proofs.running_sums.more_taken.Goals as goal

pub returns-in-Err-Refused : goal.returns-in-Err-Refused
returns-in-Err-Refused c = λ records p.
    let script = accepted_view c.args.script in
    let all = records ++ records_of c.args.part in
    let seen = subst (λ (bytes : List ℕ). IsRefused c.in-Err-Refused.field-0 (feed_taken script.inserted.sources (records ++ records_of bytes))) c.as_slice.ensures (c.in-Err-Refused.ensures.refused script.inserted.sources records p.1) in
    let refused = subst (λ (fault : TakeFault). IsRefused fault (feed_taken script.inserted.sources all)) c.in-Err-Refused.field-0-is seen in
    (tt, (λ more. refused_sums script p.0 c.in-Err-Refused.code c.in-Err-Refused.line c.in-Err-Refused.table all refused more))
