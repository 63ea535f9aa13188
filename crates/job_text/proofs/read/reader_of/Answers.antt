use Rattle.std.proofs.Common.{◌∙◌, ap, sym}
use Rattle.std.specs.Prelude.{option_map}
use Rattle.csv.specs.Reading.{strip_bom}
use Rattle.csv.specs.declared.parser.State.{State}
use Rattle.job_text.specs.Reading.{records_after}
use Rattle.job_text.proofs.Reading.{records_of-after}
use Rattle.job_text.proofs.Readers.{left-at}
use Rattle.job_text.proofs.read.reader_of.Goals as goal

pub returns-clause-left : goal.returns-clause-left
returns-clause-left g c xs e =
    let reader = c.from_reader.ensures in
    left-at g.R.Read.remaining c.from_reader.result (strip_bom xs) (reader.source ∙ ap (option_map strip_bom) e)
    ∙ ap (λ (s : State). records_after s (strip_bom xs)) reader.state ∙ sym (records_of-after xs)
