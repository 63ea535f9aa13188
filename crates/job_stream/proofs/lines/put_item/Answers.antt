use Rattle.ct_io.proofs.laws.Appending.{part_none}
use Rattle.job_stream.proofs.lines.put_item.Goals as goal

pub returns-in_err-write_item-clause-part : goal.returns-in_err-write_item-clause-part
returns-in_err-write_item-clause-part g c = part_none _ _
