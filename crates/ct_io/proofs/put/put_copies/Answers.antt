use Rattle.std.proofs.Common.{rules}
use Rattle.ct_io.proofs.laws.Pieces.{part_in_copy}
use Rattle.ct_io.proofs.put.put_copies.Goals as goal

pub returns-in_err-put_all-clause-part : goal.returns-in_err-put_all-clause-part
returns-in_err-put_all-clause-part g c = part_in_copy {left = c.copies.left} (search rules) c.copies.invariant.taken c.in_err-put_all.ensures.part
