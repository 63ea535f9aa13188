use Rattle.std.proofs.Common.{◌+◌, ◌-◌, vec_len}
use Rattle.system_io.proofs.file_shelf.read_within.Given as goal

abbrev pub decreases-reads : goal.decreases-reads
decreases-reads g l = l.limit + 1 - vec_len l.bytes
