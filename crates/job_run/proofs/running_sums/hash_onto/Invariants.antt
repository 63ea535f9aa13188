use Rattle.std.proofs.Common.{◌≡◌, take, fold}
use Rattle.route.specs.Routing.{with_byte}
use Rattle.job_run.proofs.running_sums.hash_onto.Given as goal

abbrev pub invariant-loop-byte : goal.invariant-loop-byte
invariant-loop-byte l = l.sum ≡ fold with_byte l.fn.hash (take l.byte-index l.more)
