use Rattle.std.proofs.Common.{length}
use Rattle.plan_check.proofs.sinks.+keep_nulls.Given as goal

abbrev pub decreases-keep_nulls : goal.decreases-keep_nulls
decreases-keep_nulls l = length l.columns.now
