use Rattle.std.proofs.Common.{length}
use Rattle.plan_check.proofs.sinks.+go_into.Given as goal

abbrev pub decreases-go_into : goal.decreases-go_into
decreases-go_into l = length l.columns.now
