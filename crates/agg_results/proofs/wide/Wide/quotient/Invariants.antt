use Rattle.std.proofs.Common.{◌+◌, ◌-◌, ◌*◌, ◌<◌, ◌≤◌}
use Rattle.agg_results.specs.Wide.{wide_number}
use Rattle.agg_results.proofs.wide.Wide.quotient.Given as goal

abbrev pub invariant-halve : goal.invariant-halve
invariant-halve l = (l.low * l.divisor ≤ wide_number l.self) × (wide_number l.self < (l.high + 1) * l.divisor) × (l.low ≤ l.high)

abbrev pub decreases-halve : goal.decreases-halve
decreases-halve l = l.high - l.low
