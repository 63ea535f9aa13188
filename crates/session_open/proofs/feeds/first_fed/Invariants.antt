use Rattle.std.proofs.Common.{◌≡◌, ◌+◌, drop}
use Rattle.plan_rules.specs.Plans.{feed_from}
use Rattle.session_open.proofs.feeds.first_fed.Given as goal

abbrev pub invariant-loop-done : goal.invariant-loop-done
invariant-loop-done l = feed_from 1 l.edge l.nodes ≡ feed_from (l.done + 1) l.edge (drop l.done l.nodes)
