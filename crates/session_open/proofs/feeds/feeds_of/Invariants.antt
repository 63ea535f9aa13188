use Rattle.std.proofs.Common.{◌≡◌, ℕ, ◌<◌, None, length, get_or}
use Rattle.plan_rules.specs.Plans.{feed_from}
use Rattle.session_core.specs.LaidOut.{feed_of}
use Rattle.session_open.proofs.feeds.feeds_of.Given as goal

abbrev pub invariant-loop-edge : goal.invariant-loop-edge
invariant-loop-edge l = record {
  count : length l.feeds.items ≡ l.edge;
  feeds : (e : ℕ) → e < l.edge → feed_of (get_or l.feeds.items e None) ≡ feed_from 1 e l.nodes;
}
