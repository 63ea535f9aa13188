use Rattle.std.proofs.Common.{◌≡◌, ℕ, ◌<◌, None, length, get_or}
use Rattle.phys_plan.specs.Reading.{numbered}
use Rattle.plan_rules.specs.Plans.{bundle_in}
use Rattle.session_open.proofs.bundles.bundles_of.Given as goal

abbrev pub invariant-loop-node : goal.invariant-loop-node
invariant-loop-node l = record {
  count : length l.sizes.items ≡ l.node;
  sizes : (v : ℕ) → v < l.node → get_or l.sizes.items v None ≡ bundle_in l.plan.mini_batch (numbered l.plan.nodes v);
}
