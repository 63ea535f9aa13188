use Rattle.std.proofs.Common.{◌≡◌, drop}
use Rattle.std.specs.List.{list_any}
use Rattle.planner.specs.Refusals.{tells_more}
use Rattle.planner.proofs.sinks.any_tells_more.Given as goal

abbrev pub invariant-loop-mode : goal.invariant-loop-mode
invariant-loop-mode l = list_any tells_more (drop l.mode-index l.modes) ≡ list_any tells_more l.modes
