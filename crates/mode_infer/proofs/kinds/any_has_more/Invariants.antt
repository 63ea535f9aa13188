use Rattle.std.proofs.Common.{◌≡◌, drop, map}
use Rattle.std.specs.List.{list_any}
use Rattle.mode_infer.specs.Kinds.{sent_of}
use Rattle.ct_change.specs.Kinds.{has_more_than_inserts}
use Rattle.mode_infer.proofs.kinds.any_has_more.Given as goal

abbrev pub invariant-loop-input : goal.invariant-loop-input
invariant-loop-input l = list_any has_more_than_inserts (map sent_of (drop l.input-index l.inputs)) ≡ list_any has_more_than_inserts (map sent_of l.inputs)
