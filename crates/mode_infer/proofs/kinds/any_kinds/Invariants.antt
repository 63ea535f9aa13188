use Rattle.std.proofs.Common.{◌≡◌, drop, map, fold}
use Rattle.mode_infer.specs.Kinds.{either, no_kinds, sent_of}
use Rattle.mode_infer.proofs.kinds.any_kinds.Given as goal

abbrev pub invariant-loop-input : goal.invariant-loop-input
invariant-loop-input l = fold either l.kinds (map sent_of (drop l.input-index l.inputs)) ≡ fold either no_kinds (map sent_of l.inputs)
