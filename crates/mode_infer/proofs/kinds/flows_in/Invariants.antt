use Rattle.std.proofs.Common.{◌≡◌, take, map}
use Rattle.phys_plan.specs.Reading.{at}
use Rattle.mode_infer.specs.Kinds.{no_flow}
use Rattle.mode_infer.proofs.kinds.flows_in.Given as goal

abbrev pub invariant-loop-input : goal.invariant-loop-input
invariant-loop-input l = l.flows ≡ map (at no_flow l.done) (take l.input-index l.inputs)
