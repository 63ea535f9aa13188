use Rattle.std.proofs.Common.{◌≡◌, ◌≤◌, ◌+◌, drop}
use Rattle.plan_shape.specs.Shape.{times}
use Rattle.plan_shape.proofs.consumers.times.Given as goal

abbrev pub invariant-loop-input : goal.invariant-loop-input
invariant-loop-input l = record {
  bound : l.count ≤ l.input-index;
  rest : l.count + times l.number (drop l.input-index l.inputs) ≡ times l.number l.inputs;
}
