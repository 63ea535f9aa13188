use Rattle.std.proofs.Common.{◌≡◌, ◌+◌, drop}
use Rattle.mode_infer.specs.Updates.{port_of}
use Rattle.mode_infer.proofs.consumers.port_of.Given as goal

abbrev pub invariant-loop-port : goal.invariant-loop-port
invariant-loop-port l = l.port + port_of l.number (drop l.port l.inputs) ≡ port_of l.number l.inputs
