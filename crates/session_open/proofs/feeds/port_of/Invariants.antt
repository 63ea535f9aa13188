use Rattle.std.proofs.Common.{◌≡◌, drop}
use Rattle.plan_rules.specs.Plans.{port_of}
use Rattle.session_open.proofs.Ports.{further}
use Rattle.session_open.proofs.feeds.port_of.Given as goal

abbrev pub invariant-loop-port : goal.invariant-loop-port
invariant-loop-port l = port_of l.edge l.inputs ≡ further l.port (port_of l.edge (drop l.port l.inputs))
