use Rattle.std.proofs.Common.{◌≡◌, ◌++◌, map}
use Rattle.stream_model.specs.declared.events.PrintItem.TheVariants.{Change as Printed}
use Rattle.session_core.proofs.printing.push_all.Given as goal

abbrev pub invariant-loop-change : goal.invariant-loop-change
invariant-loop-change l = l.printed ≡ l.fn.printed ++ map Printed l.yielded
