use Rattle.std.proofs.Common.{◌≡◌}
use Rattle.query_answer.specs.Names.{find}
use Rattle.query_answer.specs.Outside.{is_absent}
use Rattle.bind_names.proofs.Foreigns.{absent_from}
use Rattle.bind_names.proofs.sought.is_absent.Given as goal

abbrev pub invariant-loop-column : goal.invariant-loop-column
invariant-loop-column l = is_absent (find l.own l.of l.name) ≡ absent_from l.column-index l.column-items l.of l.name
