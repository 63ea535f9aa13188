-- The exit status of an ending.
use Rattle.std.specs.Prelude.{ℕ}
use Rattle.job_ending.specs.declared.ending.Ending.{Ending}
use Rattle.job_ending.specs.declared.ending.Ending.TheVariants.{Done, Usage, Script, Change, Order, Range, Limit, ReadFault, WriteFault, Memory}

abbrev pub status_of : Ending → ℕ
status_of Done = 0
status_of Usage = 1
status_of (Script code statement) = 2
status_of (Change code line table) = 3
status_of (Order code line) = 4
status_of (Range node subtask row tys) = 5
status_of (Limit name) = 6
status_of ReadFault = 7
status_of WriteFault = 8
status_of Memory = 9
