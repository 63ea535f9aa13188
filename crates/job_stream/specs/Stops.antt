-- Why a run halts, as its caller is told, and why a bundle can't be flushed.
use Rattle.std.specs.Prelude.{Option, Some, None}
use Rattle.ct_value.specs.declared.codes.OrderCode.{OrderCode}
use Rattle.ct_value.specs.declared.codes.OrderCode.TheVariants.{NoSuchPlace, NoBuffer as NoBundle}
use Rattle.session_core.specs.declared.session.Buffer.{Buffer}
use Rattle.session_core.specs.declared.session.Buffer.TheVariants.{NoPlace, NoBuffer, Holds}
use Rattle.stream_model.specs.declared.events.StepFault.{StepFault}
use Rattle.stream_model.specs.declared.events.StepFault.TheVariants as fault
use Rattle.exec_core.specs.declared.fault.RunFault.{RunFault}
use Rattle.exec_core.specs.declared.fault.RunFault.TheVariants.{Refused, Stopped}
use Rattle.job_ending.specs.declared.halt.Halt.{Halt}
use Rattle.job_ending.specs.declared.halt.Halt.TheVariants.{Change, Order, Range, Limit, Memory}
use Rattle.job_ending.specs.declared.ending.LimitName.TheVariants.{Sent}

-- where the job stops
abbrev pub halt_of : StepFault → Halt
halt_of (fault.Change code) = Change code 0 0
halt_of (fault.Order code) = Order code 0
halt_of (fault.Range node subtask row types) = Range node subtask row types
halt_of fault.Limit = Limit Sent
halt_of fault.Memory = Memory

-- where a line isn't taken
abbrev pub halt_at : RunFault → Halt
halt_at (Refused code line table) = Change code line table
halt_at (Stopped cause) = halt_of cause

-- by what a session tells of it
abbrev pub buffer_refusal : Buffer → Option OrderCode
buffer_refusal NoPlace = Some NoSuchPlace
buffer_refusal NoBuffer = Some NoBundle
buffer_refusal (Holds held) = None
