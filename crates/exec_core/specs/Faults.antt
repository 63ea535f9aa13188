-- What the faults of a session at a line say of the machine's run.
use Rattle.std.specs.Prelude.{◌≡◌, ℕ}
use Rattle.ct_value.specs.declared.codes.ChangeCode.{ChangeCode}
use Rattle.job_text.specs.Lines.{LinesLeft}
use Rattle.stream_model.specs.declared.events.StepFault.{StepFault}
use Rattle.stream_model.specs.declared.events.StepFault.TheVariants as step
use Rattle.stream_model.specs.Machine.{State}
use Rattle.source_lines.specs.Run.{At, Went, halts, refused, stopped}
use Rattle.source_lines.specs.Supply.{table_told}
use Rattle.exec_core.specs.declared.fault.RunFault.{RunFault}
use Rattle.exec_core.specs.declared.fault.RunFault.TheVariants.{Refused, Stopped}

-- the run halts here by this cause, or memory was wanting
abbrev pub HaltsAt : StepFault → At State → Went (At State) → Type 0
HaltsAt (step.Change code) p went = went ≡ halts (stopped (step.Change code)) p
HaltsAt (step.Order code) p went = went ≡ halts (stopped (step.Order code)) p
HaltsAt (step.Range node subtask row types) p went = went ≡ halts (stopped (step.Range node subtask row types)) p
HaltsAt step.Limit p went = went ≡ halts (stopped step.Limit) p
HaltsAt step.Memory p went = Unit {0}

-- why the next line of a file isn't taken here
abbrev pub IsLineFault : RunFault → At State → Went (At State) → Type 0
IsLineFault (Refused code line table) p went = went ≡ halts (refused code line table) p
IsLineFault (Stopped cause) p went = HaltsAt cause p went

-- the last line that was read of a file is refused, by its number and its table as that is told, or memory was wanting
pub record IsLastRead (code other : ChangeCode) (line table : ℕ) (file : LinesLeft) : Type 0 where
  pub code_is : other ≡ code
  pub line_is : line ≡ file.read
  pub table_is : table ≡ table_told file.feed

abbrev pub RefusesLast : RunFault → ChangeCode → LinesLeft → Type 0
RefusesLast (Refused other line table) code file = IsLastRead code other line table file
RefusesLast (Stopped cause) code file = cause ≡ step.Memory

-- a job that stopped at the last line that was read refused it, or has stopped by itself
abbrev pub IsFaultAt : StepFault → RunFault → LinesLeft → Type 0
IsFaultAt (step.Change code) run file = RefusesLast run code file
IsFaultAt (step.Order code) run file = run ≡ Stopped (step.Order code)
IsFaultAt (step.Range node subtask row types) run file = run ≡ Stopped (step.Range node subtask row types)
IsFaultAt step.Limit run file = run ≡ Stopped step.Limit
IsFaultAt step.Memory run file = run ≡ Stopped step.Memory
