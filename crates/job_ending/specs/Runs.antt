-- What a run did: its ending has its cause, and it wrote the outcome's bytes, or a first part of them.
use Rattle.std.specs.Prelude.{◌≡◌, ◌⊎◌, Bool, true, false, ℕ, List, Option, Some, Result, Ok, Err}
use Rattle.ct_io.specs.Holdings.{Holdings}
use Rattle.ct_io.specs.Written.{Appends, AppendsPart}
use Rattle.job_ending.specs.declared.ending.Ending.{Ending}
use Rattle.job_ending.specs.declared.ending.Ending.TheVariants as e
use Rattle.job_ending.specs.declared.halt.Halt.{Halt}
use Rattle.job_ending.specs.declared.halt.Halt.TheVariants.{Script, Change, Order, Range, Limit, ReadFault, WriteFault, Memory}
use Rattle.job_ending.specs.Outcome.{Outcome, ends}

abbrev pub ending_of_halt : Halt → Ending
ending_of_halt (Script code statement) = e.Script code statement
ending_of_halt (Change code line table) = e.Change code line table
ending_of_halt (Order code line) = e.Order code line
ending_of_halt (Range node subtask row tys) = e.Range node subtask row tys
ending_of_halt (Limit name) = e.Limit name
ending_of_halt ReadFault = e.ReadFault
ending_of_halt WriteFault = e.WriteFault
ending_of_halt Memory = e.Memory

-- a run that isn't halted ends well
abbrev pub ending_of : {T : Type 0} → Result T Halt → Ending
ending_of (Ok _) = e.Done
ending_of (Err halt) = ending_of_halt halt

-- the endings that come from outside the definition
abbrev pub is_free : Ending → Bool
is_free e.Memory = true
is_free e.ReadFault = true
is_free e.WriteFault = true
is_free _ = false

-- An ending has its cause: want of memory has none; a write fault comes only where the sink's count of faults rose; a
-- read fault only where the shelf's rose or the outcome is one; any other ending is the outcome's.
abbrev pub IsCaused : Option Holdings → (Holdings → Outcome) → Type 0 → Type 0 → Ending → Type 0
IsCaused told of read write e.Memory = Unit {0}
IsCaused told of read write e.WriteFault = write
IsCaused told of read write e.ReadFault = read ⊎ ((h : Holdings) × (told ≡ Some h) × ((of h).ending ≡ e.ReadFault))
IsCaused told of read write ending = (h : Holdings) → told ≡ Some h → (of h).ending ≡ ending

-- The ending has its cause; a first part of the outcome's bytes was written, and all of them where the ending isn't free.
pub record Runs (told : Option Holdings) (of : Holdings → Outcome) (read write : Type 0) (old new : Option (List ℕ)) (ending : Ending) : Type 0 where
  pub cause : IsCaused told of read write ending
  pub part : (h : Holdings) → told ≡ Some h → AppendsPart old new (of h).bytes
  pub whole : is_free ending ≡ false → (h : Holdings) → told ≡ Some h → Appends old new (of h).bytes

-- a run that has written nothing halts as its outcome says
abbrev pub HaltsAs : Option Holdings → (Holdings → Outcome) → Type 0 → Halt → Type 0
HaltsAs told of read Memory = Unit {0}
HaltsAs told of read WriteFault = ⊥
HaltsAs told of read ReadFault = read ⊎ ((h : Holdings) × (told ≡ Some h) × (of h ≡ ends e.ReadFault))
HaltsAs told of read halt = (h : Holdings) → told ≡ Some h → of h ≡ ends (ending_of_halt halt)

-- the same behind the last load, where the outcome is known
abbrev pub IsCausedThere : {T : Type 0} → Outcome → Type 0 → Result T Halt → Type 0
IsCausedThere there write (Ok _) = there.ending ≡ e.Done
IsCausedThere there write (Err Memory) = Unit {0}
IsCausedThere there write (Err WriteFault) = write
IsCausedThere there write (Err ReadFault) = ⊥
IsCausedThere there write (Err halt) = there.ending ≡ ending_of_halt halt

pub record RunsThere {T : Type 0} (there : Outcome) (write : Type 0) (old new : Option (List ℕ)) (result : Result T Halt) : Type 0 where
  pub cause : IsCausedThere there write result
  pub part : AppendsPart old new there.bytes
  pub whole : is_free (ending_of result) ≡ false → Appends old new there.bytes

-- a halt before anything is written: it is the outcome's, or want of memory
abbrev pub IsBefore : Halt → Outcome → Type 0
IsBefore Memory there = Unit {0}
IsBefore WriteFault there = ⊥
IsBefore ReadFault there = ⊥
IsBefore halt there = there ≡ ends (ending_of_halt halt)
