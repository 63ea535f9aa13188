-- A run whose bytes are kept in memory, and why it halts there.
use Rattle.std.specs.Prelude.{◌≡◌, ℕ, false, List}
use Rattle.job_ending.specs.declared.ending.Ending.{Ending}
use Rattle.job_ending.specs.declared.halt.Halt.{Halt}
use Rattle.job_ending.specs.declared.halt.Halt.TheVariants.{ReadFault, WriteFault, Memory}
use Rattle.job_ending.specs.Outcome.{Outcome}
use Rattle.job_ending.specs.Runs.{is_free}

-- where its ending doesn't come from outside, the ending and the bytes are the outcome
abbrev pub IsKept : Outcome → Ending → List ℕ → Type 0
IsKept there ending bytes = is_free ending ≡ false → there ≡ record { ending = ending; bytes = bytes }

-- a shelf or a sink in memory fails by want of that
abbrev pub in_memory : Halt → Halt
in_memory ReadFault = Memory
in_memory WriteFault = Memory
in_memory halt = halt
