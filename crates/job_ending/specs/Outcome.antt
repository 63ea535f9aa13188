-- How a run ends, and what it has written.
use Rattle.std.specs.Prelude.{ℕ, List, []}
use Rattle.job_ending.specs.declared.ending.Ending.{Ending}

-- an ending, and the bytes that were written before it
pub record Outcome : Type 0 where
  pub ending : Ending
  pub bytes : List ℕ

-- nothing is written
abbrev pub ends : Ending → Outcome
ends ending = record { ending = ending; bytes = [] }
