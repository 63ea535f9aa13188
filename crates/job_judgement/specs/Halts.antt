-- How a job halts by its script's judgement.
use Rattle.std.specs.Prelude.{◌≡◌}
use Rattle.judge.specs.Judgement.{Judged, refused}
use Rattle.job_ending.specs.declared.halt.Halt.{Halt}
use Rattle.job_ending.specs.declared.halt.Halt.TheVariants.{Script, Memory}

-- the halt is the step's refusal, or it is want of memory
abbrev pub IsHalt : {A : Type 0} → Halt → Judged A → Type 0
IsHalt Memory judged = Unit {0}
IsHalt (Script code number) judged = judged ≡ refused code number
IsHalt halt judged = ⊥
