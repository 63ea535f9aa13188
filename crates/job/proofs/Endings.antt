-- The ending that is told is the run's, or want of memory for its line.
use Rattle.std.proofs.Common.{◌≡◌, ◌⊎◌, inl, inr, ℕ, Option, Some, sym, ◌∙◌, subst}
use Rattle.ct_value.specs.declared.row.Row.{Row}
use Rattle.ct_value.specs.declared.ty.ColTy.{ColTy}
use Rattle.std.specs.Prelude.{List}
use Rattle.ct_io.specs.Holdings.{Holdings}
use Rattle.job_ending.specs.declared.ending.Ending.{Ending}
use Rattle.job_ending.specs.declared.ending.Ending.TheVariants as e
use Rattle.job_ending.specs.Outcome.{Outcome}
use Rattle.job_ending.proofs.laws.Runs.{completes}
use Rattle.job_ending.specs.Runs.{IsCaused}

pub done_before : (result ending : Ending) → (result ≡ ending) ⊎ (result ≡ e.Memory) → result ≡ e.Done → ending ≡ e.Done
done_before result ending (inl same) done = sym same ∙ done
done_before result ending (inr memory) done = absurd (cc (memory, done))

pub range_before : (result ending : Ending) (node subtask : ℕ) (row : Row) (columns : List ColTy) → (result ≡ ending) ⊎ (result ≡ e.Memory) → result ≡ e.Range node subtask row columns → ending ≡ e.Range node subtask row columns
range_before result ending node subtask row columns (inl same) out = sym same ∙ out
range_before result ending node subtask row columns (inr memory) out = absurd (cc (memory, out))

-- where nothing faults, the ending is the outcome's or want of memory
pub completes_told : (told : Option Holdings) (of : Holdings → Outcome) (read write : Type 0) (result ending : Ending) → (result ≡ ending) ⊎ (result ≡ e.Memory) → IsCaused told of read write ending
    → (read → ⊥) → (write → ⊥) → (h : Holdings) → told ≡ Some h → (result ≡ (of h).ending) ⊎ (result ≡ e.Memory)
completes_told told of read write result ending (inr memory) cause no_read no_write h is = inr memory
completes_told told of read write result ending (inl same) cause no_read no_write h is =
    subst (λ (x : Ending). (x ≡ (of h).ending) ⊎ (x ≡ e.Memory)) (sym same) (completes told of read write ending cause no_read no_write h is)

pub ends_told : (result ending : Ending) → ending ≡ e.Done → (result ≡ ending) ⊎ (result ≡ e.Memory) → (result ≡ e.Done) ⊎ (result ≡ e.Memory)
ends_told result ending done (inl same) = inl (same ∙ done)
ends_told result ending done (inr memory) = inr memory
