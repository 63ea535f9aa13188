-- A run whose bytes are kept in memory.
use Rattle.std.proofs.Common.{◌≡◌, ◌∙◌, ℕ, List, [], Some, Result, Ok, Err, IfErr, IfOk, ap, refl, subst, sym}
use Rattle.command_line.specs.Words.{FileNames}
use Rattle.ct_io.specs.Holdings.{Holdings}
use Rattle.job_ending.specs.declared.ending.Ending.{Ending}
use Rattle.job_ending.specs.declared.ending.Ending.TheVariants as e
use Rattle.job_ending.specs.declared.halt.Halt.{Halt}
use Rattle.job_ending.specs.declared.halt.Halt.TheVariants.{Script, Change, Order, Range, Limit, ReadFault, WriteFault, Memory}
use Rattle.job_ending.specs.Endings.{IsPrintable}
use Rattle.job_ending.specs.Outcome.{Outcome}
use Rattle.job_ending.specs.Runs.{IsBefore, Runs, ending_of_halt}
use Rattle.job_run.specs.Kept.{IsKept, in_memory}
use Rattle.job_run.specs.Outcome.{behind}

outcome_is : (o : Outcome) (ending : Ending) (bytes : List ℕ) → o.ending ≡ ending → bytes ≡ o.bytes → o ≡ record { ending = ending; bytes = bytes }
outcome_is o ending bytes same all =
    let first : o ≡ record { ending = ending; bytes = o.bytes } = ap (λ (x : Ending). (let r : Outcome = record { ending = x; bytes = o.bytes } in r)) same in
    first ∙ ap (λ (x : List ℕ). (let r : Outcome = record { ending = ending; bytes = x } in r)) (sym all)

-- a run from nothing on, whose bytes are told
pub runs_kept : (h : Holdings) (of : Holdings → Outcome) (read write : Type 0) (bytes : List ℕ) (ending : Ending) → Runs (Some h) of read write (Some []) (Some bytes) ending → IsKept (of h) ending bytes
runs_kept h of read write bytes e.Done ran = λ free. outcome_is (of h) e.Done bytes (ran.cause h refl) (ran.whole refl h refl).told
runs_kept h of read write bytes e.Usage ran = λ free. outcome_is (of h) e.Usage bytes (ran.cause h refl) (ran.whole refl h refl).told
runs_kept h of read write bytes (e.Script code statement) ran = λ free. outcome_is (of h) (e.Script code statement) bytes (ran.cause h refl) (ran.whole refl h refl).told
runs_kept h of read write bytes (e.Change code line table) ran = λ free. outcome_is (of h) (e.Change code line table) bytes (ran.cause h refl) (ran.whole refl h refl).told
runs_kept h of read write bytes (e.Order code line) ran = λ free. outcome_is (of h) (e.Order code line) bytes (ran.cause h refl) (ran.whole refl h refl).told
runs_kept h of read write bytes (e.Range node subtask row types) ran = λ free. outcome_is (of h) (e.Range node subtask row types) bytes (ran.cause h refl) (ran.whole refl h refl).told
runs_kept h of read write bytes (e.Limit name) ran = λ free. outcome_is (of h) (e.Limit name) bytes (ran.cause h refl) (ran.whole refl h refl).told
runs_kept h of read write bytes e.ReadFault ran = λ free. absurd (cc (free))
runs_kept h of read write bytes e.WriteFault ran = λ free. absurd (cc (free))
runs_kept h of read write bytes e.Memory ran = λ free. absurd (cc (free))

-- what is behind one that ended well
pub well_kept : (there : Outcome) (bytes : List ℕ) → IsKept there e.Done bytes → (next : List ℕ → Outcome) → behind next there ≡ next bytes
well_kept there bytes kept next = ap (behind next) (kept refl)

-- and behind one that halted
pub halt_kept : (halt : Halt) (there : Outcome) (bytes : List ℕ) → IsKept there (ending_of_halt halt) bytes → (next : List ℕ → Outcome) → IsBefore (in_memory halt) (behind next there)
halt_kept (Script code statement) there bytes kept next = ap (behind next) (kept refl)
halt_kept (Change code line table) there bytes kept next = ap (behind next) (kept refl)
halt_kept (Order code line) there bytes kept next = ap (behind next) (kept refl)
halt_kept (Range node subtask row types) there bytes kept next = ap (behind next) (kept refl)
halt_kept (Limit name) there bytes kept next = ap (behind next) (kept refl)
halt_kept ReadFault there bytes kept next = tt
halt_kept WriteFault there bytes kept next = tt
halt_kept Memory there bytes kept next = tt

pub memory_printable : (halt : Halt) → IsPrintable (ending_of_halt halt) → IsPrintable (ending_of_halt (in_memory halt))
memory_printable (Script code statement) printable = printable
memory_printable (Change code line table) printable = printable
memory_printable (Order code line) printable = printable
memory_printable (Range node subtask row types) printable = printable
memory_printable (Limit name) printable = printable
memory_printable ReadFault printable = tt
memory_printable WriteFault printable = tt
memory_printable Memory printable = tt

-- such a run, by names and over files that are others by other words
pub kept_same : (of : FileNames → Holdings → Outcome) (names names' : FileNames) (h h' : Holdings) (read write : Type 0) (old new : List ℕ) (ending : Ending) → names ≡ names' → h ≡ h' → old ≡ []
    → Runs (Some h) (of names) read write (Some old) (Some new) ending → IsKept (of names' h') ending new
kept_same of names names' h h' read write old new ending same_names same_files none ran =
    let from_nothing = subst (λ (xs : List ℕ). Runs (Some h) (of names) read write (Some xs) (Some new) ending) none ran in
    subst (λ (k : Holdings). IsKept (of names' k) ending new) same_files
    (subst (λ (n : FileNames). IsKept (of n h) ending new) same_names (runs_kept h (of names) read write new ending from_nothing))

pub if_well : {T E : Type 0} {P Q : T → Type 0} (r : Result T E) → IfOk r P → ((x : T) → P x → Q x) → IfOk r Q
if_well (Ok x) h f = f x h
if_well (Err y) h f = tt

pub if_halted : {T E : Type 0} {P Q : E → Type 0} (r : Result T E) → IfErr r P → ((y : E) → P y → Q y) → IfErr r Q
if_halted (Ok x) h f = tt
if_halted (Err y) h f = f y h
