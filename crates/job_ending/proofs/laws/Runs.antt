-- Laws of runs: how the parts of a run go together.
use Rattle.std.proofs.Common.{◌≡◌, ◌⊎◌, inl, inr, ℕ, ◌≤◌, false, List, [], Option, Some, Result, Ok, Err, refl, sym, ◌∙◌, ap, subst, arith}
use Rattle.ct_io.specs.Counts.{Rose}
use Rattle.ct_io.specs.Holdings.{Holdings}
use Rattle.ct_io.specs.Written.{Appends, AppendsPart}
use Rattle.ct_io.proofs.laws.Appending.{appends_nothing, part_none}
use Rattle.job_ending.specs.declared.ending.Ending.{Ending}
use Rattle.job_ending.specs.declared.ending.Ending.TheVariants as e
use Rattle.job_ending.specs.declared.halt.Halt.{Halt}
use Rattle.job_ending.specs.declared.halt.Halt.TheVariants.{Script, Change, Order, Range, Limit, ReadFault, WriteFault, Memory}
use Rattle.job_ending.specs.Outcome.{Outcome}
use Rattle.job_ending.specs.Runs.{is_free, IsCaused, Runs, RunsThere, HaltsAs, IsBefore, IsCausedThere, ending_of, ending_of_halt}

pub rose_earlier : (before mid now : ℕ) → before ≤ mid → Rose mid now → Rose before now
rose_earlier before mid now later rose = omega arith

abbrev ending_is : {a b : Outcome} → a ≡ b → a.ending ≡ b.ending
ending_is same = ap (λ (o : Outcome). o.ending) same

module _ (told : Option Holdings) (of : Holdings → Outcome) (read write : Type 0) where
  cause_of_halt : (halt : Halt) → HaltsAs told of read halt → IsCaused told of read write (ending_of_halt halt)
  cause_of_halt Memory halts = tt
  cause_of_halt WriteFault halts = absurd halts
  cause_of_halt ReadFault (inl rose) = inl rose
  cause_of_halt ReadFault (inr at) = inr (at.0, at.1, ending_is at.2)
  cause_of_halt (Script c n) halts = λ h is. ending_is (halts h is)
  cause_of_halt (Change c n t) halts = λ h is. ending_is (halts h is)
  cause_of_halt (Order c n) halts = λ h is. ending_is (halts h is)
  cause_of_halt (Range n m r tys) halts = λ h is. ending_is (halts h is)
  cause_of_halt (Limit l) halts = λ h is. ending_is (halts h is)

  no_bytes : (halt : Halt) → HaltsAs told of read halt → is_free (ending_of_halt halt) ≡ false → (h : Holdings) → told ≡ Some h → (of h).bytes ≡ []
  no_bytes Memory halts free = absurd (cc (free))
  no_bytes WriteFault halts free = absurd halts
  no_bytes ReadFault halts free = absurd (cc (free))
  no_bytes (Script c n) halts free = λ h is. ap (λ (o : Outcome). o.bytes) (halts h is)
  no_bytes (Change c n t) halts free = λ h is. ap (λ (o : Outcome). o.bytes) (halts h is)
  no_bytes (Order c n) halts free = λ h is. ap (λ (o : Outcome). o.bytes) (halts h is)
  no_bytes (Range n m r tys) halts free = λ h is. ap (λ (o : Outcome). o.bytes) (halts h is)
  no_bytes (Limit l) halts free = λ h is. ap (λ (o : Outcome). o.bytes) (halts h is)

  -- nothing was written
  pub runs_halted : (o : Option (List ℕ)) (halt : Halt) → HaltsAs told of read halt → Runs told of read write o o (ending_of_halt halt)
  runs_halted o halt halts = record {
    cause = cause_of_halt halt halts;
    part = λ h is. part_none o (of h).bytes;
    whole = λ free h is. subst (λ (l : List ℕ). Appends o o l) (sym (no_bytes halt halts free h is)) (appends_nothing o);
  }

  -- a run by another definition that agrees with this one
  cause_moved : (of' : Holdings → Outcome) (read' : Type 0) (ending : Ending) → ((h : Holdings) → told ≡ Some h → of' h ≡ of h) → (read → read') → IsCaused told of read write ending → IsCaused told of' read' write ending
  cause_moved of' read' e.Memory same more cause = tt
  cause_moved of' read' e.WriteFault same more cause = cause
  cause_moved of' read' e.ReadFault same more (inl rose) = inl (more rose)
  cause_moved of' read' e.ReadFault same more (inr at) = inr (at.0, at.1, ending_is (same at.0 at.1) ∙ at.2)
  cause_moved of' read' e.Done same more cause = λ h is. ending_is (same h is) ∙ cause h is
  cause_moved of' read' e.Usage same more cause = λ h is. ending_is (same h is) ∙ cause h is
  cause_moved of' read' (e.Script c n) same more cause = λ h is. ending_is (same h is) ∙ cause h is
  cause_moved of' read' (e.Change c n t) same more cause = λ h is. ending_is (same h is) ∙ cause h is
  cause_moved of' read' (e.Order c n) same more cause = λ h is. ending_is (same h is) ∙ cause h is
  cause_moved of' read' (e.Range n m r tys) same more cause = λ h is. ending_is (same h is) ∙ cause h is
  cause_moved of' read' (e.Limit l) same more cause = λ h is. ending_is (same h is) ∙ cause h is

  here_moved : (of' : Holdings → Outcome) (read' : Type 0) (old new : Option (List ℕ)) (ending : Ending) → ((h : Holdings) → told ≡ Some h → of' h ≡ of h) → (read → read') → Runs told of read write old new ending → Runs told of' read' write old new ending
  here_moved of' read' old new ending same more runs = record {
    cause = cause_moved of' read' ending same more runs.cause;
    part = λ h is. subst (λ (l : List ℕ). AppendsPart old new l) (sym (ap (λ (o : Outcome). o.bytes) (same h is))) (runs.part h is);
    whole = λ free h is. subst (λ (l : List ℕ). Appends old new l) (sym (ap (λ (o : Outcome). o.bytes) (same h is))) (runs.whole free h is);
  }

  pub runs_moved : (told' : Option Holdings) (of' : Holdings → Outcome) (read' : Type 0) (old new : Option (List ℕ)) (ending : Ending) → told ≡ told' → ((h : Holdings) → told ≡ Some h → of' h ≡ of h) → (read → read') → Runs told of read write old new ending → Runs told' of' read' write old new ending
  runs_moved told' of' read' old new ending is same more runs =
      subst (λ (t : Option Holdings). Runs t of' read' write old new ending) is (here_moved of' read' old new ending same more runs)

-- a run behind its last load
cause_there : {T : Type 0} (told : Option Holdings) (of : Holdings → Outcome) (read write : Type 0) (there : Outcome) (result : Result T Halt) → ((h : Holdings) → told ≡ Some h → of h ≡ there) → IsCausedThere there write result → IsCaused told of read write (ending_of result)
cause_there told of read write there (Ok x) same cause = λ h is. ending_is (same h is) ∙ cause
cause_there told of read write there (Err Memory) same cause = tt
cause_there told of read write there (Err WriteFault) same cause = cause
cause_there told of read write there (Err ReadFault) same cause = absurd cause
cause_there told of read write there (Err (Script c n)) same cause = λ h is. ending_is (same h is) ∙ cause
cause_there told of read write there (Err (Change c n t)) same cause = λ h is. ending_is (same h is) ∙ cause
cause_there told of read write there (Err (Order c n)) same cause = λ h is. ending_is (same h is) ∙ cause
cause_there told of read write there (Err (Range n m r tys)) same cause = λ h is. ending_is (same h is) ∙ cause
cause_there told of read write there (Err (Limit l)) same cause = λ h is. ending_is (same h is) ∙ cause

pub runs_there : {T : Type 0} (told : Option Holdings) (of : Holdings → Outcome) (read write : Type 0) (old new : Option (List ℕ)) (there : Outcome) (result : Result T Halt) → ((h : Holdings) → told ≡ Some h → of h ≡ there) → RunsThere there write old new result → Runs told of read write old new (ending_of result)
runs_there told of read write old new there result same runs = record {
  cause = cause_there told of read write there result same runs.cause;
  part = λ h is. subst (λ (l : List ℕ). AppendsPart old new l) (sym (ap (λ (o : Outcome). o.bytes) (same h is))) runs.part;
  whole = λ free h is. subst (λ (l : List ℕ). Appends old new l) (sym (ap (λ (o : Outcome). o.bytes) (same h is))) (runs.whole free);
}

-- want of memory before anything is written
pub memory_runs : (told : Option Holdings) (of : Holdings → Outcome) (read write : Type 0) (o : Option (List ℕ)) → Runs told of read write o o e.Memory
memory_runs told of read write o = record { cause = tt; part = λ h is. part_none o (of h).bytes; whole = λ free. absurd (cc (free)) }

-- want of memory, with nothing written
pub memory_there : {T : Type 0} (there : Outcome) (write : Type 0) (o : Option (List ℕ)) → RunsThere {T = T} there write o o (Err Memory)
memory_there there write o = record { cause = tt; part = part_none o there.bytes; whole = λ free. absurd (cc (free)) }

-- a halt before anything is written, where it isn't the outside's
pub halted_there : {T : Type 0} (there : Outcome) (write : Type 0) (o : Option (List ℕ)) (halt : Halt) → IsBefore halt there → RunsThere {T = T} there write o o (Err halt)
halted_there there write o Memory is = memory_there there write o
halted_there there write o WriteFault is = absurd is
halted_there there write o ReadFault is = absurd is
halted_there there write o (Script c n) is = record { cause = ending_is is; part = part_none o there.bytes; whole = λ free. subst (λ (x : Outcome). Appends o o x.bytes) (sym is) (appends_nothing o) }
halted_there there write o (Change c n t) is = record { cause = ending_is is; part = part_none o there.bytes; whole = λ free. subst (λ (x : Outcome). Appends o o x.bytes) (sym is) (appends_nothing o) }
halted_there there write o (Order c n) is = record { cause = ending_is is; part = part_none o there.bytes; whole = λ free. subst (λ (x : Outcome). Appends o o x.bytes) (sym is) (appends_nothing o) }
halted_there there write o (Range n m r tys) is = record { cause = ending_is is; part = part_none o there.bytes; whole = λ free. subst (λ (x : Outcome). Appends o o x.bytes) (sym is) (appends_nothing o) }
halted_there there write o (Limit l) is = record { cause = ending_is is; part = part_none o there.bytes; whole = λ free. subst (λ (x : Outcome). Appends o o x.bytes) (sym is) (appends_nothing o) }

-- the same by another outcome that agrees with this one
pub there_moved : {T : Type 0} {there : Outcome} {write : Type 0} {old new : Option (List ℕ)} {result : Result T Halt} (other : Outcome) → other ≡ there → RunsThere there write old new result → RunsThere other write old new result
there_moved {write = write} {old = old} {new = new} {result = result} other same runs = subst (λ (o : Outcome). RunsThere o write old new result) (sym same) runs

pub done_is : (told : Option Holdings) (of : Holdings → Outcome) (read write : Type 0) (result ending : Ending) → (result ≡ ending) ⊎ (result ≡ e.Memory) → IsCaused told of read write ending → result ≡ e.Done → (h : Holdings) → told ≡ Some h → (of h).ending ≡ e.Done
done_is told of read write result ending (inr memory) cause done = absurd (cc (memory, done))
done_is told of read write result ending (inl same) cause done = subst (IsCaused told of read write) (sym same ∙ done) cause

some_same : {A : Type 0} (o : Option A) (a b : A) → o ≡ Some a → o ≡ Some b → a ≡ b
some_same o a b p q = cc

-- where neither reading nor writing faults, the ending is the outcome's or want of memory
pub completes : (told : Option Holdings) (of : Holdings → Outcome) (read write : Type 0) (ending : Ending) → IsCaused told of read write ending → (read → ⊥) → (write → ⊥)
    → (h : Holdings) → told ≡ Some h → (ending ≡ (of h).ending) ⊎ (ending ≡ e.Memory)
completes told of read write e.Memory cause no_read no_write h is = inr refl
completes told of read write e.WriteFault cause no_read no_write h is = absurd (no_write cause)
completes told of read write e.ReadFault (inl rose) no_read no_write h is = absurd (no_read rose)
completes told of read write e.ReadFault (inr at) no_read no_write h is = inl (sym at.2 ∙ ap (λ (x : Holdings). (of x).ending) (some_same told at.0 h at.1 is))
completes told of read write e.Done cause no_read no_write h is = inl (sym (cause h is))
completes told of read write e.Usage cause no_read no_write h is = inl (sym (cause h is))
completes told of read write (e.Script c n) cause no_read no_write h is = inl (sym (cause h is))
completes told of read write (e.Change c n t) cause no_read no_write h is = inl (sym (cause h is))
completes told of read write (e.Order c n) cause no_read no_write h is = inl (sym (cause h is))
completes told of read write (e.Range n m r tys) cause no_read no_write h is = inl (sym (cause h is))
completes told of read write (e.Limit l) cause no_read no_write h is = inl (sym (cause h is))
