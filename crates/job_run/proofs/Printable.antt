-- Endings whose line can be written.
use Rattle.std.proofs.Common.{◌≡◌, ℕ, suc, Bool, true, Option, List, [], ◌∷◌, length, Result, Ok, Err, refl, ap}
use Rattle.std.proofs.lemmas.Bool.{and_parts}
use Rattle.ct_value.specs.declared.row.Row.{Row}
use Rattle.ct_value.specs.declared.ty.ColTy.{ColTy}
use Rattle.ct_value.specs.declared.ty.Ty.{Ty}
use Rattle.ct_value.specs.declared.value.Value.{Value}
use Rattle.ct_field.specs.Typed.{col_fits, row_fits}
use Rattle.phys_plan.specs.declared.plan.Plan.{Plan}
use Rattle.stream_model.specs.declared.events.StepFault.{StepFault}
use Rattle.stream_model.specs.declared.events.StepFault.TheVariants as fault
use Rattle.plan_rules.specs.Doings.{network}
use Rattle.stream_model.specs.Machine.{State}
use Rattle.job_text.specs.declared.orders.OrderLine.{OrderLine}
use Rattle.source_lines.specs.Run.{At, Went, on, halts, refused, disordered, stopped, whole_run}
use Rattle.source_lines.specs.Supply.{is_by_table}
use Rattle.source_lines.specs.declared.supply.ChangeFiles.{ChangeFiles}
use Rattle.sound_plans.specs.Sound.{IsRuled}
use Rattle.run_laws.specs.Stops.{RunsStopAtRows, StopsHaveTypes}
use Rattle.judge.specs.Judgement.{Judged}
use Rattle.job_ending.specs.declared.ending.Ending.TheVariants as e
use Rattle.job_ending.specs.declared.halt.Halt.{Halt}
use Rattle.job_ending.specs.declared.halt.Halt.TheVariants.{Script, Change, Order, Range, Limit, ReadFault, WriteFault, Memory}
use Rattle.job_ending.specs.Endings.{IsPrintable}
use Rattle.job_ending.specs.Outcome.{Outcome}
use Rattle.job_ending.specs.Runs.{IsCausedThere, ending_of, ending_of_halt}
use Rattle.job_judgement.specs.Halts.{IsHalt}
use Rattle.job_stream.specs.Stream.{most_sent, outcome_of, sink_key, sink_types, streamed}

-- a refusal by the judgement
pub printable_halt : {A : Type 0} (halt : Halt) (judged : Judged A) → IsHalt halt judged → IsPrintable (ending_of_halt halt)
printable_halt Memory judged is = tt
printable_halt (Script code number) judged is = tt
printable_halt (Change code line table) judged is = absurd is
printable_halt (Order code line) judged is = absurd is
printable_halt (Range node subtask row columns) judged is = absurd is
printable_halt (Limit name) judged is = absurd is
printable_halt ReadFault judged is = absurd is
printable_halt WriteFault judged is = absurd is

-- behind the last load, where the outcome is that all goes well
pub done_printable : {T : Type 0} (there : Outcome) (write : Type 0) (result : Result T Halt) → there.ending ≡ e.Done → IsCausedThere there write result → IsPrintable (ending_of result)
done_printable there write (Ok x) done cause = tt
done_printable there write (Err Memory) done cause = tt
done_printable there write (Err WriteFault) done cause = tt
done_printable there write (Err ReadFault) done cause = tt
done_printable there write (Err (Script code number)) done cause = tt
done_printable there write (Err (Change code line table)) done cause = tt
done_printable there write (Err (Order code line)) done cause = tt
done_printable there write (Err (Range node subtask row types)) done cause = absurd (cc (done, cause))
done_printable there write (Err (Limit name)) done cause = tt

-- ---- a run

fits_length : (columns : List ColTy) (row : List Value) → row_fits columns row ≡ true → length row ≡ length columns
fits_length [] [] e = refl
fits_length [] (v ∷ vs) e = absurd (cc (e))
fits_length (col ∷ cols) [] e = absurd (cc (e))
fits_length (col ∷ cols) (v ∷ vs) e = ap suc (fits_length cols vs (and_parts (col_fits col v) (row_fits cols vs) e).1)

-- a run whose outcome is out of range has stopped so
pub stopped_so : (by_table : Bool) (tys : List Ty) (key : Option (List ℕ)) (went : Went (At State)) (node subtask : ℕ) (row : Row) (types : List ColTy) → (outcome_of by_table tys key went).ending ≡ e.Range node subtask row types
    → (p : At State) × (went ≡ halts (stopped (fault.Range node subtask row types)) p)
stopped_so by_table tys key (on p) node subtask row types is = absurd (cc (is))
stopped_so by_table tys key (halts (refused code line table) p) node subtask row types is = absurd (cc (is))
stopped_so by_table tys key (halts (disordered code line) p) node subtask row types is = absurd (cc (is))
stopped_so by_table tys key (halts (stopped (fault.Change code)) p) node subtask row types is = absurd (cc (is))
stopped_so by_table tys key (halts (stopped (fault.Order code)) p) node subtask row types is = absurd (cc (is))
stopped_so by_table tys key (halts (stopped (fault.Range n s r c)) p) node subtask row types is =
    let same : fault.Range n s r c ≡ fault.Range node subtask row types = cc (is) in (p, ap (λ (cause : StepFault). halts (stopped cause) p) same)
stopped_so by_table tys key (halts (stopped fault.Limit) p) node subtask row types is = absurd (cc (is))
stopped_so by_table tys key (halts (stopped fault.Memory) p) node subtask row types is = absurd (cc (is))

module _ (at_rows : RunsStopAtRows) (have_types : StopsHaveTypes) (plan : Plan) (ruled : IsRuled plan) (files : ChangeFiles) (orders : List OrderLine) where
  range_printable : (node subtask : ℕ) (row : Row) (types : List ColTy) → (streamed plan files orders).ending ≡ e.Range node subtask row types → IsPrintable (e.Range node subtask row types)
  range_printable node subtask row types is =
      let ran = stopped_so (is_by_table files) (sink_types plan.sink) (sink_key plan.sink) (whole_run (network plan) most_sent plan.sources files orders) node subtask row types is in (
        fits_length types row (at_rows plan ruled most_sent files orders node subtask row types ran.0 ran.1),
        have_types plan ruled most_sent files orders node subtask row types ran.0 ran.1,
      )

  pub run_printable : {T : Type 0} (write : Type 0) (result : Result T Halt) → IsCausedThere (streamed plan files orders) write result → IsPrintable (ending_of result)
  run_printable write (Ok x) cause = tt
  run_printable write (Err Memory) cause = tt
  run_printable write (Err WriteFault) cause = tt
  run_printable write (Err ReadFault) cause = tt
  run_printable write (Err (Script code number)) cause = tt
  run_printable write (Err (Change code line table)) cause = tt
  run_printable write (Err (Order code line)) cause = tt
  run_printable write (Err (Range node subtask row types)) cause = range_printable node subtask row types cause
  run_printable write (Err (Limit name)) cause = tt
