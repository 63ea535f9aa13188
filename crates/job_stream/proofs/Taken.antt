-- A line of a change file, along a run.
use Rattle.std.specs.Prelude.{◌≡◌, ℕ, ◌<◌, Bool, List, length, set, slice_get, Option}
use Rattle.std.proofs.Common.{zero, suc, [], ◌∷◌, refl, sym, ap, ◌∙◌, Some, None, append-nil, arith}
use Rattle.ct_io.proofs.laws.Appending.{appends_nothing}
use Rattle.job_text.specs.Lines.{LinesLeft}
use Rattle.phys_plan.specs.declared.plan.Plan.{Plan}
use Rattle.plan_rules.specs.Doings.{network}
use Rattle.stream_model.specs.declared.events.StepFault.{StepFault}
use Rattle.stream_model.specs.declared.events.StepFault.TheVariants as fault
use Rattle.stream_model.specs.Machine.{State}
use Rattle.source_lines.specs.Run as run
use Rattle.source_lines.specs.Run.{At, Went, job_of, on, refused, stopped}
use Rattle.exec_core.specs.declared.session.Session.{Session}
use Rattle.exec_core.specs.declared.fault.RunFault.{RunFault}
use Rattle.exec_core.specs.declared.fault.RunFault.TheVariants.{Refused, Stopped}
use Rattle.exec_core.specs.Faults.{HaltsAt, IsLineFault}
use Rattle.exec_core.specs.Goes.{HasTaken, StandsAt, line_from}
use Rattle.job_ending.specs.declared.halt.Halt.TheVariants.{Change}
use Rattle.job_stream.specs.declared.sheet.Sheet.{Sheet}
use Rattle.job_stream.specs.Parts.{line_run}
use Rattle.job_stream.specs.Stops.{halt_at, halt_of}
use Rattle.job_stream.specs.Writing.{Ahead, Halts, Told}
use Rattle.job_stream.proofs.Begins.{begins_from}
use Rattle.job_stream.proofs.Going.{ahead_start, halts_free, halts_here}

pub none_past : {A : Type 0} (xs : List A) (i : ℕ) → (i < length xs → ⊥) → slice_get xs i ≡ None
none_past [] i past = refl
none_past (x ∷ xs) zero past = absurd (past (omega arith))
none_past (x ∷ xs) (suc i) past = none_past xs i (λ l. past (omega (arith, l)))

module _ (sheet : Sheet) (plan : Plan) (limit : ℕ) (p : At State) (place : ℕ) (at : Told) where
  abbrev by_table : Bool
  by_table = sheet.by_table

  abbrev From : Option LinesLeft → Went (At State)
  From file = run.take_from (job_of (network plan) limit) plan.sources by_table p place file

  -- there is no such file
  pub no_file : (session : Session) (files : List LinesLeft) → StandsAt session plan limit files p → slice_get files place ≡ None → Ahead sheet plan limit (line_run place by_table plan limit p) on p session files at at
  no_file session files stands none =
      ahead_start sheet plan limit (line_run place by_table plan limit p) on p session files at (ap From (ap (λ l. slice_get l place) (sym stands.files_are) ∙ none)) stands

  module _ (files : List LinesLeft) (file : LinesLeft) (are : files ≡ p.files) (is : slice_get files place ≡ Some file) where
    -- it is this one
    pub file_is : slice_get p.files place ≡ Some file
    file_is = ap (λ l. slice_get l place) (sym are) ∙ is

    line_is : line_run place by_table plan limit p ≡ line_from plan limit by_table p place file
    line_is = ap From file_is

    -- the line was taken
    pub line_ahead : (next : Session) (new : LinesLeft) (left : List LinesLeft) → left ≡ set files place new → HasTaken next new plan limit p place (line_from plan limit by_table p place file)
        → Ahead sheet plan limit (line_run place by_table plan limit p) on p next left at at
    line_ahead next new left left_is taken = record {
      place = record { state = taken.state; files = set p.files place new };
      goes = line_is ∙ taken.goes;
      stands = record { stands = taken.stands; files_are = left_is ∙ ap (λ l. set l place new) are };
      more = [];
      printed = taken.silent ∙ sym (append-nil p.state.printed);
      written = appends_nothing at.written;
      later = omega arith;
    }

    stops : (cause : StepFault) → HaltsAt cause p (line_from plan limit by_table p place file) → Halts sheet (line_run place by_table plan limit p) p at at (halt_of cause)
    stops (fault.Change code) e = halts_here sheet (line_run place by_table plan limit p) p at (stopped (fault.Change code)) (halt_of (fault.Change code)) (line_is ∙ e) refl
    stops (fault.Order code) e = halts_here sheet (line_run place by_table plan limit p) p at (stopped (fault.Order code)) (halt_of (fault.Order code)) (line_is ∙ e) refl
    stops (fault.Range node subtask row types) e =
        halts_here sheet (line_run place by_table plan limit p) p at (stopped (fault.Range node subtask row types)) (halt_of (fault.Range node subtask row types)) (line_is ∙ e) refl
    stops fault.Limit e = halts_here sheet (line_run place by_table plan limit p) p at (stopped fault.Limit) (halt_of fault.Limit) (line_is ∙ e) refl
    stops fault.Memory e = halts_free sheet (line_run place by_table plan limit p) p at (begins_from (network plan) limit plan.sources by_table p place (slice_get p.files place))

    -- it wasn't
    pub line_halts : (r : RunFault) → IsLineFault r p (line_from plan limit by_table p place file) → Halts sheet (line_run place by_table plan limit p) p at at (halt_at r)
    line_halts (Refused code line table) e = halts_here sheet (line_run place by_table plan limit p) p at (refused code line table) (Change code line table) (line_is ∙ e) refl
    line_halts (Stopped cause) e = stops cause e
