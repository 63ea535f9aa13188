-- How code goes along one part of a run after the other.
use Rattle.std.specs.Prelude.{◌≡◌, ℕ, ◌≤◌, ◌+◌, ◌-◌, List, ◌++◌, Option, Result}
use Rattle.std.proofs.Common.{[], true, refl, sym, ap, subst, ◌∙◌, Err, append_assoc, append-nil, arith}
use Rattle.ct_io.specs.Counts.{Rose}
use Rattle.ct_io.specs.Written.{Appends, AppendsPart}
use Rattle.ct_io.proofs.laws.Appending.{appends_both, appends_nothing, part_none, part_of_whole}
use Rattle.phys_plan.specs.declared.plan.Plan.{Plan}
use Rattle.job_text.specs.Lines.{LinesLeft}
use Rattle.stream_model.specs.declared.events.PrintItem.{PrintItem}
use Rattle.stream_model.specs.Machine.{State}
use Rattle.stream_model.specs.declared.events.StepFault.{StepFault}
use Rattle.stream_model.specs.declared.events.StepFault.TheVariants as fault
use Rattle.source_lines.specs.Run.{At, Begins, Cause, HaltsBy, IsStop, Went, and_then, halts, on, printed_by, stopped}
use Rattle.exec_core.specs.declared.session.Session.{Session}
use Rattle.exec_core.specs.Goes.{StandsAt}
use Rattle.job_ending.specs.declared.halt.Halt.{Halt}
use Rattle.job_ending.specs.declared.halt.Halt.TheVariants as h
use Rattle.job_ending.specs.Outcome.{Outcome}
use Rattle.job_ending.specs.Runs.{IsCausedThere, ending_of_halt, is_free}
use Rattle.job_stream.specs.declared.sheet.Sheet.{Sheet}
use Rattle.job_stream.specs.Stops.{halt_of}
use Rattle.job_stream.specs.Stream.{ending_of_run}
use Rattle.job_stream.specs.Writing.{Ahead, Halts, Told, lines_on, outcome_on}
use Rattle.job_stream.proofs.Items.{lines_both}

-- ---- what was written

rose_later : (a b c : ℕ) → a ≤ b → Rose b c → Rose a c
rose_later a b c le rose = omega (arith, le, rose)

module _ (a b c : Option (List ℕ)) (x y : List ℕ) (first : Appends a b x) where
  -- a first part of what stands behind
  part_behind : AppendsPart b c y → AppendsPart a c (x ++ y)
  part_behind more = record {
    rest = more.rest;
    up_to = record {
      part = x ++ more.up_to.part;
      split = ap (λ l. x ++ l) more.up_to.split ∙ sym (append_assoc x more.up_to.part more.rest);
      appends = appends_both first more.up_to.appends;
    };
  }

-- a first part stays one of more
part_longer : (a b : Option (List ℕ)) (x y : List ℕ) → AppendsPart a b x → AppendsPart a b (x ++ y)
part_longer a b x y p = record {
  rest = p.rest ++ y;
  up_to = record {
    part = p.up_to.part;
    split = ap (λ l. l ++ y) p.up_to.split ∙ append_assoc p.up_to.part p.rest y;
    appends = p.up_to.appends;
  };
}

-- ---- why a run halted

pub caused_by : (T : Type 0) (there other : Outcome) (write later : Type 0) (halt : Halt) → there.ending ≡ other.ending → (write → later) → (let r : Result T Halt = Err halt in IsCausedThere there write r) → let r : Result T Halt = Err halt in IsCausedThere other later r
caused_by T there other write later h.Memory same f e = tt
caused_by T there other write later h.WriteFault same f e = f e
caused_by T there other write later h.ReadFault same f e = absurd e
caused_by T there other write later (h.Script code statement) same f e = sym same ∙ e
caused_by T there other write later (h.Change code line table) same f e = sym same ∙ e
caused_by T there other write later (h.Order code line) same f e = sym same ∙ e
caused_by T there other write later (h.Range node subtask row tys) same f e = sym same ∙ e
caused_by T there other write later (h.Limit name) same f e = sym same ∙ e

halt_begins : (cause : StepFault) (printed : List PrintItem) (went : Went (At State)) → HaltsBy cause printed went → Begins printed went
halt_begins cause printed went stop = ([], ap printed_by stop.halted ∙ stop.same ∙ sym (append-nil printed))

module _ (sheet : Sheet) where
  abbrev Lines : List PrintItem → List ℕ
  Lines items = lines_on sheet items

  both_lines : (xs ys : List PrintItem) → Lines (xs ++ ys) ≡ Lines xs ++ Lines ys
  both_lines xs ys = lines_both sheet.by_table sheet.tys.items sheet.key xs ys

  -- ---- halts

  -- memory was wanting, and nothing was written
  pub halts_free : (went : Went (At State)) (p : At State) (at : Told) → Begins p.state.printed went → Halts sheet went p at at h.Memory
  halts_free went p at begins = record {
    more = begins.0;
    printed = begins.1;
    runs = record { cause = tt; part = part_none at.written (Lines begins.0); whole = λ free. absurd (cc (free)) };
  }

  -- the part halts here, and nothing was written since
  pub halts_here : (went : Went (At State)) (p : At State) (at : Told) (cause : Cause) (halt : Halt) → went ≡ halts cause p
      → (let r : Result (Unit {0}) Halt = Err halt in IsCausedThere (outcome_on sheet (halts cause p) []) ⊥ r) → Halts sheet went p at at halt
  halts_here went p at cause halt is caused = record {
    more = [];
    printed = ap printed_by is ∙ sym (append-nil p.state.printed);
    runs = record {
      cause = caused_by (Unit {0}) (outcome_on sheet (halts cause p) []) (outcome_on sheet went []) ⊥ (Rose at.faults at.faults) halt (ap ending_of_run (sym is)) (λ no. absurd no) caused;
      part = part_none at.written (Lines []);
      whole = λ free. appends_nothing at.written;
    };
  }

  pub halts_same : (went other : Went (At State)) (p : At State) (old new : Told) (halt : Halt) → other ≡ went → Halts sheet went p old new halt → Halts sheet other p old new halt
  halts_same went other p old new halt is halted = subst (λ w. Halts sheet w p old new halt) (sym is) halted

  -- ---- stops behind what was printed

  stop_begins : (cause : StepFault) (printed : List PrintItem) (went : Went (At State)) → IsStop cause printed went → Begins printed went
  stop_begins (fault.Change code) printed went stop = halt_begins (fault.Change code) printed went stop
  stop_begins (fault.Order code) printed went stop = halt_begins (fault.Order code) printed went stop
  stop_begins (fault.Range node subtask row types) printed went stop = halt_begins (fault.Range node subtask row types) printed went stop
  stop_begins fault.Limit printed went stop = halt_begins fault.Limit printed went stop
  stop_begins fault.Memory printed went stop = stop

  module _ (went : Went (At State)) (p : At State) (more : List PrintItem) (old new : Told) where
    abbrev Sofar : List PrintItem
    Sofar = p.state.printed ++ more

    -- the part may be gone along further, since memory was wanting or the output failed
    free_behind : (halt : Halt) → is_free (ending_of_halt halt) ≡ true → (let r : Result (Unit {0}) Halt = Err halt in (there : Outcome) → IsCausedThere there (Rose old.faults new.faults) r)
        → AppendsPart old.written new.written (Lines more) → Begins Sofar went → Halts sheet went p old new halt
    free_behind halt free caused part begins = record {
      more = more ++ begins.0;
      printed = begins.1 ∙ append_assoc p.state.printed more begins.0;
      runs = record {
        cause = caused (outcome_on sheet went (more ++ begins.0));
        part = subst (AppendsPart old.written new.written) (sym (both_lines more begins.0)) (part_longer old.written new.written (Lines more) (Lines begins.0) part);
        whole = λ told. absurd (let both = sym free ∙ told in cc (both));
      };
    }

    -- it halts where that was printed, which is written
    halt_behind : (cause : StepFault) (halt : Halt) → HaltsBy cause Sofar went → Appends old.written new.written (Lines more)
        → (let r : Result (Unit {0}) Halt = Err halt in (q : At State) → IsCausedThere (outcome_on sheet (halts (stopped cause) q) more) ⊥ r) → Halts sheet went p old new halt
    halt_behind cause halt stop written caused = record {
      more = more;
      printed = ap printed_by stop.halted ∙ stop.same;
      runs = record {
        cause = caused_by (Unit {0}) (outcome_on sheet (halts (stopped cause) stop.place) more) (outcome_on sheet went more) ⊥ (Rose old.faults new.faults) halt
            (ap ending_of_run (sym stop.halted)) (λ no. absurd no) (caused stop.place);
        part = part_of_whole written;
        whole = λ free. written;
      };
    }

    pub stops_behind : (cause : StepFault) → IsStop cause Sofar went → Appends old.written new.written (Lines more) → Halts sheet went p old new (halt_of cause)
    stops_behind (fault.Change code) stop written = halt_behind (fault.Change code) (halt_of (fault.Change code)) stop written (λ q. refl)
    stops_behind (fault.Order code) stop written = halt_behind (fault.Order code) (halt_of (fault.Order code)) stop written (λ q. refl)
    stops_behind (fault.Range node subtask row types) stop written = halt_behind (fault.Range node subtask row types) (halt_of (fault.Range node subtask row types)) stop written (λ q. refl)
    stops_behind fault.Limit stop written = halt_behind fault.Limit (halt_of fault.Limit) stop written (λ q. refl)
    stops_behind fault.Memory stop written = free_behind h.Memory refl (λ there. tt) (part_of_whole written) stop

    pub memory_behind : (cause : StepFault) → IsStop cause Sofar went → AppendsPart old.written new.written (Lines more) → Halts sheet went p old new h.Memory
    memory_behind cause stop part = free_behind h.Memory refl (λ there. tt) part (stop_begins cause Sofar went stop)

    pub fault_behind : (cause : StepFault) → IsStop cause Sofar went → AppendsPart old.written new.written (Lines more) → Rose old.faults new.faults → Halts sheet went p old new h.WriteFault
    fault_behind cause stop part rose = free_behind h.WriteFault refl (λ there. rose) part (stop_begins cause Sofar went stop)

  -- what free halts leave behind
  module _ (went next : Went (At State)) (p q : At State) (old new : Told) (begins : Begins q.state.printed next) where
    longer : (halt : Halt) → went ≡ on q → is_free (ending_of_halt halt) ≡ true → (let r : Result (Unit {0}) Halt = Err halt in (there : Outcome) → IsCausedThere there (Rose old.faults new.faults) r) → Halts sheet went p old new halt → Halts sheet next p old new halt
    longer halt is free caused halted = record {
      more = halted.more ++ begins.0;
      printed = begins.1 ∙ ap (λ l. l ++ begins.0) (ap printed_by (sym is) ∙ halted.printed) ∙ append_assoc p.state.printed halted.more begins.0;
      runs = record {
        cause = caused (outcome_on sheet next (halted.more ++ begins.0));
        part = subst (AppendsPart old.written new.written) (sym (both_lines halted.more begins.0)) (part_longer old.written new.written (Lines halted.more) (Lines begins.0) halted.runs.part);
        whole = λ told. absurd (let both = sym free ∙ told in cc (both));
      };
    }

  -- a part that isn't gone to its end ends all that stands behind it
  pub halts_and : (went : Went (At State)) (rest : At State → Went (At State)) (p : At State) (old new : Told) (halt : Halt) → ((q : At State) → Begins q.state.printed (rest q)) → Halts sheet went p old new halt → Halts sheet (and_then went rest) p old new halt
  halts_and (halts cause q) rest p old new halt begins halted = record { more = halted.more; printed = halted.printed; runs = halted.runs }
  halts_and (on q) rest p old new h.Memory begins halted = longer (on q) (rest q) p q old new (begins q) h.Memory refl refl (λ there. tt) halted
  halts_and (on q) rest p old new h.WriteFault begins halted = longer (on q) (rest q) p q old new (begins q) h.WriteFault refl refl (λ there. halted.runs.cause) halted
  halts_and (on q) rest p old new h.ReadFault begins halted = absurd halted.runs.cause
  halts_and (on q) rest p old new (h.Script code statement) begins halted = absurd (let e = halted.runs.cause in cc (e))
  halts_and (on q) rest p old new (h.Change code line table) begins halted = absurd (let e = halted.runs.cause in cc (e))
  halts_and (on q) rest p old new (h.Order code line) begins halted = absurd (let e = halted.runs.cause in cc (e))
  halts_and (on q) rest p old new (h.Range node subtask row tys) begins halted = absurd (let e = halted.runs.cause in cc (e))
  halts_and (on q) rest p old new (h.Limit name) begins halted = absurd (let e = halted.runs.cause in cc (e))

  -- it halts behind what was printed before, which is written
  pub halts_later : (went rest : Went (At State)) (p q : At State) (more : List PrintItem) (old now new : Told) (halt : Halt) → went ≡ rest → q.state.printed ≡ p.state.printed ++ more → Appends old.written now.written (Lines more) → old.faults ≤ now.faults
      → Halts sheet rest q now new halt → Halts sheet went p old new halt
  halts_later went rest p q more old now new halt is printed written later halted = record {
    more = more ++ halted.more;
    printed = ap printed_by is ∙ halted.printed ∙ ap (λ l. l ++ halted.more) printed ∙ append_assoc p.state.printed more halted.more;
    runs = record {
      cause = caused_by (Unit {0}) (outcome_on sheet rest halted.more) (outcome_on sheet went (more ++ halted.more)) (Rose now.faults new.faults) (Rose old.faults new.faults) halt
          (ap ending_of_run (sym is)) (rose_later old.faults now.faults new.faults later) halted.runs.cause;
      part = subst (AppendsPart old.written new.written) (sym (both_lines more halted.more)) (part_behind old.written now.written new.written (Lines more) (Lines halted.more) written halted.runs.part);
      whole = λ free. subst (Appends old.written new.written) (sym (both_lines more halted.more)) (appends_both written (halted.runs.whole free));
    };
  }

  -- ---- what was gone along

  module _ (plan : Plan) (limit : ℕ) where
    pub ahead_start : (went : Went (At State)) (rest : At State → Went (At State)) (p : At State) (session : Session) (files : List LinesLeft) (at : Told) → went ≡ rest p → StandsAt session plan limit files p
        → Ahead sheet plan limit went rest p session files at at
    ahead_start went rest p session files at is stands = record {
      place = p;
      goes = is;
      stands = stands;
      more = [];
      printed = sym (append-nil p.state.printed);
      written = appends_nothing at.written;
      later = omega arith;
    }

    module _ (went : Went (At State)) (rest : At State → Went (At State)) (p : At State) (session : Session) (files : List LinesLeft) (old now : Told) (so_far : Ahead sheet plan limit went rest p session files old now) where
      -- further on
      pub ahead_on : (last : At State → Went (At State)) (next : Session) (left : List LinesLeft) (new : Told) → Ahead sheet plan limit (rest so_far.place) last so_far.place next left now new → Ahead sheet plan limit went last p next left old new
      ahead_on last next left new further = record {
        place = further.place;
        goes = so_far.goes ∙ further.goes;
        stands = further.stands;
        more = so_far.more ++ further.more;
        printed = further.printed ∙ ap (λ l. l ++ further.more) so_far.printed ∙ append_assoc p.state.printed so_far.more further.more;
        written = subst (Appends old.written new.written) (sym (both_lines so_far.more further.more)) (appends_both so_far.written further.written);
        later = let a = so_far.later in let b = further.later in omega arith;
      }

      -- no further
      pub ahead_halts : (new : Told) (halt : Halt) → Halts sheet (rest so_far.place) so_far.place now new halt → Halts sheet went p old new halt
      ahead_halts new halt halted = halts_later went (rest so_far.place) p so_far.place so_far.more old now new halt so_far.goes so_far.printed so_far.written so_far.later halted

    pub ahead_same : (went other : Went (At State)) (rest : At State → Went (At State)) (p : At State) (session : Session) (files : List LinesLeft) (old new : Told) → other ≡ went → Ahead sheet plan limit went rest p session files old new → Ahead sheet plan limit other rest p session files old new
    ahead_same went other rest p session files old new is ahead = subst (λ w. Ahead sheet plan limit w rest p session files old new) (sym is) ahead
