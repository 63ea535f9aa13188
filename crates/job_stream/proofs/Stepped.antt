-- One step of a run, and what it printed.
use Rattle.std.specs.Prelude.{◌≡◌, ℕ, List, ◌++◌, Result, length}
use Rattle.std.proofs.Common.{zero, suc, [], ◌∷◌, refl, sym, ap, subst, ◌∙◌, Ok, inl, inr}
use Rattle.std.specs.List.{AllByRecursion}
use Rattle.ct_value.specs.declared.ty.Ty.{Ty}
use Rattle.job_text.specs.Lines.{LinesLeft}
use Rattle.job_text.specs.Printed.{IsWide}
use Rattle.phys_plan.specs.declared.plan.Plan.{Plan}
use Rattle.plan_rules.specs.Doings.{network}
use Rattle.stream_model.specs.declared.events.PrintItem.{PrintItem}
use Rattle.stream_model.specs.declared.events.StepFault.{StepFault}
use Rattle.stream_model.specs.declared.events.StepFault.TheVariants as fault
use Rattle.stream_model.specs.declared.events.Event.TheVariants.{Move}
use Rattle.stream_model.specs.Network.{Network}
use Rattle.stream_model.specs.Machine.{State}
use Rattle.stream_model.specs.Runs.{AreTyped, Item, happens, step_item}
use Rattle.stream_model.specs.Drain.{Leads, StopsAlong, StopsBy, moves}
use Rattle.sound_plans.specs.Sound.{IsRuled}
use Rattle.source_lines.specs.Run as run
use Rattle.source_lines.specs.Run.{At, Went, job_of, on, printed_by, stopped}
use Rattle.source_lines.proofs.laws.Along.{typed_both}
use Rattle.exec_core.specs.declared.session.Session.{Session}
use Rattle.exec_core.specs.Goes.{StandsAt, StandsIn}
use Rattle.exec_core.specs.Stands.{Stands, reached}
use Rattle.exec_core.proofs.laws.Rows.{printed_wide}
use Rattle.exec_core.proofs.laws.Standing.{reached_along}
use Rattle.job_ending.specs.declared.halt.Halt.{Halt}
use Rattle.job_stream.specs.declared.sheet.Sheet.{Sheet}
use Rattle.job_stream.specs.Parts.{item_run}
use Rattle.job_stream.specs.Stops.{halt_of}
use Rattle.job_stream.specs.Stream.{ending_of_run, sink_types}
use Rattle.job_stream.specs.Writing.{Ahead, Halts, HasFailed, HasHandedOut, IsSheetOf, Told}
use Rattle.job_stream.proofs.Begins.{begins_item}
use Rattle.job_stream.proofs.Going.{halts_free, halts_here}
use Rattle.job_stream.proofs.Items.{wide_behind}

-- what was printed behind the first items is as wide as the sheet
reached_wide : (plan : Plan) (limit : ℕ) (handed more : List PrintItem) (items : List Item) (sheet : Sheet) → IsSheetOf plan.sink sheet → IsRuled plan → AreTyped (network plan) items
    → (reached plan limit items).printed ≡ handed ++ more → AllByRecursion (IsWide (length sheet.tys.items)) more
reached_wide plan limit handed more items sheet is ruled typed printed =
    let width = length (sink_types plan.sink) in
    let all : AllByRecursion (IsWide width) (reached plan limit items).printed = printed_wide plan ruled limit items typed in
    let behind : AllByRecursion (IsWide width) more = wide_behind width handed more (subst (λ (l : List PrintItem). AllByRecursion (IsWide width) l) printed all) in
    subst (λ (tys : List Ty). AllByRecursion (IsWide (length tys)) more) (sym is.types) behind

-- what a session hands out is
pub handed_wide : (plan : Plan) (limit : ℕ) (handed more : List PrintItem) (items : List Item) (session : Session) (sheet : Sheet) → IsSheetOf plan.sink sheet → Stands session plan limit handed items
    → (reached plan limit items).printed ≡ handed ++ more → AllByRecursion (IsWide (length sheet.tys.items)) more
handed_wide plan limit handed more items session sheet is stands printed = reached_wide plan limit handed more items sheet is stands.ruled stands.stands_for.typed printed

-- where moves stop, those before that led to what was printed
record Stopped (g : Network) (limit : ℕ) (s : State) (printed : List PrintItem) : Type 0 where
  made : List Item
  typed : AreTyped g made
  last : State
  leads : Leads g limit s made last
  is : last.printed ≡ printed

stopped_moves : (g : Network) (limit : ℕ) (e i j n : ℕ) (s : State) (cause : StepFault) (printed : List PrintItem) → StopsAlong g limit s (moves e i j n) cause printed → Stopped g limit s printed
stopped_moves g limit e i j zero s cause printed stop = absurd stop
stopped_moves g limit e i j (suc n) s cause printed (inl here) = record { made = []; typed = tt; last = s; leads = refl; is = here.1 }
stopped_moves g limit e i j (suc n) s cause printed (inr later) =
    let rest = stopped_moves g limit e i j n later.0 cause printed later.2 in
    record { made = happens (Move e i j) ∷ rest.made; typed = (tt, rest.typed); last = rest.last; leads = (later.0, later.1, rest.leads); is = rest.is }

-- so what they had printed is as wide
pub stopped_wide : (plan : Plan) (limit : ℕ) (handed more : List PrintItem) (items : List Item) (session : Session) (sheet : Sheet) (e i j n : ℕ) (cause : StepFault) → IsSheetOf plan.sink sheet → Stands session plan limit handed items
    → StopsAlong (network plan) limit (reached plan limit items) (moves e i j n) cause (handed ++ more) → AllByRecursion (IsWide (length sheet.tys.items)) more
stopped_wide plan limit handed more items session sheet e i j n cause is stands stop =
    let g = network plan in
    let at = stopped_moves g limit e i j n (reached plan limit items) cause (handed ++ more) stop in
    reached_wide plan limit handed more (items ++ at.made) sheet is stands.ruled (typed_both g items at.made stands.stands_for.typed at.typed)
    (ap (λ (u : State). u.printed) (reached_along plan limit items at.made (reached plan limit items) at.last refl at.leads) ∙ at.is)

-- it stands as before, and has handed out all
pub stands_out : (plan : Plan) (limit : ℕ) (handed more : List PrintItem) (s : State) (session next : Session) (stands : StandsIn session plan limit handed s) → (reached plan limit stands.items).printed ≡ handed ++ more
    → Stands next plan limit (handed ++ more) stands.items → (s.printed ≡ handed ++ more) × StandsIn next plan limit s.printed s
stands_out plan limit handed more s session next stands printed out =
    let all = sym (ap (λ (u : State). u.printed) stands.is) ∙ printed in
    (all, record { items = stands.items; stands = subst (λ (l : List PrintItem). Stands next plan limit l stands.items) (sym all) out; is = stands.is })

module _ (sheet : Sheet) (plan : Plan) (limit : ℕ) (p : At State) (went : Went (At State)) (t : State) (goes : went ≡ on (record p { state = t })) (old new : Told) where
  -- the steps were made, and what they printed is written
  pub steps_ahead : (session next : Session) (files : List LinesLeft) → StandsAt session plan limit files p → HasHandedOut sheet next old new plan limit p.state.printed t → Ahead sheet plan limit went on p next files old new
  steps_ahead session next files stands out = record {
    place = record p { state = t };
    goes = goes;
    stands = record { stands = out.stands; files_are = stands.files_are };
    more = out.more;
    printed = out.printed;
    written = out.written;
    later = out.later;
  }

  -- they were made, and what they printed couldn't be written
  pub steps_failed : (halt : Halt) → HasFailed sheet old new halt p.state.printed t → Halts sheet went p old new halt
  steps_failed halt failed = record { more = failed.more; printed = ap printed_by goes ∙ failed.printed; runs = failed.runs (ending_of_run went) }

module _ (sheet : Sheet) (plan : Plan) (limit : ℕ) (item : Item) (p : At State) where
  abbrev Stepped : Result State StepFault → Went (At State)
  Stepped r = run.stepped (job_of (network plan) limit) plan.sources sheet.by_table p r

  abbrev Ran : Went (At State)
  Ran = item_run item sheet.by_table plan limit p

  module _ (t : State) (steps : step_item (network plan) limit p.state item ≡ Ok t) (old new : Told) where
    -- the step was made, and what it printed is written
    pub item_ahead : (session next : Session) (files : List LinesLeft) → StandsAt session plan limit files p → HasHandedOut sheet next old new plan limit p.state.printed t → Ahead sheet plan limit Ran on p next files old new
    item_ahead session next files stands out = steps_ahead sheet plan limit p Ran t (ap Stepped steps) old new session next files stands out

    -- it was made, and what it printed couldn't be written
    pub item_failed : (halt : Halt) → HasFailed sheet old new halt p.state.printed t → Halts sheet Ran p old new halt
    item_failed halt failed = steps_failed sheet plan limit p Ran t (ap Stepped steps) old new halt failed

  -- it can't be
  pub item_stops : (at : Told) (cause : StepFault) → StopsBy (step_item (network plan) limit p.state item) cause → Halts sheet Ran p at at (halt_of cause)
  item_stops at (fault.Change code) stops = halts_here sheet Ran p at (stopped (fault.Change code)) (halt_of (fault.Change code)) (ap Stepped stops) refl
  item_stops at (fault.Order code) stops = halts_here sheet Ran p at (stopped (fault.Order code)) (halt_of (fault.Order code)) (ap Stepped stops) refl
  item_stops at (fault.Range node subtask row types) stops = halts_here sheet Ran p at (stopped (fault.Range node subtask row types)) (halt_of (fault.Range node subtask row types)) (ap Stepped stops) refl
  item_stops at fault.Limit stops = halts_here sheet Ran p at (stopped fault.Limit) (halt_of fault.Limit) (ap Stepped stops) refl
  item_stops at fault.Memory stops = halts_free sheet Ran p at (begins_item (network plan) limit plan.sources sheet.by_table p item)

  -- memory was wanting
  pub item_wants : (at : Told) (halt : Halt) → halt ≡ halt_of fault.Memory → Halts sheet Ran p at at halt
  item_wants at halt is = subst (λ h. Halts sheet Ran p at at h) (sym is) (item_stops at fault.Memory tt)
