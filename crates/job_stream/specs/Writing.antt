-- How items are written as a run goes on, and how far.
use Rattle.std.specs.Prelude.{◌≡◌, ℕ, ◌<◌, ◌≤◌, Bool, List, ◌++◌, length, Option, Result, Err}
use Rattle.ct_io.specs.Counts.{Rose}
use Rattle.ct_io.specs.Written.{Appends}
use Rattle.ct_catalog.specs.declared.table.TableDef.{TableDef}
use Rattle.job_text.specs.Lines.{LinesLeft}
use Rattle.job_text.specs.Printed.{item_lines}
use Rattle.phys_plan.specs.declared.plan.Plan.{Plan}
use Rattle.plan_rules.specs.Doings.{network}
use Rattle.stream_model.specs.declared.events.PrintItem.{PrintItem}
use Rattle.stream_model.specs.Machine.{State}
use Rattle.stream_model.specs.Drain.{stages}
use Rattle.source_lines.specs.Run.{At, Went, on, printed_by}
use Rattle.exec_core.specs.declared.session.Session.{Session}
use Rattle.exec_core.specs.Goes.{StandsAt, StandsIn}
use Rattle.job_ending.specs.declared.ending.Ending.{Ending}
use Rattle.job_ending.specs.declared.halt.Halt.{Halt}
use Rattle.job_ending.specs.Outcome.{Outcome}
use Rattle.job_ending.specs.Runs.{RunsThere}
use Rattle.job_stream.specs.declared.sheet.Sheet.{Sheet}
use Rattle.job_stream.specs.Stream.{ending_of_run, sink_key, sink_types}

-- what an output tells of itself: the bytes that were written, where it does, and how often it has failed
pub record Told : Type 0 where
  pub written : Option (List ℕ)
  pub faults : ℕ

abbrev pub told : {A : Type 0} → (A → Option (List ℕ)) → (A → ℕ) → A → Told
told written faults out = record { written = written out; faults = faults out }

-- items are written by the types of a table's columns and by its key, where it is an upsert table
pub record IsSheetOf (sink : TableDef) (sheet : Sheet) : Type 0 where
  pub types : sheet.tys.items ≡ sink_types sink
  pub key_is : sheet.key ≡ sink_key sink

abbrev pub lines_on : Sheet → List PrintItem → List ℕ
lines_on sheet items = item_lines sheet.by_table sheet.tys.items sheet.key items

-- how a run ends, and the lines of these items, which it has printed behind others
abbrev pub outcome_on : Sheet → Went (At State) → List PrintItem → Outcome
outcome_on sheet went items = record { ending = ending_of_run went; bytes = lines_on sheet items }

-- ---- how far the code has come along a part of a run that goes `went` from a place on

-- it stands at a place from which the rest of that part goes on, and has written the lines of what was printed since
pub record Ahead (sheet : Sheet) (plan : Plan) (limit : ℕ) (went : Went (At State)) (rest : At State → Went (At State)) (p : At State) (session : Session) (files : List LinesLeft) (old new : Told) : Type 0 where
  pub place : At State
  pub goes : went ≡ rest place
  pub stands : StandsAt session plan limit files place
  pub more : List PrintItem
  pub printed : place.state.printed ≡ p.state.printed ++ more
  pub written : Appends old.written new.written (lines_on sheet more)
  pub later : old.faults ≤ new.faults

-- it halts as that part does, and has written the lines of what was printed since; or memory was wanting or the output failed, and it has
-- written a first part of them
pub record Halts (sheet : Sheet) (went : Went (At State)) (p : At State) (old new : Told) (halt : Halt) : Type 0 where
  pub more : List PrintItem
  pub printed : printed_by went ≡ p.state.printed ++ more
  pub runs : (let result : Result (Unit {0}) Halt = Err halt in RunsThere (outcome_on sheet went more) (Rose old.faults new.faults) old.written new.written result)

-- ---- what was printed and not yet handed out is handed out and written

abbrev pub MayHandOut : Sheet → Session → Type 0
MayHandOut sheet session = (plan : Plan) × (limit : ℕ) × (handed : List PrintItem) × (s : State) × IsSheetOf plan.sink sheet × StandsIn session plan limit handed s

-- all is handed out, and its lines are written
pub record HasHandedOut (sheet : Sheet) (next : Session) (old new : Told) (plan : Plan) (limit : ℕ) (handed : List PrintItem) (s : State) : Type 0 where
  pub stands : StandsIn next plan limit s.printed s
  pub more : List PrintItem
  pub printed : s.printed ≡ handed ++ more
  pub written : Appends old.written new.written (lines_on sheet more)
  pub later : old.faults ≤ new.faults

-- memory was wanting, or the output failed
pub record HasFailed (sheet : Sheet) (old new : Told) (halt : Halt) (handed : List PrintItem) (s : State) : Type 0 where
  pub more : List PrintItem
  pub printed : s.printed ≡ handed ++ more
  pub runs : (ending : Ending) → (let result : Result (Unit {0}) Halt = Err halt in RunsThere (record { ending = ending; bytes = lines_on sheet more }) (Rose old.faults new.faults) old.written new.written result)

-- so it is of each state in which the session stands
abbrev pub HandsOut : Sheet → Session → Session → Told → Told → Type 0
HandsOut sheet session next old new = (plan : Plan) (limit : ℕ) (handed : List PrintItem) (s : State) → StandsIn session plan limit handed s → HasHandedOut sheet next old new plan limit handed s

abbrev pub StopsHandingOut : Sheet → Session → Told → Told → Halt → Type 0
StopsHandingOut sheet session old new halt = (plan : Plan) (limit : ℕ) (handed : List PrintItem) (s : State) → StandsIn session plan limit handed s → HasFailed sheet old new halt handed s

-- ---- what holds of each place where a session stands that handed out all that it printed

-- a part of a run, one file a table or one for all: how it goes over a plan, within a limit, from a place on
abbrev pub Part : Type 0
Part = Bool → Plan → ℕ → At State → Went (At State)

abbrev pub ForPlaces : Sheet → List TableDef → Session → List LinesLeft → (Plan → ℕ → At State → Type 0) → Type 0
ForPlaces sheet sources session files P = (plan : Plan) (limit : ℕ) (p : At State) → IsSheetOf plan.sink sheet → plan.sources ≡ sources → StandsAt session plan limit files p → P plan limit p

-- the code has come along the part to where the next session stands and these readers, and from where the rest of it goes on
abbrev pub GoesOn : Sheet → List TableDef → Session → List LinesLeft → Part → Part → Session → List LinesLeft → Told → Told → Type 0
GoesOn sheet sources session files part rest next left old new =
    ForPlaces sheet sources session files (λ plan limit p. Ahead sheet plan limit (part sheet.by_table plan limit p) (rest sheet.by_table plan limit) p next left old new)

-- where nothing is left of it
abbrev pub nothing : Part
nothing by_table plan limit p = on p

abbrev pub Goes : Sheet → List TableDef → Session → List LinesLeft → Part → Session → List LinesLeft → Told → Told → Type 0
Goes sheet sources session files part next left old new = GoesOn sheet sources session files part nothing next left old new

-- it halts along the part
abbrev pub HaltsOn : Sheet → List TableDef → Session → List LinesLeft → Part → Told → Told → Halt → Type 0
HaltsOn sheet sources session files part old new halt = ForPlaces sheet sources session files (λ plan limit p. Halts sheet (part sheet.by_table plan limit p) p old new halt)

-- the same of a part in which no line is read, over whatever files
abbrev pub Moves : Sheet → Session → Part → Session → Told → Told → Type 0
Moves sheet session part next old new = (sources : List TableDef) (files : List LinesLeft) → Goes sheet sources session files part next files old new

abbrev pub HaltsMoving : Sheet → Session → Part → Told → Told → Halt → Type 0
HaltsMoving sheet session part old new halt = (sources : List TableDef) (files : List LinesLeft) → HaltsOn sheet sources session files part old new halt

-- the same of a part in which nothing is printed, on whatever sheet
abbrev pub Takes : List TableDef → Session → List LinesLeft → Part → Session → List LinesLeft → Type 0
Takes sources session files part next left = (sheet : Sheet) (at : Told) → Goes sheet sources session files part next left at at

abbrev pub HaltsTaking : List TableDef → Session → List LinesLeft → Part → Halt → Type 0
HaltsTaking sources session files part halt = (sheet : Sheet) (at : Told) → HaltsOn sheet sources session files part at at halt

-- ---- that there is such a place

abbrev pub MayMove : Sheet → Session → Type 0
MayMove sheet session = (plan : Plan) × (limit : ℕ) × (s : State) × IsSheetOf plan.sink sheet × StandsIn session plan limit s.printed s

abbrev pub MayMoveStage : Sheet → Session → ℕ → Type 0
MayMoveStage sheet session number = (plan : Plan) × (limit : ℕ) × (s : State) × IsSheetOf plan.sink sheet × (number < length (stages (network plan))) × StandsIn session plan limit s.printed s

abbrev pub MayTake : List TableDef → Session → Type 0
MayTake sources session = (plan : Plan) × (limit : ℕ) × (s : State) × (plan.sources ≡ sources) × StandsIn session plan limit s.printed s

abbrev pub MayRun : Sheet → List TableDef → Session → Type 0
MayRun sheet sources session = (plan : Plan) × (limit : ℕ) × (s : State) × IsSheetOf plan.sink sheet × (plan.sources ≡ sources) × StandsIn session plan limit s.printed s
