-- A run without an order whose moves are made early. Where its session has come along is told by the run that makes them in their place; what
-- they printed is kept, stage by stage of the drain.
use Rattle.std.specs.Prelude.{◌≡◌, ℕ, ◌≤◌, ◌+◌, List, [], ◌∷◌, ◌++◌, drop, length, map, slice_get, take, Some, true}
use Rattle.std.specs.List.{AllByRecursion}
use Rattle.ct_catalog.specs.declared.table.TableDef.{TableDef}
use Rattle.phys_plan.specs.declared.plan.Plan.{Plan}
use Rattle.plan_rules.specs.Doings.{network}
use Rattle.job_text.specs.Lines.{LinesLeft}
use Rattle.stream_model.specs.declared.events.PrintItem.{PrintItem}
use Rattle.stream_model.specs.Network.{Network}
use Rattle.stream_model.specs.Machine.{State, opened}
use Rattle.stream_model.specs.Drain.{Stage, stages}
use Rattle.source_lines.specs.Run.{At, Went, and_then, on}
use Rattle.source_lines.specs.Supply.{all_unread}
use Rattle.source_lines.specs.declared.supply.ChangeFiles.{ChangeFiles}
use Rattle.run_laws.specs.Early.{AreOrdered, Early, Made, hushed}
use Rattle.exec_core.specs.Goes.{StandsAt}
use Rattle.job_stream.specs.declared.early.EarlySession.{EarlySession}
use Rattle.job_stream.specs.declared.early.EarlyStage.{EarlyStage}
use Rattle.job_stream.specs.declared.sheet.Sheet.{Sheet}
use Rattle.job_stream.specs.Parts.{rest_run, stage_run, stages_run}
use Rattle.job_stream.specs.Writing.{IsSheetOf, Part, Told, lines_on}
use Rattle.ct_io.specs.Written.{Appends}

-- what a stage has printed is kept, as lines
pub record IsKept (sheet : Sheet) (x : Early) (stage : EarlyStage) : Type 0 where
  pub early : x.early ≡ stage.early
  pub lines : stage.kept.bytes ≡ lines_on sheet x.out

abbrev pub AreKept : Sheet → List Early → List EarlyStage → Type 0
AreKept sheet [] [] = Unit {0}
AreKept sheet (x ∷ xs) (stage ∷ kept) = IsKept sheet x stage × AreKept sheet xs kept
AreKept sheet [] (stage ∷ kept) = ⊥
AreKept sheet (x ∷ xs) [] = ⊥

-- the stage at a place is early
abbrev pub IsEarlyAt : List EarlyStage → ℕ → Type 0
IsEarlyAt kept number = (stage : EarlyStage) → slice_get kept number ≡ Some stage → stage.early ≡ true

abbrev pub kept_lines : List EarlyStage → List ℕ
kept_lines [] = []
kept_lines (stage ∷ kept) = stage.kept.bytes ++ kept_lines kept

-- stages of a drain of which nothing was made yet
abbrev pub begun : List Stage → List EarlyStage → List Early
begun (stage ∷ stages) (x ∷ xs) = record { stage = stage; early = x.early; count = 0; out = [] } ∷ begun stages xs
begun [] xs = []
begun (stage ∷ stages) [] = []

pub record AreBegun (kept : List EarlyStage) (plan : Plan) : Type 0 where
  pub long : length kept ≡ length (stages (network plan))
  pub empty : AllByRecursion (λ stage. stage.kept.bytes ≡ []) kept
  pub ordered : AreOrdered (network plan) (begun (stages (network plan)) kept)

-- the session stands where the run does at this place, but for the early moves of the stages from this number on
pub record IsEarly (sheet : Sheet) (sources : List TableDef) (plan : Plan) (limit number : ℕ) (p : At State) (early : EarlySession) (files : List LinesLeft) : Type 0 where
  pub sheet_is : IsSheetOf plan.sink sheet
  pub sources_are : plan.sources ≡ sources
  pub left : List Early
  pub stages_are : map (λ x. x.stage) left ≡ drop number (stages (network plan))
  pub kept : AreKept sheet left (drop number early.stages.items)
  pub ordered : AreOrdered (network plan) left
  pub few : p.state.sends ≤ limit
  pub state : State
  pub made : Made (network plan) limit left p.state state
  pub stands : StandsAt early.session plan limit files (record p { state = state })

abbrev pub MayBeEarly : Sheet → ℕ → EarlySession → Type 0
MayBeEarly sheet number early = (sources : List TableDef) × (files : List LinesLeft) × (plan : Plan) × (limit : ℕ) × (p : At State) × IsEarly sheet sources plan limit number p early files

abbrev pub MayTakeEarly : Sheet → List TableDef → EarlySession → List LinesLeft → Type 0
MayTakeEarly sheet sources early files = (plan : Plan) × (limit : ℕ) × (p : At State) × IsEarly sheet sources plan limit 0 p early files

abbrev pub ForEarly : Sheet → ℕ → EarlySession → (List TableDef → Plan → ℕ → At State → List LinesLeft → Type 0) → Type 0
ForEarly sheet number early P = (sources : List TableDef) (files : List LinesLeft) (plan : Plan) (limit : ℕ) (p : At State) → IsEarly sheet sources plan limit number p early files → P sources plan limit p files

-- moves were made, and the run is where it was
abbrev pub StaysEarly : Sheet → EarlySession → EarlySession → Type 0
StaysEarly sheet early later = ForEarly sheet 0 early (λ sources plan limit p files. IsEarly sheet sources plan limit 0 p later files)

-- a part of the run in which lines are taken, and behind which the rest goes on
pub record HasTakenEarly (sheet : Sheet) (sources : List TableDef) (plan : Plan) (limit : ℕ) (went : Went (At State)) (rest : At State → Went (At State)) (p : At State) (later : EarlySession) (files : List LinesLeft) : Type 0 where
  pub place : At State
  pub goes : went ≡ rest place
  pub silent : place.state.printed ≡ p.state.printed
  pub early : IsEarly sheet sources plan limit 0 place later files

abbrev pub TakesEarly : Sheet → List TableDef → EarlySession → List LinesLeft → Part → Part → EarlySession → List LinesLeft → Type 0
TakesEarly sheet sources early files part rest later left = (plan : Plan) (limit : ℕ) (p : At State) → IsEarly sheet sources plan limit 0 p early files
    → HasTakenEarly sheet sources plan limit (part sheet.by_table plan limit p) (rest sheet.by_table plan limit) p later left

-- stages of the drain were gone through up to this number, and the lines of what they printed are kept
pub record HasDrainedEarly (sheet : Sheet) (sources : List TableDef) (plan : Plan) (limit number : ℕ) (went : Went (At State)) (rest : At State → Went (At State)) (p : At State) (before : List ℕ) (later : EarlySession) (files : List LinesLeft) : Type 0 where
  pub place : At State
  pub goes : went ≡ rest place
  pub more : List PrintItem
  pub printed : place.state.printed ≡ p.state.printed ++ more
  pub lines : kept_lines (take number later.stages.items) ≡ before ++ lines_on sheet more
  pub early : IsEarly sheet sources plan limit number place later files

abbrev pub FinishesStage : Sheet → ℕ → EarlySession → EarlySession → Type 0
FinishesStage sheet number early later = ForEarly sheet number early (λ sources plan limit p files.
    HasDrainedEarly sheet sources plan limit (number + 1) (stage_run number sheet.by_table plan limit p) on p (kept_lines (take number early.stages.items)) later files)

abbrev pub FinishesStages : Sheet → ℕ → EarlySession → EarlySession → Type 0
FinishesStages sheet number early later = ForEarly sheet 0 early (λ sources plan limit p files.
    HasDrainedEarly sheet sources plan limit number (stages_run 0 sheet.by_table plan limit p) (stages_run number sheet.by_table plan limit) p [] later files)

-- ---- the whole run, but for the quiet item

abbrev pub lines_and_stages : Part
lines_and_stages by_table plan limit p = and_then (rest_run by_table plan limit p) (stages_run 0 by_table plan limit)

-- the run goes to its end, what it has printed is kept, and the session stands there but for that
pub record IsFinished (sheet : Sheet) (plan : Plan) (limit : ℕ) (went : Went (At State)) (p : At State) (later : EarlySession) (files : List LinesLeft) : Type 0 where
  pub place : At State
  pub goes : went ≡ on place
  pub more : List PrintItem
  pub printed : place.state.printed ≡ p.state.printed ++ more
  pub lines : kept_lines later.stages.items ≡ lines_on sheet more
  pub state : State
  pub same : hushed place.state ≡ hushed state
  pub stands : StandsAt later.session plan limit files (record place { state = state })

-- the run goes to its end, and the lines of what it has printed since are written
pub record EndsWell (sheet : Sheet) (went : Went (At State)) (p : At State) (old new : Told) : Type 0 where
  pub place : At State
  pub goes : went ≡ on place
  pub more : List PrintItem
  pub printed : place.state.printed ≡ p.state.printed ++ more
  pub written : Appends old.written new.written (lines_on sheet more)

-- what may be written, and what holds of each run of which that is
abbrev pub MayWrite : Sheet → EarlySession → Type 0
MayWrite sheet early = (plan : Plan) × (limit : ℕ) × (went : Went (At State)) × (p : At State) × (files : List LinesLeft) × IsSheetOf plan.sink sheet × IsFinished sheet plan limit went p early files

abbrev pub ForFinished : Sheet → EarlySession → (Plan → ℕ → At State → Type 0) → Type 0
ForFinished sheet early P = (plan : Plan) (limit : ℕ) (p : At State) (files : List LinesLeft) → IsSheetOf plan.sink sheet → IsFinished sheet plan limit (lines_and_stages sheet.by_table plan limit p) p early files → P plan limit p

-- where a job opens
abbrev pub opening : Network → ChangeFiles → At State
opening g files = record { state = opened g; files = all_unread files }

-- so goes the run over these files
abbrev pub FinishesOver : Sheet → Plan → ℕ → ChangeFiles → EarlySession → Type 0
FinishesOver sheet plan limit files early = (left : List LinesLeft) × IsFinished sheet plan limit (lines_and_stages sheet.by_table plan limit (opening (network plan) files)) (opening (network plan) files) early left
