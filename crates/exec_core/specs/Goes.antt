-- Where a session over a plan stands in a run over change files.
use Rattle.std.specs.Prelude.{◌≡◌, ℕ, true, Bool, List, set, slice_get, Some, option_map, Ok}
use Rattle.ct_catalog.specs.declared.table.TableDef.{TableDef}
use Rattle.ct_catalog.specs.Columns.{column_types, table_mode}
use Rattle.job_text.specs.declared.line.Line.{Line}
use Rattle.job_text.specs.Lines.{LinesLeft}
use Rattle.phys_plan.specs.declared.plan.Plan.{Plan}
use Rattle.plan_rules.specs.Doings.{network}
use Rattle.plan_rules.specs.Plans.{table_of}
use Rattle.stream_model.specs.declared.events.PrintItem.{PrintItem}
use Rattle.stream_model.specs.KeysTold.{is_typed}
use Rattle.stream_model.specs.Network.{Network}
use Rattle.stream_model.specs.Machine.{State, take}
use Rattle.stream_model.specs.Runs.{Item}
use Rattle.source_lines.specs.Run.{At, Went, on, job_of, take_from}
use Rattle.exec_core.specs.declared.session.Session.{Session}
use Rattle.exec_core.specs.Stands.{Stands, reached}

-- the network's tables are these sources, each scan in so many subtasks
abbrev pub HasTables : Network → ℕ → List TableDef → Type 0
HasTables g parallelism sources = (table : ℕ) → g.tables table ≡ option_map (table_of parallelism) (slice_get sources table)

-- a line is one of a source, and its change fits it
pub record IsOfSource (sources : List TableDef) (line : Line) : Type 0 where
  pub table : TableDef
  pub is : slice_get sources line.table ≡ Some table
  pub fits : is_typed (table_mode table) (column_types table) line.change ≡ true

-- ---- where a session stands

-- a session that handed out these items stands for a run that leads to this state
pub record StandsIn (session : Session) (plan : Plan) (limit : ℕ) (handed : List PrintItem) (s : State) : Type 0 where
  pub items : List Item
  pub stands : Stands session plan limit handed items
  pub is : reached plan limit items ≡ s

-- a session that handed out all that it printed, and readers of the files beside it, stand at this place of a run
pub record StandsAt (session : Session) (plan : Plan) (limit : ℕ) (files : List LinesLeft) (p : At State) : Type 0 where
  pub stands : StandsIn session plan limit p.state.printed p.state
  pub files_are : files ≡ p.files

-- ---- lines

-- so it is of each state of a run over a line's sources in which a session stands that handed out all
abbrev pub ForLine : Session → Line → (Plan → ℕ → State → Type 0) → Type 0
ForLine session line P = (plan : Plan) (limit : ℕ) (s : State) → IsOfSource plan.sources line → StandsIn session plan limit s.printed s → P plan limit s

-- the machine takes the line, and prints nothing
pub record HasTakenLine (next : Session) (line : Line) (plan : Plan) (limit : ℕ) (s : State) : Type 0 where
  pub state : State
  pub stands : StandsIn next plan limit state.printed state
  pub silent : state.printed ≡ s.printed
  pub takes : take (network plan) limit s line.table line.change ≡ Ok state

-- how a run goes on by the next line of the file at a place, or stays where the file has none
abbrev pub line_from : Plan → ℕ → Bool → At State → ℕ → LinesLeft → Went (At State)
line_from plan limit by_table p place file = take_from (job_of (network plan) limit) plan.sources by_table p place (Some file)

-- so it is at each place of a run over these sources where a session stands that handed out all, and where this file is
abbrev pub ForLines : Session → LinesLeft → List TableDef → (Plan → ℕ → Bool → At State → ℕ → Type 0) → Type 0
ForLines session file sources P = (plan : Plan) (limit : ℕ) (by_table : Bool) (p : At State) (place : ℕ) → plan.sources ≡ sources → StandsIn session plan limit p.state.printed p.state → slice_get p.files place ≡ Some file
    → P plan limit by_table p place

-- the run goes on to a place where the next session stands and this file is, and has printed nothing more
pub record HasTaken (next : Session) (file : LinesLeft) (plan : Plan) (limit : ℕ) (p : At State) (place : ℕ) (went : Went (At State)) : Type 0 where
  pub state : State
  pub stands : StandsIn next plan limit state.printed state
  pub silent : state.printed ≡ p.state.printed
  pub goes : went ≡ on (record { state = state; files = set p.files place file })
