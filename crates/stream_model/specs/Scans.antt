-- A scan: its edge carries what its table takes.
use Rattle.std.specs.Prelude.{◌≡◌, ℕ, ◌<◌, true, List, Option, Some, None}
use Rattle.std.specs.List.{Contains}
use Rattle.ct_value.specs.declared.row.Row.{Row}
use Rattle.ct_change.specs.declared.kind.Kind.{Kind}
use Rattle.ct_change.specs.declared.change.Change.{Change}
use Rattle.ct_change.specs.Changelog.{Mode, append, retract, upsert, adds, admits, has}
use Rattle.op_rules.specs.Edges.{meaning_of, Edge, LiesIn, KeepsKeys}
use Rattle.stream_model.specs.Tables.{Table, asked, null_refusal}
use Rattle.stream_model.specs.Network.{ScanFacts}

abbrev pub IsKeyBy : Mode → Option (List ℕ) → List ℕ → Type 0
IsKeyBy append declared key = declared ≡ Some key
IsKeyBy retract declared key = declared ≡ Some key
IsKeyBy (upsert columns) declared key = columns ≡ key

-- the columns are the table's key
abbrev pub IsKeyOf : Table → List ℕ → Type 0
IsKeyOf table key = IsKeyBy table.mode table.key key

pub record CarriesTable (many : ℕ) (table : Table) (edge : Edge) : Type 0 where
  pub routed : (key : Row) → table.route key < many
  -- the changes of one key of an upsert table have one subtask
  pub spread : KeepsKeys table.mode table.spread
  pub meaning : edge.meaning ≡ meaning_of table.mode
  pub kinds : (kind : Kind) → admits table.mode kind ≡ true → has edge.kinds kind ≡ true
  -- with no NULL where the table refuses it, a change has the edge's columns
  pub fits : (change : Change) → admits table.mode change.kind ≡ true → table.fits change ≡ true → null_refusal (asked table change) change.row ≡ None → edge.fits change ≡ true
  pub holds : (change : Change) → table.fits change ≡ true → null_refusal table.required change.row ≡ None → adds change.kind ≡ true → edge.holds change.row ≡ true
  -- its keys are the table's, and its fixing sets have the columns by which the table's changes are spread
  pub unique : (key : List ℕ) → Contains edge.unique key → IsKeyOf table key
  pub local : (key : List ℕ) → Contains edge.local key → IsKeyOf table key
  pub fixing : (columns : List ℕ) → Contains edge.fixing columns → LiesIn table.spread columns

-- the facts of a scan follow from what its table takes
abbrev pub ScansStand : Type 0
ScansStand = (many : ℕ) (table : Table) (edge : Edge) → CarriesTable many table edge → ScanFacts many table edge
