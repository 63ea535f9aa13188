-- Normalize: the rule, as a node between its edges, and what it needs of these.
use Rattle.std.specs.Prelude.{◌≡◌, ℕ, ◌<◌, ◌⊎◌, Bool, true, false, List, [], ◌∷◌, ◌++◌, Option, Some, None, Ok}
use Rattle.std.specs.List.{Contains}
use Rattle.ct_value.specs.declared.row.Row.{Row}
use Rattle.ct_change.specs.declared.kind.Kind.{Kind}
use Rattle.ct_change.specs.declared.change.Change.{Change}
use Rattle.ct_change.specs.Changelog.{Mode, append, retract, upsert, Rows, adds, has, admits, row_at, apply, fold, HasKey}
use Rattle.ct_change.specs.Emission.{emission}
use Rattle.ct_change.specs.KeyRows.{row_told}
use Rattle.op_rules.specs.Rules.{Answer, Rule}
use Rattle.op_rules.specs.Edges.{last_rows, meaning_of, hash, Edge, LiesIn, HoldsOver}
use Rattle.op_rules.specs.Tasks.{Task, Facts}
use Rattle.op_rules.specs.Ports.{task_of, TakesAll}
use Rattle.emission_rules.specs.Changes.{changes_of}

pub record Normalize : Type 0 where
  pub key : List ℕ
  -- how it writes
  pub output : Mode

-- the row that a change leaves of its key
abbrev pub row_left : Bool → Row → Option Row
row_left true row = Some row
row_left false row = None

-- where these rows stand, the row of the change's key gives way to the one that the change leaves
abbrev pub normalized : Normalize → Rows → Change → List Change
normalized normalize rows change = emission normalize.output (row_at rows normalize.key change.row) (row_left (adds change.kind) change.row)

-- the same of changes in turn, each by the rows after those before it
abbrev pub normalized_all : Normalize → Rows → List Change → List Change
normalized_all normalize rows [] = []
normalized_all normalize rows (change ∷ changes) = normalized normalize rows change ++ normalized_all normalize (apply (upsert normalize.key) rows change) changes

abbrev pub normalize_emits : Normalize → List Change → List Change → Answer
normalize_emits normalize before piece = Ok (normalized_all normalize (fold (upsert normalize.key) before) piece)

abbrev pub normalize_rule : Normalize → Rule
normalize_rule normalize = record {
  ports = 1;
  mode = λ port. upsert normalize.key;
  fits = λ port change. true;
  opening = λ subtask. [];
  emits = λ before piece. normalize_emits normalize (changes_of before) (changes_of piece);
  work = λ before a. 2;
}

-- its rows are those of the table
abbrev pub normalize_task : Normalize → ℕ → (ℕ → Edge) → Edge → Task
normalize_task normalize many from to = task_of (normalize_rule normalize) many from to (λ subtask rows. Some (rows 0)) (λ rows. Some (rows 0))

-- a mode that can tell that the row of a key gives way to another
abbrev pub TellsKey : List ℕ → Mode → Type 0
TellsKey key append = ⊥
TellsKey key retract = Unit {0}
TellsKey key (upsert columns) = columns ≡ key

-- a normalize takes an edge that is after-only by its key, hashed by it
pub record NormalizeFits (normalize : Normalize) (many : ℕ) (from to : Edge) : Type 0 where
  pub routed : (key : Row) → from.route key < many
  pub hashed : from.exchange ≡ hash normalize.key
  pub reads : from.meaning ≡ last_rows normalize.key
  pub tells : TellsKey normalize.key normalize.output
  pub writes : to.meaning ≡ meaning_of normalize.output
  pub admitted : (kind : Kind) → has from.kinds kind ≡ true → admits (upsert normalize.key) kind ≡ true
  pub keyed : (change : Change) → from.fits change ≡ true → HasKey (upsert normalize.key) change.row
  pub kinds : (kind : Kind) → admits normalize.output kind ≡ true → has to.kinds kind ≡ true
  pub fits : (change : Change) (kind : Kind) → from.fits change ≡ true → adds change.kind ≡ true → to.fits (record { kind = kind; row = row_told normalize.output (adds kind) change.row }) ≡ true
  pub holds : (row : Row) → from.holds row ≡ true → to.holds row ≡ true
  pub unique : (set : List ℕ) → Contains to.unique set → Contains from.unique set ⊎ HoldsOver from set
  -- in each of its local keys and fixing sets its key lies
  pub local : (set : List ℕ) → Contains to.local set → LiesIn normalize.key set
  pub fixing : (set : List ℕ) → Contains to.fixing set → LiesIn normalize.key set

-- in however many subtasks it runs, it meets the facts of nodes, and its port takes what the edge carries
abbrev pub NormalizesStand : Type 0
NormalizesStand = (normalize : Normalize) (many : ℕ) (from : ℕ → Edge) (to : Edge) → NormalizeFits normalize many (from 0) to → Facts (normalize_task normalize many from to)

abbrev pub NormalizesTake : Type 0
NormalizesTake = (normalize : Normalize) (many : ℕ) (from : ℕ → Edge) (to : Edge) → NormalizeFits normalize many (from 0) to → TakesAll (normalize_rule normalize) (normalize_task normalize many from to)
