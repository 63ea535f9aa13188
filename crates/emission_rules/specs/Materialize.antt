-- The materializer: the rule, as a node between its edges, and what it needs of these.
use Rattle.std.specs.Prelude.{◌≡◌, ℕ, ◌+◌, ◌<◌, ◌⊎◌, true, cond, nat_lt, List, [], ◌∷◌, ◌++◌, length, Option, Some, None, Ok}
use Rattle.std.specs.List.{Contains, filter, fold, last_or, list_all}
use Rattle.ct_value.specs.Bag.{copies, drop_one, one_at}
use Rattle.ct_value.specs.Order.{row_cmp}
use Rattle.ct_value.specs.Rows.{project}
use Rattle.ct_value.specs.declared.row.Row.{Row}
use Rattle.ct_change.specs.declared.kind.Kind.{Kind}
use Rattle.ct_change.specs.declared.change.Change.{Change}
use Rattle.ct_change.specs.Changelog.{retract, upsert, Rows, adds, has, admits, HasKey}
use Rattle.ct_change.specs.Emission.{emission}
use Rattle.ct_change.specs.KeyRows.{row_told}
use Rattle.ct_change.specs.LastRows.{has_key}
use Rattle.op_rules.specs.Rules.{Rule}
use Rattle.op_rules.specs.Edges.{bag, last_rows, hash, Edge, LiesIn, HoldsOver}
use Rattle.op_rules.specs.Tasks.{Task, Facts}
use Rattle.op_rules.specs.Ports.{task_of, TakesAll}
use Rattle.emission_rules.specs.Changes.{changes_of}

-- ---- the rows that stand, in order of arrival

-- a row that comes stands behind the others, and where one goes its first copy does
abbrev pub stands_after : List Row → Change → List Row
stands_after rows change = cond (adds change.kind) (rows ++ change.row ∷ []) (drop_one row_cmp change.row rows)

abbrev pub standing : List Change → List Row
standing changes = fold stands_after [] changes

-- those of them that have a key, which is told by its values
abbrev pub under : List ℕ → Row → List Row → List Row
under key values rows = filter (has_key key values) rows

-- of these the last one is shown
abbrev pub shown : List ℕ → Row → List Row → Option Row
shown key values rows = last_or None (under key values rows)

-- ---- the rule

-- where these rows stand, the one that is shown under the change's key gives way to the one that is shown after it
abbrev pub materialized : List ℕ → List Row → Change → List Change
materialized key rows change = emission (upsert key) (shown key (project key change.row) rows) (shown key (project key change.row) (stands_after rows change))

-- the same of changes in turn, each by the rows after those before it
abbrev pub materialized_all : List ℕ → List Row → List Change → List Change
materialized_all key rows [] = []
materialized_all key rows (change ∷ changes) = materialized key rows change ++ materialized_all key (stands_after rows change) changes

-- a materializer by a key takes rows that have its columns; it looks the key up and reads the rows that stand under it
abbrev pub materialize_rule : List ℕ → Rule
materialize_rule key = record {
  ports = 1;
  mode = λ port. retract;
  fits = λ port change. list_all (λ column. nat_lt column (length change.row)) key;
  opening = λ subtask. [];
  emits = λ before piece. Ok (materialized_all key (standing (changes_of before)) (changes_of piece));
  work = λ before a. 2 + length (under key (project key a.change.row) (standing (changes_of before)));
}

-- its rows are those that stand where it reads
abbrev pub materialize_task : List ℕ → ℕ → (ℕ → Edge) → Edge → Task
materialize_task key many from to = task_of (materialize_rule key) many from to (λ subtask rows. Some (rows 0)) (λ rows. Some (rows 0))

-- ---- what is known of it

-- how often a row is there where this row, or none, is
abbrev pub count_in : Option Row → Row → ℕ
count_in None row = 0
count_in (Some other) row = one_at row_cmp row other

-- these rows are the ones that are shown, one of each key
abbrev pub AreShown : List ℕ → List Row → Rows → Type 0
AreShown key rows shows = (row : Row) → copies shows row ≡ count_in (shown key (project key row) rows) row

-- a materializer takes an edge of a bag, hashed by its key, in which a key of its input lies, and sends last rows of its key
pub record MaterializeFits (key : List ℕ) (many : ℕ) (from to : Edge) : Type 0 where
  pub routed : (values : Row) → from.route values < many
  pub hashed : from.exchange ≡ hash key
  pub reads : from.meaning ≡ bag
  pub writes : to.meaning ≡ last_rows key
  -- this one, of each answer or at every moment
  pub own : List ℕ
  pub is_key : Contains from.unique own ⊎ HoldsOver from own
  pub lies : LiesIn own key
  pub keyed : (change : Change) → from.fits change ≡ true → HasKey (upsert key) change.row
  pub kinds : (kind : Kind) → admits (upsert key) kind ≡ true → has to.kinds kind ≡ true
  pub fits : (change : Change) (kind : Kind) → from.fits change ≡ true → adds change.kind ≡ true → to.fits (record { kind = kind; row = row_told (upsert key) (adds kind) change.row }) ≡ true
  pub holds : (row : Row) → from.holds row ≡ true → to.holds row ≡ true
  -- in each of its keys and fixing sets its key lies
  pub unique : (set : List ℕ) → Contains to.unique set → LiesIn key set
  pub local : (set : List ℕ) → Contains to.local set → LiesIn key set
  pub fixing : (set : List ℕ) → Contains to.fixing set → LiesIn key set

-- in however many subtasks it runs, it meets the facts of nodes, and its port takes what the edge carries
abbrev pub MaterializersStand : Type 0
MaterializersStand = (key : List ℕ) (many : ℕ) (from : ℕ → Edge) (to : Edge) → MaterializeFits key many (from 0) to → Facts (materialize_task key many from to)

abbrev pub MaterializersTake : Type 0
MaterializersTake = (key : List ℕ) (many : ℕ) (from : ℕ → Edge) (to : Edge) → MaterializeFits key many (from 0) to → TakesAll (materialize_rule key) (materialize_task key many from to)
