-- A local group between its edges, as it runs in several subtasks, and what it needs of the edges.
use Rattle.std.specs.Prelude.{◌≡◌, ℕ, ◌<◌, true, List, [], length, Some}
use Rattle.std.specs.List.{Contains, AllByRecursion}
use Rattle.ct_value.specs.declared.row.Row.{Row}
use Rattle.ct_field.specs.Typed.{row_fits}
use Rattle.ct_change.specs.declared.kind.Kind.{Kind}
use Rattle.ct_change.specs.declared.kind.Kind.TheVariants.{I}
use Rattle.ct_change.specs.declared.change.Change.{Change}
use Rattle.ct_change.specs.Changelog.{Mode, append, retract, upsert, has, admits}
use Rattle.rel_algebra.specs.GroupedCounts.{in_group}
use Rattle.op_rules.specs.Values.{types_fit}
use Rattle.op_rules.specs.Edges.{bag, partials, forward, hash, Edge}
use Rattle.op_rules.specs.Ports.{task_of, TakesAll}
use Rattle.op_rules.specs.Tasks.{Task, Facts}
use Rattle.column_sets.specs.Places.{first_columns}
use Rattle.phase_rules.specs.LocalGrouping.{LocalGrouping, SumsUp, fit_after, local_rule, partial_row, partials_of}

-- it stands for its input's rows
abbrev pub local_task : ℕ → LocalGrouping → Edge → Edge → Task
local_task many l from to = task_of (local_rule l) many (λ port. from) to (λ subtask rows. Some (rows 0)) (λ rows. Some (rows 0))

-- changelogs of a mode stand for a bag of rows, without a key
abbrev pub IsOfBags : Mode → Type 0
IsOfBags append = Unit {0}
IsOfBags retract = Unit {0}
IsOfBags (upsert key) = ⊥

-- changes of the input, at least one, whose rows fit the columns and are of the group with this key, whose sums fit one after the other
pub record AreSummed (l : LocalGrouping) (key : Row) (changes : List Change) : Type 0 where
  pub named : length key ≡ l.keys
  pub some : 0 < length changes
  pub kinds : AllByRecursion (λ change. admits l.input change.kind ≡ true) changes
  pub whole : AllByRecursion (λ change. row_fits l.columns change.row ≡ true) changes
  pub types : AllByRecursion (λ change. types_fit l.columns change.row ≡ true) changes
  pub own : AllByRecursion (λ change. in_group l.keys key change.row ≡ true) changes
  pub fit : fit_after l.aggs [] changes ≡ true

-- a local group takes a forward edge, and sends partial rows by a hash of their keys
pub record LocalFits (many : ℕ) (l : LocalGrouping) (from to : Edge) : Type 0 where
  pub sums_up : SumsUp l
  pub of_bags : IsOfBags l.input
  pub reads : from.meaning ≡ bag
  pub forwards : from.exchange ≡ forward
  pub kinds : (kind : Kind) → has from.kinds kind ≡ true → admits l.input kind ≡ true
  pub fits : (change : Change) → from.fits change ≡ true → row_fits l.columns change.row ≡ true
  -- what leaves
  pub writes : to.meaning ≡ partials (partials_of l)
  pub hashed : to.exchange ≡ hash (first_columns l.keys)
  pub comes : has to.kinds I ≡ true
  pub out_fits : (key : Row) (changes : List Change) → AreSummed l key changes → to.fits (record { kind = I; row = partial_row l.aggs key changes }) ≡ true
  pub out_holds : (row : Row) → from.holds row ≡ true → to.holds row ≡ true
  -- its keys are the input's, and it has none at every moment
  pub unique : (key : List ℕ) → Contains to.unique key → Contains from.unique key
  pub local : (key : List ℕ) → Contains to.local key → ⊥
  pub fixing : (set : List ℕ) → Contains to.fixing set → ⊥

-- a local group meets the facts of nodes, in however many subtasks it runs
abbrev pub LocalGroupsStand : Type 0
LocalGroupsStand = (many : ℕ) (l : LocalGrouping) (from to : Edge) → LocalFits many l from to → Facts (local_task many l from to)

-- and takes what its edge carries
abbrev pub LocalGroupsTake : Type 0
LocalGroupsTake = (many : ℕ) (l : LocalGrouping) (from to : Edge) → LocalFits many l from to → TakesAll (local_rule l) (local_task many l from to)
