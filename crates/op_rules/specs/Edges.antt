-- What is known of an edge: how its changes are read, where they go, and what is known of their rows.
use Rattle.std.specs.Prelude.{◌≡◌, ℕ, ◌<◌, ◌≤◌, ◌==◌, Bool, List}
use Rattle.std.specs.List.{Contains, AllByRecursion}
use Rattle.ct_value.specs.Rows.{project}
use Rattle.ct_value.specs.declared.row.Row.{Row}
use Rattle.ct_change.specs.declared.kind.KindSet.{KindSet}
use Rattle.ct_change.specs.declared.change.Change.{Change}
use Rattle.ct_change.specs.Changelog.{Mode, append, retract, upsert, Rows, Means}
use Rattle.op_rules.specs.Partials.{Partials, StandFor}

-- how a list of changes is read: as a bag, as the last row of each key, or as partial results
pub data Meaning : Type 0 where
  bag : Meaning
  last_rows : List ℕ → Meaning
  partials : Partials → Meaning

-- how a changelog of a mode is read
abbrev pub meaning_of : Mode → Meaning
meaning_of append = bag
meaning_of retract = bag
meaning_of (upsert key) = last_rows key

abbrev pub IsPartial : Meaning → Type 0
IsPartial bag = ⊥
IsPartial (last_rows key) = ⊥
IsPartial (partials p) = Unit {0}

-- the list stands for these rows
abbrev pub ReadsAs : Meaning → List Change → Rows → Type 0
ReadsAs bag changes rows = Means retract changes rows
ReadsAs (last_rows key) changes rows = Means (upsert key) changes rows
ReadsAs (partials p) changes rows = StandFor p changes rows

-- which subtask of the consumer a row goes to: the one of the same number, or that of its values in these columns
pub data Exchange : Type 0 where
  forward : Exchange
  hash : List ℕ → Exchange

pub record Edge : Type 0 where
  pub meaning : Meaning
  pub exchange : Exchange
  -- the subtask of the values of a key
  pub route : Row → ℕ
  pub kinds : KindSet
  -- whether a change has the edge's columns, and whether a row that the changes stand for has
  pub fits : Change → Bool
  pub holds : Row → Bool
  -- keys of each answer
  pub unique : List (List ℕ)
  -- keys of what each subtask sends, at every moment, and sets of columns that fix the subtask
  pub local : List (List ℕ)
  pub fixing : List (List ℕ)

-- ---- where rows go

abbrev pub goes_by : Exchange → (Row → ℕ) → ℕ → ℕ → Row → Bool
goes_by forward route i j row = i == j
goes_by (hash columns) route i j row = route (project columns row) == j

-- whether a row that subtask i sends goes to subtask j
abbrev pub goes : Edge → ℕ → ℕ → Row → Bool
goes edge i j row = goes_by edge.exchange edge.route i j row

-- the same for a row that the changes stand for: partial results go where the rows of their group would go
abbrev pub belongs_by : Meaning → Exchange → (Row → ℕ) → ℕ → ℕ → Row → Bool
belongs_by bag exchange route i j row = goes_by exchange route i j row
belongs_by (last_rows key) exchange route i j row = goes_by exchange route i j row
belongs_by (partials p) exchange route i j row = route (project p.group row) == j

abbrev pub belongs : Edge → ℕ → ℕ → Row → Bool
belongs edge i j row = belongs_by edge.meaning edge.exchange edge.route i j row

abbrev pub IsRoutedBy : Exchange → (Row → ℕ) → ℕ → List Change → Type 0
IsRoutedBy forward route j changes = Unit {0}
IsRoutedBy (hash columns) route j changes = AllByRecursion (λ change. route (project columns change.row) ≡ j) changes

-- each row's values route to this subtask, where the edge is a hash edge
abbrev pub IsRouted : Edge → ℕ → List Change → Type 0
IsRouted edge j changes = IsRoutedBy edge.exchange edge.route j changes

-- ---- keys

-- at most one row, once, has any one value of the key
abbrev pub IsUnique : List ℕ → (Row → ℕ) → Type 0
IsUnique key copies = (a b : Row) → project key a ≡ project key b → 0 < copies a → 0 < copies b → (a ≡ b) × (copies a ≤ 1)

-- rows that agree on the columns stand in one of these lists
abbrev pub IsApart : List ℕ → ℕ → (ℕ → List Change) → Type 0
IsApart columns many lists = (i j : ℕ) → i < many → j < many
    → AllByRecursion (λ a. AllByRecursion (λ b. project columns a.row ≡ project columns b.row → i ≡ j) (lists j)) (lists i)

-- rows that agree on the one set of columns agree on the other
abbrev pub LiesIn : List ℕ → List ℕ → Type 0
LiesIn columns key = (a b : Row) → project key a ≡ project key b → project columns a ≡ project columns b

-- a key of the output of all subtasks together, at every moment: a local key and a fixing set lie in it
pub record HoldsOver (edge : Edge) (key : List ℕ) : Type 0 where
  pub local : List ℕ
  pub fixing : List ℕ
  pub is_local : Contains edge.local local
  pub is_fixing : Contains edge.fixing fixing
  pub has_local : LiesIn local key
  pub has_fixing : LiesIn fixing key

abbrev pub IsSeenBy : Exchange → Edge → List ℕ → Type 0
IsSeenBy forward edge key = Contains edge.local key
IsSeenBy (hash columns) edge key = HoldsOver edge key

-- a key of what each subtask of the consumer sees, at every moment
abbrev pub IsSeen : Edge → List ℕ → Type 0
IsSeen edge key = IsSeenBy edge.exchange edge key

-- in a mode with a key, rows that agree on the key agree on these columns
abbrev pub KeepsKeys : Mode → List ℕ → Type 0
KeepsKeys append columns = Unit {0}
KeepsKeys retract columns = Unit {0}
KeepsKeys (upsert key) columns = LiesIn columns key

-- of changes that are read as last rows, those of one key stand in one list
abbrev pub AreApartBy : Meaning → ℕ → (ℕ → List Change) → Type 0
AreApartBy bag many lists = Unit {0}
AreApartBy (last_rows key) many lists = IsApart key many lists
AreApartBy (partials p) many lists = Unit {0}

-- ---- what an edge needs

-- an edge of last rows keeps each key in one channel, and one of partial results each group
abbrev pub IsKeyedBy : Meaning → Exchange → Type 0
IsKeyedBy bag exchange = Unit {0}
IsKeyedBy (last_rows key) forward = Unit {0}
IsKeyedBy (last_rows key) (hash columns) = LiesIn columns key
IsKeyedBy (partials p) forward = ⊥
IsKeyedBy (partials p) (hash columns) = columns ≡ p.own

pub record IsWellFormed (many : ℕ) (edge : Edge) : Type 0 where
  pub keyed : IsKeyedBy edge.meaning edge.exchange
  -- partial results have no keys
  pub unkeyed : IsPartial edge.meaning → (key : List ℕ) → Contains edge.local key → ⊥
  -- each key has a subtask
  pub routed : (key : Row) → edge.route key < many
