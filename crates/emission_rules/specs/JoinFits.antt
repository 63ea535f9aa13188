-- A join between its edges, as it runs in several subtasks, and what it needs of the edges.
use Rattle.std.specs.Prelude.{◌≡◌, ℕ, ◌+◌, ◌<◌, ◌⊎◌, true, false, ◌||◌, List, length, map, slice_get, Some}
use Rattle.std.specs.List.{Contains, AllByRecursion}
use Rattle.ct_value.specs.declared.row.Row.{Row}
use Rattle.ct_value.specs.declared.ty.ColTy.{ColTy}
use Rattle.ct_change.specs.declared.kind.Kind.{Kind}
use Rattle.ct_change.specs.declared.kind.Kind.TheVariants.{UA}
use Rattle.ct_change.specs.declared.kind.KindSet.{KindSet}
use Rattle.ct_change.specs.declared.change.Change.{Change}
use Rattle.ct_change.specs.Changelog.{Mode, append, retract, upsert, HasKey, has, admits}
use Rattle.rel_algebra.specs.declared.join.JoinKind.TheVariants.{Inner, Left, Right, Full}
use Rattle.rel_algebra.specs.Clauses.{Fits}
use Rattle.rel_algebra.specs.Joins.{join_columns, left_columns, right_columns}
use Rattle.op_rules.specs.Edges.{bag, meaning_of, hash, Edge, LiesIn, HoldsOver, IsSeen}
use Rattle.op_rules.specs.Ports.{task_of, TakesAll}
use Rattle.op_rules.specs.Tasks.{Task, Facts}
use Rattle.emission_rules.specs.Arriving.{FitsIn}
use Rattle.emission_rules.specs.Joining.{Shape, joins, matched, Joining, joined_answer, join_rule}
use Rattle.ct_change.specs.Kinds.{has_more_than_inserts}

abbrev pub join_task : ℕ → Joining → (ℕ → Edge) → Edge → Task
join_task many j from to = task_of (join_rule j) many from to (λ subtask rows. joined_answer j (rows 0) (rows 1)) (λ rows. joined_answer j (rows 0) (rows 1))

-- ---- columns and kinds

-- the columns of what is joined
abbrev pub columns_by : Shape → List ColTy → List ColTy → List ColTy
columns_by (joins kind) left right = join_columns kind left right
columns_by (matched anti) left right = left

abbrev pub joined_columns : Joining → List ColTy
joined_columns j = columns_by j.shape j.left_columns j.right_columns

-- an inner join hands kinds on, `-U` wherever there is `+U`; an outer join says `+I` and `-D` alone; rows that are kept by whether
-- they have a match have the left's kinds, and go where the right may take or give a match
abbrev pub kinds_by : Shape → KindSet → KindSet → KindSet
kinds_by (joins Inner) left right = record { i = true; ub = left.ub || (left.ua || (right.ub || right.ua)); ua = left.ua || right.ua; d = left.d || right.d }
kinds_by (joins Left) left right = record { i = true; ub = false; ua = false; d = true }
kinds_by (joins Right) left right = record { i = true; ub = false; ua = false; d = true }
kinds_by (joins Full) left right = record { i = true; ub = false; ua = false; d = true }
kinds_by (matched anti) left right = record { i = true; ub = left.ub || left.ua; ua = left.ua; d = anti || (left.d || has_more_than_inserts right) }

-- ---- keys

-- these columns of the right side, in what is joined
abbrev pub behind : ℕ → List ℕ → List ℕ
behind width columns = map (λ column. width + column) columns

-- a key of the left side that lies in a key of what is joined, and one of the right side
pub record LeftKey (Has : List ℕ → Type 0) (width : ℕ) (key : List ℕ) : Type 0 where
  pub columns : List ℕ
  pub has : Has columns
  pub within : AllByRecursion (λ column. column < width) columns
  pub lies : LiesIn columns key

pub record RightKey (Has : List ℕ → Type 0) (width : ℕ) (key : List ℕ) : Type 0 where
  pub columns : List ℕ
  pub has : Has columns
  pub lies : LiesIn (behind width columns) key

-- a key of one side that lies in its columns of the pairs: each row of the other side has one match at most
abbrev pub MatchesOne : (List ℕ → Type 0) → List ℕ → Type 0
MatchesOne Has pairs = (columns : List ℕ) × Has columns × LiesIn columns pairs

-- a column of the key isn't nullable
abbrev pub HasNotNull : List ℕ → List ColTy → Type 0
HasNotNull key columns = (n : ℕ) × (column : ColTy) × Contains key n × (slice_get columns n ≡ Some column) × (column.nullable ≡ false)

-- a key of both sides lies in it; or one of the left side, whose rows have one match at most each; or one of the right side
abbrev pub HasBoth : (List ℕ → Type 0) → (List ℕ → Type 0) → ℕ → List ℕ → Type 0
HasBoth L R width key = LeftKey L width key × RightKey R width key

abbrev pub HasLeft : (List ℕ → Type 0) → (List ℕ → Type 0) → Joining → List ℕ → Type 0
HasLeft L R j key = LeftKey L (length j.left_columns) key × MatchesOne R (right_columns j.on)

abbrev pub HasRight : (List ℕ → Type 0) → (List ℕ → Type 0) → Joining → List ℕ → Type 0
HasRight L R j key = RightKey R (length j.left_columns) key × MatchesOne L (left_columns j.on)

-- padded rows of the two sides are told apart by a column of the one side's key
abbrev pub HasBothApart : (List ℕ → Type 0) → (List ℕ → Type 0) → Joining → List ℕ → Type 0
HasBothApart L R j key = (l : LeftKey L (length j.left_columns) key) × (r : RightKey R (length j.left_columns) key) × (HasNotNull l.columns j.left_columns ⊎ HasNotNull r.columns j.right_columns)

-- a key of what is joined, where these are keys of the left side and of the right side
abbrev pub IsKeyBy : Shape → (List ℕ → Type 0) → (List ℕ → Type 0) → Joining → List ℕ → Type 0
IsKeyBy (joins Inner) L R j key = HasBoth L R (length j.left_columns) key ⊎ (HasLeft L R j key ⊎ HasRight L R j key)
IsKeyBy (joins Left) L R j key = HasBoth L R (length j.left_columns) key ⊎ HasLeft L R j key
IsKeyBy (joins Right) L R j key = HasBoth L R (length j.left_columns) key ⊎ HasRight L R j key
IsKeyBy (joins Full) L R j key = HasBothApart L R j key
IsKeyBy (matched anti) L R j key = (columns : List ℕ) × L columns × LiesIn columns key

-- a set that fixes the subtask
abbrev pub FixesBy : Shape → Joining → List ℕ → Type 0
FixesBy (joins Inner) j set = LiesIn (left_columns j.on) set ⊎ LiesIn (behind (length j.left_columns) (right_columns j.on)) set
FixesBy (joins Left) j set = LiesIn (left_columns j.on) set
FixesBy (joins Right) j set = LiesIn (behind (length j.left_columns) (right_columns j.on)) set
FixesBy (joins Full) j set = LiesIn (left_columns j.on) set × LiesIn (behind (length j.left_columns) (right_columns j.on)) set
FixesBy (matched anti) j set = LiesIn (left_columns j.on) set

-- ---- what is needed

-- where a row gives way to another of its key, `+U` is among the kinds
abbrev pub SaysUpdates : Mode → KindSet → Type 0
SaysUpdates append kinds = Unit {0}
SaysUpdates retract kinds = Unit {0}
SaysUpdates (upsert key) kinds = has kinds UA ≡ true

-- a side takes a hash edge by its columns of the pairs, of bags or of last rows
pub record SideFits (many : ℕ) (mode : Mode) (columns : List ColTy) (pairs : List ℕ) (from : Edge) : Type 0 where
  pub reads : from.meaning ≡ meaning_of mode
  pub hashed : from.exchange ≡ hash pairs
  pub routed : (key : Row) → from.route key < many
  pub kinds : (kind : Kind) → has from.kinds kind ≡ true → admits mode kind ≡ true
  pub updates : SaysUpdates mode from.kinds
  pub fits : (change : Change) → from.fits change ≡ true → FitsIn mode columns change
  pub keyed : (change : Change) → from.fits change ≡ true → HasKey mode change.row
  pub holds : (row : Row) → from.holds row ≡ true → Fits columns row

pub record JoinFits (many : ℕ) (j : Joining) (from : ℕ → Edge) (to : Edge) : Type 0 where
  pub left : SideFits many j.left j.left_columns (left_columns j.on) (from 0)
  pub right : SideFits many j.right j.right_columns (right_columns j.on) (from 1)
  pub together : (key : Row) → (from 0).route key ≡ (from 1).route key
  pub within : AllByRecursion (λ column. column < length j.left_columns) (left_columns j.on)
  -- what leaves
  pub writes : to.meaning ≡ bag
  pub out_kinds : (kind : Kind) → has (kinds_by j.shape (from 0).kinds (from 1).kinds) kind ≡ true → has to.kinds kind ≡ true
  pub out_fits : (change : Change) → Fits (joined_columns j) change.row → to.fits change ≡ true
  pub out_holds : (row : Row) → Fits (joined_columns j) row → to.holds row ≡ true
  pub unique : (key : List ℕ) → Contains to.unique key → IsKeyBy j.shape (λ columns. Contains (from 0).unique columns ⊎ HoldsOver (from 0) columns) (λ columns. Contains (from 1).unique columns ⊎ HoldsOver (from 1) columns) j key
  pub local : (key : List ℕ) → Contains to.local key → IsKeyBy j.shape (IsSeen (from 0)) (IsSeen (from 1)) j key
  pub fixing : (set : List ℕ) → Contains to.fixing set → FixesBy j.shape j set

-- ---- what is known

-- a join meets the facts of nodes, in however many subtasks it runs
abbrev pub JoinsStand : Type 0
JoinsStand = (many : ℕ) (j : Joining) (from : ℕ → Edge) (to : Edge) → JoinFits many j from to → Facts (join_task many j from to)

-- and takes what its edges carry
abbrev pub JoinsTake : Type 0
JoinsTake = (many : ℕ) (j : Joining) (from : ℕ → Edge) (to : Edge) → JoinFits many j from to → TakesAll (join_rule j) (join_task many j from to)
