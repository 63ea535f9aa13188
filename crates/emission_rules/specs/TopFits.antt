-- A Top-N between its edges, as it runs in several subtasks, and what it needs of the edges.
use Rattle.std.specs.Prelude.{◌≡◌, ℕ, ◌<◌, ◌⊎◌, Bool, true, false, cond, List, length}
use Rattle.std.specs.List.{Contains, AllByRecursion}
use Rattle.ct_value.specs.declared.row.Row.{Row}
use Rattle.ct_change.specs.declared.kind.Kind.{Kind}
use Rattle.ct_change.specs.declared.kind.Kind.TheVariants.{UB, UA}
use Rattle.ct_change.specs.declared.kind.KindSet.{KindSet}
use Rattle.ct_change.specs.declared.change.Change.{Change}
use Rattle.ct_change.specs.Changelog.{HasKey, adds, has, admits}
use Rattle.ct_change.specs.KeyRows.{row_told}
use Rattle.rel_algebra.specs.Clauses.{Fits}
use Rattle.rel_algebra.specs.Ranks.{rank_rows, rank_columns}
use Rattle.op_rules.specs.Edges.{meaning_of, hash, Edge, LiesIn, HoldsOver, IsSeen}
use Rattle.op_rules.specs.Ports.{task_of, TakesAll}
use Rattle.op_rules.specs.Tasks.{Task, Facts}
use Rattle.emission_rules.specs.Arriving.{FitsIn}
use Rattle.emission_rules.specs.Ranking.{Ranking, topn_rule, by_rank, names, IsSound}
use Rattle.ct_change.specs.Kinds.{has_more_than_inserts}

-- each subtask has the first rows of its partitions, and all together those of all
abbrev pub topn_task : ℕ → Ranking → Edge → Edge → Task
topn_task many r from to = task_of (topn_rule r) many (λ port. from) to (λ subtask rows. rank_rows r.partition r.order r.bound r.ranked (rows 0)) (λ rows. rank_rows r.partition r.order r.bound r.ranked (rows 0))

-- ---- kinds

-- a rank's row is updated, and goes where rows of the input go; without ranks rows come and go
abbrev pub output_kinds : Ranking → KindSet → KindSet
output_kinds r kinds = cond (by_rank r)
    (record { i = true; ub = admits r.output UB; ua = admits r.output UA; d = has_more_than_inserts kinds })
    (record { i = true; ub = false; ua = false; d = true })

-- ---- keys

-- a key of the input, of its columns, lies in the set
pub record HasInputKey (Has : List ℕ → Type 0) (width : ℕ) (set : List ℕ) : Type 0 where
  pub columns : List ℕ
  pub has : Has columns
  pub within : AllByRecursion (λ column. column < width) columns
  pub lies : LiesIn columns set

-- of answers: a key of the input, or what names each row where each rank has one of its own
abbrev pub IsUniqueKey : (List ℕ → Type 0) → Ranking → List ℕ → Type 0
IsUniqueKey Has r set = HasInputKey Has (length r.columns) set ⊎ ((by_rank r ≡ true) × LiesIn (names r) set)

-- of what a subtask sends, at every moment: with ranks a row that moves stands at two of them for a while, so that only the
-- partition and the rank are a key
abbrev pub IsLocalKeyBy : Bool → (List ℕ → Type 0) → Ranking → List ℕ → Type 0
IsLocalKeyBy true Has r set = LiesIn (names r) set
IsLocalKeyBy false Has r set = IsUniqueKey Has r set

abbrev pub IsLocalKey : (List ℕ → Type 0) → Ranking → List ℕ → Type 0
IsLocalKey Has r set = IsLocalKeyBy r.ranked Has r set

-- ---- what is needed

-- a Top-N takes a hash edge by the columns of its partition, and its rows are the input's, with their rank where that is shown
pub record TopNFits (many : ℕ) (r : Ranking) (from to : Edge) : Type 0 where
  pub sound : IsSound r
  -- what comes
  pub reads : from.meaning ≡ meaning_of r.input
  pub hashed : from.exchange ≡ hash r.partition
  pub routed : (key : Row) → from.route key < many
  pub kinds : (kind : Kind) → has from.kinds kind ≡ true → admits r.input kind ≡ true
  pub fits : (change : Change) → from.fits change ≡ true → FitsIn r.input r.columns change
  pub keyed : (change : Change) → from.fits change ≡ true → HasKey r.input change.row
  pub holds : (row : Row) → from.holds row ≡ true → Fits r.columns row
  -- what leaves
  pub writes : to.meaning ≡ meaning_of r.output
  pub out_kinds : (kind : Kind) → has (output_kinds r from.kinds) kind ≡ true → has to.kinds kind ≡ true
  pub out_fits : (kind : Kind) (row : Row) → Fits (rank_columns r.ranked r.columns) row → to.fits (record { kind = kind; row = row_told r.output (adds kind) row }) ≡ true
  pub out_holds : (row : Row) → Fits (rank_columns r.ranked r.columns) row → to.holds row ≡ true
  pub unique : (set : List ℕ) → Contains to.unique set → IsUniqueKey (λ columns. Contains from.unique columns ⊎ HoldsOver from columns) r set
  pub local : (set : List ℕ) → Contains to.local set → IsLocalKey (IsSeen from) r set
  pub fixing : (set : List ℕ) → Contains to.fixing set → LiesIn r.partition set

-- ---- what is known

-- a Top-N meets the facts of nodes, in however many subtasks it runs
abbrev pub TopNStands : Type 0
TopNStands = (many : ℕ) (r : Ranking) (from to : Edge) → TopNFits many r from to → Facts (topn_task many r from to)

-- and takes what its edge carries
abbrev pub TopNTakes : Type 0
TopNTakes = (many : ℕ) (r : Ranking) (from to : Edge) → TopNFits many r from to → TakesAll (topn_rule r) (topn_task many r from to)
