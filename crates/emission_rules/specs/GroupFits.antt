-- A group between its edges, as it runs in several subtasks, and what it needs of the edges.
use Rattle.std.specs.Prelude.{◌≡◌, ℕ, ◌<◌, ◌==◌, Bool, true, false, not, cond, ◌&&◌, ◌||◌, List, [], ◌∷◌, Option, Some}
use Rattle.std.specs.List.{Contains}
use Rattle.ct_value.specs.Bag.{none}
use Rattle.ct_value.specs.declared.row.Row.{Row}
use Rattle.ct_change.specs.declared.kind.Kind.{Kind}
use Rattle.ct_change.specs.declared.kind.Kind.TheVariants.{UB, UA}
use Rattle.ct_change.specs.declared.kind.KindSet.{KindSet}
use Rattle.ct_change.specs.declared.change.Change.{Change}
use Rattle.ct_change.specs.Changelog.{HasKey, Rows, adds, has, admits}
use Rattle.ct_change.specs.KeyRows.{row_told}
use Rattle.rel_algebra.specs.declared.agg.Agg.{Agg}
use Rattle.rel_algebra.specs.Clauses.{Fits}
use Rattle.rel_algebra.specs.Batch.{group_answer}
use Rattle.op_rules.specs.Edges.{meaning_of, hash, Edge, LiesIn}
use Rattle.op_rules.specs.Ports.{task_of, TakesAll}
use Rattle.op_rules.specs.Tasks.{Task, Facts}
use Rattle.column_sets.specs.Places.{first_columns}
use Rattle.emission_rules.specs.Arriving.{FitsIn}
use Rattle.emission_rules.specs.Grouping.{Grouping, group_rule, IsSound}
use Rattle.ct_change.specs.Kinds.{has_more_than_inserts}

-- ---- answers

-- the groups of these rows, with their results
abbrev pub batch : Grouping → (ℕ → Rows) → Option Rows
batch g rows = group_answer g.columns g.keys g.aggs (rows 0)

-- a subtask has the groups of its rows; the group of all rows is at subtask 0 alone
abbrev pub is_home : Grouping → ℕ → Bool
is_home g subtask = not (g.keys == 0) || (subtask == 0)

abbrev pub part : Grouping → ℕ → (ℕ → Rows) → Option Rows
part g subtask rows = cond (is_home g subtask) (batch g rows) (Some none)

abbrev pub group_task : ℕ → Grouping → Edge → Edge → Task
group_task many g from to = task_of (group_rule g) many (λ port. from) to (part g) (batch g)

-- ---- kinds

abbrev pub has_calls : List Agg → Bool
has_calls [] = false
has_calls (agg ∷ aggs) = true

-- a row is updated where there are calls, and goes where rows of the input go; the row of all rows never goes
abbrev pub output_kinds : Grouping → KindSet → KindSet
output_kinds g kinds = record { i = true; ub = has_calls g.aggs && admits g.output UB; ua = has_calls g.aggs && admits g.output UA; d = not (g.keys == 0) && has_more_than_inserts kinds }

-- ---- what is needed

-- a group by its first columns takes a hash edge by these columns, and its rows are those columns and the results
pub record GroupFits (many : ℕ) (g : Grouping) (from to : Edge) : Type 0 where
  pub sound : IsSound g
  -- what comes
  pub reads : from.meaning ≡ meaning_of g.input
  pub hashed : from.exchange ≡ hash (first_columns g.keys)
  pub routed : (key : Row) → from.route key < many
  pub home : g.keys ≡ 0 → from.route [] ≡ 0
  pub kinds : (kind : Kind) → has from.kinds kind ≡ true → admits g.input kind ≡ true
  pub fits : (change : Change) → from.fits change ≡ true → FitsIn g.input g.columns change
  pub keyed : (change : Change) → from.fits change ≡ true → HasKey g.input change.row
  pub holds : (row : Row) → from.holds row ≡ true → Fits g.columns row
  -- what leaves
  pub writes : to.meaning ≡ meaning_of g.output
  pub out_kinds : (kind : Kind) → has (output_kinds g from.kinds) kind ≡ true → has to.kinds kind ≡ true
  pub out_fits : (kind : Kind) (row : Row) → Fits sound.made row → to.fits (record { kind = kind; row = row_told g.output (adds kind) row }) ≡ true
  pub out_holds : (row : Row) → Fits sound.made row → to.holds row ≡ true
  -- in each of its keys and fixing sets the group's columns lie
  pub unique : (key : List ℕ) → Contains to.unique key → LiesIn (first_columns g.keys) key
  pub local : (key : List ℕ) → Contains to.local key → LiesIn (first_columns g.keys) key
  pub fixing : (set : List ℕ) → Contains to.fixing set → LiesIn (first_columns g.keys) set

-- ---- what is known

-- a group meets the facts of nodes, in however many subtasks it runs
abbrev pub GroupsStand : Type 0
GroupsStand = (many : ℕ) (g : Grouping) (from to : Edge) → GroupFits many g from to → Facts (group_task many g from to)

-- and takes what its edge carries
abbrev pub GroupsTake : Type 0
GroupsTake = (many : ℕ) (g : Grouping) (from to : Edge) → GroupFits many g from to → TakesAll (group_rule g) (group_task many g from to)
