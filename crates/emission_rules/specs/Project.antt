-- Project: the rule, as a node between its edges, and what it needs of these.
use Rattle.std.specs.Prelude.{◌≡◌, ℕ, Bool, true, false, List, [], ◌∷◌, map, slice_index_or, Option, Some, None, unwrap_or, Ok, Err}
use Rattle.std.specs.List.{Contains}
use Rattle.ct_value.specs.declared.row.Row.{Row}
use Rattle.ct_value.specs.declared.value.Value.{Value}
use Rattle.ct_value.specs.declared.value.Value.TheVariants.{Null}
use Rattle.ct_change.specs.declared.kind.Kind.{Kind}
use Rattle.ct_change.specs.declared.change.Change.{Change}
use Rattle.ct_change.specs.Changelog.{adds, has, admits, HasKey}
use Rattle.ct_change.specs.KeyRows.{key_row}
use Rattle.ct_expr.specs.Expr.{Expr}
use Rattle.ct_expr.specs.Eval.{eval}
use Rattle.rel_algebra.specs.Clauses.{row_of}
use Rattle.rel_algebra.specs.Batch.{project_answer}
use Rattle.rel_algebra.specs.Items.{plain_column}
use Rattle.column_sets.specs.Places.{image}
use Rattle.op_rules.specs.Rules.{Answer, Rule}
use Rattle.op_rules.specs.Edges.{Meaning, bag, last_rows, meaning_of, forward, Edge, KeepsKeys}
use Rattle.op_rules.specs.Tasks.{Task, Facts}
use Rattle.op_rules.specs.Ports.{task_of, TakesAll}
use Rattle.emission_rules.specs.Changes.{row_rule, mode_after}

pub record Project : Type 0 where
  pub items : List Expr
  -- the key by which the edge that it takes is after-only
  pub after : Option (List ℕ)

-- ---- rows

-- the values of the items at a row
abbrev pub row_made : List Expr → Row → Option Row
row_made items row = row_of (map eval items) row

-- of each item the column that it hands on, if it is a plain column
abbrev pub handed : List Expr → List (Option ℕ)
handed items = map plain_column items

-- the value of a column, NULL where there is no column
abbrev pub value_handed : Row → Option ℕ → Value
value_handed row None = Null
value_handed row (Some column) = slice_index_or row column Null

-- the values of the items that are plain columns, NULL at every other item
abbrev pub plain_row : List Expr → Row → Row
plain_row items row = map (value_handed row) (handed items)

-- a set's columns, each at its first place among the items; no columns, where one of them isn't handed on
abbrev pub image_of : List Expr → List ℕ → List ℕ
image_of items columns = unwrap_or (image (handed items) columns) []

-- by which row it is told that a row of this key went: the key alone, at its image
abbrev pub row_gone : List Expr → List ℕ → Row → Row
row_gone items key row = key_row (image_of items key) (plain_row items row)

-- what becomes of a row that comes, or goes: from an after-only edge no item is evaluated at a row that goes
abbrev pub row_after : Option (List ℕ) → List Expr → Bool → Row → Option Row
row_after None items comes row = row_made items row
row_after (Some key) items true row = row_made items row
row_after (Some key) items false row = Some (row_gone items key row)

abbrev pub row_sent : Project → Bool → Row → Option Row
row_sent project comes row = row_after project.after project.items comes row

-- ---- the rule

-- a change of the same kind with another row
abbrev pub with_row : Change → Option Row → Answer
with_row change None = Err change.row
with_row change (Some row) = Ok (record { kind = change.kind; row = row } ∷ [])

-- the same kind with what becomes of its row; a change on an after-only edge is taken as it is
abbrev pub project_change : Project → Change → Answer
project_change project change = with_row change (row_sent project (adds change.kind) change.row)

abbrev pub project_rule : Project → Rule
project_rule project = row_rule 1 (mode_after project.after) (project_change project)

abbrev pub project_task : Project → ℕ → (ℕ → Edge) → Edge → Task
project_task project many from to = task_of (project_rule project) many from to (λ subtask rows. project_answer project.items (rows 0)) (λ rows. project_answer project.items (rows 0))

-- ---- keys

-- each of the columns is handed on, and these are their first places
abbrev pub IsImage : List Expr → List ℕ → List ℕ → Type 0
IsImage items columns places = image (handed items) columns ≡ Some places

-- what comes as last rows of a key leaves as last rows of the key's image
abbrev pub WritesImage : List Expr → Option (List ℕ) → Meaning → Type 0
WritesImage items None meaning = meaning ≡ bag
WritesImage items (Some key) meaning = (places : List ℕ) × IsImage items key places × (meaning ≡ last_rows places)

-- ---- between edges

-- a project takes a forward edge; where that is after-only, so is its own
pub record ProjectFits (project : Project) (from to : Edge) : Type 0 where
  pub forwards : from.exchange ≡ forward
  pub reads : from.meaning ≡ meaning_of (mode_after project.after)
  pub writes : WritesImage project.items project.after to.meaning
  pub admitted : (kind : Kind) → has from.kinds kind ≡ true → admits (mode_after project.after) kind ≡ true
  pub keyed : (change : Change) → from.fits change ≡ true → HasKey (mode_after project.after) change.row
  pub kinds : (kind : Kind) → has from.kinds kind ≡ true → has to.kinds kind ≡ true
  pub fits : (change sent : Change) → from.fits change ≡ true → project_change project change ≡ Ok (sent ∷ []) → to.fits sent ≡ true
  pub holds : (row made : Row) → from.holds row ≡ true → row_made project.items row ≡ Some made → to.holds made ≡ true
  -- each of its keys and fixing sets is the image of one of those of what comes
  pub unique : (key : List ℕ) → Contains to.unique key → (own : List ℕ) × Contains from.unique own × IsImage project.items own key
  pub local : (key : List ℕ) → Contains to.local key → (own : List ℕ) × Contains from.local own × IsImage project.items own key
  -- a fixing set lies in the key of an after-only edge, as a row that goes has the key's columns alone
  pub fixing : (set : List ℕ) → Contains to.fixing set → (own : List ℕ) × Contains from.fixing own × KeepsKeys (mode_after project.after) own × IsImage project.items own set

-- in however many subtasks it runs, it meets the facts of nodes, and its port takes what the edge carries
abbrev pub ProjectsStand : Type 0
ProjectsStand = (project : Project) (many : ℕ) (from : ℕ → Edge) (to : Edge) → ProjectFits project (from 0) to → Facts (project_task project many from to)

abbrev pub ProjectsTake : Type 0
ProjectsTake = (project : Project) (many : ℕ) (from : ℕ → Edge) (to : Edge) → ProjectFits project (from 0) to → TakesAll (project_rule project) (project_task project many from to)
