-- Union: the rule, as a node between its edges, and what it needs of these.
use Rattle.std.specs.Prelude.{◌≡◌, ℕ, zero, suc, ◌<◌, true, List, [], ◌∷◌, Option, Some, Ok}
use Rattle.std.specs.List.{Contains}
use Rattle.ct_value.specs.declared.row.Row.{Row}
use Rattle.ct_change.specs.declared.kind.Kind.{Kind}
use Rattle.ct_change.specs.declared.change.Change.{Change}
use Rattle.ct_change.specs.Changelog.{Rows, retract, has}
use Rattle.rel_algebra.specs.Clauses.{union_rows}
use Rattle.op_rules.specs.Rules.{Answer, Rule}
use Rattle.op_rules.specs.Edges.{bag, forward, Edge}
use Rattle.op_rules.specs.Tasks.{Task, Facts}
use Rattle.op_rules.specs.Ports.{task_of, TakesAll}
use Rattle.emission_rules.specs.Changes.{row_rule}

pub record Union : Type 0 where
  -- how many
  pub inputs : ℕ

-- the same change
abbrev pub union_change : Change → Answer
union_change change = Ok (change ∷ [])

abbrev pub union_rule : Union → Rule
union_rule union = row_rule union.inputs retract union_change

-- the rows of the first ports, port by port
abbrev pub rows_of_ports : ℕ → (ℕ → Rows) → List Rows
rows_of_ports zero rows = []
rows_of_ports (suc ports) rows = rows 0 ∷ rows_of_ports ports (λ port. rows (suc port))

-- the rows of all inputs
abbrev pub union_answer : Union → (ℕ → Rows) → Option Rows
union_answer union rows = Some (union_rows (rows_of_ports union.inputs rows))

abbrev pub union_task : Union → ℕ → (ℕ → Edge) → Edge → Task
union_task union many from to = task_of (union_rule union) many from to (λ subtask rows. union_answer union rows) (λ rows. union_answer union rows)

-- an input of a union is a forward edge of bags
pub record InputFits (from to : Edge) : Type 0 where
  pub forwards : from.exchange ≡ forward
  pub reads : from.meaning ≡ bag
  pub kinds : (kind : Kind) → has from.kinds kind ≡ true → has to.kinds kind ≡ true
  pub fits : (change : Change) → from.fits change ≡ true → to.fits change ≡ true
  pub holds : (row : Row) → from.holds row ≡ true → to.holds row ≡ true

-- a union has no keys and no fixing sets
pub record UnionFits (union : Union) (from : ℕ → Edge) (to : Edge) : Type 0 where
  pub inputs : (port : ℕ) → port < union.inputs → InputFits (from port) to
  pub writes : to.meaning ≡ bag
  pub unique : (key : List ℕ) → Contains to.unique key → ⊥
  pub local : (key : List ℕ) → Contains to.local key → ⊥
  pub fixing : (set : List ℕ) → Contains to.fixing set → ⊥

-- in however many subtasks it runs, it meets the facts of nodes, and its ports take what the edges carry
abbrev pub UnionsStand : Type 0
UnionsStand = (union : Union) (many : ℕ) (from : ℕ → Edge) (to : Edge) → UnionFits union from to → Facts (union_task union many from to)

abbrev pub UnionsTake : Type 0
UnionsTake = (union : Union) (many : ℕ) (from : ℕ → Edge) (to : Edge) → UnionFits union from to → TakesAll (union_rule union) (union_task union many from to)
