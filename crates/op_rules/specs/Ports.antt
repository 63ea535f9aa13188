-- A node that runs by a rule, between the edges that feed its ports and the edge that leaves it.
use Rattle.std.specs.Prelude.{◌≡◌, ℕ, ◌<◌, true, List, [], ◌∷◌, ◌++◌, Option}
use Rattle.ct_change.specs.declared.kind.Kind.{Kind}
use Rattle.ct_change.specs.declared.change.Change.{Change}
use Rattle.ct_change.specs.Changelog.{Mode, append, retract, upsert, Rows, HasKey, has, admits}
use Rattle.op_rules.specs.History.{Arrival}
use Rattle.op_rules.specs.Rules.{Rule, MayArrive}
use Rattle.op_rules.specs.Edges.{Meaning, bag, last_rows, partials, Edge}
use Rattle.op_rules.specs.Tasks.{Task, IsReady}

-- changes that are read as a meaning says are a changelog in the mode; partial results only come
abbrev pub IsReadIn : Meaning → Mode → Type 0
IsReadIn bag append = Unit {0}
IsReadIn bag retract = Unit {0}
IsReadIn bag (upsert key) = ⊥
IsReadIn (last_rows columns) append = ⊥
IsReadIn (last_rows columns) retract = ⊥
IsReadIn (last_rows columns) (upsert key) = columns ≡ key
IsReadIn (partials p) append = Unit {0}
IsReadIn (partials p) retract = ⊥
IsReadIn (partials p) (upsert key) = ⊥

-- a port of a rule takes what an edge carries
pub record Takes (rule : Rule) (port : ℕ) (edge : Edge) : Type 0 where
  pub reads : IsReadIn edge.meaning (rule.mode port)
  pub kinds : (kind : Kind) → has edge.kinds kind ≡ true → admits (rule.mode port) kind ≡ true
  pub fits : (change : Change) → edge.fits change ≡ true → rule.fits port change ≡ true
  pub keyed : (change : Change) → edge.fits change ≡ true → HasKey (rule.mode port) change.row

-- a rule in several subtasks, with its batch answer
abbrev pub task_of : Rule → ℕ → (ℕ → Edge) → Edge → (ℕ → (ℕ → Rows) → Option Rows) → ((ℕ → Rows) → Option Rows) → Task
task_of rule many from to part batch = record {
  subtasks = many;
  ports = rule.ports;
  input = from;
  output = to;
  opening = rule.opening;
  emits = rule.emits;
  part = part;
  batch = batch;
}

-- each port of a node takes what its edge carries
abbrev pub TakesAll : Rule → Task → Type 0
TakesAll rule task = (task.ports ≡ rule.ports) × ((p : ℕ) → p < task.ports → Takes rule p (task.input p))

-- a change that a subtask may rely on, behind what it took, may come to its rule
abbrev pub ReadyArrives : Type 0
ReadyArrives = (rule : Rule) (task : Task) → TakesAll rule task
    → (j : ℕ) (before : List Arrival) (a : Arrival) → IsReady task j (before ++ a ∷ []) → MayArrive rule before a
