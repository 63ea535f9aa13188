-- Filter: the rule, as a node between its edges, and what it needs of these.
use Rattle.std.specs.Prelude.{◌≡◌, ℕ, true, false, List, [], ◌∷◌, Bool, Option, Some, None, Ok, Err}
use Rattle.std.specs.List.{Contains}
use Rattle.ct_value.specs.declared.row.Row.{Row}
use Rattle.ct_change.specs.declared.kind.Kind.{Kind}
use Rattle.ct_change.specs.declared.change.Change.{Change}
use Rattle.ct_change.specs.Changelog.{retract, has}
use Rattle.ct_expr.specs.Expr.{Expr}
use Rattle.ct_expr.specs.Eval.{eval}
use Rattle.rel_algebra.specs.Clauses.{holds}
use Rattle.rel_algebra.specs.Batch.{filter_answer}
use Rattle.op_rules.specs.Rules.{Answer, Rule}
use Rattle.op_rules.specs.Edges.{bag, forward, Edge}
use Rattle.op_rules.specs.Tasks.{Task, Facts}
use Rattle.op_rules.specs.Ports.{task_of, TakesAll}
use Rattle.emission_rules.specs.Changes.{row_rule}

pub record Filter : Type 0 where
  pub condition : Expr

-- a change on whose row a condition is TRUE stays, and another goes
abbrev pub kept_where : Change → Option Bool → Answer
kept_where change None = Err change.row
kept_where change (Some true) = Ok (change ∷ [])
kept_where change (Some false) = Ok []

-- the same change where the condition is TRUE, nothing where it is FALSE or NULL
abbrev pub filter_change : Filter → Change → Answer
filter_change filter change = kept_where change (holds (eval filter.condition) change.row)

abbrev pub filter_rule : Filter → Rule
filter_rule filter = row_rule 1 retract (filter_change filter)

abbrev pub filter_task : Filter → ℕ → (ℕ → Edge) → Edge → Task
filter_task filter many from to = task_of (filter_rule filter) many from to (λ subtask rows. filter_answer filter.condition (rows 0)) (λ rows. filter_answer filter.condition (rows 0))

-- a filter takes a forward edge of bags, and hands its changes on
pub record FilterFits (from to : Edge) : Type 0 where
  pub forwards : from.exchange ≡ forward
  pub reads : from.meaning ≡ bag
  pub writes : to.meaning ≡ bag
  pub kinds : (kind : Kind) → has from.kinds kind ≡ true → has to.kinds kind ≡ true
  pub fits : (change : Change) → from.fits change ≡ true → to.fits change ≡ true
  pub holds : (row : Row) → from.holds row ≡ true → to.holds row ≡ true
  -- its keys and fixing sets are some of those of what comes
  pub unique : (key : List ℕ) → Contains to.unique key → Contains from.unique key
  pub local : (key : List ℕ) → Contains to.local key → Contains from.local key
  pub fixing : (set : List ℕ) → Contains to.fixing set → Contains from.fixing set

-- in however many subtasks it runs, it meets the facts of nodes, and its port takes what the edge carries
abbrev pub FiltersStand : Type 0
FiltersStand = (filter : Filter) (many : ℕ) (from : ℕ → Edge) (to : Edge) → FilterFits (from 0) to → Facts (filter_task filter many from to)

abbrev pub FiltersTake : Type 0
FiltersTake = (filter : Filter) (many : ℕ) (from : ℕ → Edge) (to : Edge) → FilterFits (from 0) to → TakesAll (filter_rule filter) (filter_task filter many from to)
