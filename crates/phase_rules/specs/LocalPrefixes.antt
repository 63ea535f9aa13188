-- For which part of its input each prefix of what a local group sent stands.
use Rattle.std.specs.Prelude.{◌≡◌, ℕ, List, [], ◌++◌, take, Ok}
use Rattle.ct_value.specs.Rows.{project}
use Rattle.ct_value.specs.declared.row.Row.{Row}
use Rattle.ct_change.specs.declared.change.Change.{Change}
use Rattle.ct_change.specs.Changelog.{retract, Rows, Means}
use Rattle.op_rules.specs.Edges.{Edge}
use Rattle.op_rules.specs.History.{Arrival, at_port, joined}
use Rattle.op_rules.specs.Partials.{sum_of, worth_of}
use Rattle.op_rules.specs.Rules.{along}
use Rattle.op_rules.specs.Tasks.{Emitted}
use Rattle.column_sets.specs.Places.{first_columns}
use Rattle.phase_rules.specs.LocalGrouping.{LocalGrouping, local_emits, members_of, partials_of}
use Rattle.phase_rules.specs.LocalFits.{LocalFits, local_task}

-- the partial rows of a group's key among changes that were sent are those that were sent for some first pieces of what was folded, and
-- they are worth what the rows are that these pieces leave
pub record StandsForPieces (l : LocalGrouping) (pieces : List (List Arrival)) (sent : List Change) (group : Row) : Type 0 where
  pub folded : List (List Arrival)
  pub others : List (List Arrival)
  pub is_front : pieces ≡ folded ++ others
  pub told : List Change
  pub told_is : along (λ before piece. local_emits l (at_port 0 piece)) [] folded ≡ Ok told
  pub same : members_of l.keys (project (first_columns l.keys) group) sent ≡ members_of l.keys (project (first_columns l.keys) group) told
  pub rows : Rows
  pub leave : Means retract (at_port 0 (joined folded)) rows
  pub worth : sum_of (partials_of l) group sent ≡ worth_of (partials_of l) group rows

-- so it is with each prefix of what a subtask sent, in each group
abbrev pub LocalPrefixesStand : Type 0
LocalPrefixesStand = (many : ℕ) (l : LocalGrouping) (from to : Edge) → LocalFits many l from to
    → (j : ℕ) (pieces : List (List Arrival)) (sent : List Change) → Emitted (local_task many l from to) j pieces sent → (n : ℕ) (group : Row) → StandsForPieces l pieces (take n sent) group
