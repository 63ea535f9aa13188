-- The composition theorem: what holds in every state of every run over a network whose nodes meet their facts.
use Rattle.std.specs.Prelude.{◌≡◌, ℕ, ◌+◌, ◌<◌, ◌≤◌, List, [], ◌∷◌, ◌++◌, length, take, true, Option, Some, None}
use Rattle.std.specs.List.{AllByRecursion}
use Rattle.ct_value.specs.Bag.{copies, none}
use Rattle.ct_change.specs.declared.change.Change.{Change}
use Rattle.ct_change.specs.declared.kind.Kind.{Kind}
use Rattle.ct_change.specs.Changelog.{Mode, Rows, AreOf, has, admits, fold}
use Rattle.ct_change.specs.KeyRows.{IsKeyed, IsChangelog}
use Rattle.op_rules.specs.History.{arrival}
use Rattle.op_rules.specs.Edges.{meaning_of, ReadsAs, IsUnique, HoldsOver}
use Rattle.op_rules.specs.Tasks.{total, IsFine, IsReady}
use Rattle.stream_model.specs.Tables.{Table}
use Rattle.stream_model.specs.Network.{Feed, Network, task, IsNode, IsWired, IsAnswered, MeetsFacts, IsAnswer}
use Rattle.stream_model.specs.Machine.{State, consumed, opened, IsQuiet}
use Rattle.stream_model.specs.Runs.{Item, after, changes_in, AreTyped}

abbrev pub rows_left : Option Table → List Change → Rows
rows_left None taken = none
rows_left (Some table) taken = fold table.mode taken

-- the rows of each table, by the changes taken
abbrev pub table_rows : Network → State → ℕ → Rows
table_rows g s table = rows_left (g.tables table) (s.taken table)

-- the change at the front of a channel may be consumed: with it the consumer may still rely on what it took, and it took
-- no more changes than were sent
pub record MayArrive (g : Network) (s : State) (e i j : ℕ) (feed : Feed) (change : Change) : Type 0 where
  pub ready : IsReady (task g feed.node) j (consumed s feed.node j ++ arrival feed.port i change ∷ [])
  pub few : length (consumed s feed.node j) + 1 ≤ s.sends

pub record Holds (g : Network) (s : State) : Type 0 where
  -- of each list sent: each prefix of it stands for some rows, local keys hold, rows that agree on a fixing set or on the
  -- key of last rows come from one subtask, and its kinds and columns are the edge's
  pub fine : (v : ℕ) → IsNode g v → IsFine g.subtasks (g.edge v) (s.sent v)
  -- keys over all subtasks hold at every choice of one prefix per subtask
  pub over : (v : ℕ) → IsNode g v → (key : List ℕ) → HoldsOver (g.edge v) key → (lengths : ℕ → ℕ) (rows : ℕ → Rows)
      → ((i : ℕ) → i < g.subtasks → ReadsAs (g.edge v).meaning (take (lengths i) (s.sent v i)) (rows i))
      → IsUnique key (λ row. total g.subtasks (λ i. copies (rows i) row))
  -- each subtask may rely on what it consumed
  pub ready : (v j : ℕ) → j < g.subtasks → IsReady (task g v) j (consumed s v j)
  pub fronts : (e i j : ℕ) (feed : Feed) (change : Change) (rest : List Change) → g.fed e ≡ Some feed → i < g.subtasks → j < g.subtasks
      → s.flight e i j ≡ change ∷ rest → MayArrive g s e i j feed change
  -- at a quiet moment what each node's subtasks sent stands for the node's batch answer
  pub answered : IsQuiet g s → (v : ℕ) → IsNode g v → (answer : Rows) × IsAnswer g (table_rows g s) v answer × IsAnswered g.subtasks (g.edge v) (s.sent v) answer
  -- each prefix of what was printed stands for some rows, and it has the sink's kinds and columns
  pub printed_stands : (n : ℕ) → (rows : Rows) × ReadsAs (g.edge g.count).meaning (take n (changes_in s.printed)) rows
  pub printed_kinds : AreOf (g.edge g.count).kinds (changes_in s.printed)
  pub printed_fits : AllByRecursion (λ change. (g.edge g.count).fits change ≡ true) (changes_in s.printed)
  -- at a quiet moment what was printed stands for the sink's batch answer
  pub printed_answers : IsQuiet g s → (answer : Rows) × IsAnswer g (table_rows g s) g.count answer × ReadsAs (g.edge g.count).meaning (changes_in s.printed) answer

-- for every network of the shape of a plan, however many subtasks it has, and every list of events, of which each that
-- can't be changes nothing
abbrev pub Composes : Type 0
Composes = (g : Network) → IsWired g → MeetsFacts g → (limit : ℕ) (items : List Item) → AreTyped g items → Holds g (after g limit (opened g) items)

-- each prefix of what was printed is a changelog of the mode, and at a quiet moment it folds to the sink's batch answer
pub record PrintsAnswer (g : Network) (mode : Mode) (s : State) : Type 0 where
  pub valid : (n : ℕ) → IsChangelog mode (take n (changes_in s.printed))
  pub folds : IsQuiet g s → IsAnswer g (table_rows g s) g.count (fold mode (changes_in s.printed))

-- where the sink's changes are read as its mode says, are of the mode's kinds, and tell no more than the mode does
abbrev pub PrintedFolds : Type 0
PrintedFolds = (g : Network) → IsWired g → MeetsFacts g → (mode : Mode) → (g.edge g.count).meaning ≡ meaning_of mode → ((kind : Kind) → has (g.edge g.count).kinds kind ≡ true → admits mode kind ≡ true)
    → ((change : Change) → admits mode change.kind ≡ true → (g.edge g.count).fits change ≡ true → IsKeyed mode change)
    → (limit : ℕ) (items : List Item) → AreTyped g items → PrintsAnswer g mode (after g limit (opened g) items)
