-- A plan as the machine reads it: nodes, edges and tables by number. Nodes are numbered from 1, each after its inputs, and
-- the last is the sink; edge e leaves node e; a channel (e, i, j) goes from subtask i of node e to subtask j of the node
-- that the edge feeds.
use Rattle.std.specs.Prelude.{◌≡◌, ℕ, ◌<◌, ◌≤◌, ◌⊎◌, ◌==◌, true, List, [], Option, Some}
use Rattle.std.specs.List.{AllByRecursion, filter}
use Rattle.ct_value.specs.declared.ty.ColTy.{ColTy}
use Rattle.ct_value.specs.Bag.{copies}
use Rattle.ct_value.specs.declared.row.Row.{Row}
use Rattle.ct_change.specs.declared.change.Change.{Change}
use Rattle.ct_change.specs.Changelog.{Rows, fold}
use Rattle.op_rules.specs.History.{Arrival}
use Rattle.op_rules.specs.Rules.{Answer}
use Rattle.op_rules.specs.Edges.{Edge, IsPartial, ReadsAs, IsWellFormed}
use Rattle.op_rules.specs.Tasks.{Task, total, IsFine, IsSettled, Facts}
use Rattle.stream_model.specs.Tables.{Table, scanned_at, AllTaken}

-- a port of a node
pub record Feed : Type 0 where
  pub node : ℕ
  pub port : ℕ

pub record Network : Type 0 where
  -- into how many subtasks each node is split
  pub subtasks : ℕ
  -- how many nodes there are; the last is the sink
  pub count : ℕ
  -- the tables, which are numbered from 0, and how many there are
  pub tables : ℕ → Option Table
  pub table_count : ℕ
  -- the table that a node scans; none where it isn't a scan
  pub scans : ℕ → Option ℕ
  -- how many ports a node has, and the node that feeds a port
  pub ports : ℕ → ℕ
  pub source : ℕ → ℕ → ℕ
  -- the port that an edge feeds
  pub fed : ℕ → Option Feed
  pub edge : ℕ → Edge
  -- how many changes a bundle of the node holds; none where it keeps no bundles
  pub bundle : ℕ → Option ℕ
  -- what a subtask emits when the job opens, and for a piece after the changes that it folded before
  pub opening : ℕ → ℕ → List Change
  pub emits : ℕ → List Arrival → List Arrival → Answer
  -- the types of the row at which a node is out of range
  pub range_types : ℕ → List ColTy
  -- the batch answer of a subtask, and of the node
  pub part : ℕ → ℕ → (ℕ → Rows) → Option Rows
  pub batch : ℕ → (ℕ → Rows) → Option Rows

-- a node with its edges
abbrev pub task : Network → ℕ → Task
task g v = record {
  subtasks = g.subtasks;
  ports = g.ports v;
  input = λ p. g.edge (g.source v p);
  output = g.edge v;
  opening = g.opening v;
  emits = g.emits v;
  part = g.part v;
  batch = g.batch v;
}

-- a number of a node: one that scans, or that has ports
abbrev pub IsNode : Network → ℕ → Type 0
IsNode g v = ((table : ℕ) × (g.scans v ≡ Some table)) ⊎ (0 < g.ports v)

-- the shape of a plan: each port is fed by one node, which stands before it, and each node but the sink feeds one port;
-- scans have no ports, scan a table and open with nothing, and so does the sink, whose changes aren't partial results
pub record IsWired (g : Network) : Type 0 where
  pub parallel : 0 < g.subtasks
  pub below : (v p : ℕ) → p < g.ports v → g.source v p < v
  pub numbered : (v p : ℕ) → p < g.ports v → 0 < g.source v p
  pub sourced : (v p : ℕ) → p < g.ports v → IsNode g (g.source v p)
  pub feeds : (v p : ℕ) → p < g.ports v → g.fed (g.source v p) ≡ Some (record { node = v; port = p })
  pub feeds_port : (e : ℕ) (feed : Feed) → g.fed e ≡ Some feed → (feed.port < g.ports feed.node) × (g.source feed.node feed.port ≡ e)
  pub counted : (v : ℕ) → 0 < g.ports v → v ≤ g.count
  pub sink : 0 < g.ports g.count
  pub sink_whole : IsPartial (g.edge g.count).meaning → ⊥
  pub scan_ports : (v table : ℕ) → g.scans v ≡ Some table → g.ports v ≡ 0
  pub scan_counted : (v table : ℕ) → g.scans v ≡ Some table → v < g.count
  pub scan_table : (v table : ℕ) → g.scans v ≡ Some table → (t : Table) × (g.tables table ≡ Some t)
  pub scan_opens : (v table : ℕ) → g.scans v ≡ Some table → (j : ℕ) → g.opening v j ≡ []
  pub opens : (v j : ℕ) → g.count ≤ v → g.opening v j ≡ []
  pub formed : (v : ℕ) → IsWellFormed g.subtasks (g.edge v)
  -- each change of a table has a subtask
  pub routed : (table : ℕ) (t : Table) → g.tables table ≡ Some t → (key : Row) → t.route key < g.subtasks

-- what a node's subtasks sent stands for rows that are together these, and these are settled
pub record IsAnswered (many : ℕ) (edge : Edge) (sent : ℕ → List Change) (whole : Rows) : Type 0 where
  pub rows : ℕ → Rows
  pub stands : (i : ℕ) → i < many → ReadsAs edge.meaning (sent i) (rows i)
  pub together : (row : Row) → total many (λ i. copies (rows i) row) ≡ copies whole row
  pub settled : IsSettled edge whole

-- what a scan's subtasks send of the changes that a table took
abbrev pub scanned_by : Table → List Change → ℕ → List Change
scanned_by table taken i = filter (λ change. scanned_at table change == i) taken

-- what is known of a scan: for all changes that the table takes and that have values of its columns
pub record ScanFacts (many : ℕ) (table : Table) (edge : Edge) : Type 0 where
  pub fine : (taken : List Change) → AllTaken table [] taken → AllByRecursion (λ change. table.fits change ≡ true) taken → IsFine many edge (scanned_by table taken)
  pub answers : (taken : List Change) → AllTaken table [] taken → AllByRecursion (λ change. table.fits change ≡ true) taken → IsAnswered many edge (scanned_by table taken) (fold table.mode taken)

-- each node meets its facts
pub record MeetsFacts (g : Network) : Type 0 where
  pub facts : (v : ℕ) → 0 < g.ports v → Facts (task g v)
  pub scans : (v table : ℕ) (t : Table) → g.scans v ≡ Some table → g.tables table ≡ Some t → ScanFacts g.subtasks t (g.edge v)

-- the answer of a node, from the rows of the tables, by the batch answers of the nodes
pub data IsAnswer (g : Network) (tables : ℕ → Rows) : ℕ → Rows → Type 0 where
  of_scan : {v table : ℕ} → g.scans v ≡ Some table → IsAnswer g tables v (tables table)
  of_node : {v : ℕ} {answer : Rows} (whole : ℕ → Rows) → 0 < g.ports v → ((p : ℕ) → p < g.ports v → IsAnswer g tables (g.source v p) (whole p)) → g.batch v whole ≡ Some answer → IsAnswer g tables v answer
