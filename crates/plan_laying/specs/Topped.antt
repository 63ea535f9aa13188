-- A plan with a materializer before its sink, or with nothing there.
use Rattle.std.specs.Prelude.{ℕ, ◌+◌, List, [], ◌∷◌, ◌++◌, length}
use Rattle.ct_change.specs.Changelog.{retract, upsert, kinds_of}
use Rattle.ct_change.specs.declared.update.Update.TheVariants.{Absent, Both}
use Rattle.phys_plan.specs.declared.edge.Edge.{Edge}
use Rattle.phys_plan.specs.declared.edge.Exchange.{Exchange}
use Rattle.phys_plan.specs.declared.edge.Exchange.TheVariants.{Forward, Hash}
use Rattle.phys_plan.specs.declared.node.Node.{Node}
use Rattle.phys_plan.specs.declared.node.Op.TheVariants as op
use Rattle.phys_plan.specs.declared.plan.Plan.{Plan}
use Rattle.plan_rules.specs.Pieces.{Top, bare, shown, node_of, edge_of}

abbrev pub all_but_last : {A : Type 0} → List A → List A
all_but_last [] = []
all_but_last (x ∷ []) = []
all_but_last (x ∷ (y ∷ xs)) = x ∷ all_but_last (y ∷ xs)

abbrev pub sent_by : Exchange → Edge → Edge
sent_by exchange edge = edge_of exchange edge.kinds edge.update

-- edges of which the last goes by this exchange
abbrev pub send_last : Exchange → List Edge → List Edge
send_last exchange [] = []
send_last exchange (edge ∷ []) = sent_by exchange edge ∷ []
send_last exchange (edge ∷ (next ∷ edges)) = edge ∷ send_last exchange (next ∷ edges)

-- a tree's nodes, a materializer over the last of them, and the sink over that; and the edges that leave them
abbrev pub shown_nodes : List ℕ → List Node → List Node
shown_nodes key tree = tree ++ (node_of (op.Materialize key) (length tree ∷ []) ∷ (node_of op.Sink ((length tree + 1) ∷ []) ∷ []))

abbrev pub shown_edges : List ℕ → List Edge → List Edge
shown_edges key tree = tree ++ (edge_of Forward (kinds_of (upsert key)) Both ∷ (edge_of Forward (kinds_of retract) Absent ∷ []))

-- the nodes of a plan, of which the last is the sink, with that before it; and its edges: the tree's rows go to a materializer by its key
abbrev pub topped_nodes : Top → List Node → List Node
topped_nodes bare nodes = nodes
topped_nodes (shown key) nodes = shown_nodes key (all_but_last nodes)

abbrev pub topped_edges : Top → List Edge → List Edge
topped_edges bare edges = edges
topped_edges (shown key) edges = shown_edges key (send_last (Hash key) (all_but_last edges))

abbrev pub topped_plan : Top → Plan → Plan
topped_plan top laid = record {
  sources = laid.sources;
  sink = laid.sink;
  nodes = topped_nodes top laid.nodes;
  edges = topped_edges top laid.edges;
  parallelism = laid.parallelism;
  mini_batch = laid.mini_batch;
}
