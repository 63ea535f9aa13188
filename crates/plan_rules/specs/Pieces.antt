-- The plan of a tree of the algebra as a function of it: its nodes one behind the other, each behind its inputs, and behind them the sink,
-- which a materializer may stand before.
use Rattle.std.specs.Prelude.{ℕ, ◌+◌, List, [], ◌∷◌, ◌++◌, length, map, slice_get, Option, Some, None, unwrap_or}
use Rattle.ct_change.specs.Changelog.{append, retract, upsert, kinds_of}
use Rattle.ct_change.specs.declared.kind.Declared.{Declared}
use Rattle.ct_change.specs.declared.kind.Declared.TheVariants.{Append, Retract, Upsert}
use Rattle.ct_change.specs.declared.kind.KindSet.{KindSet}
use Rattle.ct_catalog.specs.declared.table.TableDef.{TableDef}
use Rattle.mode_infer.specs.Kinds.{inserts, no_kinds}
use Rattle.rel_algebra.specs.Rel.{Unary, Rel, Rels, Scan, One, Two, Many, no_rels, rel_and}
use Rattle.phys_plan.specs.declared.edge.Edge.{Edge}
use Rattle.phys_plan.specs.declared.edge.Exchange.{Exchange}
use Rattle.phys_plan.specs.declared.edge.Exchange.TheVariants.{Forward, Hash}
use Rattle.ct_change.specs.declared.update.Update.{Update}
use Rattle.ct_change.specs.declared.update.Update.TheVariants.{Absent, After, Both}
use Rattle.phys_plan.specs.declared.node.Op.{Op}
use Rattle.phys_plan.specs.declared.node.Op.TheVariants as op
use Rattle.phys_plan.specs.declared.node.Node.{Node}
use Rattle.phys_plan.specs.declared.plan.Plan.{Plan}
use Rattle.phys_plan.specs.Reading.{no_keys}
use Rattle.plan_rules.specs.Phases.{Bundles, local_below}
use Rattle.plan_rules.specs.Roles.{unary_way, binary_way}
use Rattle.plan_rules.specs.TreeKinds.{tree_kinds}

-- ---- pieces

-- a node, and the edge that leaves it
pub record Piece : Type 0 where
  pub node : Node
  pub edge : Edge

abbrev pub node_of : Op → List ℕ → Node
node_of operator inputs = record { op = operator; inputs = inputs; keys = no_keys }

abbrev pub edge_of : Exchange → KindSet → Update → Edge
edge_of exchange kinds update = record { exchange = exchange; kinds = kinds; update = update }

abbrev pub piece : Op → List ℕ → Exchange → KindSet → Update → Piece
piece operator inputs exchange kinds update = record { node = node_of operator inputs; edge = edge_of exchange kinds update }

-- one whose edge tells both rows of an update
abbrev pub full_piece : Op → List ℕ → Exchange → KindSet → Piece
full_piece operator inputs exchange kinds = piece operator inputs exchange kinds Both

-- ---- a tree behind n nodes, whose consumer asks for an exchange

-- a table is scanned; an upsert table is also normalized by its key
abbrev pub scan_pieces : ℕ → Exchange → ℕ → Declared → List ℕ → List Piece
scan_pieces n exchange source Append key = full_piece (op.Scan source) [] exchange (kinds_of append) ∷ []
scan_pieces n exchange source Retract key = full_piece (op.Scan source) [] exchange (kinds_of retract) ∷ []
scan_pieces n exchange source Upsert key =
    piece (op.Scan source) [] (Hash key) (kinds_of (upsert key)) (After key) ∷ full_piece (op.Normalize key) ((n + 1) ∷ []) exchange (kinds_of retract) ∷ []

-- one that isn't there is scanned like another: whether it is there is asked elsewhere
abbrev pub source_pieces : ℕ → Exchange → ℕ → Option TableDef → List Piece
source_pieces n exchange source None = full_piece (op.Scan source) [] exchange no_kinds ∷ []
source_pieces n exchange source (Some table) = scan_pieces n exchange source table.mode (unwrap_or table.key [])

-- pieces behind n nodes, and over the last of them a node more that sends these kinds
abbrev pub topped : ℕ → List Piece → Op → Exchange → KindSet → List Piece
topped n pieces operator exchange kinds = pieces ++ full_piece operator ((n + length pieces) ∷ []) exchange kinds ∷ []

-- the same over the last of pieces behind n nodes and the last of those behind these
abbrev pub topped_both : ℕ → List Piece → List Piece → Op → Exchange → KindSet → List Piece
topped_both n left right operator exchange kinds =
    (left ++ right) ++ full_piece operator ((n + length left) ∷ ((n + length left + length right) ∷ [])) exchange kinds ∷ []

-- a node that sends these kinds over the last of the pieces of its input, which ask for an exchange, or over a local group that stands on them
abbrev pub one_pieces : ℕ → Bundles → Unary → Option Op → (Exchange → List Piece) → Exchange → KindSet → List Piece
one_pieces n b how None below exchange kinds = topped n (below (unary_way how).asks) ((unary_way how).op b.size) exchange kinds
one_pieces n b how (Some local) below exchange kinds =
    topped n (topped n (below Forward) local (unary_way how).asks inserts) ((unary_way how).op b.size) exchange kinds

-- edges say the kinds that nodes send as long as no edge leaves out old rows
module _ (sources : List TableDef) (b : Bundles) where
  abbrev mutual
    pub pieces_of : ℕ → Exchange → Rel → List Piece
    pieces_of n exchange (Scan source) = source_pieces n exchange source (slice_get sources source)
    pieces_of n exchange (One how input) =
        one_pieces n b how (local_below b how (tree_kinds sources input)) (λ asks. pieces_of n asks input) exchange (tree_kinds sources (One how input))
    pieces_of n exchange (Two how left right) =
        topped_both n (pieces_of n (binary_way how).left left) (pieces_of (n + length (pieces_of n (binary_way how).left left)) (binary_way how).right right)
        (binary_way how).op exchange (tree_kinds sources (Two how left right))
    pieces_of n exchange (Many inputs) = pieces_of_all n inputs ++ full_piece op.Union (roots_of n inputs) exchange (tree_kinds sources (Many inputs)) ∷ []

    -- several trees behind one another
    pub pieces_of_all : ℕ → Rels → List Piece
    pieces_of_all n no_rels = []
    pieces_of_all n (rel_and input inputs) = pieces_of n Forward input ++ pieces_of_all (n + length (pieces_of n Forward input)) inputs

    -- the last node of each
    pub roots_of : ℕ → Rels → List ℕ
    roots_of n no_rels = []
    roots_of n (rel_and input inputs) = (n + length (pieces_of n Forward input)) ∷ roots_of (n + length (pieces_of n Forward input)) inputs

-- ---- the plan

abbrev pub nodes_in : List Piece → List Node
nodes_in pieces = map (λ piece. piece.node) pieces

abbrev pub edges_in : List Piece → List Edge
edges_in pieces = map (λ piece. piece.edge) pieces

-- what stands between a tree and the sink: nothing, or a materializer by a key
pub data Top : Type 0 where
  bare : Top
  shown : List ℕ → Top

-- what it asks of the tree's root
abbrev pub asks_of : Top → Exchange
asks_of bare = Forward
asks_of (shown key) = Hash key

abbrev pub with_top : Top → List Piece → List Piece
with_top bare pieces = pieces
with_top (shown key) pieces = topped 0 pieces (op.Materialize key) Forward (kinds_of (upsert key))

-- the sink behind a tree
abbrev pub with_sink : List Piece → List Piece
with_sink pieces = pieces ++ piece op.Sink (length pieces ∷ []) Forward (kinds_of retract) Absent ∷ []

abbrev pub plan_of_pieces : List TableDef → TableDef → ℕ → ℕ → List Piece → Plan
plan_of_pieces sources sink parallelism mini_batch pieces = record {
  sources = sources;
  sink = sink;
  nodes = nodes_in pieces;
  edges = edges_in pieces;
  parallelism = parallelism;
  mini_batch = mini_batch;
}

abbrev pub plan_of_tree : (sources : List TableDef) (sink : TableDef) (parallelism : ℕ) → Bundles → Top → Rel → Plan
plan_of_tree sources sink parallelism b top rel = plan_of_pieces sources sink parallelism b.size (with_sink (with_top top (pieces_of sources b 0 (asks_of top) rel)))
