-- What is laid of a plan, and what a tree adds to it.
use Rattle.std.specs.Prelude.{◌≡◌, ℕ, ◌+◌, false, true, List, [], ◌∷◌, ◌++◌, length, map, ⊤}
use Rattle.ct_change.specs.declared.kind.KindSet.{KindSet}
use Rattle.rel_algebra.specs.Rel.{Rel, Rels, Scan, One, Two, Many}
use Rattle.mode_infer.specs.declared.kinds.Flow.{Flow}
use Rattle.mode_infer.specs.Kinds.{asked, by_columns, flow_of, plain, sent_of}
use Rattle.phys_plan.specs.declared.edge.Exchange.{Exchange}
use Rattle.phys_plan.specs.declared.edge.Exchange.TheVariants.{Forward}
use Rattle.ct_change.specs.declared.update.Update.{Update}
use Rattle.ct_change.specs.declared.update.Update.TheVariants.{Both}
use Rattle.phys_plan.specs.declared.node.Op.{Op}
use Rattle.plan_rules.specs.Phases.{Bundles}
use Rattle.plan_rules.specs.TreeKinds.{tree_kinds, trees_kinds}
use Rattle.plan_rules.specs.Pieces.{Piece, node_of, edge_of, pieces_of, pieces_of_all, roots_of, nodes_in, edges_in}
use Rattle.plan_laying.specs.declared.laying_fault.LayingFault.{LayingFault}
use Rattle.plan_laying.specs.declared.laying_fault.LayingFault.TheVariants.{NoTable, Memory}
use Rattle.plan_laying.specs.declared.laying.Laid.{Laid}
use Rattle.plan_laying.specs.declared.laying.Laying.{Laying}
use Rattle.plan_laying.specs.Faults.{lacks_table, any_lacks}
use Rattle.plan_laying.specs.Topped.{send_last, shown_nodes, shown_edges}

-- how groups in bundles are laid
abbrev pub bundles_of : Laying → Bundles
bundles_of l = record { size = l.mini_batch; two_phase = l.two_phase }

-- ---- a node

-- one more node, of this number, with its edge
pub record Pushed (old new : Laying) (op : Op) (inputs : List ℕ) (exchange : Exchange) (kinds : KindSet) (update : Update) (number : ℕ) : Type 0 where
  pub number_is : number ≡ length old.nodes + 1
  pub sources : new.sources ≡ old.sources
  pub bundles : bundles_of new ≡ bundles_of old
  pub nodes : new.nodes ≡ old.nodes ++ node_of op inputs ∷ []
  pub edges : new.edges ≡ old.edges ++ edge_of exchange kinds update ∷ []

-- one more over inputs of these flows, whose edge carries what it sends, and both rows of an update
pub record Sends (old new : Laying) (op : Op) (inputs : List ℕ) (flows : List Flow) (exchange : Exchange) (laid : Laid) : Type 0 where
  pub kinds_are : laid.kinds ≡ (flow_of old.sources op flows).sent
  pub pushed : Pushed old new op inputs exchange laid.kinds Both laid.root

-- the last edge goes by this exchange
pub record Resent (exchange : Exchange) (old new : Laying) : Type 0 where
  pub sources : new.sources ≡ old.sources
  pub bundles : bundles_of new ≡ bundles_of old
  pub nodes : new.nodes ≡ old.nodes
  pub edges : new.edges ≡ send_last exchange old.edges

-- an operator over the last node, whose edge goes as the operator asks
pub record Above (old new : Laying) (below : Laid) (op : Op) (laid : Laid) : Type 0 where
  pub ahead : Laying
  pub resent : Resent (by_columns (asked op 0)) old ahead
  pub sends : Sends ahead new op (below.root ∷ []) (plain below.kinds ∷ []) Forward laid

-- a local group over the last node, whose edge goes as the group over it asks, and that group, which merges its partial rows
pub record Phased (old new : Laying) (below : Laid) (local op : Op) (laid : Laid) : Type 0 where
  pub middle : Laying
  pub part : Laid
  pub summed : Sends old middle local (below.root ∷ []) (plain below.kinds ∷ []) (by_columns (asked op 0)) part
  pub merged : Sends middle new op (part.root ∷ []) (record { sent = part.kinds; meant = below.kinds } ∷ []) Forward laid

-- ---- a tree

-- these pieces are laid behind what was laid
pub record Adds (old new : Laying) (pieces : List Piece) : Type 0 where
  pub sources : new.sources ≡ old.sources
  pub bundles : bundles_of new ≡ bundles_of old
  pub nodes : new.nodes ≡ old.nodes ++ nodes_in pieces
  pub edges : new.edges ≡ old.edges ++ edges_in pieces

-- a tree is laid behind what was laid, up to its root, for a consumer that asks for this exchange
pub record Lays (old new : Laying) (exchange : Exchange) (rel : Rel) (laid : Laid) : Type 0 where
  pub adds : Adds old new (pieces_of old.sources (bundles_of old) (length old.nodes) exchange rel)
  pub root_is : laid.root ≡ length new.nodes
  pub sends : laid.kinds ≡ tree_kinds old.sources rel
  pub tables : lacks_table old.sources rel ≡ false

-- the same of several trees
pub record LaysAll (old new : Laying) (inputs : Rels) (roots : List ℕ) (flows : List Flow) : Type 0 where
  pub adds : Adds old new (pieces_of_all old.sources (bundles_of old) (length old.nodes) inputs)
  pub roots_are : roots ≡ roots_of old.sources (bundles_of old) (length old.nodes) inputs
  pub send : map sent_of flows ≡ trees_kinds old.sources inputs
  pub tables : any_lacks old.sources inputs ≡ false

-- what is laid of a tree once its first input is, up to this node, which sends its rows forward: nothing where it has none
abbrev pub Begun : Laying → Laying → Laid → Rel → Type 0
Begun old mid below (Scan source) = old ≡ mid
Begun old mid below (One how input) = Lays old mid Forward input below
Begun old mid below (Two how left right) = Lays old mid Forward left below
Begun old mid below (Many inputs) = old ≡ mid

-- the rest of it is laid behind its first input, and its root sends its rows forward
pub record Tops (mid new : Laying) (below : Laid) (rel : Rel) (laid : Laid) : Type 0 where
  pub tops : (old : Laying) → Begun old mid below rel → Lays old new Forward rel laid

-- ---- what stands before the sink

-- a materializer is laid over the last of the nodes, and the sink over it
pub record Shows (key : List ℕ) (old new : Laying) : Type 0 where
  pub sources : new.sources ≡ old.sources
  pub nodes : new.nodes ≡ shown_nodes key old.nodes
  pub edges : new.edges ≡ shown_edges key old.edges

-- ---- faults

-- why a tree isn't laid behind what was laid
abbrev pub Fails : Laying → Rel → LayingFault → Type 0
Fails l rel NoTable = lacks_table l.sources rel ≡ true
Fails l rel Memory = ⊤

-- the same of several trees
abbrev pub FailsAll : Laying → Rels → LayingFault → Type 0
FailsAll l inputs NoTable = any_lacks l.sources inputs ≡ true
FailsAll l inputs Memory = ⊤
