-- A plan with a materializer before its sink is the plan of its tree with that.
use Rattle.std.specs.Prelude.{◌≡◌, ℕ, ◌+◌, ◌<◌, Bool, List, ◌++◌, length, slice_get}
use Rattle.std.proofs.Common.{zero, suc, false, [], ◌∷◌, sym, ap, ◌∙◌, arith, Some, length-append}
use Rattle.std.proofs.lemmas.List.{append_assoc, length-map}
use Rattle.ct_change.specs.Changelog.{retract, upsert, kinds_of}
use Rattle.ct_change.specs.declared.update.Update.TheVariants.{Absent, Both}
use Rattle.ct_catalog.specs.declared.table.TableDef.{TableDef}
use Rattle.rel_algebra.specs.Rel.{Rel}
use Rattle.phys_plan.specs.declared.edge.Edge.{Edge}
use Rattle.phys_plan.specs.declared.edge.Exchange.TheVariants.{Forward, Hash}
use Rattle.phys_plan.specs.declared.node.Node.{Node}
use Rattle.phys_plan.specs.declared.node.Op.TheVariants as op
use Rattle.phys_plan.specs.declared.plan.Plan.{Plan}
use Rattle.phys_plan.specs.Reading.{numbered}
use Rattle.plan_rules.specs.Pieces.{Piece, node_of, edge_of, piece, full_piece, pieces_of, nodes_in, edges_in, bare, shown, with_top, with_sink}
use Rattle.sound_plans.proofs.laws.Agreed.{materializes}
use Rattle.plan_rules.specs.Phases.{Bundles}
use Rattle.laid_plans.specs.Shapes.{bundles_in, IsLaidWith}
use Rattle.plan_laying.proofs.laws.LastPieces.{tree_ends, nodes_end, edges_end, same_nodes, other_edges}
use Rattle.plan_laying.proofs.laws.LastEdges.{all_of, hashed_many, hashed_ahead}
use Rattle.planner.proofs.laws.Ahead.{in_front, behind}
use Rattle.plan_laying.specs.Topped.{all_but_last, send_last, shown_nodes, shown_edges, topped_plan}

module _ (sources : List TableDef) (b : Bundles) (rel : Rel) (key : List ℕ) where
  abbrev plain : List Piece
  plain = pieces_of sources b 0 Forward rel

  abbrev by_key : List Piece
  by_key = pieces_of sources b 0 (Hash key) rel

  same : nodes_in plain ≡ nodes_in by_key
  same = same_nodes sources b 0 rel Forward (Hash key)

  hashed_edges : send_last (Hash key) (edges_in plain) ≡ edges_in by_key
  hashed_edges = other_edges sources b 0 rel Forward (Hash key) []

  same_count : length plain ≡ length by_key
  same_count = sym (length-map plain (λ (p : Piece). p.node)) ∙ ap length same ∙ length-map by_key (λ (p : Piece). p.node)

  -- ---- a plan

  abbrev topped : List Piece
  topped = with_top (shown key) by_key

  topped_nodes : nodes_in (with_sink topped) ≡ nodes_in by_key ++ (node_of (op.Materialize key) ((0 + length by_key) ∷ []) ∷ (node_of op.Sink (length topped ∷ []) ∷ []))
  topped_nodes =
      nodes_end topped (piece op.Sink (length topped ∷ []) Forward (kinds_of retract) Absent)
      ∙ ap (λ (ns : List Node). ns ++ node_of op.Sink (length topped ∷ []) ∷ []) (nodes_end by_key (full_piece (op.Materialize key) ((0 + length by_key) ∷ []) Forward (kinds_of (upsert key))))
      ∙ append_assoc (nodes_in by_key) (node_of (op.Materialize key) ((0 + length by_key) ∷ []) ∷ []) (node_of op.Sink (length topped ∷ []) ∷ [])

  topped_edges : edges_in (with_sink topped) ≡ edges_in by_key ++ (edge_of Forward (kinds_of (upsert key)) Both ∷ (edge_of Forward (kinds_of retract) Absent ∷ []))
  topped_edges =
      edges_end topped (piece op.Sink (length topped ∷ []) Forward (kinds_of retract) Absent)
      ∙ ap (λ (es : List Edge). es ++ edge_of Forward (kinds_of retract) Absent ∷ []) (edges_end by_key (full_piece (op.Materialize key) ((0 + length by_key) ∷ []) Forward (kinds_of (upsert key))))
      ∙ append_assoc (edges_in by_key) (edge_of Forward (kinds_of (upsert key)) Both ∷ []) (edge_of Forward (kinds_of retract) Absent ∷ [])

pub laid_with : (key : List ℕ) (laid : Plan) (rel : Rel) (two_phase : Bool) → IsLaidWith two_phase bare laid rel → IsLaidWith two_phase (shown key) (topped_plan (shown key) laid) rel
laid_with key laid rel two_phase is =
    let ps = plain laid.sources (bundles_in laid two_phase) rel key in
    let qs = by_key laid.sources (bundles_in laid two_phase) rel key in
    let tree : List Node = all_but_last laid.nodes in
    let nodes : tree ≡ nodes_in ps =
    ap (λ (p : Plan). all_but_last p.nodes) is
    ∙ ap all_but_last (nodes_end ps (piece op.Sink (length ps ∷ []) Forward (kinds_of retract) Absent)) ∙ all_of (nodes_in ps) (node_of op.Sink (length ps ∷ [])) in
    let edges : all_but_last laid.edges ≡ edges_in ps =
    ap (λ (p : Plan). all_but_last p.edges) is
    ∙ ap all_but_last (edges_end ps (piece op.Sink (length ps ∷ []) Forward (kinds_of retract) Absent)) ∙ all_of (edges_in ps) (edge_of Forward (kinds_of retract) Absent) in
    let count : length tree ≡ length qs =
    ap length nodes ∙ length-map ps (λ (p : Piece). p.node) ∙ same_count laid.sources (bundles_in laid two_phase) rel key in
    let longer : length (topped laid.sources (bundles_in laid two_phase) rel key) ≡ length qs + 1 = length-append qs (full_piece (op.Materialize key) ((0 + length qs) ∷ []) Forward (kinds_of (upsert key)) ∷ []) in
    let root : length tree ≡ 0 + length qs = omega (arith, count) in
    let last : length tree + 1 ≡ length (topped laid.sources (bundles_in laid two_phase) rel key) = omega (arith, count, longer) in
    let tree_is : tree ≡ nodes_in qs = nodes ∙ same laid.sources (bundles_in laid two_phase) rel key in
    let all_nodes : shown_nodes key tree ≡ nodes_in (with_sink (topped laid.sources (bundles_in laid two_phase) rel key)) =
    (λ i. tree_is i ++ (node_of (op.Materialize key) (root i ∷ []) ∷ (node_of op.Sink (last i ∷ []) ∷ []))) ∙ sym (topped_nodes laid.sources (bundles_in laid two_phase) rel key) in
    let all_edges : shown_edges key (send_last (Hash key) (all_but_last laid.edges)) ≡ edges_in (with_sink (topped laid.sources (bundles_in laid two_phase) rel key)) =
    ap (λ (es : List Edge). shown_edges key (send_last (Hash key) es)) edges ∙ ap (shown_edges key) (hashed_edges laid.sources (bundles_in laid two_phase) rel key) ∙ sym (topped_edges laid.sources (bundles_in laid two_phase) rel key) in
    λ i. record { sources = laid.sources; sink = laid.sink; nodes = all_nodes i; edges = all_edges i; parallelism = laid.parallelism; mini_batch = laid.mini_batch }

-- ---- the root

some_same : {A : Type 0} (x y : A) → Some x ≡ Some y → x ≡ y
some_same x y e = cc

-- a tree's root is no materializer
pub root_other : (laid : Plan) (rel : Rel) (two_phase : Bool) → IsLaidWith two_phase bare laid rel → (n : ℕ) (node : Node) → length laid.nodes ≡ suc (suc n) → slice_get laid.nodes n ≡ Some node → materializes node.op ≡ false
root_other laid rel two_phase is n node many e =
    let ps = pieces_of laid.sources (bundles_in laid two_phase) 0 Forward rel in
    let last = tree_ends laid.sources (bundles_in laid two_phase) 0 rel in
    let own = node_of last.operator last.inputs in
    let sink = node_of op.Sink (length ps ∷ []) in
    let nodes : laid.nodes ≡ nodes_in last.front ++ (own ∷ (sink ∷ [])) =
    ap (λ (p : Plan). p.nodes) is ∙ nodes_end ps (piece op.Sink (length ps ∷ []) Forward (kinds_of retract) Absent)
    ∙ ap (λ (ns : List Node). ns ++ sink ∷ []) (ap nodes_in (last.are Forward) ∙ nodes_end last.front (full_piece last.operator last.inputs Forward last.kinds)) ∙ append_assoc (nodes_in last.front) (own ∷ []) (sink ∷ []) in
    let count : length laid.nodes ≡ length (nodes_in last.front) + 2 = ap length nodes ∙ length-append (nodes_in last.front) (own ∷ (sink ∷ [])) in
    let place : n ≡ length (nodes_in last.front) + 0 = omega (arith, many, count) in
    let there : slice_get laid.nodes n ≡ Some own = (λ i. slice_get (nodes i) (place i)) ∙ behind (nodes_in last.front) (own ∷ (sink ∷ [])) 0 in
    let same : node ≡ own = some_same node own (sym e ∙ there) in
    ap (λ (m : Node). materializes m.op) same ∙ last.other

-- ---- edges

-- those between the nodes of a tree go as before
pub edges_ahead : (key : List ℕ) (es more rest : List Edge) (v : ℕ) → 0 < v → v < length es → numbered (es ++ more) v ≡ numbered (send_last (Hash key) es ++ rest) v
edges_ahead key es more rest zero low l = absurd (omega arith)
edges_ahead key es more rest (suc n) low l =
    let many = hashed_many (Hash key) es in
    in_front es more n (omega arith) ∙ sym (in_front (send_last (Hash key) es) rest n (omega (arith, many)) ∙ hashed_ahead (Hash key) es n l)
