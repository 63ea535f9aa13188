-- What nodes and trees add to what is laid.
use Rattle.std.specs.Prelude.{◌≡◌, ℕ, ◌+◌, List, ◌++◌, fold, is_none, length, slice_get, Option, unwrap_or, Result, IfOk}
use Rattle.std.proofs.Common.{false, [], ◌∷◌, refl, sym, ap, subst, ◌∙◌, arith, Some, None, length-append}
use Rattle.std.proofs.lemmas.Bool.{or_from}
use Rattle.std.proofs.lemmas.List.{append-nil, append_assoc, length-map, map-append}
use Rattle.ct_change.specs.Changelog.{append, retract, upsert, kinds_of, mode_of}
use Rattle.ct_change.specs.declared.kind.KindSet.{KindSet}
use Rattle.ct_change.specs.declared.kind.Declared.{Declared}
use Rattle.ct_change.specs.declared.kind.Declared.TheVariants.{Append, Retract, Upsert}
use Rattle.ct_catalog.specs.declared.table.TableDef.{TableDef}
use Rattle.mode_infer.specs.declared.kinds.Flow.{Flow}
use Rattle.mode_infer.specs.Kinds.{either, flow_of, no_kinds, plain, scan_kinds}
use Rattle.rel_algebra.specs.Rel.{Unary, Binary, Rel, Rels, One, Two, no_rels}
use Rattle.rel_algebra.specs.Rel as r
use Rattle.phys_plan.specs.declared.edge.Exchange.{Exchange}
use Rattle.phys_plan.specs.declared.edge.Exchange.TheVariants.{Forward, Hash}
use Rattle.ct_change.specs.declared.update.Update.{Update}
use Rattle.ct_change.specs.declared.update.Update.TheVariants.{Absent, After, Both}
use Rattle.phys_plan.specs.declared.node.Op.{Op}
use Rattle.phys_plan.specs.declared.node.Op.TheVariants as op
use Rattle.phys_plan.specs.declared.node.Node.{Node}
use Rattle.phys_plan.specs.declared.plan.Plan.{Plan}
use Rattle.plan_rules.specs.Phases.{Bundles, local_below}
use Rattle.plan_rules.specs.TreeKinds.{kinds_declared, table_kinds, tree_kinds}
use Rattle.laid_plans.proofs.laws.Sent.{way_sends}
use Rattle.plan_rules.specs.Pieces.{Piece, node_of, edge_of, piece, full_piece, one_pieces, scan_pieces, source_pieces, pieces_of, pieces_of_all, roots_of, bare, shown, with_sink, nodes_in, edges_in, plan_of_tree}
use Rattle.plan_rules.specs.Roles.{unary_way, binary_way}
use Rattle.plan_laying.specs.declared.laying_fault.LayingFault.{LayingFault}
use Rattle.plan_laying.specs.declared.laying_fault.LayingFault.TheVariants.{NoTable, Memory}
use Rattle.plan_laying.specs.declared.laying.Laid.{Laid}
use Rattle.plan_laying.specs.declared.laying.Laying.{Laying}
use Rattle.plan_laying.specs.Faults.{lacks_table, Says}
use Rattle.plan_laying.specs.Laying.{bundles_of, Pushed, Sends, Adds, Lays, LaysAll, Shows, Fails, FailsAll}
use Rattle.plan_laying.specs.Topped.{all_but_last, send_last, shown_nodes, shown_edges, topped_plan}

-- ---- pieces behind what was laid

pub adds_none : (l : Laying) → Adds l l []
adds_none l = record { sources = refl; bundles = refl; nodes = sym (append-nil l.nodes); edges = sym (append-nil l.edges) }

pub adds_more : (old mid new : Laying) (ps qs : List Piece) → Adds old mid ps → Adds mid new qs → Adds old new (ps ++ qs)
adds_more old mid new ps qs a b = record {
  sources = b.sources ∙ a.sources;
  bundles = b.bundles ∙ a.bundles;
  nodes = b.nodes ∙ ap (λ (ns : List Node). ns ++ nodes_in qs) a.nodes ∙ append_assoc old.nodes (nodes_in ps) (nodes_in qs)
      ∙ ap (λ (ns : List Node). old.nodes ++ ns) (sym (map-append (λ (p : Piece). p.node) ps qs));
  edges = b.edges ∙ ap (λ es. es ++ edges_in qs) a.edges ∙ append_assoc old.edges (edges_in ps) (edges_in qs)
      ∙ ap (λ es. old.edges ++ es) (sym (map-append (λ (p : Piece). p.edge) ps qs));
}

pub adds_count : (old new : Laying) (ps : List Piece) → Adds old new ps → length new.nodes ≡ length old.nodes + length ps
adds_count old new ps a =
    let own = length-map ps (λ (p : Piece). p.node) in
    let both : length new.nodes ≡ length old.nodes + length (nodes_in ps) = ap length a.nodes ∙ length-append old.nodes (nodes_in ps) in
    omega (arith, own, both)

module _ (old new : Laying) (o : Op) (inputs : List ℕ) (x : Exchange) (kinds : KindSet) (update : Update) (v : ℕ) (p : Pushed old new o inputs x kinds update v) where
  pub pushed_adds : Adds old new (piece o inputs x kinds update ∷ [])
  pushed_adds = record { sources = p.sources; bundles = p.bundles; nodes = p.nodes; edges = p.edges }

  pub pushed_root : v ≡ length new.nodes
  pushed_root = p.number_is ∙ sym (ap length p.nodes ∙ length-append old.nodes (node_of o inputs ∷ []))

pub sends_same : (r : Result Laid LayingFault) (old new : Laying) (o : Op) (inputs : List ℕ) (given flows : List Flow) (x : Exchange) → given ≡ flows → IfOk r (λ laid. Sends old new o inputs given x laid) → IfOk r (λ laid. Sends old new o inputs flows x laid)
sends_same r old new o inputs given flows x same p = subst (λ (fs : List Flow). IfOk r (λ laid. Sends old new o inputs fs x laid)) same p

-- ---- an operator over its inputs

-- the pieces of a node that sends this
pub sends_adds : (old new : Laying) (o : Op) (inputs : List ℕ) (flows : List Flow) (x : Exchange) (laid : Laid) (kinds : KindSet) → Sends old new o inputs flows x laid → laid.kinds ≡ kinds → Adds old new (full_piece o inputs x kinds ∷ [])
sends_adds old new o inputs flows x laid kinds p k =
    subst (λ (ks : KindSet). Adds old new (full_piece o inputs x ks ∷ [])) k (pushed_adds old new o inputs x laid.kinds Both laid.root p.pushed)

pub sends_root : (old new : Laying) (o : Op) (inputs : List ℕ) (flows : List Flow) (x : Exchange) (laid : Laid) → Sends old new o inputs flows x laid → laid.root ≡ length new.nodes
sends_root old new o inputs flows x laid p = pushed_root old new o inputs x laid.kinds Both laid.root p.pushed

-- what is told of a tree's kinds, over the tables and bundles that were there before it
pub local_before : (old mid : Laying) (x : Exchange) (how : Unary) (input : Rel) (below : Laid) → Lays old mid x input below → local_below (bundles_of old) how (tree_kinds old.sources input) ≡ local_below (bundles_of mid) how below.kinds
local_before old mid x how input below l = sym (λ i. local_below (l.adds.bundles i) how (l.sends i))

pub one_lays : (old mid new : Laying) (x : Exchange) (how : Unary) (input : Rel) (below laid : Laid) → Lays old mid (unary_way how).asks input below → local_below (bundles_of mid) how below.kinds ≡ None
    → Sends mid new ((unary_way how).op mid.mini_batch) (below.root ∷ []) (plain below.kinds ∷ []) x laid → Lays old new x (One how input) laid
one_lays old mid new x how input below laid l none p =
    let n = length old.nodes in
    let b = bundles_of old in
    let o = (unary_way how).op old.mini_batch in
    let kinds = tree_kinds old.sources (One how input) in
    let ps = pieces_of old.sources (bundles_of old) (length old.nodes) (unary_way how).asks input in
    let below_is : below.root ≡ n + length ps = l.root_is ∙ adds_count old mid ps l.adds in
    let sent : laid.kinds ≡ tree_kinds old.sources (One how input) =
    p.kinds_are ∙ ap (λ (f : Flow). f.sent) (way_sends mid.sources mid.mini_batch how below.kinds)
    ∙ (λ i. (flow_of (l.adds.sources i) ((unary_way how).op 0) (plain (l.sends i) ∷ [])).sent) in
    let given : Sends mid new o (below.root ∷ []) (plain below.kinds ∷ []) x laid =
    subst (λ (q : Bundles). Sends mid new ((unary_way how).op q.size) (below.root ∷ []) (plain below.kinds ∷ []) x laid) l.adds.bundles p in
    let own : Adds mid new (full_piece o (below.root ∷ []) x kinds ∷ []) = sends_adds mid new o (below.root ∷ []) (plain below.kinds ∷ []) x laid kinds given sent in
    let top : Adds mid new (full_piece o ((n + length ps) ∷ []) x kinds ∷ []) = subst (λ m. Adds mid new (full_piece o (m ∷ []) x kinds ∷ [])) below_is own in
    let all : Adds old new (one_pieces (length old.nodes) (bundles_of old) how None (λ asks. pieces_of old.sources (bundles_of old) (length old.nodes) asks input) x (tree_kinds old.sources (One how input))) =
    adds_more old mid new ps (full_piece o ((n + length ps) ∷ []) x kinds ∷ []) l.adds top in
    record {
      adds = subst (λ (local : Option Op). Adds old new (one_pieces (length old.nodes) (bundles_of old) how local (λ asks. pieces_of old.sources (bundles_of old) (length old.nodes) asks input) x (tree_kinds old.sources (One how input))))
          (sym (local_before old mid (unary_way how).asks how input below l ∙ none)) all;
      root_is = sends_root mid new o (below.root ∷ []) (plain below.kinds ∷ []) x laid given;
      sends = sent;
      tables = l.tables;
    }

-- a tree behind another, seen from before both
pub adds_behind : (old mid new : Laying) (n : ℕ) (x : Exchange) (rel : Rel) (laid : Laid) → mid.sources ≡ old.sources → bundles_of mid ≡ bundles_of old → length mid.nodes ≡ n → Lays mid new x rel laid
    → Adds mid new (pieces_of old.sources (bundles_of old) n x rel)
adds_behind old mid new n x rel laid sources bundles count l =
    subst (λ k. Adds mid new (pieces_of old.sources (bundles_of old) k x rel)) count
    (subst (λ (b : Bundles). Adds mid new (pieces_of old.sources b (length mid.nodes) x rel)) bundles (subst (λ (s : List TableDef). Adds mid new (pieces_of s (bundles_of mid) (length mid.nodes) x rel)) sources l.adds))

pub two_lay : (old mid new last : Laying) (x : Exchange) (how : Binary) (left right : Rel) (first second laid : Laid) → Lays old mid (binary_way how).left left first → Lays mid new (binary_way how).right right second
    → Sends new last (binary_way how).op (first.root ∷ (second.root ∷ [])) (plain first.kinds ∷ (plain second.kinds ∷ [])) x laid → Lays old last x (Two how left right) laid
two_lay old mid new last x how left right first second laid l m p =
    let n = length old.nodes in
    let o = (binary_way how).op in
    let kinds = tree_kinds old.sources (Two how left right) in
    let ps = pieces_of old.sources (bundles_of old) (length old.nodes) (binary_way how).left left in
    let qs = pieces_of old.sources (bundles_of old) (length old.nodes + length (pieces_of old.sources (bundles_of old) (length old.nodes) (binary_way how).left left)) (binary_way how).right right in
    let count : length mid.nodes ≡ n + length ps = adds_count old mid ps l.adds in
    let behind : Adds mid new qs = adds_behind old mid new (n + length ps) (binary_way how).right right second l.adds.sources l.adds.bundles count m in
    let first_is : first.root ≡ n + length ps = l.root_is ∙ count in
    let second_is : second.root ≡ n + length ps + length qs = m.root_is ∙ adds_count mid new qs behind ∙ ap (λ k. k + length qs) count in
    let sources : new.sources ≡ old.sources = m.adds.sources ∙ l.adds.sources in
    let other : second.kinds ≡ tree_kinds old.sources right = m.sends ∙ ap (λ (s : List TableDef). tree_kinds s right) l.adds.sources in
    let sent : laid.kinds ≡ tree_kinds old.sources (Two how left right) =
    p.kinds_are ∙ (λ i. (flow_of (sources i) o (plain (l.sends i) ∷ (plain (other i) ∷ []))).sent) in
    let own : Adds new last (full_piece o (first.root ∷ (second.root ∷ [])) x kinds ∷ []) = sends_adds new last o (first.root ∷ (second.root ∷ [])) (plain first.kinds ∷ (plain second.kinds ∷ [])) x laid kinds p sent in
    let top : Adds new last (full_piece o ((n + length ps) ∷ ((n + length ps + length qs) ∷ [])) x kinds ∷ []) =
    subst (λ (inputs : List ℕ). Adds new last (full_piece o inputs x kinds ∷ [])) (λ i. first_is i ∷ (second_is i ∷ [])) own in
    record {
      adds = adds_more old new last (ps ++ qs) (full_piece o ((n + length ps) ∷ ((n + length ps + length qs) ∷ [])) x kinds ∷ []) (adds_more old mid new ps qs l.adds behind) top;
      root_is = sends_root new last o (first.root ∷ (second.root ∷ [])) (plain first.kinds ∷ (plain second.kinds ∷ [])) x laid p;
      sends = sent;
      tables = or_from (lacks_table old.sources left) (lacks_table old.sources right) l.tables (subst (λ (s : List TableDef). lacks_table s right ≡ false) l.adds.sources m.tables);
    }

-- ---- unions

pub none_lays : (l : Laying) → LaysAll l l no_rels [] []
none_lays l = record { adds = adds_none l; roots_are = refl; send = refl; tables = refl }

pub union_lays : (old mid new : Laying) (x : Exchange) (inputs : Rels) (roots : List ℕ) (flows : List Flow) (laid : Laid) → LaysAll old mid inputs roots flows → Sends mid new op.Union roots flows x laid → Lays old new x (r.Union inputs) laid
union_lays old mid new x inputs roots flows laid all p =
    let kinds = tree_kinds old.sources (r.Union inputs) in
    let sent : laid.kinds ≡ tree_kinds old.sources (r.Union inputs) = p.kinds_are ∙ ap (λ (ks : List KindSet). fold either no_kinds ks) all.send in
    let own : Adds mid new (full_piece op.Union roots x kinds ∷ []) = sends_adds mid new op.Union roots flows x laid kinds p sent in
    let top = subst (λ (ro : List ℕ). Adds mid new (full_piece op.Union ro x kinds ∷ [])) all.roots_are own in
    record {
      adds = adds_more old mid new (pieces_of_all old.sources (bundles_of old) (length old.nodes) inputs) (full_piece op.Union (roots_of old.sources (bundles_of old) (length old.nodes) inputs) x kinds ∷ []) all.adds top;
      root_is = sends_root mid new op.Union roots flows x laid p;
      sends = sent;
      tables = all.tables;
    }

pub union_fails : (l : Laying) (inputs : Rels) (fault : LayingFault) → FailsAll l inputs fault → Fails l (r.Union inputs) fault
union_fails l inputs NoTable f = f
union_fails l inputs Memory f = tt

-- ---- scans

-- an append or retract table
pub plain_lays : (old new : Laying) (x : Exchange) (source : ℕ) (laid : Laid) (table : TableDef) → slice_get old.sources source ≡ Some table → (table.mode ≡ Upsert → ⊥)
    → Sends old new (op.Scan source) [] [] x laid → Lays old new x (r.Scan source) laid
plain_lays old new x source laid table is plain p =
    let sent : laid.kinds ≡ kinds_of (mode_of table.mode []) = p.kinds_are ∙ ap scan_kinds is in
    let both = by_mode table.mode plain sent in
    record {
      adds = subst (λ (o : Option TableDef). Adds old new (source_pieces (length old.nodes) x source o)) (sym is) both.0;
      root_is = pushed_root old new (op.Scan source) [] x laid.kinds Both laid.root p.pushed;
      sends = both.1 ∙ sym (ap table_kinds is);
      tables = ap is_none is;
    }
  where
    scan : (kinds : KindSet) → laid.kinds ≡ kinds → Adds old new (full_piece (op.Scan source) [] x kinds ∷ [])
    scan kinds k = sends_adds old new (op.Scan source) [] [] x laid kinds p k

    by_mode : (mode : Declared) → (mode ≡ Upsert → ⊥) → laid.kinds ≡ kinds_of (mode_of mode []) → Adds old new (scan_pieces (length old.nodes) x source mode (unwrap_or table.key [])) × (laid.kinds ≡ kinds_declared mode (kinds_of (mode_of mode [])))
    by_mode Append not k = (scan (kinds_of append) k, k)
    by_mode Retract not k = (scan (kinds_of retract) k, k)
    by_mode Upsert not k = absurd (not refl)

pub upsert_lays : (old mid new : Laying) (x : Exchange) (source : ℕ) (below laid : Laid) (key : List ℕ) (table : TableDef) → slice_get old.sources source ≡ Some table → table.mode ≡ Upsert → unwrap_or table.key [] ≡ key
    → Pushed old mid (op.Scan source) [] (Hash key) (kinds_of (upsert key)) (After key) below.root → Sends mid new (op.Normalize key) (below.root ∷ []) (plain below.kinds ∷ []) x laid → Lays old new x (r.Scan source) laid
upsert_lays old mid new x source below laid key table is mode key_is p q =
    let n = length old.nodes in
    let scan = piece (op.Scan source) [] (Hash key) (kinds_of (upsert key)) (After key) in
    let first : Adds old mid (scan ∷ []) = pushed_adds old mid (op.Scan source) [] (Hash key) (kinds_of (upsert key)) (After key) below.root p in
    let own : Adds mid new (full_piece (op.Normalize key) (below.root ∷ []) x (kinds_of retract) ∷ []) = sends_adds mid new (op.Normalize key) (below.root ∷ []) (plain below.kinds ∷ []) x laid (kinds_of retract) q q.kinds_are in
    let top = subst (λ m. Adds mid new (full_piece (op.Normalize key) (m ∷ []) x (kinds_of retract) ∷ [])) p.number_is own in
    let both : Adds old new (scan_pieces (length old.nodes) x source Upsert key) = adds_more old mid new (scan ∷ []) (full_piece (op.Normalize key) ((n + 1) ∷ []) x (kinds_of retract) ∷ []) first top in
    let pieces : Adds old new (scan_pieces (length old.nodes) x source table.mode (unwrap_or table.key [])) =
    subst (λ m. Adds old new (scan_pieces (length old.nodes) x source m (unwrap_or table.key []))) (sym mode) (subst (λ (k : List ℕ). Adds old new (scan_pieces (length old.nodes) x source Upsert k)) (sym key_is) both) in
    record {
      adds = subst (λ (o : Option TableDef). Adds old new (source_pieces (length old.nodes) x source o)) (sym is) pieces;
      root_is = sends_root mid new (op.Normalize key) (below.root ∷ []) (plain below.kinds ∷ []) x laid q;
      sends = q.kinds_are ∙ sym (ap table_kinds is ∙ ap (λ m. kinds_declared m (scan_kinds (Some table))) mode);
      tables = ap is_none is;
    }

pub no_table : (l : Laying) (source : ℕ) → slice_get l.sources source ≡ None → Fails l (r.Scan source) NoTable
no_table l source none = ap is_none none

-- memory may be wanting for any
pub full_fails : (l : Laying) (rel : Rel) (fault : LayingFault) → fault ≡ Memory → Fails l rel fault
full_fails l rel fault is = subst (Fails l rel) (sym is) tt

-- ---- the plan

pub plan_is : (start mid new : Laying) (plan : Plan) (rel : Rel) (laid : Laid) (v : ℕ) → start.nodes ≡ [] → start.edges ≡ [] → Lays start mid Forward rel laid → Pushed mid new op.Sink (laid.root ∷ []) Forward (kinds_of retract) Absent v
    → plan.nodes ≡ new.nodes → plan.edges ≡ new.edges → plan.sources ≡ start.sources → plan.mini_batch ≡ start.mini_batch → plan ≡ plan_of_tree start.sources plan.sink plan.parallelism (bundles_of start) bare rel
plan_is start mid new plan rel laid v no_nodes no_edges l p nodes edges sources batches =
    let ps = pieces_of start.sources (bundles_of start) 0 Forward rel in
    let count : length start.nodes ≡ 0 = ap length no_nodes in
    let tree : Adds start mid ps = subst (λ n. Adds start mid (pieces_of start.sources (bundles_of start) n Forward rel)) count l.adds in
    let counted : length mid.nodes ≡ length start.nodes + length ps = adds_count start mid ps tree in
    let root_is : laid.root ≡ length ps = omega (arith, l.root_is, count, counted) in
    let own : Adds mid new (piece op.Sink (laid.root ∷ []) Forward (kinds_of retract) Absent ∷ []) = pushed_adds mid new op.Sink (laid.root ∷ []) Forward (kinds_of retract) Absent v p in
    let sink = subst (λ m. Adds mid new (piece op.Sink (m ∷ []) Forward (kinds_of retract) Absent ∷ [])) root_is own in
    let all : Adds start new (with_sink ps) = adds_more start mid new ps (piece op.Sink (length ps ∷ []) Forward (kinds_of retract) Absent ∷ []) tree sink in
    let all_nodes : plan.nodes ≡ nodes_in (with_sink ps) = nodes ∙ all.nodes ∙ ap (λ (ns : List Node). ns ++ nodes_in (with_sink ps)) no_nodes in
    let all_edges : plan.edges ≡ edges_in (with_sink ps) = edges ∙ all.edges ∙ ap (λ es. es ++ edges_in (with_sink ps)) no_edges in
    λ i. record { sources = sources i; sink = plan.sink; nodes = all_nodes i; edges = all_edges i; parallelism = plan.parallelism; mini_batch = batches i }

pub plan_fails : (start : Laying) (rel : Rel) (fault : LayingFault) → Fails start rel fault → Says start.sources rel fault
plan_fails start rel NoTable f = f
plan_fails start rel Memory f = tt

pub full_says : (sources : List TableDef) (rel : Rel) (fault : LayingFault) → fault ≡ Memory → Says sources rel fault
full_says sources rel fault is = subst (Says sources rel) (sym is) tt

-- ---- what stands before the sink

pub shows : (old mid new : Laying) (key : List ℕ) (root : ℕ) (flows : List Flow) (above : Laid) (v : ℕ) → root ≡ length old.nodes → Sends old mid (op.Materialize key) (root ∷ []) flows Forward above
    → Pushed mid new op.Sink (above.root ∷ []) Forward (kinds_of retract) Absent v → Shows key old new
shows old mid new key root flows above v is s q =
    let p : Pushed old mid (op.Materialize key) (root ∷ []) Forward (kinds_of (upsert key)) Both above.root = subst (λ (ks : KindSet). Pushed old mid (op.Materialize key) (root ∷ []) Forward ks Both above.root) s.kinds_are s.pushed in
    let sink = node_of op.Sink ((length old.nodes + 1) ∷ []) in
    let told = edge_of Forward (kinds_of retract) Absent in
    record {
      sources = q.sources ∙ p.sources;
      nodes = q.nodes ∙ (λ i. p.nodes i ++ node_of op.Sink (p.number_is i ∷ []) ∷ []) ∙ append_assoc old.nodes (node_of (op.Materialize key) (root ∷ []) ∷ []) (sink ∷ [])
          ∙ ap (λ r. old.nodes ++ (node_of (op.Materialize key) (r ∷ []) ∷ (sink ∷ []))) is;
      edges = q.edges ∙ ap (λ es. es ++ told ∷ []) p.edges ∙ append_assoc old.edges (edge_of Forward (kinds_of (upsert key)) Both ∷ []) (told ∷ []);
    }

pub shown_plan : (key : List ℕ) (laid plan : Plan) (old new : Laying) → Shows key old new → old.sources ≡ laid.sources → old.nodes ≡ all_but_last laid.nodes → old.edges ≡ send_last (Hash key) (all_but_last laid.edges)
    → plan.sources ≡ new.sources → plan.sink ≡ laid.sink → plan.nodes ≡ new.nodes → plan.edges ≡ new.edges → plan.parallelism ≡ laid.parallelism → plan.mini_batch ≡ laid.mini_batch → plan ≡ topped_plan (shown key) laid
shown_plan key laid plan old new s sources nodes edges own_sources sink own_nodes own_edges parallelism batches =
    let all_sources = own_sources ∙ s.sources ∙ sources in
    let all_nodes = own_nodes ∙ s.nodes ∙ ap (shown_nodes key) nodes in
    let all_edges = own_edges ∙ s.edges ∙ ap (shown_edges key) edges in
    λ i. record { sources = all_sources i; sink = sink i; nodes = all_nodes i; edges = all_edges i; parallelism = parallelism i; mini_batch = batches i }
