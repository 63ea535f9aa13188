-- The pieces of a tree, wherever they stand in a plan, are the tree laid.
use Rattle.std.specs.Prelude.{◌≡◌, ℕ, ◌+◌, Bool, List, ◌++◌, length, slice_get, Option, unwrap_or}
use Rattle.std.proofs.Common.{suc, [], ◌∷◌, refl, sym, ap, subst, ◌∙◌, arith, Some, None, length-append}
use Rattle.std.proofs.lemmas.List.{length-map}
use Rattle.ct_change.specs.Changelog.{append, retract, upsert, kinds_of}
use Rattle.ct_change.specs.declared.kind.Declared.{Declared}
use Rattle.ct_change.specs.declared.kind.Declared.TheVariants.{Append, Retract, Upsert}
use Rattle.ct_change.specs.declared.kind.KindSet.{KindSet}
use Rattle.ct_catalog.specs.declared.table.TableDef.{TableDef}
use Rattle.rel_algebra.specs.Rel.{Unary, Rel, Rels, Scan, One, Two, Many, no_rels, rel_and}
use Rattle.phys_plan.specs.declared.edge.Edge.{Edge}
use Rattle.phys_plan.specs.declared.edge.Exchange.{Exchange}
use Rattle.phys_plan.specs.declared.edge.Exchange.TheVariants.{Forward, Hash}
use Rattle.ct_change.specs.declared.update.Update.{Update}
use Rattle.ct_change.specs.declared.update.Update.TheVariants.{Absent, After, Both}
use Rattle.phys_plan.specs.declared.node.Node.{Node}
use Rattle.phys_plan.specs.declared.node.Op.{Op}
use Rattle.phys_plan.specs.declared.node.Op.TheVariants as op
use Rattle.phys_plan.specs.declared.plan.Plan.{Plan}
use Rattle.phys_plan.specs.Reading.{numbered}
use Rattle.mode_infer.specs.Kinds.{inserts, no_kinds}
use Rattle.plan_rules.specs.Phases.{local_below}
use Rattle.plan_rules.specs.TreeKinds.{tree_kinds}
use Rattle.plan_rules.specs.Pieces.{Piece, node_of, edge_of, piece, full_piece, one_pieces, topped, topped_both, scan_pieces, source_pieces, pieces_of, pieces_of_all, roots_of, Top, bare, shown, asks_of, with_top, with_sink, nodes_in, edges_in}
use Rattle.plan_rules.specs.Roles.{unary_way, binary_way}
use Rattle.laid_plans.specs.Shapes.{bundles_in, IsLaidWith, IsLaidOut}
use Rattle.laid_plans.proofs.laws.LaidTrees.{HasNode, HasEdge, IsOver, ScanLaid, SourceLaid, OneLaid, IsLaid, AreLaid, TopLaid, LaysOut}
use Rattle.laid_plans.proofs.laws.Places.{one_longer, Stand, front_stands, back_stands, stand_alone}

module _ (plan : Plan) where
  abbrev Placed : ℕ → List Piece → Type 0
  Placed n ps = Stand plan.nodes plan.edges n ps

  module _ (m v : ℕ) (next : v ≡ m + 1) where
    has_node : (inputs : List ℕ) (o : Op) → slice_get plan.nodes m ≡ Some (node_of o inputs) → HasNode plan v o inputs
    has_node inputs o there =
        let number : v ≡ suc m = omega (arith, next) in
        record { node = node_of o inputs; is_there = ap (numbered plan.nodes) number ∙ there; is_op = refl; inputs_are = refl; keyless = refl }

    has_edge : (x : Exchange) (kinds : KindSet) (update : Update) → slice_get plan.edges m ≡ Some (edge_of x kinds update) → HasEdge plan v x kinds update
    has_edge x kinds update there = let number : v ≡ suc m = omega (arith, next) in ap (numbered plan.edges) number ∙ there

  -- the last of pieces behind n nodes
  module _ (n : ℕ) (ps : List Piece) (o : Op) (inputs : List ℕ) (x : Exchange) (kinds : KindSet) (update : Update) (placed : Placed n (ps ++ piece o inputs x kinds update ∷ [])) where
    last_number : n + length (ps ++ piece o inputs x kinds update ∷ []) ≡ n + length ps + 1
    last_number = omega (arith, one_longer ps (piece o inputs x kinds update))

    last_has : HasNode plan (n + length (ps ++ piece o inputs x kinds update ∷ [])) o inputs
    last_has =
        has_node (n + length ps) (n + length (ps ++ piece o inputs x kinds update ∷ [])) last_number inputs o (back_stands plan.nodes plan.edges n ps (piece o inputs x kinds update ∷ []) placed).0

    last_told : HasEdge plan (n + length (ps ++ piece o inputs x kinds update ∷ [])) x kinds update
    last_told =
        has_edge (n + length ps) (n + length (ps ++ piece o inputs x kinds update ∷ [])) last_number x kinds update (back_stands plan.nodes plan.edges n ps (piece o inputs x kinds update ∷ []) placed).1

  scan_laid : (n : ℕ) (x : Exchange) (source : ℕ) (mode : Declared) (key : List ℕ) → Placed n (scan_pieces n x source mode key)
      → ScanLaid plan n x source mode key (n + length (scan_pieces n x source mode key))
  scan_laid n x source Append key s = (refl, has_node n (n + 1) refl [] (op.Scan source) s.0, has_edge n (n + 1) refl x (kinds_of append) Both s.1)
  scan_laid n x source Retract key s = (refl, has_node n (n + 1) refl [] (op.Scan source) s.0, has_edge n (n + 1) refl x (kinds_of retract) Both s.1)
  scan_laid n x source Upsert key s =
      let next : n + 2 ≡ suc n + 1 = omega arith in (
        refl,
        has_node n (n + 1) refl [] (op.Scan source) s.0,
        has_edge n (n + 1) refl (Hash key) (kinds_of (upsert key)) (After key) s.1,
        has_node (suc n) (n + 2) next ((n + 1) ∷ []) (op.Normalize key) s.2.0,
        has_edge (suc n) (n + 2) next x (kinds_of retract) Both s.2.1,
      )

  source_laid : (n : ℕ) (x : Exchange) (source : ℕ) (table : Option TableDef) → Placed n (source_pieces n x source table)
      → SourceLaid plan n x source table (n + length (source_pieces n x source table))
  source_laid n x source None s = (refl, has_node n (n + 1) refl [] (op.Scan source) s.0, has_edge n (n + 1) refl x no_kinds Both s.1)
  source_laid n x source (Some table) s = scan_laid n x source table.mode (unwrap_or table.key []) s

  -- the pieces of both sides of a join, and a node of this operator over them
  module _ (two_phase : Bool) (n : ℕ) (x y z : Exchange) (left right : Rel) (ps qs : List Piece) (o : Op) (kinds : KindSet) (s : Placed n (topped_both n ps qs o x kinds)) where
    abbrev top : ℕ
    top = n + length (topped_both n ps qs o x kinds)

    left_placed : Placed n ps
    left_placed = front_stands plan.nodes plan.edges n ps qs (front_stands plan.nodes plan.edges n (ps ++ qs) (full_piece o ((n + length ps) ∷ ((n + length ps + length qs) ∷ [])) x kinds ∷ []) s)

    right_placed : Placed (n + length ps) qs
    right_placed = back_stands plan.nodes plan.edges n ps qs (front_stands plan.nodes plan.edges n (ps ++ qs) (full_piece o ((n + length ps) ∷ ((n + length ps + length qs) ∷ [])) x kinds ∷ []) s)

    both_laid : IsLaid plan two_phase n y left (n + length ps) → IsLaid plan two_phase (n + length ps) z right (n + length ps + length qs)
        → (first : ℕ) × (second : ℕ) × IsLaid plan two_phase n y left first × IsLaid plan two_phase first z right second × (top ≡ second + 1) × HasNode plan top o (first ∷ (second ∷ [])) × HasEdge plan top x kinds Both
    both_laid l m =
        let inputs = (n + length ps) ∷ ((n + length ps + length qs) ∷ []) in
        let number = last_number n (ps ++ qs) o inputs x kinds Both s in
        let whole = length-append ps qs in (
          n + length ps,
          n + length ps + length qs,
          l,
          m,
          omega (arith, number, whole),
          last_has n (ps ++ qs) o inputs x kinds Both s,
          last_told n (ps ++ qs) o inputs x kinds Both s,
        )

  -- a node over the last of pieces
  over : (n : ℕ) (ps : List Piece) (o : Op) (x : Exchange) (kinds : KindSet) → Placed n (topped n ps o x kinds)
      → IsOver plan (n + length ps) o (n + length (topped n ps o x kinds)) x kinds
  over n ps o x kinds s = (
    last_number n ps o ((n + length ps) ∷ []) x kinds Both s,
    last_has n ps o ((n + length ps) ∷ []) x kinds Both s,
    last_told n ps o ((n + length ps) ∷ []) x kinds Both s,
  )

  under : (n : ℕ) (ps : List Piece) (o : Op) (x : Exchange) (kinds : KindSet) → Placed n (topped n ps o x kinds) → Placed n ps
  under n ps o x kinds s = front_stands plan.nodes plan.edges n ps (full_piece o ((n + length ps) ∷ []) x kinds ∷ []) s

  -- the pieces of a node with one input, whose pieces are laid so
  one_laid : (two_phase : Bool) (n : ℕ) (how : Unary) (input : Rel)
      → ((asks : Exchange) → Placed n (pieces_of plan.sources (bundles_in plan two_phase) n asks input) → IsLaid plan two_phase n asks input (n + length (pieces_of plan.sources (bundles_in plan two_phase) n asks input)))
      → (x : Exchange) (kinds : KindSet) (local : Option Op) → Placed n (one_pieces n (bundles_in plan two_phase) how local (λ asks. pieces_of plan.sources (bundles_in plan two_phase) n asks input) x kinds)
      → OneLaid plan how local (λ asks below. IsLaid plan two_phase n asks input below) x kinds (n + length (one_pieces n (bundles_in plan two_phase) how local (λ asks. pieces_of plan.sources (bundles_in plan two_phase) n asks input) x kinds))
  one_laid two_phase n how input below x kinds None s =
      let ps = pieces_of plan.sources (bundles_in plan two_phase) n (unary_way how).asks input in
      let o = (unary_way how).op plan.mini_batch in
      (n + length ps, below (unary_way how).asks (under n ps o x kinds s), over n ps o x kinds s)
  one_laid two_phase n how input below x kinds (Some local) s =
      let ps = pieces_of plan.sources (bundles_in plan two_phase) n Forward input in
      let o = (unary_way how).op plan.mini_batch in
      let qs = topped n ps local (unary_way how).asks inserts in
      let t = under n qs o x kinds s in (
        n + length ps,
        n + length qs,
        below Forward (under n ps local (unary_way how).asks inserts t),
        over n ps local (unary_way how).asks inserts t,
        over n qs o x kinds s,
      )

  module _ (two_phase : Bool) where
    mutual
      laid : (n : ℕ) (x : Exchange) (rel : Rel) → Placed n (pieces_of plan.sources (bundles_in plan two_phase) n x rel)
          → IsLaid plan two_phase n x rel (n + length (pieces_of plan.sources (bundles_in plan two_phase) n x rel))
      laid n x (Scan source) s = source_laid n x source (slice_get plan.sources source) s
      laid n x (One how input) s = one_laid two_phase n how input (λ asks below. laid n asks input below) x (tree_kinds plan.sources (One how input)) (local_below (bundles_in plan two_phase) how (tree_kinds plan.sources input)) s
      laid n x (Two how left right) s =
          let y = (binary_way how).left in
          let z = (binary_way how).right in
          let mid : ℕ = n + length (pieces_of plan.sources (bundles_in plan two_phase) n (binary_way how).left left) in
          let ps = pieces_of plan.sources (bundles_in plan two_phase) n (binary_way how).left left in
          let qs = pieces_of plan.sources (bundles_in plan two_phase) (n + length (pieces_of plan.sources (bundles_in plan two_phase) n (binary_way how).left left)) (binary_way how).right right in
          let o = (binary_way how).op in
          both_laid two_phase n x y z left right ps qs o (tree_kinds plan.sources (Two how left right)) s
          (laid n (binary_way how).left left (left_placed two_phase n x y z left right ps qs o (tree_kinds plan.sources (Two how left right)) s))
          (laid mid (binary_way how).right right (right_placed two_phase n x y z left right ps qs o (tree_kinds plan.sources (Two how left right)) s))
      laid n x (Many inputs) s =
          let ps = pieces_of_all plan.sources (bundles_in plan two_phase) n inputs in
          let roots = roots_of plan.sources (bundles_in plan two_phase) n inputs in (
            roots,
            n + length ps,
            all_laid n inputs (front_stands plan.nodes plan.edges n ps (full_piece op.Union roots x (tree_kinds plan.sources (Many inputs)) ∷ []) s),
            last_number n ps op.Union roots x (tree_kinds plan.sources (Many inputs)) Both s,
            last_has n ps op.Union roots x (tree_kinds plan.sources (Many inputs)) Both s,
            last_told n ps op.Union roots x (tree_kinds plan.sources (Many inputs)) Both s,
          )

      all_laid : (n : ℕ) (inputs : Rels) → Placed n (pieces_of_all plan.sources (bundles_in plan two_phase) n inputs)
          → AreLaid plan two_phase n inputs (roots_of plan.sources (bundles_in plan two_phase) n inputs) (n + length (pieces_of_all plan.sources (bundles_in plan two_phase) n inputs))
      all_laid n no_rels s = (refl, omega arith)
      all_laid n (rel_and input inputs) s =
          let ps = pieces_of plan.sources (bundles_in plan two_phase) n Forward input in
          let mid : ℕ = n + length (pieces_of plan.sources (bundles_in plan two_phase) n Forward input) in
          let qs = pieces_of_all plan.sources (bundles_in plan two_phase) (n + length (pieces_of plan.sources (bundles_in plan two_phase) n Forward input)) inputs in
          let whole : mid + length qs ≡ n + length (ps ++ qs) = omega (arith, length-append ps qs) in (
            mid,
            roots_of plan.sources (bundles_in plan two_phase) mid inputs,
            laid n Forward input (front_stands plan.nodes plan.edges n ps qs s),
            subst (λ last. AreLaid plan two_phase mid inputs (roots_of plan.sources (bundles_in plan two_phase) mid inputs) last) whole
                (all_laid mid inputs (back_stands plan.nodes plan.edges n ps qs s)),
            refl,
          )

  -- a tree, and what stands between it and the sink, up to the sink's input
  record IsTopped (two_phase : Bool) (top : Top) (rel : Rel) (root : ℕ) : Type 0 where
    pub below : ℕ
    pub tree : IsLaid plan two_phase 0 (asks_of top) rel below
    pub between : TopLaid plan top below root

  is_topped : (two_phase : Bool) (top : Top) (rel : Rel) → Placed 0 (with_top top (pieces_of plan.sources (bundles_in plan two_phase) 0 (asks_of top) rel))
      → IsTopped two_phase top rel (0 + length (with_top top (pieces_of plan.sources (bundles_in plan two_phase) 0 (asks_of top) rel)))
  is_topped two_phase bare rel s = record { below = 0 + length (pieces_of plan.sources (bundles_in plan two_phase) 0 Forward rel); tree = laid two_phase 0 Forward rel s; between = refl }
  is_topped two_phase (shown key) rel s =
      let ps = pieces_of plan.sources (bundles_in plan two_phase) 0 (Hash key) rel in
      let inputs = (0 + length ps) ∷ [] in
      record {
        below = 0 + length ps;
        tree = laid two_phase 0 (Hash key) rel (front_stands plan.nodes plan.edges 0 ps (full_piece (op.Materialize key) inputs Forward (kinds_of (upsert key)) ∷ []) s);
        between = (
          last_number 0 ps (op.Materialize key) inputs Forward (kinds_of (upsert key)) Both s,
          last_has 0 ps (op.Materialize key) inputs Forward (kinds_of (upsert key)) Both s,
          last_told 0 ps (op.Materialize key) inputs Forward (kinds_of (upsert key)) Both s,
        );
      }

-- so a plan that is the tree's has these nodes
pub lays_out_with : (plan : Plan) (two_phase : Bool) (top : Top) (rel : Rel) → IsLaidWith two_phase top plan rel → LaysOut plan two_phase top rel
lays_out_with plan two_phase top rel is =
    let ps = with_top top (pieces_of plan.sources (bundles_in plan two_phase) 0 (asks_of top) rel) in
    let sink = piece op.Sink (length ps ∷ []) Forward (kinds_of retract) Absent in
    let root : ℕ = 0 + length ps in
    let root_is : length ps ≡ root = omega arith in
    let nodes : plan.nodes ≡ nodes_in (with_sink ps) = ap (λ (p : Plan). p.nodes) is in
    let edges : plan.edges ≡ edges_in (with_sink ps) = ap (λ (p : Plan). p.edges) is in
    let all : Stand plan.nodes plan.edges 0 (with_sink ps) =
    subst (λ (ns : List Node). Stand ns plan.edges 0 (with_sink ps)) (sym nodes) (subst (λ (es : List Edge). Stand (nodes_in (with_sink ps)) es 0 (with_sink ps)) (sym edges) (stand_alone (with_sink ps))) in
    let last : 0 + length (with_sink ps) ≡ root + 1 = last_number plan 0 ps op.Sink (length ps ∷ []) Forward (kinds_of retract) Absent all in
    let has = last_has plan 0 ps op.Sink (length ps ∷ []) Forward (kinds_of retract) Absent all in
    let told = last_told plan 0 ps op.Sink (length ps ∷ []) Forward (kinds_of retract) Absent all in
    let node_count : length plan.nodes ≡ length (with_sink ps) = ap length nodes ∙ length-map (with_sink ps) (λ p. p.node) in
    let edge_count : length plan.edges ≡ length (with_sink ps) = ap length edges ∙ length-map (with_sink ps) (λ p. p.edge) in
    let under = is_topped plan two_phase top rel (front_stands plan.nodes plan.edges 0 ps (sink ∷ []) all) in
    record {
      below = under.below;
      laid = under.tree;
      root = root;
      topped = under.between;
      sink_node = subst (λ (inputs : List ℕ). HasNode plan (root + 1) op.Sink inputs) (ap (λ m. m ∷ []) root_is) (subst (λ v. HasNode plan v op.Sink (length ps ∷ [])) last has);
      sink_edge = subst (λ v. HasEdge plan v Forward (kinds_of retract) Absent) last told;
      nodes = omega (arith, node_count, last);
      edges = omega (arith, edge_count, last);
    }

pub lays_out : (plan : Plan) (rel : Rel) → (is : IsLaidOut plan rel) → LaysOut plan is.two_phase is.top rel
lays_out plan rel is = lays_out_with plan is.two_phase is.top rel is.laid
