-- The trees of the nodes of a laid tree are its parts, by induction over the tree.
use Rattle.std.specs.Prelude.{◌≡◌, ℕ, ◌+◌, ◌<◌, ◌≤◌, Bool, List, length, map, slice_get, slice_index_or, Option, unwrap_or}
use Rattle.std.proofs.Common.{zero, suc, [], ◌∷◌, refl, sym, ap, subst, ◌∙◌, arith, Some, None}
use Rattle.ct_change.specs.declared.kind.KindSet.{KindSet}
use Rattle.ct_change.specs.declared.kind.Declared.{Declared}
use Rattle.ct_change.specs.declared.kind.Declared.TheVariants.{Append, Retract, Upsert}
use Rattle.ct_catalog.specs.declared.table.TableDef.{TableDef}
use Rattle.rel_algebra.specs.Answer.{answer}
use Rattle.rel_algebra.specs.Rel.{Unary, Rel, Rels, Scan, One, Two, Many, no_rels, rel_and, rels}
use Rattle.phys_plan.specs.Reading.{at, read_up}
use Rattle.phys_plan.specs.declared.edge.Exchange.{Exchange}
use Rattle.phys_plan.specs.declared.edge.Exchange.TheVariants.{Forward}
use Rattle.phys_plan.specs.declared.node.Op.{Op}
use Rattle.phys_plan.specs.declared.node.Op.TheVariants as op
use Rattle.phys_plan.specs.declared.plan.Plan.{Plan}
use Rattle.upsert_keys.proofs.laws.Keys.{wires_keyed}
use Rattle.plan_check.specs.Sound.{inferred_of}
use Rattle.plan_rules.specs.Answers.{tables_with}
use Rattle.plan_rules.specs.Erased.{erased, erased_at}
use Rattle.laid_plans.proofs.laws.LaidTrees.{HasNode, ScanLaid, SourceLaid, OneLaid, IsLaid, AreLaid, TopLaid}
use Rattle.plan_rules.specs.Phases.{Bundles, local_below}
use Rattle.plan_rules.specs.TreeKinds.{tree_kinds}
use Rattle.plan_rules.proofs.laws.Erasing.{local_told}
use Rattle.plan_rules.specs.Pieces.{Top, bare, shown, asks_of}
use Rattle.plan_rules.specs.Roles.{nothing, role, tree_of, unary_way, binary_way}
use Rattle.plan_rules.proofs.laws.Answering.{tree_is}
use Rattle.sound_plans.specs.Sound.{SoundPlansAnswer}
use Rattle.laid_plans.specs.Erased.{InferredPlansAnswer, LaidPlansAreErased}
use Rattle.laid_plans.specs.Inferred.{with_inferred}
use Rattle.laid_plans.specs.Shapes.{bundles_in}
use Rattle.laid_plans.proofs.laws.Given.{nodes_many}
use Rattle.laid_plans.proofs.laws.Placed.{lays_out}
use Rattle.laid_plans.proofs.laws.Trees.{unary_fits, binary_fits}

-- ---- inputs with smaller numbers

abbrev AreLower : ℕ → List ℕ → Type 0
AreLower v inputs = (p : ℕ) → p < length inputs → slice_index_or inputs p 0 < v

none_lower : (v : ℕ) → AreLower v []
none_lower v p l = absurd (omega (arith, l))

one_lower : (v below : ℕ) → below < v → AreLower v (below ∷ [])
one_lower v below h zero l = h
one_lower v below h (suc p) l = absurd (omega (arith, l))

two_lower : (v first second : ℕ) → first < v → second < v → AreLower v (first ∷ (second ∷ []))
two_lower v first second h k zero l = h
two_lower v first second h k (suc zero) l = k
two_lower v first second h k (suc (suc p)) l = absurd (omega (arith, l))

more_lower : (v input : ℕ) (inputs : List ℕ) → input < v → AreLower v inputs → AreLower v (input ∷ inputs)
more_lower v input inputs h k zero l = h
more_lower v input inputs h k (suc p) l = k p (omega (arith, l))

module _ (plan : Plan) where
  -- the root of a tree behind n nodes
  pub record IsRoot (n root : ℕ) (rel : Rel) : Type 0 where
    pub behind : n < root
    pub tree : erased_at plan root ≡ rel

  -- the roots of several trees behind n nodes, up to the last
  record AreRoots (n last : ℕ) (roots : List ℕ) (inputs : Rels) : Type 0 where
    pub behind : n ≤ last
    pub within : AreLower (last + 1) roots
    pub trees : rels (map (erased_at plan) roots) ≡ inputs

  -- ---- one node more

  -- the tree of a node whose operator and inputs are known
  tree_from : (v : ℕ) (o : Op) (inputs : List ℕ) → HasNode plan v o inputs → AreLower v inputs → erased_at plan v ≡ tree_of (role o) (map (erased_at plan) inputs)
  tree_from v o inputs has lower =
      tree_is plan v has.node has.is_there (subst (λ (ins : List ℕ). AreLower v ins) (sym has.inputs_are) lower) ∙ (λ i. tree_of (role (has.is_op i)) (map (erased_at plan) (has.inputs_are i)))

  -- a node over one tree
  over_one : (n below root : ℕ) (o : Op) (input rel : Rel) → HasNode plan root o (below ∷ []) → root ≡ below + 1 → IsRoot n below input → tree_of (role o) (input ∷ []) ≡ rel → IsRoot n root rel
  over_one n below root o input rel has next t e =
      let before = t.behind in
      let lower : below < root = omega (arith, next) in
      record { behind = omega (arith, before, next); tree = tree_from root o (below ∷ []) has (one_lower root below lower) ∙ ap (λ x. tree_of (role o) (x ∷ [])) t.tree ∙ e }

  -- and over two, one behind the other
  over_two : (n first second root : ℕ) (o : Op) (left right rel : Rel) → HasNode plan root o (first ∷ (second ∷ [])) → root ≡ second + 1 → IsRoot n first left → IsRoot first second right
      → tree_of (role o) (left ∷ (right ∷ [])) ≡ rel → IsRoot n root rel
  over_two n first second root o left right rel has next s t e =
      let before = s.behind in
      let later = t.behind in
      record {
        behind = omega (arith, before, later, next);
        tree = tree_from root o (first ∷ (second ∷ [])) has (two_lower root first second (omega (arith, later, next)) (omega (arith, next)))
            ∙ (λ i. tree_of (role o) (s.tree i ∷ (t.tree i ∷ []))) ∙ e;
      }

  -- ---- tables

  table_root : (n : ℕ) (x : Exchange) (source : ℕ) (mode : Declared) (key : List ℕ) (root : ℕ) → ScanLaid plan n x source mode key root → IsRoot n root (Scan source)
  table_root n x source Append key root l = record { behind = omega (arith, l.0); tree = tree_from root (op.Scan source) [] l.1 (none_lower root) }
  table_root n x source Retract key root l = record { behind = omega (arith, l.0); tree = tree_from root (op.Scan source) [] l.1 (none_lower root) }
  table_root n x source Upsert key root l =
      let scan : IsRoot n (n + 1) (Scan source) = record { behind = omega arith; tree = tree_from (n + 1) (op.Scan source) [] l.1 (none_lower (n + 1)) } in
      over_one n (n + 1) root (op.Normalize key) (Scan source) (Scan source) l.3 (omega (arith, l.0)) scan refl

  source_root : (n : ℕ) (x : Exchange) (source root : ℕ) (o : Option TableDef) → SourceLaid plan n x source o root → IsRoot n root (Scan source)
  source_root n x source root None l = record { behind = omega (arith, l.0); tree = tree_from root (op.Scan source) [] l.1 (none_lower root) }
  source_root n x source root (Some table) l = table_root n x source table.mode (unwrap_or table.key []) root l

  -- ---- the tree

  -- a node with one input, over a local group or not
  one_root : (how : Unary) (input : Rel) (n : ℕ) (kinds_below : KindSet) (b : Bundles) (x : Exchange) (kinds : KindSet) (root : ℕ) (Laid : Exchange → ℕ → Type 0) → ((asks : Exchange) (below : ℕ) → Laid asks below → IsRoot n below input)
      → (local : Option Op) → local_below b how kinds_below ≡ local → OneLaid plan how local Laid x kinds root → IsRoot n root (One how input)
  one_root how input n kinds_below b x kinds root Laid below None e laid =
      let o = laid.2 in
      over_one n laid.0 root ((unary_way how).op plan.mini_batch) input (One how input) o.1 o.0 (below (unary_way how).asks laid.0 laid.1) (ap (λ r. tree_of r (input ∷ [])) (unary_fits plan how).told)
  one_root how input n kinds_below b x kinds root Laid below (Some local) e laid =
      let l = laid.3 in
      let o = laid.4 in
      let under : IsRoot n laid.1 input = over_one n laid.0 laid.1 local input input l.1 l.0 (below Forward laid.0 laid.2) (local_told b how kinds_below local input e) in
      over_one n laid.1 root ((unary_way how).op plan.mini_batch) input (One how input) o.1 o.0 under (ap (λ r. tree_of r (input ∷ [])) (unary_fits plan how).told)

  mutual
    tree_root : (two_phase : Bool) (rel : Rel) (n : ℕ) (x : Exchange) (root : ℕ) → IsLaid plan two_phase n x rel root → IsRoot n root rel
    tree_root two_phase (Scan source) n x root laid = source_root n x source root (slice_get plan.sources source) laid
    tree_root two_phase (One how input) n x root laid =
        one_root how input n (tree_kinds plan.sources input) (bundles_in plan two_phase) x (tree_kinds plan.sources (One how input)) root (λ asks below. IsLaid plan two_phase n asks input below)
        (λ asks below under. tree_root two_phase input n asks below under) (local_below (bundles_in plan two_phase) how (tree_kinds plan.sources input)) refl laid
    tree_root two_phase (Two how left right) n x root laid =
        over_two n laid.0 laid.1 root (binary_way how).op left right (Two how left right) laid.5 laid.4 (tree_root two_phase left n (binary_way how).left laid.0 laid.2)
        (tree_root two_phase right laid.0 (binary_way how).right laid.1 laid.3) (ap (λ r. tree_of r (left ∷ (right ∷ []))) (binary_fits plan how).told)
    tree_root two_phase (Many inputs) n x root laid =
        let all = trees_root two_phase inputs n laid.0 laid.1 laid.2 in
        let before = all.behind in
        record {
          behind = omega (arith, before, laid.3);
          tree = tree_from root op.Union laid.0 laid.4 (λ p l. let k = all.within p l in omega (arith, k, laid.3)) ∙ ap Many all.trees;
        }

    trees_root : (two_phase : Bool) (inputs : Rels) (n : ℕ) (roots : List ℕ) (last : ℕ) → AreLaid plan two_phase n inputs roots last → AreRoots n last roots inputs
    trees_root two_phase no_rels n roots last laid = subst (λ (rs : List ℕ). AreRoots n last rs no_rels) (sym laid.0) (record { behind = omega (arith, laid.1); within = none_lower (last + 1); trees = refl })
    trees_root two_phase (rel_and input inputs) n roots last laid =
        let first = tree_root two_phase input n Forward laid.0 laid.2 in
        let rest = trees_root two_phase inputs laid.0 laid.1 last laid.3 in
        let before = first.behind in
        let later = rest.behind in
        subst (λ (rs : List ℕ). AreRoots n last rs (rel_and input inputs)) (sym laid.4) (record {
          behind = omega (arith, before, later);
          within = more_lower (last + 1) laid.0 laid.1 (omega (arith, later)) rest.within;
          trees = λ i. rel_and (first.tree i) (rest.trees i);
        })

  -- what stands before the sink hands the tree on
  topped_root : (top : Top) (below root : ℕ) (rel : Rel) → IsRoot 0 below rel → TopLaid plan top below root → IsRoot 0 root rel
  topped_root bare below root rel tree between = subst (λ v. IsRoot 0 v rel) (sym between) tree
  topped_root (shown key) below root rel tree between = over_one 0 below root (op.Materialize key) rel rel between.1 between.0 tree refl

-- the keys that nodes say, and the modes of edges, don't matter
erased_stays : (plan : Plan) → erased (with_inferred plan) ≡ erased plan
erased_stays plan =
    let keys = (inferred_of plan).keys in
    let modes = (inferred_of plan).modes in
    ap (erased_at (with_inferred plan)) (nodes_many keys modes plan) ∙ ap (λ ws. at nothing (read_up (λ w below. tree_of (role w.op) below) nothing [] ws) (length plan.nodes)) (wires_keyed keys plan.nodes)

pub laid_plans_are_erased : LaidPlansAreErased
laid_plans_are_erased plan rel is =
    let out = lays_out plan rel is in
    let tree = tree_root plan is.two_phase rel 0 (asks_of is.top) out.below out.laid in
    let under = topped_root plan is.top out.below out.root rel tree out.topped in
    let sink = over_one plan 0 out.root (out.root + 1) op.Sink rel rel out.sink_node refl under refl in
    erased_stays plan ∙ ap (erased_at plan) out.nodes ∙ sink.tree

pub inferred_plans_answer : SoundPlansAnswer → InferredPlansAnswer
inferred_plans_answer answers plan rel is ruled rows result a =
    subst (λ (tree : Rel). answer (tables_with plan.sources rows) tree ≡ Some result) (laid_plans_are_erased plan rel is) (answers (with_inferred plan) ruled rows (length (with_inferred plan).nodes) result a)
