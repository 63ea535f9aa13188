-- The plan of a tree that calculates nothing calculates nothing, whatever is inferred of it.
use Rattle.std.specs.Prelude.{◌≡◌, ℕ, ◌+◌, ◌≤◌, Bool, ◌&&◌, cond, List, slice_get, Option, unwrap_or}
use Rattle.std.proofs.Common.{zero, suc, true, false, [], ◌∷◌, refl, sym, ap, subst, ◌∙◌, arith, Some, None, inl, inr}
use Rattle.std.specs.List.{list_all}
use Rattle.std.proofs.lemmas.Bool.{and_parts, and_from}
use Rattle.ct_change.specs.declared.kind.Declared.{Declared}
use Rattle.ct_change.specs.declared.kind.Declared.TheVariants.{Append, Retract, Upsert}
use Rattle.ct_change.specs.declared.kind.KindSet.{KindSet}
use Rattle.ct_change.specs.Changelog.{kinds_of, upsert}
use Rattle.ct_catalog.specs.declared.table.TableDef.{TableDef}
use Rattle.mode_infer.specs.Kinds.{inserts}
use Rattle.range_rules.specs.Tame.{is_tame_rel, are_tame_rels, is_tame_unary}
use Rattle.rel_algebra.specs.Rel.{Unary, filter_by, project_on, group_by, rank_in, Rel, Rels, Scan, One, Two, Many, no_rels, rel_and}
use Rattle.phys_plan.specs.declared.edge.Exchange.{Exchange}
use Rattle.phys_plan.specs.declared.edge.Exchange.TheVariants.{Forward}
use Rattle.phys_plan.specs.declared.node.KeyInfo.{KeyInfo}
use Rattle.phys_plan.specs.declared.node.Op.{Op}
use Rattle.phys_plan.specs.declared.node.Op.TheVariants as op
use Rattle.phys_plan.specs.declared.node.Node.{Node}
use Rattle.phys_plan.specs.declared.plan.Plan.{Plan}
use Rattle.upsert_keys.specs.Keys.{keyed_from}
use Rattle.phys_plan.specs.Reading.{numbered}
use Rattle.laid_plans.proofs.laws.LaidTrees.{HasNode, IsOver, ScanLaid, SourceLaid, OneLaid, IsLaid, AreLaid, TopLaid}
use Rattle.plan_rules.specs.Phases.{Bundles, in_phases, local_below}
use Rattle.plan_rules.specs.TreeKinds.{tree_kinds}
use Rattle.laid_plans.specs.Shapes.{bundles_in}
use Rattle.plan_rules.specs.Pieces.{Top, bare, shown, asks_of}
use Rattle.plan_rules.specs.Roles.{unary_way, binary_way}
use Rattle.plan_check.specs.Sound.{inferred_of}
use Rattle.laid_plans.proofs.laws.Placed.{lays_out}
use Rattle.laid_plans.proofs.laws.Trees.{unary_fits, binary_fits}
use Rattle.sound_plans.proofs.laws.Lists.{the_same, within}
use Rattle.sound_plans.proofs.laws.Numbers.{side}
use Rattle.run_laws.specs.Runs.{TreesHaveTamePlans}
use Rattle.sound_plans.specs.TameOps.{is_tame_op, is_tame_role}

-- ---- operators

-- a local group counts or chooses as the group above it
local_tame : (how : Unary) → is_tame_unary how ≡ true → (b : Bundles) (kinds : KindSet) (o : Op) → local_below b how kinds ≡ Some o → is_tame_op o ≡ true
local_tame (group_by keys aggs) tame b kinds o e = go (in_phases b keys aggs kinds) e
  where
    the_same_op : Some (op.LocalGroup keys aggs) ≡ Some o → op.LocalGroup keys aggs ≡ o
    the_same_op is = cc (is)

    go : (c : Bool) → cond c (Some (op.LocalGroup keys aggs)) None ≡ Some o → is_tame_op o ≡ true
    go true is = ap is_tame_op (sym (the_same_op is)) ∙ tame
    go false is = absurd (cc)
local_tame (filter_by condition) tame b kinds o e = absurd (cc)
local_tame (project_on items) tame b kinds o e = absurd (cc)
local_tame (rank_in partition order bound ranked) tame b kinds o e = absurd (cc)

-- ---- nodes

module _ (plan : Plan) where
  abbrev TameAt : ℕ → Type 0
  TameAt v = (node : Node) → numbered plan.nodes v ≡ Some node → is_tame_op node.op ≡ true

  -- the nodes up to the last calculate nothing
  abbrev TameUpTo : ℕ → Type 0
  TameUpTo last = (v : ℕ) → v ≤ last → TameAt v

  no_nodes : TameUpTo 0
  no_nodes zero l node e = absurd (cc)
  no_nodes (suc v) l node e = absurd (omega arith)

  -- a node behind the last
  more : (last root : ℕ) → TameUpTo last → root ≡ last + 1 → TameAt root → TameUpTo root
  more last root before next here v l = elim (side v last) [ inl low ↦ before v low | inr high ↦ subst TameAt (let e : root ≡ v = omega arith in e) here ]

  at_node : (v : ℕ) (o : Op) (inputs : List ℕ) → HasNode plan v o inputs → is_tame_op o ≡ true → TameAt v
  at_node v o inputs has tame node e = ap (λ (x : Node). is_tame_op x.op) (the_same node has.node (sym e ∙ has.is_there)) ∙ ap is_tame_op has.is_op ∙ tame

  scan_tame : (n : ℕ) (x : Exchange) (source : ℕ) (mode : Declared) (key : List ℕ) (root : ℕ) → TameUpTo n → ScanLaid plan n x source mode key root → TameUpTo root
  scan_tame n x source Append key root before laid = more n root before laid.0 (at_node root (op.Scan source) [] laid.1 refl)
  scan_tame n x source Retract key root before laid = more n root before laid.0 (at_node root (op.Scan source) [] laid.1 refl)
  scan_tame n x source Upsert key root before laid =
      let next = laid.0 in
      more (n + 1) root (more n (n + 1) before refl (at_node (n + 1) (op.Scan source) [] laid.1 refl)) (omega arith)
      (at_node root (op.Normalize key) ((n + 1) ∷ []) laid.3 refl)

  source_tame : (n : ℕ) (x : Exchange) (source : ℕ) (o : Option TableDef) (root : ℕ) → TameUpTo n → SourceLaid plan n x source o root → TameUpTo root
  source_tame n x source None root before laid = more n root before laid.0 (at_node root (op.Scan source) [] laid.1 refl)
  source_tame n x source (Some table) root before laid = scan_tame n x source table.mode (unwrap_or table.key []) root before laid

  -- a node behind its only input
  over_tame : (below root : ℕ) (o : Op) (x : Exchange) (kinds : KindSet) → TameUpTo below → is_tame_op o ≡ true → IsOver plan below o root x kinds → TameUpTo root
  over_tame below root o x kinds before tame laid = more below root before laid.0 (at_node root o (below ∷ []) laid.1 tame)

  one_tame : (how : Unary) → is_tame_unary how ≡ true → (n : ℕ) (Laid : Exchange → ℕ → Type 0) → ((asks : Exchange) (below : ℕ) → Laid asks below → TameUpTo below)
      → (local : Option Op) → ((o : Op) → local ≡ Some o → is_tame_op o ≡ true) → (x : Exchange) (kinds : KindSet) (root : ℕ) → OneLaid plan how local Laid x kinds root → TameUpTo root
  one_tame how tame n Laid under None locals x kinds root laid =
      over_tame laid.0 root ((unary_way how).op plan.mini_batch) x kinds (under (unary_way how).asks laid.0 laid.1) (ap is_tame_role (unary_fits plan how).told ∙ tame) laid.2
  one_tame how tame n Laid under (Some local) locals x kinds root laid =
      over_tame laid.1 root ((unary_way how).op plan.mini_batch) x kinds
      (over_tame laid.0 laid.1 local (unary_way how).asks inserts (under Forward laid.0 laid.2) (locals local refl) laid.3)
      (ap is_tame_role (unary_fits plan how).told ∙ tame) laid.4

  mutual
    tree_tame : (two_phase : Bool) (rel : Rel) → is_tame_rel rel ≡ true → (n : ℕ) (x : Exchange) (root : ℕ) → TameUpTo n → IsLaid plan two_phase n x rel root → TameUpTo root
    tree_tame two_phase (Scan source) tame n x root before laid = source_tame n x source (slice_get plan.sources source) root before laid
    tree_tame two_phase (One how input) tame n x root before laid =
        let p = and_parts _ _ tame in
        one_tame how p.1 n (λ asks below. IsLaid plan two_phase n asks input below) (λ asks below under. tree_tame two_phase input p.0 n asks below before under)
        (local_below (bundles_in plan two_phase) how (tree_kinds plan.sources input)) (λ o is. local_tame how p.1 (bundles_in plan two_phase) (tree_kinds plan.sources input) o is) x (tree_kinds plan.sources (One how input)) root laid
    tree_tame two_phase (Two how left right) tame n x root before laid =
        let p = and_parts _ _ tame in
        let q = and_parts _ _ p.1 in
        let first = tree_tame two_phase left p.0 n (binary_way how).left laid.0 before laid.2 in
        more laid.1 root (tree_tame two_phase right q.0 laid.0 (binary_way how).right laid.1 first laid.3) laid.4
        (at_node root (binary_way how).op (laid.0 ∷ (laid.1 ∷ [])) laid.5 (ap is_tame_role (binary_fits plan how).told ∙ q.1))
    tree_tame two_phase (Many inputs) tame n x root before laid =
        more laid.1 root (trees_tame two_phase inputs tame n laid.0 laid.1 before laid.2) laid.3 (at_node root op.Union laid.0 laid.4 refl)

    trees_tame : (two_phase : Bool) (inputs : Rels) → are_tame_rels inputs ≡ true → (n : ℕ) (roots : List ℕ) (last : ℕ) → TameUpTo n → AreLaid plan two_phase n inputs roots last → TameUpTo last
    trees_tame two_phase no_rels tame n roots last before laid = subst TameUpTo (sym laid.1) before
    trees_tame two_phase (rel_and input inputs) tame n roots last before laid =
        let p = and_parts _ _ tame in
        trees_tame two_phase inputs p.1 laid.0 laid.1 last (tree_tame two_phase input p.0 n Forward laid.0 before laid.2) laid.3

  -- what stands before the sink
  topped_tame : (top : Top) (below root : ℕ) → TameUpTo below → TopLaid plan top below root → TameUpTo root
  topped_tame bare below root before between = subst TameUpTo (sym between) before
  topped_tame (shown key) below root before between = over_tame below root (op.Materialize key) Forward (kinds_of (upsert key)) before refl between

-- ---- the plan

each_tame : (nodes : List Node) → ((n : ℕ) (node : Node) → slice_get nodes n ≡ Some node → is_tame_op node.op ≡ true) → list_all (λ node. is_tame_op node.op) nodes ≡ true
each_tame [] h = refl
each_tame (node ∷ nodes) h = and_from (is_tame_op node.op) _ (h 0 node refl) (each_tame nodes (λ n other e. h (suc n) other e))

-- keys that are inferred change no operator
keeps : (table : List KeyInfo) (v : ℕ) (nodes : List Node) → list_all (λ node. is_tame_op node.op) (keyed_from v table nodes) ≡ list_all (λ node. is_tame_op node.op) nodes
keeps table v [] = refl
keeps table v (node ∷ nodes) = ap (λ b. is_tame_op node.op && b) (keeps table (v + 1) nodes)

pub trees_have_tame_plans : TreesHaveTamePlans
trees_have_tame_plans plan rel is tame =
    let out = lays_out plan rel is in
    let tree = tree_tame plan is.two_phase rel tame 0 (asks_of is.top) out.below (no_nodes plan) out.laid in
    let under = topped_tame plan is.top out.below out.root tree out.topped in
    let all = more plan out.root (out.root + 1) under refl (at_node plan (out.root + 1) op.Sink (out.root ∷ []) out.sink_node refl) in
    let count = out.nodes in
    keeps (inferred_of plan).keys 1 plan.nodes
    ∙ each_tame plan.nodes (λ n node e. all (suc n) (let l = within plan.nodes n node e in omega arith) node e)
