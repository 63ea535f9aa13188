-- The nodes of a plan that is laid of a tree, by their numbers: each lies behind its inputs.
use Rattle.std.specs.Prelude.{◌≡◌, ℕ, ◌+◌, Bool, List, [], ◌∷◌, length, slice_get, Option, Some, None, unwrap_or}
use Rattle.ct_change.specs.declared.kind.Declared.{Declared}
use Rattle.ct_change.specs.declared.kind.Declared.TheVariants.{Append, Retract, Upsert}
use Rattle.ct_change.specs.declared.kind.KindSet.{KindSet}
use Rattle.ct_change.specs.Changelog.{append, retract, upsert, kinds_of}
use Rattle.ct_catalog.specs.declared.table.TableDef.{TableDef}
use Rattle.rel_algebra.specs.Rel.{Unary, Rel, Rels, Scan, One, Two, Many, no_rels, rel_and}
use Rattle.phys_plan.specs.declared.edge.Exchange.{Exchange}
use Rattle.phys_plan.specs.declared.edge.Exchange.TheVariants.{Forward, Hash}
use Rattle.ct_change.specs.declared.update.Update.{Update}
use Rattle.ct_change.specs.declared.update.Update.TheVariants.{Absent, After, Both}
use Rattle.phys_plan.specs.declared.node.Op.{Op}
use Rattle.phys_plan.specs.declared.node.Op.TheVariants as op
use Rattle.phys_plan.specs.declared.node.Node.{Node}
use Rattle.phys_plan.specs.declared.plan.Plan.{Plan}
use Rattle.phys_plan.specs.Reading.{numbered, no_keys}
use Rattle.mode_infer.specs.Kinds.{inserts, no_kinds}
use Rattle.plan_rules.specs.Phases.{local_below}
use Rattle.plan_rules.specs.Pieces.{Top, bare, shown, asks_of}
use Rattle.plan_rules.specs.Roles.{unary_way, binary_way}
use Rattle.plan_rules.specs.TreeKinds.{tree_kinds}
use Rattle.laid_plans.specs.Shapes.{bundles_in}

-- ---- nodes and edges

module _ (plan : Plan) where
  -- the node of a number, with its operator and the numbers of its inputs
  pub record HasNode (v : ℕ) (o : Op) (inputs : List ℕ) : Type 0 where
    pub node : Node
    pub is_there : numbered plan.nodes v ≡ Some node
    pub is_op : node.op ≡ o
    pub inputs_are : node.inputs ≡ inputs
    pub keyless : node.keys ≡ no_keys

  abbrev pub HasEdge : ℕ → Exchange → KindSet → Update → Type 0
  HasEdge v exchange kinds update = numbered plan.edges v ≡ Some (record { exchange = exchange; kinds = kinds; update = update })

  -- the edge carries these kinds, and both rows of an update
  abbrev pub Carries : ℕ → Exchange → KindSet → Type 0
  Carries v exchange kinds = HasEdge v exchange kinds Both

  -- a node behind its only input
  abbrev pub IsOver : ℕ → Op → ℕ → Exchange → KindSet → Type 0
  IsOver below o v exchange kinds = (v ≡ below + 1) × HasNode v o (below ∷ []) × Carries v exchange kinds

  -- ---- a tree behind n nodes, up to its root, whose consumer asks for an exchange

  -- a table is scanned; an upsert table is also normalized by its key
  abbrev pub ScanLaid : ℕ → Exchange → ℕ → Declared → List ℕ → ℕ → Type 0
  ScanLaid n exchange source Append key root = (root ≡ n + 1) × HasNode root (op.Scan source) [] × Carries root exchange (kinds_of append)
  ScanLaid n exchange source Retract key root = (root ≡ n + 1) × HasNode root (op.Scan source) [] × Carries root exchange (kinds_of retract)
  ScanLaid n exchange source Upsert key root =
      (root ≡ n + 2) × HasNode (n + 1) (op.Scan source) [] × HasEdge (n + 1) (Hash key) (kinds_of (upsert key)) (After key)
      × HasNode root (op.Normalize key) ((n + 1) ∷ []) × Carries root exchange (kinds_of retract)

  -- one that isn't there is scanned like another
  abbrev pub SourceLaid : ℕ → Exchange → ℕ → Option TableDef → ℕ → Type 0
  SourceLaid n exchange source None root = (root ≡ n + 1) × HasNode root (op.Scan source) [] × Carries root exchange no_kinds
  SourceLaid n exchange source (Some table) root = ScanLaid n exchange source table.mode (unwrap_or table.key []) root

  -- a node with one input, which is laid so, over a local group or not
  abbrev pub OneLaid : Unary → Option Op → (Exchange → ℕ → Type 0) → Exchange → KindSet → ℕ → Type 0
  OneLaid how None Laid exchange kinds root = (below : ℕ) × Laid (unary_way how).asks below × IsOver below ((unary_way how).op plan.mini_batch) root exchange kinds
  OneLaid how (Some local) Laid exchange kinds root =
      (below mid : ℕ) × Laid Forward below × IsOver below local mid (unary_way how).asks inserts × IsOver mid ((unary_way how).op plan.mini_batch) root exchange kinds

  abbrev mutual
    pub IsLaid : Bool → ℕ → Exchange → Rel → ℕ → Type 0
    IsLaid two_phase n exchange (Scan source) root = SourceLaid n exchange source (slice_get plan.sources source) root
    IsLaid two_phase n exchange (One how input) root =
        OneLaid how (local_below (bundles_in plan two_phase) how (tree_kinds plan.sources input)) (λ asks below. IsLaid two_phase n asks input below) exchange (tree_kinds plan.sources (One how input)) root
    -- the right side lies behind the left
    IsLaid two_phase n exchange (Two how left right) root =
        (first : ℕ) × (second : ℕ) × IsLaid two_phase n (binary_way how).left left first × IsLaid two_phase first (binary_way how).right right second
        × (root ≡ second + 1) × HasNode root (binary_way how).op (first ∷ (second ∷ [])) × Carries root exchange (tree_kinds plan.sources (Two how left right))
    IsLaid two_phase n exchange (Many inputs) root =
        (roots : List ℕ) × (below : ℕ) × AreLaid two_phase n inputs roots below × (root ≡ below + 1) × HasNode root op.Union roots × Carries root exchange (tree_kinds plan.sources (Many inputs))

    -- several trees behind one another, with their roots, up to the last
    pub AreLaid : Bool → ℕ → Rels → List ℕ → ℕ → Type 0
    AreLaid two_phase n no_rels roots last = (roots ≡ []) × (last ≡ n)
    AreLaid two_phase n (rel_and input inputs) roots last =
        (root : ℕ) × (others : List ℕ) × IsLaid two_phase n Forward input root × AreLaid two_phase root inputs others last × (roots ≡ root ∷ others)

  -- between a tree's root and the sink's input: nothing, or a materializer
  abbrev pub TopLaid : Top → ℕ → ℕ → Type 0
  TopLaid bare below root = root ≡ below
  TopLaid (shown key) below root = IsOver below (op.Materialize key) root Forward (kinds_of (upsert key))

  -- the plan of the tree: the tree, what stands before the sink, and behind it the sink
  pub record LaysOut (two_phase : Bool) (top : Top) (rel : Rel) : Type 0 where
    pub below : ℕ
    pub laid : IsLaid two_phase 0 (asks_of top) rel below
    pub root : ℕ
    pub topped : TopLaid top below root
    pub sink_node : HasNode (root + 1) op.Sink (root ∷ [])
    pub sink_edge : HasEdge (root + 1) Forward (kinds_of retract) Absent
    pub nodes : length plan.nodes ≡ root + 1
    pub edges : length plan.edges ≡ root + 1
