-- What a node of a laid tree asks of its inputs, by its operator.
use Rattle.std.specs.Prelude.{◌≡◌, ℕ, ◌<◌, ◌==◌, ◌&&◌, Bool, List, length, map, slice_get, slice_index_or, Option}
use Rattle.std.proofs.Common.{zero, suc, true, false, [], ◌∷◌, refl, sym, subst, ◌∙◌, arith, Some}
use Rattle.std.specs.List.{AllByRecursion}
use Rattle.std.proofs.lemmas.Bool.{and_parts}
use Rattle.ct_value.specs.declared.ty.ColTy.{ColTy}
use Rattle.ct_change.specs.declared.kind.KindSet.{KindSet}
use Rattle.phys_plan.specs.declared.edge.Edge.{Edge}
use Rattle.phys_plan.specs.declared.node.Node.{Node}
use Rattle.phys_plan.specs.declared.node.Op.{Op}
use Rattle.phys_plan.specs.declared.node.Op.TheVariants as op
use Rattle.phys_plan.specs.declared.plan.Plan.{Plan}
use Rattle.mode_infer.specs.declared.kinds.Flow.{Flow}
use Rattle.mode_infer.specs.Kinds.{asked, flow_of, flows, no_flow}
use Rattle.plan_inferred.specs.Rules.{by_columns}
use Rattle.plan_rules.specs.Plans.{kinds_in}
use Rattle.phys_plan.specs.Reading.{at, numbered, first_input, wires}
use Rattle.laid_plans.proofs.laws.LaidTrees.{HasNode}
use Rattle.plan_shape.specs.Shape.{is_sink, op_in, suits_consumer, suits_input, suits_plan, takes}
use Rattle.plan_check.specs.Types.{is_typed_by, types_at, types_by}
use Rattle.plan_rules.specs.Behaviours.{has_rule}
use Rattle.plan_rules.specs.Phases.{sends_parts}
use Rattle.plan_rules.specs.Roles.{Role, reads_table, one_of, two_of, all_of, same_as, part_of, not_told, role}
use Rattle.plan_rules.proofs.laws.Numbers.{read_at}
use Rattle.sound_plans.proofs.laws.Columns.{types_made}

module _ (plan : Plan) where
  -- ---- what a node asks

  -- of the node and the edge that feed a port
  pub record IsFed (o : Op) (port input : ℕ) : Type 0 where
    pub node : Node
    pub is_node : numbered plan.nodes input ≡ Some node
    pub suits : suits_consumer plan.sources node.op (Some o) ≡ true
    pub edge : Edge
    pub is_edge : numbered plan.edges input ≡ Some edge
    pub exchanged : by_columns (asked o port) ≡ edge.exchange

  -- what goes over the edge of a node, as long as no edge leaves out old rows
  abbrev pub flow_at : ℕ → Flow
  flow_at v = at no_flow (flows plan.sources (wires plan.nodes)) v

  -- of all its inputs and of the plan; below a local group the edge says what goes over it
  pub record OpMeets (v : ℕ) (o : Op) (inputs : List ℕ) : Type 0 where
    pub ruled : has_rule o ≡ true
    pub keeps : sends_parts o ≡ true → (flow_at (first_input inputs)).sent ≡ kinds_in (numbered plan.edges (first_input inputs))
    pub suits : suits_plan plan o ≡ true
    pub ports : takes o (length inputs) ≡ true
    pub below : suits_input plan.sources o (op_in (numbered plan.nodes (first_input inputs))) (kinds_in (numbered plan.edges (first_input inputs))) ≡ true
    pub last : is_sink (Some o) ≡ (v == length plan.nodes)
    pub typed : is_typed_by plan.sink o (types_at plan.sources plan.nodes v) ≡ true
    pub fed : (port input : ℕ) → slice_get inputs port ≡ Some input → IsFed o port input

  pub record NodeMeets (v : ℕ) : Type 0 where
    pub node : Node
    pub is_node : numbered plan.nodes v ≡ Some node
    pub meets : OpMeets v node.op node.inputs

  -- a node whose operator and inputs are known
  pub node_meets : (v : ℕ) (o : Op) (inputs : List ℕ) → HasNode plan v o inputs → OpMeets v o inputs → NodeMeets v
  node_meets v o inputs has m = record {
    node = has.node;
    is_node = has.is_there;
    meets = subst (λ (ins : List ℕ). OpMeets v has.node.op ins) (sym has.inputs_are) (subst (λ (p : Op). OpMeets v p inputs) (sym has.is_op) m);
  }

  -- ---- columns

  -- the columns of a node whose operator and inputs are known
  pub types_from : (v : ℕ) (o : Op) (inputs : List ℕ) → HasNode plan v o inputs → AllByRecursion (λ input. input < v) inputs
      → types_at plan.sources plan.nodes v ≡ types_by plan.sources o (map (types_at plan.sources plan.nodes) inputs)
  types_from v o inputs has below =
      types_made plan.sources plan.nodes v has.node has.is_there (subst (λ (ins : List ℕ). AllByRecursion (λ input. input < v) ins) (sym has.inputs_are) below)
      ∙ (λ i. types_by plan.sources (has.is_op i) (map (types_at plan.sources plan.nodes) (has.inputs_are i)))

  -- ---- flows

  lower_at : (v : ℕ) (inputs : List ℕ) → AllByRecursion (λ input. input < v) inputs → (p : ℕ) → p < length inputs → slice_index_or inputs p 0 < v
  lower_at v [] h p l = absurd (omega (arith, l))
  lower_at v (input ∷ inputs) h zero l = h.0
  lower_at v (input ∷ inputs) h (suc p) l = lower_at v inputs h.1 p (omega (arith, l))

  -- what goes over the edge of a node whose operator and inputs are known
  pub flow_from : (v : ℕ) (o : Op) (inputs : List ℕ) → HasNode plan v o inputs → AllByRecursion (λ input. input < v) inputs → flow_at v ≡ flow_of plan.sources o (map flow_at inputs)
  flow_from v o inputs has below =
      read_at (λ w. flow_of plan.sources w.op) no_flow plan.nodes v has.node has.is_there (lower_at v has.node.inputs (subst (λ (ins : List ℕ). AllByRecursion (λ input. input < v) ins) (sym has.inputs_are) below))
      ∙ (λ i. flow_of plan.sources (has.is_op i) (map flow_at (has.inputs_are i)))

  -- ---- operators that ask nothing of the tables

  -- such an operator stands on any node, feeds any, and is the sink of none
  pub record IsInner (o : Op) : Type 0 where
    pub ruled : has_rule o ≡ true
    pub whole : sends_parts o ≡ false
    pub suits : suits_plan plan o ≡ true
    pub below : (input : Option Op) (kinds : KindSet) → suits_input plan.sources o input kinds ≡ true
    pub no_sink : is_sink (Some o) ≡ false
    pub typed : (columns : List ColTy) → is_typed_by plan.sink o (Some columns) ≡ true
    pub feeds : (above : Option Op) → suits_consumer plan.sources o above ≡ true

  -- all operators that are laid but scans, normalizers and the sink, where the plan's bundles suit them
  abbrev pub is_made : Role → Bool
  is_made (reads_table source) = false
  is_made (one_of how) = true
  is_made (two_of how) = true
  is_made all_of = true
  is_made same_as = false
  is_made (part_of keys aggs) = false
  is_made (not_told so_many) = false

  abbrev pub is_inner : Op → Bool
  is_inner o = has_rule o && (is_made (role o) && suits_plan plan o)

  asks_nothing : (o : Op) → is_inner o ≡ true → has_rule o ≡ true → IsInner o
  asks_nothing (op.Scan source) e r = absurd (cc)
  asks_nothing (op.Normalize key) e r = absurd (cc)
  asks_nothing (op.BatchGroup keys aggs) e r = record { ruled = r; whole = refl; suits = e; below = λ input kinds. refl; no_sink = refl; typed = λ columns. refl; feeds = λ above. refl }
  asks_nothing (op.Materialize key) e r = absurd (cc)
  asks_nothing (op.LocalGroup keys aggs) e r = absurd (cc)
  asks_nothing op.Sink e r = absurd (cc)
  asks_nothing _ e r = record { ruled = r; whole = refl; suits = refl; below = λ input kinds. refl; no_sink = refl; typed = λ columns. refl; feeds = λ above. refl }

  -- these ask nothing
  pub inner : (o : Op) → is_inner o ≡ true → IsInner o
  inner o e = asks_nothing o e (and_parts (has_rule o) (is_made (role o) && suits_plan plan o) e).0
