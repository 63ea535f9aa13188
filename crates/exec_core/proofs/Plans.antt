-- What is asked of the nodes of a sound plan so that it opens.
use Rattle.std.specs.Prelude.{◌≡◌, ℕ, ◌<◌, ◌≤◌, ◌^◌, ◌==◌, ◌&&◌, nat_le, cond, max, List, length, take, slice_get, Option}
use Rattle.std.proofs.Common.{zero, suc, true, [], ◌∷◌, refl, sym, ap, subst, ◌∙◌, arith, Some, None}
use Rattle.std.specs.List.{All}
use Rattle.std.proofs.lemmas.Bool.{leb-true}
use Rattle.std.proofs.lemmas.List.{length-take-le}
use Rattle.std.proofs.lemmas.List.Elements.{All-from_recursion}
use Rattle.ct_value.specs.declared.ty.ColTy.{ColTy}
use Rattle.phys_plan.specs.declared.edge.Edge.{Edge as PlanEdge}
use Rattle.phys_plan.specs.declared.edge.Exchange.TheVariants.{Hash}
use Rattle.phys_plan.specs.declared.node.Node.{Node}
use Rattle.phys_plan.specs.declared.node.Op.{Op}
use Rattle.phys_plan.specs.declared.node.Op.TheVariants as op
use Rattle.phys_plan.specs.declared.plan.Plan.{Plan}
use Rattle.mode_infer.specs.Kinds.{asked}
use Rattle.mode_infer.specs.Updates.{is_input}
use Rattle.column_sets.specs.Places.{first_columns}
use Rattle.plan_inferred.specs.Rules.{by_columns, consumer}
use Rattle.plan_rules.specs.Plans.{HasShape, spread_of}
use Rattle.phys_plan.specs.Reading.{numbered}
use Rattle.ct_catalog.specs.Columns.{column_types}
use Rattle.plan_rules.specs.Columns.{columns_at}
use Rattle.plan_shape.specs.Shape.{has_nodes, has_sizes, is_shaped, is_up_to, is_whole, most_bundled, most_nodes, most_subtasks, takes as ports_of}
use Rattle.plan_shape.specs.Shaped.{MeetsShape}
use Rattle.plan_shape.specs.Tables.{are_tables}
use Rattle.sound_plans.proofs.laws.Widths.{first_within}
use Rattle.sound_plans.specs.Sound.{IsRuled, SoundPlansAreWired, SoundPlansMeetFacts, SoundPlansSuit, SoundPortsTake}
use Rattle.sound_plans.proofs.laws.Agreed as agreed
use Rattle.sound_plans.proofs.laws.Consumers.{by_test}
use Rattle.sound_plans.specs.Promises.{Laws}
use Rattle.sound_plans.proofs.laws.Lists.{both, found, is_somewhere, of_each, the_same, within}
use Rattle.sound_plans.proofs.laws.Local as local
use Rattle.sound_plans.proofs.laws.SentTypes.{ColumnsHaveTypes, sent_types_exist}
use Rattle.sound_plans.proofs.laws.Outputs.{edge_or}
use Rattle.sound_plans.proofs.laws.Shapes as shapes
use Rattle.sound_plans.proofs.laws.Asked.{AsksFor, keys_there}
use Rattle.sound_plans.proofs.laws.EachNode.{asks, proper_inputs}
use Rattle.typing_laws.specs.Exist.{Exist}
use Rattle.session_open.specs.Opening.{AreRoutable, IsExchange, spread_types, types_by}
use Rattle.exec_core.specs.Opening.{PlansOpen}
use Rattle.exec_core.proofs.Tables.{routable, table_routable}
use Rattle.exec_core.proofs.Ports.{few_once}

-- the consumer of an edge is a node that has it among its inputs
consumer_there : (v : ℕ) (nodes : List Node) (node : Node) → consumer v nodes ≡ Some node → (n : ℕ) × (slice_get nodes n ≡ Some node) × (is_input v node.inputs ≡ true)
consumer_there v [] node e = absurd (cc)
consumer_there v (first ∷ nodes) node e =
    by_test (is_input v first.inputs)
    (λ t.
    let same : first ≡ node = the_same first node (sym (ap (λ b. cond b (Some first) (consumer v nodes)) t) ∙ e) in
    (0, ap (λ x. Some x) same, sym (ap (λ (x : Node). is_input v x.inputs) same) ∙ t))
    (λ f. let later = consumer_there v nodes node (sym (ap (λ b. cond b (Some first) (consumer v nodes)) f) ∙ e) in (suc later.0, later.1, later.2))

module _ (types : ColumnsHaveTypes) (laws : Laws) (plan : Plan) (ruled : IsRuled plan) where
  meets : MeetsShape plan
  meets = agreed.meets laws plan ruled

  pub shape : HasShape plan
  shape = shapes.shape plan meets laws.shaped

  abbrev columns_of : ℕ → List ColTy
  columns_of v = columns_at plan.sources plan.nodes v

  -- ---- sizes

  sizes : has_sizes plan ≡ true
  sizes =
      let high : 1 ≤ max 1 (length plan.nodes) = omega arith in
      let whole = (both (is_whole plan) (is_shaped plan 1 (numbered plan.nodes 1)) (meets 1 (omega arith) high)).0 in
      (both (has_sizes plan) (are_tables (plan.sink ∷ plan.sources)) whole).0

  pub few : length plan.nodes ≤ 128
  few =
      let counted = (both (has_nodes plan) (nat_le plan.mini_batch most_bundled && is_up_to most_subtasks plan.parallelism) sizes).0 in
      let nodes = (both (is_up_to most_nodes (length plan.nodes)) (length plan.edges == length plan.nodes) counted).0 in
      leb-true (length plan.nodes) most_nodes (both (nat_le 1 (length plan.nodes)) (nat_le (length plan.nodes) most_nodes) nodes).1

  pub narrow : plan.parallelism ≤ 16
  narrow =
      let others = (both (has_nodes plan) (nat_le plan.mini_batch most_bundled && is_up_to most_subtasks plan.parallelism) sizes).1 in
      let subtasks = (both (nat_le plan.mini_batch most_bundled) (is_up_to most_subtasks plan.parallelism) others).1 in
      leb-true plan.parallelism most_subtasks (both (nat_le 1 plan.parallelism) (nat_le plan.parallelism most_subtasks) subtasks).1

  -- ---- nodes and edges

  pub every_node : (P : Node → Type 0) → ((v : ℕ) (node : Node) → numbered plan.nodes v ≡ Some node → P node) → All P plan.nodes
  every_node P f = All-from_recursion P plan.nodes (of_each P plan.nodes (λ n node e. f (suc n) node e))

  node_of : (v : ℕ) (edge : PlanEdge) → numbered plan.edges v ≡ Some edge → (node : Node) × (numbered plan.nodes v ≡ Some node)
  node_of zero edge e = absurd (cc)
  node_of (suc n) edge e = let there = within plan.edges n edge e in let many = shapes.edges_many plan meets laws.shaped in found plan.nodes n (omega (arith, there, many))

  before : (v : ℕ) (node : Node) (p input : ℕ) → numbered plan.nodes v ≡ Some node → slice_get node.inputs p ≡ Some input → shapes.IsBefore plan meets laws.shaped v input
  before v node p input e h = (shapes.input_there plan meets laws.shaped v node p input e h).1

  -- an input feeds one port, so that there are no more ports than nodes before
  pub ports : (v : ℕ) (node : Node) → numbered plan.nodes v ≡ Some node → length node.inputs < 2 ^ 32
  ports v node e =
      let below = of_each (λ input. input < v) node.inputs (λ p input h. (before v node p input e h).2) in
      let ports_few = few_once v node.inputs below (λ p q input h k. shapes.port_once plan meets laws.shaped v node p q input e h k) in
      let last = (shapes.among plan.nodes v node e).few in
      let nodes_few = few in
      omega (arith, ports_few, last, nodes_few)

  -- ---- types

  exist : (v : ℕ) → Exist (columns_of v)
  exist v = sent_types_exist types plan ruled v

  -- ---- exchanges

  -- an input is asked for by columns that it has, whose types exist
  asked_there : (input : ℕ) (columns : Option (List ℕ)) → AsksFor plan input columns → IsExchange (columns_of input) (by_columns columns)
  asked_there input None asks = tt
  asked_there input (Some columns) asks = routable (columns_of input) columns asks (exist input)

  goes : (v : ℕ) (node : Node) → numbered plan.nodes v ≡ Some node → (o : Option Node) → consumer v plan.nodes ≡ o → IsExchange (columns_of v) (edge_or (numbered plan.edges v)).exchange
  goes v node e None is = subst (λ x. IsExchange (columns_of v) x) (sym (local.forwards_alone laws plan ruled v node e is)) tt
  goes v node e (Some above) is =
      let has = consumer_there v plan.nodes above is in
      let w = suc has.0 in
      let p = is_somewhere v above.inputs has.2 in
      subst (λ x. IsExchange (columns_of v) x) (sym (local.exchanged laws plan ruled w above p.0 v has.1 p.1))
      (asked_there v (asked above.op p.0) (asks laws plan ruled w above p.0 v has.1 p.1))

  pub exchanged : (v : ℕ) (edge : PlanEdge) → numbered plan.edges v ≡ Some edge → IsExchange (columns_of v) edge.exchange
  exchanged v edge there =
      let node = node_of v edge there in
      subst (λ x. IsExchange (columns_of v) x) (ap (λ o. (edge_or o).exchange) there) (goes v node.0 node.1 (consumer v plan.nodes) refl)

  -- partial rows are spread by the types of their keys
  few_exist : (n : ℕ) (columns : List ColTy) → Exist columns → Exist (take n columns)
  few_exist zero columns h = tt
  few_exist (suc n) [] h = tt
  few_exist (suc n) (column ∷ columns) h = (h.0, few_exist n columns h.1)

  spread_op : (v : ℕ) (edge : PlanEdge) → numbered plan.edges v ≡ Some edge → (node : Node) → numbered plan.nodes v ≡ Some node → (o : Op) → node.op ≡ o → IsExchange (types_by o (columns_of v)) edge.exchange
  spread_op v edge there node is (op.LocalGroup keys aggs) own =
      let i = agreed.one_input laws plan ruled v node is (λ n. ap (λ x. ports_of x n) own) in
      let agrees = agreed.local_agrees laws plan ruled v node keys aggs i.0 is own i.1 (agreed.under_there laws plan ruled v node keys aggs is own) (proper_inputs laws plan ruled v node is) in
      let same : columns_of i.0 ≡ columns_of v = the_same (columns_of i.0) (columns_of v) agrees.agrees.typed in
      let few : keys ≤ length (columns_of v) = subst (λ (c : List ColTy). keys ≤ length c) same (keys_there keys (columns_of i.0) aggs agrees.made agrees.grouped) in
      let goes : edge.exchange ≡ Hash (first_columns keys) = sym (ap (λ o. (edge_or o).exchange) there) ∙ agrees.exchanged in
      let many : length (take keys (columns_of v)) ≡ keys = length-take-le keys (columns_of v) few in
      subst (λ x. IsExchange (take keys (columns_of v)) x) (sym goes)
      (routable (take keys (columns_of v)) (first_columns keys) (first_within keys (length (take keys (columns_of v))) (omega (arith, many))) (few_exist keys (columns_of v) (exist v)))
  spread_op v edge there node is _ own = exchanged v edge there

  pub spread_by : (v : ℕ) (edge : PlanEdge) → numbered plan.edges v ≡ Some edge → (o : Option Node) → numbered plan.nodes v ≡ o → IsExchange (spread_types o (columns_of v)) edge.exchange
  spread_by v edge there None is = exchanged v edge there
  spread_by v edge there (Some node) is = spread_op v edge there node is node.op refl

-- ---- the plan

pub plans_open : ColumnsHaveTypes → Laws → SoundPlansAreWired → SoundPlansMeetFacts → SoundPortsTake → SoundPlansSuit → PlansOpen
plans_open types laws wired facts takes suits plan columns ruled columns_are many =
    let plan_shape = shape types laws plan ruled in
    let nodes_few = few types laws plan ruled in
    let subtasks_few = narrow types laws plan ruled in
    record {
      may = record {
        few = omega (arith, nodes_few);
        some = plan_shape.parallel;
        narrow = omega (arith, subtasks_few);
        ports = every_node types laws plan ruled (λ node. length node.inputs < 2 ^ 32) (ports types laws plan ruled);
        typed = many;
        exchanged = λ e edge there. subst (λ (c : List ColTy). IsExchange (spread_types (numbered plan.nodes e) c) edge.exchange) (sym (columns_are e)) (spread_by types laws plan ruled e edge there (numbered plan.nodes e) refl);
        spread = All-from_recursion (λ table. AreRoutable (column_types table) (spread_of table)) plan.sources
            (of_each (λ table. AreRoutable (column_types table) (spread_of table)) plan.sources (λ source table has. table_routable table (shapes.declarable plan (agreed.meets laws plan ruled) laws.shaped source table has)));
      };
      openable = record {
        columns_are = columns_are;
        runs_as = record {
          network_is = refl;
          columns_are = columns_are;
          nodes = λ v node there. record {
            suits = suits plan ruled v node there;
            scans = λ source scans. (plan_shape.scans v source node there scans).0;
            ports = λ works. plan_shape.others v node there works;
            takes = λ works. takes plan ruled v node there works;
          };
        };
        wired = wired plan ruled;
        facts = facts plan ruled;
      };
    }
