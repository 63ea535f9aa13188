-- What the rule Shape says of a node, of what feeds it and of what it feeds.
use Rattle.std.specs.Prelude.{◌≡◌, ℕ, ◌<◌, ◌≤◌, ◌==◌, Bool, ◌&&◌, ◌||◌, not, cond, List, length, max, slice_get, Option}
use Rattle.std.proofs.Common.{zero, suc, true, false, [], ◌∷◌, refl, sym, ap, subst, ◌∙◌, arith, Some, None}
use Rattle.std.specs.List.{AllByRecursion, find, list_all}
use Rattle.std.proofs.lemmas.Bool.{eqb-true, eqb-false}
use Rattle.ct_catalog.specs.declared.table.TableDef.{TableDef}
use Rattle.rel_algebra.specs.declared.agg.Agg.{Agg}
use Rattle.phys_plan.specs.declared.node.Node.{Node}
use Rattle.phys_plan.specs.declared.node.Op.{Op}
use Rattle.phys_plan.specs.declared.node.Op.TheVariants as op
use Rattle.phys_plan.specs.declared.plan.Plan.{Plan}
pub use Rattle.plan_rules.specs.Phases.{sends_parts}
use Rattle.plan_rules.specs.Plans.{HasShape, kinds_in}
use Rattle.phys_plan.specs.Reading.{numbered, first_input}
use Rattle.plan_shape.specs.Shape.{are_before, consumer, has_input, has_sizes, is_consumed, is_fed, is_shaped, is_sink, is_whole, merges, node_has_shape, op_in, suits_consumer, suits_input, suits_plan, takes, uses}
use Rattle.plan_shape.specs.Shaped.{MeetsShape, ShapedPlansHaveShape}
use Rattle.plan_shape.specs.Tables.{are_tables, is_declarable}
use Rattle.sound_plans.proofs.laws.Lists.{both, found, is_somewhere, is_there, not_true, of_each, same_number, the_same, within}
use Rattle.sound_plans.proofs.laws.Consumers.{IsOnly, by_test, finds}

all_true_at : {X : Type 0} (p : X → Bool) (xs : List X) (i : ℕ) (x : X) → list_all p xs ≡ true → slice_get xs i ≡ Some x → p x ≡ true
all_true_at p [] i x a e = absurd (cc)
all_true_at p (y ∷ xs) zero x a e = subst (λ z. p z ≡ true) (the_same y x e) (both (p y) (list_all p xs) a).0
all_true_at p (y ∷ xs) (suc i) x a e = all_true_at p xs i x (both (p y) (list_all p xs) a).1 e

-- a number that has a node
pub record IsAmong (nodes : List Node) (v : ℕ) (node : Node) : Type 0 where
  pub place : ℕ
  pub number : v ≡ suc place
  pub is : slice_get nodes place ≡ Some node
  pub few : v ≤ length nodes

pub among : (nodes : List Node) (v : ℕ) (node : Node) → numbered nodes v ≡ Some node → IsAmong nodes v node
among nodes zero node e = absurd (cc)
among nodes (suc n) node e = let l = within nodes n node e in record { place = n; number = refl; is = e; few = omega arith }

pub node_there : (nodes : List Node) (v : ℕ) → 0 < v → v ≤ length nodes → (node : Node) × (numbered nodes v ≡ Some node)
node_there nodes zero l h = absurd (omega arith)
node_there nodes (suc n) l h = found nodes n (omega arith)

none_there : {A B : Type 0} (xs : List A) (ys : List B) (n : ℕ) → length ys ≡ length xs → slice_get xs n ≡ None → slice_get ys n ≡ None
none_there xs [] n l e = refl
none_there [] (y ∷ ys) n l e = absurd (omega (arith, l))
none_there (x ∷ xs) (y ∷ ys) zero l e = absurd (cc)
none_there (x ∷ xs) (y ∷ ys) (suc n) l e = none_there xs ys n (omega (arith, l)) e

-- the sink's operator
pub sink_op : (o : Op) → is_sink (Some o) ≡ true → o ≡ op.Sink
sink_op op.Sink h = refl
sink_op _ h = absurd (cc)

-- ---- local groups and groups in bundles

pub is_local : (o : Op) → sends_parts o ≡ true → (keys : ℕ) × (aggs : List Agg) × (o ≡ op.LocalGroup keys aggs)
is_local (op.LocalGroup keys aggs) h = (keys, aggs, refl)
is_local _ h = absurd (cc)

-- whether it may take them
abbrev pub takes_parts : Op → Bool
takes_parts (op.BatchGroup keys aggs) = true
takes_parts _ = false

pub is_bundled : (o : Op) → takes_parts o ≡ true → (keys : ℕ) × (aggs : List Agg) × (o ≡ op.BatchGroup keys aggs)
is_bundled (op.BatchGroup keys aggs) h = (keys, aggs, refl)
is_bundled _ h = absurd (cc)

pub merges_in_bundles : (keys : ℕ) (aggs : List Agg) (o : Op) → merges keys aggs (Some o) ≡ true → takes_parts o ≡ true
merges_in_bundles keys aggs (op.BatchGroup of_keys of_aggs) h = refl
merges_in_bundles keys aggs _ h = absurd (cc)

-- a node whose operator is the sink's, by its place among these, with this number among its inputs
pub record IsSinkOver (nodes : List Node) (v : ℕ) : Type 0 where
  pub place : ℕ
  pub node : Node
  pub is : slice_get nodes place ≡ Some node
  pub has : has_input v node ≡ true
  pub sinks : is_sink (Some node.op) ≡ true

sink_over : (v : ℕ) (nodes : List Node) → is_sink (op_in (find (has_input v) nodes)) ≡ true → IsSinkOver nodes v
sink_over v [] e = absurd (cc)
sink_over v (first ∷ nodes) e =
    by_test (has_input v first)
    (λ t. record { place = 0; node = first; is = refl; has = t; sinks = sym (ap (λ b. is_sink (op_in (cond b (Some first) (find (has_input v) nodes)))) t) ∙ e })
    (λ f.
    let later = sink_over v nodes (sym (ap (λ b. is_sink (op_in (cond b (Some first) (find (has_input v) nodes)))) f) ∙ e) in
    record { place = suc later.place; node = later.node; is = later.is; has = later.has; sinks = later.sinks })

-- a group in bundles that sums up what such a local group sends, by its place among these, with this number among its inputs
pub record IsMergeOver (nodes : List Node) (v keys : ℕ) (aggs : List Agg) : Type 0 where
  pub place : ℕ
  pub node : Node
  pub is : slice_get nodes place ≡ Some node
  pub has : has_input v node ≡ true
  pub sums : merges keys aggs (Some node.op) ≡ true

merge_over : (v keys : ℕ) (aggs : List Agg) (nodes : List Node) → merges keys aggs (op_in (find (has_input v) nodes)) ≡ true → IsMergeOver nodes v keys aggs
merge_over v keys aggs [] e = absurd (cc)
merge_over v keys aggs (first ∷ nodes) e =
    by_test (has_input v first)
    (λ t. record { place = 0; node = first; is = refl; has = t; sums = sym (ap (λ b. merges keys aggs (op_in (cond b (Some first) (find (has_input v) nodes)))) t) ∙ e })
    (λ f.
    let later = merge_over v keys aggs nodes (sym (ap (λ b. merges keys aggs (op_in (cond b (Some first) (find (has_input v) nodes)))) f) ∙ e) in
    record { place = suc later.place; node = later.node; is = later.is; has = later.has; sums = later.sums })

-- what the rule says of one node
pub record IsTold (plan : Plan) (v : ℕ) (node : Node) : Type 0 where
  pub suits : suits_plan plan node.op ≡ true
  pub ports : takes node.op (length node.inputs) ≡ true
  pub input : suits_input plan.sources node.op (op_in (numbered plan.nodes (first_input node.inputs))) (kinds_in (numbered plan.edges (first_input node.inputs))) ≡ true
  pub consumed : is_consumed plan v node.op ≡ true

module _ (plan : Plan) (meets : MeetsShape plan) (shaped : ShapedPlansHaveShape) where
  pub shape : HasShape plan
  shape = shaped plan meets

  pub told : (v : ℕ) (node : Node) → numbered plan.nodes v ≡ Some node → IsTold plan v node
  told v node e =
      let a = among plan.nodes v node e in
      let low : 1 ≤ v = let n = a.number in omega arith in
      let high : v ≤ max 1 (length plan.nodes) = let n = a.few in omega arith in
      let here = (both (not (v == 1) || is_whole plan) (is_shaped plan v (numbered plan.nodes v)) (meets v low high)).1 in
      let node_is : node_has_shape plan v node ≡ true = sym (ap (is_shaped plan v) e) ∙ here in
      let first = both (are_before v node.inputs) _ node_is in
      let second = both (suits_plan plan node.op) _ first.1 in
      let third = both (is_fed plan node) (is_consumed plan v node.op) second.1 in
      let fed = both (takes node.op (length node.inputs)) _ third.0 in
      record { suits = second.0; ports = fed.0; input = fed.1; consumed = third.1 }

  whole : is_whole plan ≡ true
  whole =
      let high : 1 ≤ max 1 (length plan.nodes) = omega arith in
      (both (is_whole plan) (is_shaped plan 1 (numbered plan.nodes 1)) (meets 1 (omega arith) high)).0

  -- there are as many edges as nodes
  pub edges_many : length plan.edges ≡ length plan.nodes
  edges_many =
      let sizes = (both (has_sizes plan) (are_tables (plan.sink ∷ plan.sources)) whole).0 in
      let nodes = (both _ _ sizes).0 in
      eqb-true (length plan.edges) (length plan.nodes) (both _ _ nodes).1

  -- a number without a node has no edge
  pub no_edge : (v : ℕ) → numbered plan.nodes v ≡ None → numbered plan.edges v ≡ None
  no_edge zero e = refl
  no_edge (suc n) e = none_there plan.nodes plan.edges n edges_many e

  -- each table may be declared
  all_declarable : (is_declarable plan.sink ≡ true) × (list_all is_declarable plan.sources ≡ true)
  all_declarable =
      let tables = (both (has_sizes plan) (are_tables (plan.sink ∷ plan.sources)) whole).1 in
      let all = (both (list_all is_declarable (plan.sink ∷ plan.sources)) _ tables).0 in
      both (is_declarable plan.sink) (list_all is_declarable plan.sources) all

  pub declarable : (source : ℕ) (table : TableDef) → slice_get plan.sources source ≡ Some table → is_declarable table ≡ true
  declarable source table e = all_true_at is_declarable plan.sources source table all_declarable.1 e

  pub sink_declarable : is_declarable plan.sink ≡ true
  sink_declarable = all_declarable.0

  -- ---- inputs

  abbrev pub IsBefore : ℕ → ℕ → Type 0
  IsBefore v input = (node : Node) × (numbered plan.nodes input ≡ Some node) × (input < v)

  pub input_there : (v : ℕ) (node : Node) (p input : ℕ) → numbered plan.nodes v ≡ Some node → slice_get node.inputs p ≡ Some input → (0 < input) × IsBefore v input
  input_there v node p input e i =
      let b = shape.before v p input (record { node = node; is_node = e; is_input = i }) in
      let a = among plan.nodes v node e in
      let n = node_there plan.nodes input b.0 (let h = b.1 in let f = a.few in omega arith) in
      (b.0, (n.0, n.1, b.1))

  pub inputs_there : (v : ℕ) (node : Node) → numbered plan.nodes v ≡ Some node → AllByRecursion (IsBefore v) node.inputs
  inputs_there v node e = of_each (IsBefore v) node.inputs (λ p input i. (input_there v node p input e i).1)

  -- ---- consumers

  -- a node that has an input is the only one that has it, at one port
  pub consumes : (v : ℕ) (node : Node) (p input : ℕ) → numbered plan.nodes v ≡ Some node → slice_get node.inputs p ≡ Some input → (a : IsAmong plan.nodes v node) → IsOnly input plan.nodes a.place node
  consumes v node p input e i a = record {
    is_node = a.is;
    has_it = is_there input node.inputs p i;
    only = λ m other f h.
        let q = is_somewhere input other.inputs h in
        let both_have = shape.once (suc m) v q.0 p input (record { node = other; is_node = f; is_input = q.1 }) (record { node = node; is_node = e; is_input = i }) in
        let k : suc m ≡ suc a.place = both_have.0 ∙ a.number in
        omega arith;
  }

  pub port_once : (v : ℕ) (node : Node) (p q input : ℕ) → numbered plan.nodes v ≡ Some node → slice_get node.inputs p ≡ Some input → slice_get node.inputs q ≡ Some input → q ≡ p
  port_once v node p q input e i j = (shape.once v v q p input (record { node = node; is_node = e; is_input = j }) (record { node = node; is_node = e; is_input = i })).1

  -- ---- the last node

  -- what is asked of a node before the last
  abbrev feeds_one : ℕ → Op → Bool
  feeds_one v o = not (is_sink (Some o)) && (uses v plan.nodes == 1 && suits_consumer plan.sources o (consumer v plan.nodes))

  -- the last node is the sink
  pub last_sinks : (v : ℕ) (node : Node) → numbered plan.nodes v ≡ Some node → v ≡ length plan.nodes → is_sink (Some node.op) ≡ true
  last_sinks v node e last =
      let here : (v == length plan.nodes) ≡ true = ap (λ n. n == length plan.nodes) last ∙ same_number (length plan.nodes) in
      sym (ap (λ b. cond b (is_sink (Some node.op)) (feeds_one v node.op)) here) ∙ (told v node e).consumed

  inner : (v : ℕ) (node : Node) → numbered plan.nodes v ≡ Some node → v < length plan.nodes → feeds_one v node.op ≡ true
  inner v node e l =
      let here : (v == length plan.nodes) ≡ false = by_test (v == length plan.nodes) (λ t. absurd (let k = eqb-true v (length plan.nodes) t in omega arith)) (λ f. f) in
      sym (ap (λ b. cond b (is_sink (Some node.op)) (feeds_one v node.op)) here) ∙ (told v node e).consumed

  -- no other is
  pub inner_no_sink : (v : ℕ) (node : Node) → numbered plan.nodes v ≡ Some node → v < length plan.nodes → is_sink (Some node.op) ≡ false
  inner_no_sink v node e l = not_true (is_sink (Some node.op)) (both (not (is_sink (Some node.op))) _ (inner v node e l)).0

  -- a node suits what it feeds
  pub suits_above : (v : ℕ) (node : Node) (p input : ℕ) (below : Node) → numbered plan.nodes v ≡ Some node → slice_get node.inputs p ≡ Some input → numbered plan.nodes input ≡ Some below
      → suits_consumer plan.sources below.op (Some node.op) ≡ true
  suits_above v node p input below e i f =
      let a = among plan.nodes v node e in
      let there = input_there v node p input e i in
      let l : input < length plan.nodes = let h = there.1.2 in let g = a.few in omega arith in
      let fed = (both (not (is_sink (Some below.op))) (uses input plan.nodes == 1 && suits_consumer plan.sources below.op (consumer input plan.nodes)) (inner input below f l)).1 in
      let suits = (both (uses input plan.nodes == 1) (suits_consumer plan.sources below.op (consumer input plan.nodes)) fed).1 in
      sym (ap (λ o. suits_consumer plan.sources below.op (op_in o)) (finds input plan.nodes a.place node (consumes v node p input e i a))) ∙ suits

  -- a node that suits the sink alone feeds it
  pub feeds_sink : (v : ℕ) (node : Node) → numbered plan.nodes v ≡ Some node → is_sink (Some node.op) ≡ false → ((above : Option Op) → suits_consumer plan.sources node.op above ≡ is_sink above) → IsSinkOver plan.nodes v
  feeds_sink v node e no_sink alone =
      by_test (v == length plan.nodes)
      (λ t. absurd (let last = last_sinks v node e (eqb-true v (length plan.nodes) t) in let clash : false ≡ true = sym no_sink ∙ last in cc))
      (λ f.
      let a = among plan.nodes v node e in
      let apart = eqb-false v (length plan.nodes) f in
      let l : v < length plan.nodes = let g = a.few in omega arith in
      let fed = (both (not (is_sink (Some node.op))) (uses v plan.nodes == 1 && suits_consumer plan.sources node.op (consumer v plan.nodes)) (inner v node e l)).1 in
      let suits = (both (uses v plan.nodes == 1) (suits_consumer plan.sources node.op (consumer v plan.nodes)) fed).1 in
      sink_over v plan.nodes (sym (alone (consumer v plan.nodes)) ∙ suits))

  -- ---- local groups

  -- only a group in bundles takes partial rows
  pub plain_below : (v : ℕ) (node : Node) (p input : ℕ) (below : Node) → numbered plan.nodes v ≡ Some node → takes_parts node.op ≡ false → slice_get node.inputs p ≡ Some input → numbered plan.nodes input ≡ Some below → sends_parts below.op ≡ false
  plain_below v node p input below e n i f =
      by_test (sends_parts below.op)
      (λ t.
      let local = is_local below.op t in
      let suits : merges local.0 local.1 (Some node.op) ≡ true = sym (ap (λ o. suits_consumer plan.sources o (Some node.op)) local.2) ∙ suits_above v node p input below e i f in
      absurd (let clash : false ≡ true = sym n ∙ merges_in_bundles local.0 local.1 node.op suits in cc))
      (λ g. g)

  -- no input sends partial rows
  abbrev pub ArePlain : List ℕ → Type 0
  ArePlain inputs = (p input : ℕ) (below : Node) → slice_get inputs p ≡ Some input → numbered plan.nodes input ≡ Some below → sends_parts below.op ≡ false

  pub all_plain : (v : ℕ) (node : Node) → numbered plan.nodes v ≡ Some node → takes_parts node.op ≡ false → ArePlain node.inputs
  all_plain v node e n p input below i f = plain_below v node p input below e n i f

  -- a local group feeds the group in bundles that sums up what it sends
  pub feeds_merge : (v : ℕ) (node : Node) (keys : ℕ) (aggs : List Agg) → numbered plan.nodes v ≡ Some node → node.op ≡ op.LocalGroup keys aggs → IsMergeOver plan.nodes v keys aggs
  feeds_merge v node keys aggs e is =
      by_test (v == length plan.nodes)
      (λ t. absurd (let last = last_sinks v node e (eqb-true v (length plan.nodes) t) in let clash : false ≡ true = sym (ap (λ o. is_sink (Some o)) is) ∙ last in cc))
      (λ f.
      let a = among plan.nodes v node e in
      let apart = eqb-false v (length plan.nodes) f in
      let l : v < length plan.nodes = let g = a.few in omega arith in
      let fed = (both (not (is_sink (Some node.op))) (uses v plan.nodes == 1 && suits_consumer plan.sources node.op (consumer v plan.nodes)) (inner v node e l)).1 in
      let suits = (both (uses v plan.nodes == 1) (suits_consumer plan.sources node.op (consumer v plan.nodes)) fed).1 in
      merge_over v keys aggs plan.nodes (sym (ap (λ o. suits_consumer plan.sources o (consumer v plan.nodes)) is) ∙ suits))
