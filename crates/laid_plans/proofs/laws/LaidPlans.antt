-- The plan that is laid of a well-typed tree meets the rules on shape, types and exchanges.
use Rattle.std.specs.Prelude.{◌≡◌, ℕ, ◌+◌, ◌<◌, ◌≤◌, ◌⊎◌, ◌==◌, nat_le, nat_lt, Bool, ◌&&◌, ◌||◌, not, cond, List, length, max, slice_get, Option}
use Rattle.std.proofs.Common.{zero, suc, true, false, [], ◌∷◌, refl, sym, ap, subst, ◌∙◌, arith, Some, None, inl, inr}
use Rattle.std.specs.List.{AllByRecursion, list_all}
use Rattle.std.specs.Str.{bytes_eq}
use Rattle.std.proofs.lemmas.Bool.{eqb-false, eq-eqb, le-leb, lt-ltb}
use Rattle.std.proofs.lemmas.Slice.Eq.{bytes_eq-Decides}
use Rattle.ct_value.specs.declared.ty.ColTy.{ColTy}
use Rattle.ct_catalog.specs.Columns.{column_types}
use Rattle.ct_catalog.specs.declared.table.TableDef.{TableDef}
use Rattle.ct_change.specs.Kinds.{is_upsert}
use Rattle.ct_change.specs.declared.kind.KindSet.{KindSet}
use Rattle.rel_algebra.specs.GoesInto.{goes_into, go_into}
use Rattle.rel_algebra.specs.Rel.{Rel}
use Rattle.rel_algebra.specs.Types.{columns_if, is_column}
use Rattle.phys_plan.specs.declared.edge.Exchange.{Exchange}
use Rattle.phys_plan.specs.declared.edge.Exchange.TheVariants.{Forward, Hash}
use Rattle.phys_plan.specs.declared.node.Node.{Node}
use Rattle.phys_plan.specs.declared.node.Op.{Op}
use Rattle.phys_plan.specs.declared.node.Op.TheVariants as op
use Rattle.phys_plan.specs.declared.plan.Plan.{Plan}
use Rattle.phys_plan.specs.declared.plan.Rule.TheVariants as rule
use Rattle.mode_infer.specs.Kinds.{asked, needs_old_rows}
use Rattle.plan_inferred.specs.Rules.{by_columns, consumer as consumer_of, exchange_by, says_exchange}
use Rattle.plan_inferred.specs.Same.{same_exchange}
use Rattle.plan_rules.specs.TreeKinds.{tree_kinds}
use Rattle.plan_rules.specs.Pieces.{Top, bare, shown, asks_of}
use Rattle.plan_rules.specs.Plans.{HasInput, kinds_in}
use Rattle.phys_plan.specs.Columns.{columns_in}
use Rattle.phys_plan.specs.Reading.{first_input, numbered}
use Rattle.sound_plans.proofs.laws.Numbers.{below_is_not, numbered_within, side}
use Rattle.plan_shape.specs.Shape.{are_before, consumer, has_nodes, has_sizes, is_consumed, is_fed, is_shaped, is_sink, is_sink_key, is_up_to, is_whole, most_bundled, most_nodes, most_subtasks, node_has_shape, op_in, suits_consumer, suits_input, suits_plan, takes, uses}
use Rattle.plan_shape.specs.Shaped.{MeetsShape}
use Rattle.plan_shape.proofs.laws.Theorems.{shaped_plans_have_shape}
use Rattle.plan_shape.specs.Tables.{are_tables, is_declarable}
use Rattle.plan_check.specs.Sound.{inferred_of, Meets}
use Rattle.plan_check.specs.Types.{is_typed, is_typed_by, keep_nulls, types_at, types_by}
use Rattle.plan_rules.specs.Behaviours.{has_rule}
use Rattle.plan_rules.specs.Phases.{sends_parts}
use Rattle.sound_plans.proofs.laws.Lists.{both, found, map_length, the_same}
use Rattle.sound_plans.proofs.laws.Consumers.{by_test}
use Rattle.sound_plans.proofs.laws.Shapes as s
use Rattle.sound_plans.proofs.laws.Tables.{key_within}
use Rattle.laid_plans.specs.Inferred.{InferredKindsSuit, suits_kinds, with_inferred}
use Rattle.laid_plans.specs.Shapes.{IsLaidWell, LaidPlansHaveShape, SuitsTop}
use Rattle.laid_plans.proofs.laws.Uses.{IsUsedOnce, all_pass, and, consumer_once, found_once, no_consumer, port_once, used_once}
use Rattle.laid_plans.proofs.laws.LaidNodes.{IsFed, flow_at, types_from}
use Rattle.laid_plans.proofs.laws.LaidTrees.{LaysOut, TopLaid}
use Rattle.laid_plans.proofs.laws.Placed.{lays_out}
use Rattle.laid_plans.proofs.laws.Parts.{IsAmong, IsUsed, Part, next_part}
use Rattle.laid_plans.proofs.laws.Shapes.{any_kinds}
use Rattle.laid_plans.proofs.laws.Updates.{carries_all}
use Rattle.laid_plans.proofs.laws.Trees.{Told, are_columns, feeds_port, one_port, tree}

-- an exchange is the same as itself
same_as_itself : (x : Exchange) → same_exchange x x ≡ true
same_as_itself Forward = refl
same_as_itself (Hash columns) = (bytes_eq-Decides columns columns).1 refl

-- at least one, and at most so many
up_to : (most number : ℕ) → 0 < number → number ≤ most → is_up_to most number ≡ true
up_to most number a b = and (nat_le 1 number) (nat_le number most) (le-leb 1 number a) (le-leb number most b)

-- each table that is scanned may be declared
each_declarable : (tables : List TableDef) (n : ℕ) (table : TableDef) → list_all is_declarable tables ≡ true → slice_get tables n ≡ Some table → is_declarable table ≡ true
each_declarable [] n table a e = absurd (cc)
each_declarable (first ∷ tables) zero table a e = ap is_declarable (sym (the_same first table e)) ∙ (both (is_declarable first) (list_all is_declarable tables) a).0
each_declarable (first ∷ tables) (suc n) table a e = each_declarable tables n table (both (is_declarable first) (list_all is_declarable tables) a).1 e

-- a node that isn't the sink is the input of one, which it may feed; the last is the sink
consumed : (plan : Plan) (v : ℕ) (o : Op) → is_sink (Some o) ≡ (v == length plan.nodes)
    → ((v == length plan.nodes) ≡ false → (uses v plan.nodes ≡ 1) × (suits_consumer plan.sources o (consumer v plan.nodes) ≡ true)) → is_consumed plan v o ≡ true
consumed plan v o last inner =
    by_test (v == length plan.nodes)
    (λ t. ap (λ b. cond b (is_sink (Some o)) (feeds_one)) t ∙ last ∙ t)
    (λ f. let h = inner f in
    ap (λ b. cond b (is_sink (Some o)) (feeds_one)) f
    ∙ and (not (is_sink (Some o))) (uses v plan.nodes == 1 && suits_consumer plan.sources o (consumer v plan.nodes)) (ap not (last ∙ f))
    (and (uses v plan.nodes == 1) (suits_consumer plan.sources o (consumer v plan.nodes)) (eq-eqb (uses v plan.nodes) 1 h.0) h.1))
  where
    feeds_one : Bool
    feeds_one = not (is_sink (Some o)) && (uses v plan.nodes == 1 && suits_consumer plan.sources o (consumer v plan.nodes))

-- ---- what stands before the sink

-- rows that go into a sink are as wide as its table
as_wide : (columns sinks : List ColTy) → go_into columns sinks ≡ true → length columns ≡ length sinks
as_wide [] [] e = refl
as_wide [] (sink ∷ sinks) e = absurd (cc)
as_wide (column ∷ columns) [] e = absurd (cc)
as_wide (column ∷ columns) (sink ∷ sinks) e = ap suc (as_wide columns sinks (both (goes_into column sink) (go_into columns sinks) e).1)

-- a materializer's key is its sink's
shows_key : (sink : TableDef) (key : List ℕ) (of_sink : Option (List ℕ)) → is_sink_key sink key of_sink ≡ true → of_sink ≡ Some key
shows_key sink key None e = absurd (cc)
shows_key sink key (Some of_sink) e =
    let same : key ≡ of_sink = (bytes_eq-Decides key of_sink).0 (both (is_upsert sink.mode) (bytes_eq key of_sink) e).1 in ap (λ k. Some k) (sym same)

-- a tree's root isn't behind the sink's input
root_before : (plan : Plan) (top : Top) (below root : ℕ) → TopLaid plan top below root → below ≤ root
root_before plan bare below root between = omega (arith, between)
root_before plan (shown key) below root between = omega (arith, between.0)

-- the nodes below a sink, of which the last sends it these columns
record Sends (plan : Plan) (root : ℕ) (columns : List ColTy) : Type 0 where
  pub part : Part plan 0 root (root ∷ [])
  pub columns_are : types_at plan.sources plan.nodes root ≡ Some columns
  pub fed : IsFed plan op.Sink 0 root

-- those of a tree, with what stands above it, where the columns of a materializer's key are among the tree's
sends : (plan : Plan) (columns : List ColTy) → ((key : List ℕ) → is_sink_key plan.sink key plan.sink.key ≡ true → list_all (is_column columns) key ≡ true)
    → (top : Top) → SuitsTop plan.sink top → (below root : ℕ) (kinds : KindSet) → Told plan 0 (asks_of top) below columns kinds → TopLaid plan top below root → root < length plan.nodes → Sends plan root columns
sends plan columns has_key bare suits below root kinds told between high = subst (λ v. Sends plan v columns) (sym between) (record {
  part = told.part;
  columns_are = told.columns_are;
  fed = feeds_port plan 0 Forward below columns kinds op.Sink 0 refl told;
})
sends plan columns has_key (shown key) suits below root kinds told between high =
    let next = between.0 in
    let has = between.1 in
    let lower : below < root = omega (arith, next) in
    let feeds = one_port plan (op.Materialize key) below (feeds_port plan 0 (Hash key) below columns kinds (op.Materialize key) 0 refl told) in
    let k : types_at plan.sources plan.nodes root ≡ Some columns =
    types_from plan root (op.Materialize key) (below ∷ []) has (lower, tt) ∙ ap (λ (c : Option (List ColTy)). types_by plan.sources (op.Materialize key) (c ∷ [])) told.columns_are
    ∙ ap (λ b. columns_if b columns) (has_key key suits) in
    record {
      part = next_part plan 0 below root (below ∷ []) (op.Materialize key) told.part next has (record {
        ruled = refl;
        keeps = λ parts. absurd (cc (parts));
        suits = suits;
        ports = refl;
        below = refl;
        last = sym (below_is_not root (length plan.nodes) high);
        typed = ap (is_typed_by plan.sink (op.Materialize key)) k;
        fed = feeds;
      });
      columns_are = k;
      fed = record {
        node = has.node;
        is_node = has.is_there;
        suits = ap (λ (p : Op). suits_consumer plan.sources p (Some op.Sink)) has.is_op;
        edge = _;
        is_edge = between.2;
        exchanged = refl;
      };
    }

module _ (plan : Plan) (rel : Rel) (is : IsLaidWell plan rel) where
  -- what stands before its sink
  abbrev top : Top
  top = is.laid_out.top

  -- its nodes
  abbrev out : LaysOut plan is.laid_out.two_phase top rel
  out = lays_out plan rel is.laid_out

  -- the sink's input
  abbrev root : ℕ
  root = out.root

  -- the tables may be declared
  declared : list_all is_declarable (plan.sink ∷ plan.sources) ≡ true
  declared = (both (list_all is_declarable (plan.sink ∷ plan.sources)) _ is.tables).0

  tables : (source : ℕ) (table : TableDef) → slice_get plan.sources source ≡ Some table → is_declarable table ≡ true
  tables source table e = each_declarable plan.sources source table (both (is_declarable plan.sink) (list_all is_declarable plan.sources) declared).1 e

  -- the columns of the sink's key are among the tree's
  has_key : (key : List ℕ) → is_sink_key plan.sink key plan.sink.key ≡ true → list_all (is_column is.columns) key ≡ true
  has_key key suits =
      let sink : is_declarable plan.sink ≡ true = (both (is_declarable plan.sink) (list_all is_declarable plan.sources) declared).0 in
      let goes : go_into is.columns (column_types plan.sink) ≡ true = (both (go_into is.columns (column_types plan.sink)) (keep_nulls is.columns (column_types plan.sink)) is.fits).0 in
      let wide : length plan.sink.cols ≡ length is.columns = sym (as_wide is.columns (column_types plan.sink) goes ∙ map_length (λ column. column.ty) plan.sink.cols) in
      are_columns is.columns key (subst (λ w. AllByRecursion (λ column. column < w) key) wide (key_within plan.sink key sink (shows_key plan.sink key plan.sink.key suits)))

  -- what holds of the tree's nodes
  told : Told plan 0 (asks_of top) out.below is.columns (tree_kinds plan.sources rel)
  told =
      let lower = root_before plan top out.below out.root out.topped in
      tree plan is.laid_out.two_phase tables rel 0 (asks_of top) out.below out.laid (let n = out.nodes in omega arith) is.unions is.columns is.typed

  -- and of the nodes below the sink
  under : Sends plan root is.columns
  under = sends plan is.columns has_key top is.laid_out.suits out.below out.root (tree_kinds plan.sources rel) told out.topped (let n = out.nodes in omega arith)

  pub top_typed : types_at plan.sources plan.nodes (lays_out plan rel is.laid_out).root ≡ Some is.columns
  top_typed = under.columns_are

  -- ---- all nodes, with the sink

  -- the nodes below the sink and the sink behind them
  all : Part plan 0 (root + 1) ((root + 1) ∷ [])
  all =
      let v = root + 1 in
      let has = out.sink_node in
      let lower : root < v = omega arith in
      let k : types_at plan.sources plan.nodes v ≡ Some is.columns =
      types_from plan v op.Sink (root ∷ []) has (lower, tt) ∙ ap (λ (c : Option (List ColTy)). types_by plan.sources op.Sink (c ∷ [])) under.columns_are in
      next_part plan 0 root v (root ∷ []) op.Sink under.part refl has (record {
        ruled = refl;
        keeps = λ parts. absurd (cc (parts));
        suits = refl;
        ports = refl;
        below = refl;
        last = sym (eq-eqb v (length plan.nodes) (sym out.nodes));
        typed = ap (is_typed_by plan.sink op.Sink) k ∙ is.fits;
        fed = one_port plan op.Sink root under.fed;
      })

  -- each node is one of them
  reached : (v : ℕ) (node : Node) → numbered plan.nodes v ≡ Some node → (0 < v) × (v ≤ root + 1)
  reached v node e = let w = numbered_within plan.nodes v node e in let n = out.nodes in (w.0, let h = w.1 in omega arith)

  -- an input of a node feeds it alone, at this port
  fed_once : (v w p : ℕ) (h : HasInput plan w p v) → (place : ℕ) → w ≡ suc place → IsUsedOnce v plan.nodes place p h.node
  fed_once v w p h place number = record {
    is_node = sym (ap (numbered plan.nodes) number) ∙ h.is_node;
    is_input = h.is_input;
    once = λ n q other e f.
        let b = reached (suc n) other e in
        let c = reached w h.node h.is_node in
        let same = all.segment.once (suc n) w q p v b.0 b.1 c.0 c.1 (record { node = other; is_node = e; is_input = f }) h in
        let k : suc n ≡ suc place = same.0 ∙ number in
        (omega arith, same.1);
  }

  -- what is asked of a node by the one that it feeds
  pub record IsTaken (v : ℕ) (node : Node) : Type 0 where
    pub used : uses v plan.nodes ≡ 1
    pub suits : suits_consumer plan.sources node.op (consumer v plan.nodes) ≡ true
    pub exchanged : says_exchange (exchange_by v (consumer_of v plan.nodes)) (numbered plan.edges v) ≡ true

  -- by a node that has it as an input
  taken_by : (v : ℕ) (node : Node) → numbered plan.nodes v ≡ Some node → (w p : ℕ) → HasInput plan w p v → IsTaken v node
  taken_by v node e zero p h = absurd (let b = (reached zero h.node h.is_node).0 in omega arith)
  taken_by v node e (suc place) p h =
      let b = reached (suc place) h.node h.is_node in
      let m = all.segment.each (suc place) b.0 b.1 in
      let same : m.node ≡ h.node = the_same m.node h.node (sym m.is_node ∙ h.is_node) in
      let f = m.meets.fed p v (ap (λ (n : Node). slice_get n.inputs p) same ∙ h.is_input) in
      let here : f.node ≡ node = the_same f.node node (sym f.is_node ∙ e) in
      let u = fed_once v (suc place) p h place refl in
      let o : m.node.op ≡ h.node.op = ap (λ (n : Node). n.op) same in
      record {
        used = used_once v plan.nodes place p h.node u;
        suits = ap (λ c. suits_consumer plan.sources node.op (op_in c)) (found_once v plan.nodes place p h.node u)
            ∙ sym (λ i. suits_consumer plan.sources (here i).op (Some (o i))) ∙ f.suits;
        exchanged =
            let asks : exchange_by v (consumer_of v plan.nodes) ≡ f.edge.exchange =
            ap (exchange_by v) (consumer_once v plan.nodes place p h.node u) ∙ ap (λ q. by_columns (asked h.node.op q)) (port_once v plan.nodes place p h.node u)
            ∙ sym (ap (λ q. by_columns (asked q p)) o) ∙ f.exchanged in
            (λ i. says_exchange (asks i) (f.is_edge i)) ∙ same_as_itself f.edge.exchange;
      }

  -- a node before the sink
  taken : (v : ℕ) (node : Node) → numbered plan.nodes v ≡ Some node → v < root + 1 → IsTaken v node
  taken v node e l =
      let b = reached v node e in
      go (all.used v b.0 b.1)
    where
      no_root : (q : ℕ) → slice_get ((root + 1) ∷ []) q ≡ Some v → ⊥
      no_root zero f = let same : root + 1 ≡ v = the_same (root + 1) v f in omega arith
      no_root (suc q) f = cc

      go : IsAmong plan ((root + 1) ∷ []) v ⊎ IsUsed plan (root + 1) v → IsTaken v node
      go (inl r) = absurd (no_root r.0 r.1)
      go (inr u) = taken_by v node e u.0 u.1 u.3

  -- ---- shape

  -- how many nodes, edges and subtasks there are
  sizes : has_sizes plan ≡ true
  sizes =
      let n = out.nodes in
      let some : 0 < length plan.nodes = omega arith in
      and (has_nodes plan) (nat_le plan.mini_batch most_bundled && is_up_to most_subtasks plan.parallelism)
      (and (is_up_to most_nodes (length plan.nodes)) (length plan.edges == length plan.nodes) (up_to most_nodes (length plan.nodes) some is.few) (eq-eqb (length plan.edges) (length plan.nodes) (out.edges ∙ sym n)))
      (and (nat_le plan.mini_batch most_bundled) (is_up_to most_subtasks plan.parallelism) (le-leb plan.mini_batch most_bundled is.bundled) (up_to most_subtasks plan.parallelism is.parallel is.narrow))

  -- and which tables
  whole : is_whole plan ≡ true
  whole = and (has_sizes plan) (are_tables (plan.sink ∷ plan.sources)) sizes is.tables

  -- inputs have smaller numbers
  inputs_before : (v : ℕ) (node : Node) → numbered plan.nodes v ≡ Some node → are_before v node.inputs ≡ true
  inputs_before v node e =
      all_pass (λ input. nat_lt 0 input && nat_lt input v) node.inputs
      (λ p input i.
      let b = reached v node e in
      let l = all.segment.before v p input b.0 b.1 (record { node = node; is_node = e; is_input = i }) in
      and (nat_lt 0 input) (nat_lt input v) (lt-ltb 0 input l.0) (lt-ltb input v l.1))

  -- the rule on shape at a node
  shape_at : (v : ℕ) (node : Node) → numbered plan.nodes v ≡ Some node → node_has_shape plan v node ≡ true
  shape_at v node e =
      let b = reached v node e in
      let m = all.segment.each v b.0 b.1 in
      let same : m.node ≡ node = the_same m.node node (sym m.is_node ∙ e) in
      let o = m.meets in
      let here : node_has_shape plan v m.node ≡ true =
      and (are_before v m.node.inputs) _ (inputs_before v m.node m.is_node)
      (and (suits_plan plan m.node.op) _ o.suits
      (and (is_fed plan m.node) (is_consumed plan v m.node.op) (and (takes m.node.op (length m.node.inputs)) _ o.ports o.below)
      (consumed plan v m.node.op o.last (λ f. let t = taken v m.node m.is_node (before_last v f b.1) in (t.used, t.suits))))) in
      ap (node_has_shape plan v) (sym same) ∙ here
    where
      before_last : (v : ℕ) → (v == length plan.nodes) ≡ false → v ≤ root + 1 → v < root + 1
      before_last v f l = lower (side v root)
        where
          lower : (v ≤ root) ⊎ (root < v) → v < root + 1
          lower (inl h) = omega arith
          lower (inr h) = absurd (eqb-false v (length plan.nodes) f (let n = out.nodes in omega arith))

  shape : Meets rule.Shape plan
  shape v low high =
      and (not (v == 1) || is_whole plan) (is_shaped plan v (numbered plan.nodes v)) (either (not (v == 1)) (is_whole plan) whole) (go (numbered plan.nodes v) refl)
    where
      either : (a b : Bool) → b ≡ true → (a || b) ≡ true
      either true b e = refl
      either false b e = e

      go : (o : Option Node) → numbered plan.nodes v ≡ o → is_shaped plan v o ≡ true
      go None e = refl
      go (Some node) e = shape_at v node e

  -- ---- types

  types : Meets rule.Types plan
  types v low high = go (numbered plan.nodes v) refl
    where
      go : (o : Option Node) → numbered plan.nodes v ≡ o → is_typed plan.sink o (types_at plan.sources plan.nodes v) ≡ true
      go None e = refl
      go (Some node) e =
          let b = reached v node e in
          let m = all.segment.each v b.0 b.1 in
          ap (λ (n : Node). is_typed_by plan.sink n.op (types_at plan.sources plan.nodes v)) (sym (the_same m.node node (sym m.is_node ∙ e))) ∙ m.meets.typed

  -- ---- exchanges

  -- the sink feeds no node
  sink_unused : (n p : ℕ) (node : Node) → slice_get plan.nodes n ≡ Some node → slice_get node.inputs p ≡ Some (root + 1) → ⊥
  sink_unused n p node e f =
      let b = reached (suc n) node e in
      let l = (all.segment.before (suc n) p (root + 1) b.0 b.1 (record { node = node; is_node = e; is_input = f })).1 in
      let h = b.1 in
      omega arith

  -- the rule on exchanges at a node
  exchanged_at : (v : ℕ) (node : Node) → numbered plan.nodes v ≡ Some node → says_exchange (exchange_by v (consumer_of v plan.nodes)) (numbered plan.edges v) ≡ true
  exchanged_at v node e = go (side v root)
    where
      go : (v ≤ root) ⊎ (root < v) → says_exchange (exchange_by v (consumer_of v plan.nodes)) (numbered plan.edges v) ≡ true
      go (inl l) = (taken v node e (omega arith)).exchanged
      go (inr l) =
          let h = (reached v node e).1 in
          let number : root + 1 ≡ v = omega arith in
          subst (λ u. says_exchange (exchange_by u (consumer_of u plan.nodes)) (numbered plan.edges u) ≡ true) number
          ((λ i. says_exchange (exchange_by (root + 1) (no_consumer (root + 1) plan.nodes sink_unused i)) (out.sink_edge i)))

  -- each number that is looked at has a node
  node_there : (v : ℕ) → 1 ≤ v → v ≤ max 1 (length plan.nodes) → (node : Node) × (numbered plan.nodes v ≡ Some node)
  node_there zero low high = absurd (omega arith)
  node_there (suc n) low high = found plan.nodes n (let k = out.nodes in omega arith)

  exchanged : Meets rule.Exchanged plan
  exchanged v low high = let n = node_there v low high in exchanged_at v n.0 n.1

  -- ---- operators

  rules : (v : ℕ) (node : Node) → numbered plan.nodes v ≡ Some node → has_rule node.op ≡ true
  rules v node e =
      let b = reached v node e in
      let m = all.segment.each v b.0 b.1 in
      ap (λ (n : Node). has_rule n.op) (sym (the_same m.node node (sym m.is_node ∙ e))) ∙ m.meets.ruled

  -- ---- kinds

  -- the only input of a local group
  only_input : (o : Op) (inputs : List ℕ) → sends_parts o ≡ true → takes o (length inputs) ≡ true → slice_get inputs 0 ≡ Some (first_input inputs)
  only_input o (input ∷ inputs) t p = refl
  only_input (op.LocalGroup keys aggs) [] t p = absurd (cc (p))
  only_input _ [] t p = absurd (cc (t))

  -- it needs old rows
  parts_need : (o : Op) → sends_parts o ≡ true → needs_old_rows o ≡ true
  parts_need (op.LocalGroup keys aggs) t = refl
  parts_need _ t = absurd (cc (t))

  -- what is inferred of a local group's input is what was laid
  parts_suit : (v : ℕ) (node : Node) → numbered plan.nodes v ≡ Some node → sends_parts node.op ≡ true → suits_kinds plan (with_inferred plan).edges node ≡ suits_kinds plan plan.edges node
  parts_suit v node e t =
      let b = reached v node e in
      let m = all.segment.each v b.0 b.1 in
      let same : m.node ≡ node = the_same m.node node (sym m.is_node ∙ e) in
      let input = first_input node.inputs in
      let keeps : (flow_at plan (first_input node.inputs)).sent ≡ kinds_in (numbered plan.edges (first_input node.inputs)) =
      subst (λ (n : Node). sends_parts n.op ≡ true → (flow_at plan (first_input n.inputs)).sent ≡ kinds_in (numbered plan.edges (first_input n.inputs))) same m.meets.keeps t in
      let ports : takes node.op (length node.inputs) ≡ true = subst (λ (n : Node). takes n.op (length n.inputs) ≡ true) same m.meets.ports in
      let h = only_input node.op node.inputs t ports in
      let meets : MeetsShape plan = λ w low high. shape w low high in
      let there = (s.input_there plan meets shaped_plans_have_shape v node 0 input e h).1 in
      let carries = carries_all plan meets shaped_plans_have_shape rules (columns_in (inferred_of plan).columns) v node 0 input there.0 e h (parts_need node.op t) there.1 in
      ap (suits_input plan.sources node.op (op_in (numbered plan.nodes input))) (carries ∙ keeps)

  kinds_suit : InferredKindsSuit plan
  kinds_suit v node e = by_test (sends_parts node.op) (parts_suit v node e) (λ f. any_kinds plan.sources node.op _ _ _ f)

pub laid_plans_have_shape : LaidPlansHaveShape
laid_plans_have_shape plan rel is = record { rules = rules plan rel is; kinds = kinds_suit plan rel is; shape = shape plan rel is; types = types plan rel is; exchanged = exchanged plan rel is }
