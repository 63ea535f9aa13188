-- A plan of the right shape is wired.
use Rattle.std.specs.Prelude.{◌≡◌, ℕ, ◌+◌, ◌<◌, ◌==◌, cond, List, length, slice_get, slice_index_or, Option, option_map}
use Rattle.std.proofs.Common.{zero, suc, true, false, [], ◌∷◌, refl, sym, ap, subst, ◌∙◌, arith, Some, None, inl, inr}
use Rattle.std.proofs.lemmas.Bool.{eqb-true, eq-eqb}
use Rattle.std.proofs.Math.Nat.{mod-lt}
use Rattle.ct_value.specs.declared.ty.ColTy.{ColTy}
use Rattle.ct_value.specs.declared.row.Row.{Row}
use Rattle.ct_change.specs.Changelog.{Mode, append, retract, upsert}
use Rattle.ct_catalog.specs.declared.table.TableDef.{TableDef}
use Rattle.phys_plan.specs.declared.node.Node.{Node}
use Rattle.phys_plan.specs.declared.plan.Plan.{Plan}
use Rattle.op_rules.specs.Edges.{meaning_of, IsPartial, Exchange, forward, hash}
use Rattle.route.specs.Routing.{key_hash, key_text, types_at}
use Rattle.stream_model.specs.Tables.{Table}
use Rattle.stream_model.specs.Network.{Feed, IsNode, IsWired}
use Rattle.plan_rules.specs.Phases.{meaning_sent}
use Rattle.plan_rules.specs.Plans.{inputs_in, scan_of, scan_in, port_of, feed_at, feed_from, route_by, meaning_in, local_in, table_of, spread_of, Doing, network_edge, network_of, HasInput, HasShape, FitsShape, PlansAreWired}
use Rattle.phys_plan.specs.Reading.{numbered}
use Rattle.ct_catalog.specs.Columns.{table_mode, column_types}
use Rattle.plan_rules.proofs.laws.Numbers.{get_below, index_there, numbered_below, numbered_within}

-- ---- lists

at_index : (xs : List ℕ) (n x : ℕ) → slice_get xs n ≡ Some x → (n < length xs) × (slice_index_or xs n 0 ≡ x)
at_index [] n x e = absurd (cc)
at_index (y ∷ xs) zero x e = (omega arith, let same : y ≡ x = cc in same)
at_index (y ∷ xs) (suc n) x e = let rest = at_index xs n x e in (omega (arith, rest.0), rest.1)

-- ---- the port that an edge feeds

port_is : (e : ℕ) (inputs : List ℕ) (port : ℕ) → port_of e inputs ≡ Some port → slice_get inputs port ≡ Some e
port_is e [] port q = absurd (cc)
port_is e (x ∷ inputs) port q =
    elim (x == e) as (λ b. (x == e) ≡ b → cond b (Some 0) (option_map suc (port_of e inputs)) ≡ Some port → slice_get (x ∷ inputs) port ≡ Some e) [
      | true ↦ λ s r. let first : 0 ≡ port = cc in subst (λ n. slice_get (x ∷ inputs) n ≡ Some e) first (ap Some (eqb-true x e s))
      | false ↦ λ s r. later (port_of e inputs) refl r (λ n m. port_is e inputs n m)
    ] refl q
  where
    later : (o : Option ℕ) → port_of e inputs ≡ o → option_map suc o ≡ Some port → ((n : ℕ) → port_of e inputs ≡ Some n → slice_get inputs n ≡ Some e) → slice_get (x ∷ inputs) port ≡ Some e
    later None is r more = absurd (cc)
    later (Some n) is r more = let next : suc n ≡ port = cc in subst (λ m. slice_get (x ∷ inputs) m ≡ Some e) next (more n is)

port_found : (e : ℕ) (inputs : List ℕ) (port : ℕ) → slice_get inputs port ≡ Some e → (n : ℕ) × (port_of e inputs ≡ Some n)
port_found e [] port q = absurd (cc)
port_found e (x ∷ inputs) zero q = let same : x ≡ e = cc in (0, ap (λ b. cond b (Some 0) (option_map suc (port_of e inputs))) (eq-eqb x e same))
port_found e (x ∷ inputs) (suc port) q =
    let rest = port_found e inputs port q in
    elim (x == e) as (λ b. (n : ℕ) × (cond b (Some 0) (option_map suc (port_of e inputs)) ≡ Some n)) [ true ↦ (0, refl) | false ↦ (suc rest.0, ap (option_map suc) rest.1) ]

feed_is : (v e : ℕ) (nodes : List Node) (feed : Feed) → feed_from v e nodes ≡ Some feed → (k : ℕ) × (node : Node) × (feed.node ≡ v + k) × (slice_get nodes k ≡ Some node) × (slice_get node.inputs feed.port ≡ Some e)
feed_is v e [] feed q = absurd (cc)
feed_is v e (node ∷ nodes) feed q = go (port_of e node.inputs) refl q (λ r. feed_is (suc v) e nodes feed r)
  where
    go : (o : Option ℕ) → port_of e node.inputs ≡ o → feed_at v o (feed_from (suc v) e nodes) ≡ Some feed → (feed_from (suc v) e nodes ≡ Some feed → (k : ℕ) × (node : Node) × (feed.node ≡ suc v + k) × (slice_get nodes k ≡ Some node) × (slice_get node.inputs feed.port ≡ Some e))
        → (k : ℕ) × (other : Node) × (feed.node ≡ v + k) × (slice_get (node ∷ nodes) k ≡ Some other) × (slice_get other.inputs feed.port ≡ Some e)
    go None is r more = let rest = more r in (suc rest.0, rest.1, omega (arith, rest.2), rest.3, rest.4)
    go (Some port) is r more =
        let one : ◌≡◌ {A = Feed} (record { node = v; port = port }) feed = cc in
        (0, node, sym (ap Feed.node one) ∙ (let same : v ≡ v + 0 = omega arith in same), refl, subst (λ n. slice_get node.inputs n ≡ Some e) (ap Feed.port one) (port_is e node.inputs port is))

feed_found : (v e : ℕ) (nodes : List Node) (k : ℕ) (node : Node) (port : ℕ) → slice_get nodes k ≡ Some node → slice_get node.inputs port ≡ Some e → (feed : Feed) × (feed_from v e nodes ≡ Some feed)
feed_found v e [] k node port q r = absurd (cc)
feed_found v e (x ∷ nodes) zero node port q r =
    let same : x ≡ node = cc in
    let p = port_found e x.inputs port (subst (λ (n : Node). slice_get n.inputs port ≡ Some e) (sym same) r) in
    (record { node = v; port = p.0 }, ap (λ o. feed_at v o (feed_from (suc v) e nodes)) p.1)
feed_found v e (x ∷ nodes) (suc k) node port q r = go (port_of e x.inputs) (feed_found (suc v) e nodes k node port q r)
  where
    go : (o : Option ℕ) → (feed : Feed) × (feed_from (suc v) e nodes ≡ Some feed) → (feed : Feed) × (feed_at v o (feed_from (suc v) e nodes) ≡ Some feed)
    go None rest = rest
    go (Some n) rest = (record { node = v; port = n }, refl)

module _ (columns : ℕ → List ColTy) (doing : ℕ → Doing) (plan : Plan) (shape : HasShape plan) (fits : FitsShape columns doing plan) where
  -- an input of a node
  has_input : (v p : ℕ) → p < length (inputs_in (numbered plan.nodes v)) → HasInput plan v p (slice_index_or (inputs_in (numbered plan.nodes v)) p 0)
  has_input v p l = go (numbered plan.nodes v) refl l
    where
      go : (o : Option Node) → numbered plan.nodes v ≡ o → p < length (inputs_in o) → HasInput plan v p (slice_index_or (inputs_in o) p 0)
      go None is l = absurd (omega arith)
      go (Some node) is l = record { node = node; is_node = is; is_input = index_there node.inputs p l }

  input_at : (v p e : ℕ) → HasInput plan v p e → (p < length (inputs_in (numbered plan.nodes v))) × (slice_index_or (inputs_in (numbered plan.nodes v)) p 0 ≡ e)
  input_at v p e h = subst (λ o. (p < length (inputs_in o)) × (slice_index_or (inputs_in o) p 0 ≡ e)) (sym h.is_node) (at_index h.node.inputs p e h.is_input)

  fed_input : (e : ℕ) (feed : Feed) → feed_from 1 e plan.nodes ≡ Some feed → HasInput plan feed.node feed.port e
  fed_input e feed q =
      let f = feed_is 1 e plan.nodes feed q in
      record { node = f.1; is_node = ap (numbered plan.nodes) (f.2 ∙ (let same : 1 + f.0 ≡ suc f.0 = omega arith in same)) ∙ f.3; is_input = f.4 }

  input_fed : (v p e : ℕ) → HasInput plan v p e → feed_from 1 e plan.nodes ≡ Some (record { node = v; port = p })
  input_fed v p e h =
      let f = found_at v h in
      let one = shape.once f.0.node v f.0.port p e (fed_input e f.0 f.1) h in
      f.1 ∙ ap Some (same f.0 one.0 one.1)
    where
      found_at : (w : ℕ) → HasInput plan w p e → (feed : Feed) × (feed_from 1 e plan.nodes ≡ Some feed)
      found_at zero h = absurd (let is = h.is_node in cc)
      found_at (suc k) h = feed_found 1 e plan.nodes k h.node p h.is_node h.is_input

      same : (feed : Feed) → feed.node ≡ v → feed.port ≡ p → feed ≡ record { node = v; port = p }
      same feed a b = λ i. record { node = a i; port = b i }

  is_node : (e : ℕ) (node : Node) → numbered plan.nodes e ≡ Some node → IsNode (network_of columns doing plan) e
  is_node e node is = go (scan_of node.op) refl
    where
      go : (o : Option ℕ) → scan_of node.op ≡ o → IsNode (network_of columns doing plan) e
      go (Some source) s = inl (source, ap scan_in is ∙ s)
      go None s = inr (subst (λ o. 0 < length (inputs_in o)) (sym is) (shape.others e node is s))

  -- a scan is a node
  scan_node : (v source : ℕ) → scan_in (numbered plan.nodes v) ≡ Some source → (node : Node) × (numbered plan.nodes v ≡ Some node) × (scan_of node.op ≡ Some source)
  scan_node v source s = go (numbered plan.nodes v) refl s
    where
      go : (o : Option Node) → numbered plan.nodes v ≡ o → scan_in o ≡ Some source → (node : Node) × (numbered plan.nodes v ≡ Some node) × (scan_of node.op ≡ Some source)
      go None is s = absurd (cc)
      go (Some node) is s = (node, is, s)

  no_partial_mode : (m : Mode) → IsPartial (meaning_of m) → ⊥
  no_partial_mode append z = z
  no_partial_mode retract z = z
  no_partial_mode (upsert key) z = z

  sink_told : IsPartial (network_edge columns doing plan (length plan.nodes)).meaning → ⊥
  sink_told z =
      no_partial_mode (table_mode plan.sink)
      (subst (λ b. IsPartial (cond b (meaning_of (table_mode plan.sink)) (meaning_sent (local_in columns plan (numbered plan.nodes (length plan.nodes))) (meaning_in (numbered plan.edges (length plan.nodes))))))
      (eq-eqb (length plan.nodes) (length plan.nodes) refl) z)

  routed_by : (types : List ColTy) (x : Exchange) (key : Row) → route_by plan.parallelism types x key < plan.parallelism
  routed_by types forward key = shape.parallel
  routed_by types (hash cols) key = mod-lt (key_hash (key_text (types_at cols types) key)) shape.parallel

  wired : IsWired (network_of columns doing plan)
  wired = record {
    parallel = shape.parallel;
    below = λ v p l. (shape.before v p _ (has_input v p l)).1;
    numbered = λ v p l. (shape.before v p _ (has_input v p l)).0;
    sourced = λ v p l.
        let h = has_input v p l in
        let b = shape.before v p _ h in
        let high = numbered_within plan.nodes v h.node h.is_node in
        let n = numbered_below plan.nodes (slice_index_or (inputs_in (numbered plan.nodes v)) p 0) b.0 (let x = b.1 in let y = high.1 in omega arith) in
        is_node _ n.0 n.1;
    feeds = λ v p l. input_fed v p _ (has_input v p l);
    feeds_port = λ e feed q. input_at feed.node feed.port e (fed_input e feed q);
    counted = λ v l. let h = has_input v 0 l in (numbered_within plan.nodes v h.node h.is_node).1;
    sink = subst (λ o. 0 < length (inputs_in o)) (sym shape.last.1) (shape.others (length plan.nodes) shape.last.0 shape.last.1 shape.last.2);
    sink_whole = sink_told;
    scan_ports = λ v source s. let n = scan_node v source s in ap (λ o. length (inputs_in o)) n.1 ∙ ap length (shape.scans v source n.0 n.1 n.2).0;
    scan_counted = λ v source s. let n = scan_node v source s in (shape.scans v source n.0 n.1 n.2).2;
    scan_table = λ v source s.
        let n = scan_node v source s in
        let t = get_below plan.sources source (shape.scans v source n.0 n.1 n.2).1 in
        (table_of plan.parallelism t.0, ap (option_map (table_of plan.parallelism)) t.1);
    scan_opens = λ v source s j. fits.scans_open v source j s;
    opens = λ v j l. fits.opens v j l;
    formed = λ e. record { keyed = fits.keyed e; unkeyed = fits.unkeyed e; routed = routed_by (columns e) (network_edge columns doing plan e).exchange };
    routed = λ source t has key. table_routed source t has key;
  }
    where
      table_routed : (source : ℕ) (t : Table) → option_map (table_of plan.parallelism) (slice_get plan.sources source) ≡ Some t → (key : Row) → t.route key < plan.parallelism
      table_routed source t has key = go (slice_get plan.sources source) has
        where
          go : (o : Option TableDef) → option_map (table_of plan.parallelism) o ≡ Some t → t.route key < plan.parallelism
          go None q = absurd (cc)
          go (Some table) q =
              let one : table_of plan.parallelism table ≡ t = cc in
              subst (λ (u : Table). u.route key < plan.parallelism) one (mod-lt (key_hash (key_text (types_at (spread_of table) (column_types table)) key)) shape.parallel)

pub plans_are_wired : PlansAreWired
plans_are_wired = wired
