-- What is laid out for look-ups, item by item.
use Rattle.std.proofs.Common.{◌≡◌, ℕ, zero, suc, ◌+◌, ◌<◌, ◌≤◌, true, List, [], ◌∷◌, ◌++◌, length, take, get_or, slice_get, Option, Some, None, refl, sym, ap, subst, ◌∙◌, arith, inl, inr}
use Rattle.std.proofs.lemmas.Bool.{and_parts, cases_lt, eqb-true}
use Rattle.std.specs.List.{All}
use Rattle.std.specs.Option.{option_map}
use Rattle.std.proofs.lemmas.List.{get_or_past}
use Rattle.std.proofs.lemmas.Option.{none-some, same_Some, slice_get_cases, slice_get_within}
use Rattle.ct_catalog.specs.declared.table.TableDef.{TableDef}
use Rattle.phys_plan.specs.declared.node.Node.{Node}
use Rattle.stream_model.specs.KeysTold.{is_told, told_key}
use Rattle.stream_model.specs.Network.{Feed, Network, IsWired}
use Rattle.session_core.specs.declared.wiring.Feed as kept
use Rattle.session_core.specs.declared.wiring.TableWiring.{TableWiring}
use Rattle.session_core.specs.LaidOut.{IsTableIn, feed_of, scans_below}
use Rattle.op_rules.specs.Edges.{hash}
use Rattle.op_rules.specs.Values.{types_fit}
use Rattle.op_rules.proofs.laws.Values.{types-length}
use Rattle.ct_field.specs.Typed.{row_fits}
use Rattle.ct_value.specs.declared.ty.ColTy.{ColTy}
use Rattle.ct_change.specs.declared.change.Change.{Change}
use Rattle.route.specs.Routing.{route_of, type_at, types_at}
use Rattle.phys_plan.specs.declared.edge.Edge.{Edge as PlanEdge}
use Rattle.phys_plan.specs.declared.edge.Exchange.{Exchange as PlanExchange}
use Rattle.phys_plan.specs.declared.edge.Exchange.TheVariants.{Forward, Hash}
use Rattle.phys_plan.specs.declared.plan.Plan.{Plan}
use Rattle.phase_rules.specs.LocalGrouping.{LocalGrouping}
use Rattle.phase_rules.specs.Merging.{is_partial_row}
use Rattle.phys_plan.specs.declared.node.Op.{Op}
use Rattle.phys_plan.specs.declared.node.Op.TheVariants as op
use Rattle.plan_rules.specs.Around.{mode_read}
use Rattle.plan_rules.specs.Phases.{fits_sent, local_by}
use Rattle.plan_rules.specs.Plans.{Doing, bundle_in, change_fits, columns_from, exchange_in, exchange_of, kinds_in, local_in, network_edge, network_meaning, network_of, route_by, spread_of, table_of, update_in}
use Rattle.phys_plan.specs.Reading.{first_input, numbered}
use Rattle.ct_catalog.specs.Columns.{column_types, table_mode}
use Rattle.session_channels.specs.declared.exchange.Route.{Route}
use Rattle.session_channels.specs.declared.exchange.Route.TheVariants as r
use Rattle.session_channels.specs.Routes.{RoutesFor}
use Rattle.session_open.specs.Opening.{IsExchange, IsKeyRoute, IsRouteIn, IsRouteOf, spread_types, types_by}
use Rattle.plan_rules.specs.Columns.{AreColumns}
use Rattle.plan_rules.proofs.laws.ChangeFits.{fits_width}

-- ---- lists to which an item is put

module _ {A : Type 0} where
  -- what holds of each item, by its place
  abbrev pub Each : (ℕ → A → Type 0) → List A → Type 0
  Each P xs = (n : ℕ) (x : A) → slice_get xs n ≡ Some x → P n x

  pub each_none : (P : ℕ → A → Type 0) → Each P []
  each_none P n x is = absurd (none-some x is)

  pub each_push : (P : ℕ → A → Type 0) (xs : List A) (y : A) → Each P xs → P (length xs) y → Each P (xs ++ y ∷ [])
  each_push P [] y h p zero x is = subst (P 0) (same_Some y x is) p
  each_push P [] y h p (suc n) x is = absurd (none-some x is)
  each_push P (z ∷ xs) y h p zero x is = h zero x is
  each_push P (z ∷ xs) y h p (suc n) x is = each_push (λ m. P (suc m)) xs y (λ m. h (suc m)) p n x is

-- ---- routes

-- the types of columns that are among the first ones
type_taken : (n col : ℕ) (types : List ColTy) → col < length (take n types) → type_at types col ≡ type_at (take n types) col
type_taken zero col types l = absurd (omega arith)
type_taken (suc n) col [] l = absurd (omega arith)
type_taken (suc n) zero (ty ∷ types) l = refl
type_taken (suc n) (suc col) (ty ∷ types) l = type_taken n col types (omega arith)

few_taken : (n : ℕ) (types : List ColTy) → length (take n types) ≤ n
few_taken zero types = omega arith
few_taken (suc n) [] = omega arith
few_taken (suc n) (ty ∷ types) = let few = few_taken n types in omega (arith, few)

types_taken : (n : ℕ) (types : List ColTy) (columns : List ℕ) → All (λ column. column < length (take n types)) columns → types_at columns types ≡ types_at columns (take n types)
types_taken n types [] all = refl
types_taken n types (column ∷ columns) all = λ i. type_taken n column types (all 0 column (omega arith)) i ∷ types_taken n types columns (λ k d l. all (suc k) d (omega arith)) i

-- an edge spreads what its node sends by these types
record Spreads (of : ℕ → List ColTy) (doing : ℕ → Doing) (plan : Plan) (e : ℕ) (types : List ColTy) : Type 0 where
  alike : (columns : List ℕ) → All (λ column. column < length types) columns → types_at columns (of e) ≡ types_at columns types
  wide : (change : Change) → (network_edge of doing plan e).fits change ≡ true → length types ≤ length change.row

spreads : (of : ℕ → List ColTy) (doing : ℕ → Doing) (plan : Plan) (e : ℕ) (types : List ColTy) → types ≡ spread_types (numbered plan.nodes e) (of e) → Spreads of doing plan e types
spreads of doing plan e types same = go (numbered plan.nodes e) refl same
  where
    whole : local_in of plan (numbered plan.nodes e) ≡ None → types ≡ of e → Spreads of doing plan e types
    whole none is = record {
      alike = λ columns all. ap (types_at columns) (sym is);
      wide = λ change fits.
          let has = fits_width (network_meaning of doing plan e) (of e) change (subst (λ l. fits_sent l (change_fits (network_meaning of doing plan e) (of e)) change ≡ true) none fits) in
          let as_many = ap length is in
          omega (arith, has, as_many);
    }

    parts : (l : LocalGrouping) → local_in of plan (numbered plan.nodes e) ≡ Some l → types ≡ take l.keys (of e) → Spreads of doing plan e types
    parts l some is = record {
      alike = λ columns all. types_taken l.keys (of e) columns (subst (λ (ts : List ColTy). All (λ column. column < length ts) columns) is all) ∙ ap (types_at columns) (sym is);
      wide = λ change fits.
          let row_is = (and_parts (types_fit (take l.keys l.columns) (take l.keys change.row)) _ (and_parts (is_partial_row l change.row) _ (and_parts (row_fits (take l.keys l.columns) (take l.keys change.row)) _ (subst (λ o. fits_sent o (change_fits (network_meaning of doing plan e) (of e)) change ≡ true) some fits)).1).0).1 in
          let many = eqb-true (length change.row) _ row_is in
          let as_many = ap length is in
          let few = few_taken l.keys (of e) in
          omega (arith, many, as_many, few);
    }

    by_op : (node : Node) → numbered plan.nodes e ≡ Some node → (o : Op) → node.op ≡ o → types ≡ types_by o (of e) → Spreads of doing plan e types
    by_op node is (op.LocalGroup keys aggs) own e2 =
        parts _ (ap (local_in of plan) is ∙ ap (λ o. local_by o (of (first_input node.inputs)) (mode_read (kinds_in (numbered plan.edges (first_input node.inputs))) (update_in (numbered plan.edges (first_input node.inputs))))) own) e2
    by_op node is _ own e2 =
        whole (ap (local_in of plan) is ∙ ap (λ o. local_by o (of (first_input node.inputs)) (mode_read (kinds_in (numbered plan.edges (first_input node.inputs))) (update_in (numbered plan.edges (first_input node.inputs))))) own) e2

    go : (o : Option Node) → numbered plan.nodes e ≡ o → types ≡ spread_types o (of e) → Spreads of doing plan e types
    go None is e2 = whole (ap (local_in of plan) is) e2
    go (Some node) is e2 = by_op node is node.op refl e2

-- a route as the network has it
routed_by : (of : ℕ → List ColTy) (doing : ℕ → Doing) (plan : Plan) (e : ℕ) (types : List ColTy) (found : Option PlanEdge) (route : Route)
    → numbered plan.edges e ≡ found → Spreads of doing plan e types → ((edge : PlanEdge) → found ≡ Some edge → IsExchange types edge.exchange) → IsRouteIn types found route → RoutesFor plan.parallelism route (network_edge of doing plan e)
routed_by of doing plan e types None r.Forward is spread may kept = ap exchange_in is
routed_by of doing plan e types None (r.Hash key) is spread may kept = absurd kept
routed_by of doing plan e types (Some edge) route is spread may kept = by_exchange edge.exchange route (ap exchange_in is) (may edge refl) kept
  where
    by_exchange : (exchange : PlanExchange) (route : Route) → exchange_in (numbered plan.edges e) ≡ exchange_of exchange → IsExchange types exchange → IsRouteOf types exchange route → RoutesFor plan.parallelism route (network_edge of doing plan e)
    by_exchange Forward r.Forward now may kept = now
    by_exchange Forward (r.Hash key) now may kept = absurd kept
    by_exchange (Hash columns) r.Forward now may kept = absurd kept
    by_exchange (Hash columns) (r.Hash key) now may kept = record {
      exchange = now ∙ ap hash (sym kept.columns_are);
      spreads = record {
        routes = λ row.
            ap (λ x. route_by plan.parallelism (of e) x row) now
            ∙ (ap (λ ts. route_of plan.parallelism ts row) (spread.alike columns may.within)
            ∙ (ap (λ (c : List ℕ). route_of plan.parallelism (types_at c types) row) (sym kept.columns_are)
            ∙ ap (λ (t : List ColTy). route_of plan.parallelism (types_at key.columns t) row) (sym kept.types_are)));
      };
      wide = λ change fits. let has = spread.wide change fits in let as_many = ap length kept.types_are in omega (arith, has, as_many);
    }

pub routed : (of : ℕ → List ColTy) (doing : ℕ → Doing) (plan : Plan) (columns : List (List ColTy)) (e : ℕ) (route : Route)
    → AreColumns columns of → ((edge : PlanEdge) → numbered plan.edges e ≡ Some edge → IsExchange (spread_types (numbered plan.nodes e) (get_or columns e [])) edge.exchange)
    → IsRouteIn (spread_types (numbered plan.nodes e) (get_or columns e [])) (numbered plan.edges e) route → RoutesFor plan.parallelism route (network_edge of doing plan e)
routed of doing plan columns e route are may kept =
    let types = spread_types (numbered plan.nodes e) (get_or columns e []) in
    routed_by of doing plan e types (numbered plan.edges e) route refl (spreads of doing plan e types (ap (spread_types (numbered plan.nodes e)) (are e))) may kept

-- ---- columns, one behind the other

pub columns_more : (start n : ℕ) → columns_from start (n + 1) ≡ columns_from start n ++ (start + n) ∷ []
columns_more start n = ap (columns_from start) (let e : n + 1 ≡ suc n = omega arith in e) ∙ columns_end start n
  where
    columns_end : (start n : ℕ) → columns_from start (suc n) ≡ columns_from start n ++ (start + n) ∷ []
    columns_end start zero = ap (λ m. m ∷ []) (let e : start ≡ start + 0 = omega arith in e)
    columns_end start (suc n) = ap (λ l. start ∷ l) (columns_end (suc start) n ∙ ap (λ m. columns_from (suc start) n ++ m ∷ []) (let e : suc start + n ≡ start + suc n = omega arith in e))

-- ---- tables, bundles and ports

pub tables_laid : (of : ℕ → List ColTy) (doing : ℕ → Doing) (plan : Plan) (tables : List TableWiring) → length tables ≡ length plan.sources
    → ((number : ℕ) (kept : TableWiring) → slice_get tables number ≡ Some kept → (table : TableDef) → slice_get plan.sources number ≡ Some table
    → IsKeyRoute (column_types table) (spread_of table) kept.spread × ((of : ℕ → List ColTy) (doing : ℕ → Doing) → kept.scans ≡ scans_below (network_of of doing plan) number (length plan.nodes)))
    → (number : ℕ) → IsTableIn (network_of of doing plan) number (slice_get tables number) ((network_of of doing plan).tables number)
tables_laid of doing plan tables many each number = cases (slice_get tables number) (slice_get plan.sources number) refl refl
  where
    cases : (kept : Option TableWiring) (found : Option TableDef) → slice_get tables number ≡ kept → slice_get plan.sources number ≡ found
        → IsTableIn (network_of of doing plan) number kept (option_map (table_of plan.parallelism) found)
    cases None None off out = tt
    cases None (Some table) off is =
        let within = slice_get_within plan.sources number table is in
        elim (slice_get_cases tables number).1 [
          | inl p ↦ absurd (none-some p.0 (sym off ∙ p.2))
          | inr p ↦ let le = p.0 in absurd (omega (arith, le, many, within))
        ]
    cases (Some kept) None is out =
        let within = slice_get_within tables number kept is in
        elim (slice_get_cases plan.sources number).1 [
          | inl p ↦ absurd (none-some p.0 (sym out ∙ p.2))
          | inr p ↦ let le = p.0 in absurd (omega (arith, le, many, within))
        ]
    cases (Some kept) (Some table) is there =
        let r = each number kept is table there in
        let key = r.0 in
        record {
          spread = sym key.columns_are;
          spreads = record {
            routes = λ row.
                ap (λ (c : List ℕ). route_of plan.parallelism (types_at c (column_types table)) row) (sym key.columns_are)
                ∙ ap (λ (t : List ColTy). route_of plan.parallelism (types_at kept.spread.columns t) row) (sym key.types_are);
          };
          wide = λ change fits.
              let many = types-length (column_types table) change.row (and_parts (types_fit (column_types table) change.row) (is_told (told_key (table_mode table) change.kind) change.row) fits).0 ∙ ap length (sym key.types_are) in
              omega (arith, many);
          scans = r.1 of doing;
        }

-- past the last node there is none
past_nodes : (nodes : List Node) (n : ℕ) → length nodes ≤ n → slice_get nodes n ≡ None
past_nodes [] n past = refl
past_nodes (node ∷ nodes) zero past = absurd (omega (arith, past))
past_nodes (node ∷ nodes) (suc n) past = past_nodes nodes n (omega (arith, past))

numbered_past : (nodes : List Node) (v : ℕ) → length nodes + 1 ≤ v → numbered nodes v ≡ None
numbered_past nodes zero past = refl
numbered_past nodes (suc n) past = past_nodes nodes n (omega (arith, past))

pub bundles_laid : (size : ℕ) (nodes : List Node) (sizes : List (Option ℕ)) → length sizes ≡ length nodes + 1
    → ((v : ℕ) → v < length nodes + 1 → get_or sizes v None ≡ bundle_in size (numbered nodes v)) → (v : ℕ) → get_or sizes v None ≡ bundle_in size (numbered nodes v)
bundles_laid size nodes sizes many each v =
    elim (cases_lt v (length nodes + 1)) [
      | inl within ↦ each v within
      | inr past ↦ get_or_past sizes v None (omega (arith, past, many)) ∙ sym (ap (bundle_in size) (numbered_past nodes v past))
    ]

-- no port is fed by an edge with a greater number
fed_past : (g : Network) → IsWired g → (e : ℕ) → g.count < e → g.fed e ≡ None
fed_past g wired e past = cases (g.fed e) refl
  where
    cases : (fed : Option Feed) → g.fed e ≡ fed → fed ≡ None
    cases None is = refl
    cases (Some feed) is =
        let p = wired.feeds_port e feed is in
        let some : 0 < g.ports feed.node = omega (arith, p.0) in
        let low = wired.below feed.node feed.port p.0 in
        let top = wired.counted feed.node some in
        absurd (omega (arith, p.1, low, top, past))

pub feeds_laid : (g : Network) → IsWired g → (feeds : List (Option kept.Feed)) → length feeds ≡ g.count + 1
    → ((e : ℕ) → e < g.count + 1 → feed_of (get_or feeds e None) ≡ g.fed e) → (e : ℕ) → feed_of (get_or feeds e None) ≡ g.fed e
feeds_laid g wired feeds many each e =
    elim (cases_lt e (g.count + 1)) [
      | inl within ↦ each e within
      | inr past ↦ ap feed_of (get_or_past feeds e None (omega (arith, past, many))) ∙ sym (fed_past g wired e (omega (arith, past)))
    ]
