-- The nodes of a laid tree, by induction over the tree.
use Rattle.std.specs.Prelude.{◌≡◌, ℕ, ◌+◌, ◌<◌, ◌==◌, nat_le, nat_lt, Bool, ◌&&◌, ◌||◌, not, cond, List, length, fold, map, slice_get, Option, is_some, option_map, unwrap_or}
use Rattle.std.proofs.Common.{zero, suc, true, false, [], ◌∷◌, refl, sym, ap, subst, ◌∙◌, arith, Some, None}
use Rattle.std.specs.List.{AllByRecursion, list_all}
use Rattle.std.specs.Str.{bytes_eq}
use Rattle.std.proofs.lemmas.Bool.{eqb-false, eq-eqb, le-leb, lt-ltb}
use Rattle.std.proofs.lemmas.Option.{slice_get-map}
use Rattle.std.proofs.lemmas.Slice.Eq.{bytes_eq-Decides}
use Rattle.ct_value.specs.declared.ty.ColTy.{ColTy}
use Rattle.ct_change.specs.Changelog.{append, retract, kinds_of, mode_of}
use Rattle.ct_change.specs.declared.kind.KindSet.{KindSet}
use Rattle.ct_change.specs.declared.kind.Declared.{Declared}
use Rattle.ct_change.specs.declared.kind.Declared.TheVariants.{Append, Retract, Upsert}
use Rattle.ct_catalog.specs.declared.table.TableDef.{TableDef}
use Rattle.ct_expr.specs.Types.{both_of}
use Rattle.ct_expr.specs.Views.{expr_of}
use Rattle.rel_algebra.specs.declared.agg.Agg.{Agg}
use Rattle.rel_algebra.specs.declared.agg.AggCall.{AggCall}
use Rattle.rel_algebra.specs.declared.agg.AggCall.TheVariants.{CountAll, Count, CountDistinct, Sum, Min, Max, Avg}
use Rattle.rel_algebra.specs.Groups.{group_columns}
use Rattle.rel_algebra.specs.Rel.{Unary, filter_by, project_on, group_by, rank_in, Binary, join_on, semi_on, set_by, Rel, Rels, Scan, One, Two, Many, no_rels, rel_and}
use Rattle.rel_algebra.specs.Types.{columns_if, is_column, common_columns, columns_of, common_from, unary_columns, binary_columns}
use Rattle.phys_plan.specs.declared.edge.Edge.{Edge}
use Rattle.phys_plan.specs.declared.edge.Exchange.{Exchange}
use Rattle.phys_plan.specs.declared.edge.Exchange.TheVariants.{Forward}
use Rattle.phys_plan.specs.declared.node.Node.{Node}
use Rattle.phys_plan.specs.declared.node.Op.{Op}
use Rattle.phys_plan.specs.declared.node.Op.TheVariants as op
use Rattle.phys_plan.specs.declared.plan.Plan.{Plan}
use Rattle.mode_infer.specs.declared.kinds.Flow.{Flow}
use Rattle.mode_infer.specs.Kinds.{asked, either, flow_of, group_kinds, inserts, no_kinds, plain, scan_kinds, sent_of}
use Rattle.plan_inferred.specs.Rules.{by_columns}
use Rattle.phys_plan.specs.Reading.{numbered}
use Rattle.ct_catalog.specs.Columns.{column_types}
use Rattle.plan_rules.specs.Columns.{columns_as, common_with}
use Rattle.laid_plans.proofs.laws.LaidTrees.{HasNode, Carries, IsOver, ScanLaid, SourceLaid, OneLaid, IsLaid, AreLaid}
use Rattle.plan_rules.specs.Roles.{Role, one_of, two_of, role, takes as takes_as, unary_way, binary_way}
use Rattle.plan_shape.specs.Shape.{is_keyed_by, is_read, is_upsert_by, normalizes_by, scans_by, same_agg, same_aggs, same_call, same_column, suits_consumer, takes, op_in}
use Rattle.plan_shape.specs.Tables.{is_declarable}
use Rattle.ct_change.specs.Kinds.{is_upsert}
use Rattle.rel_algebra.specs.Unions.{has_two, has_full_unions, all_have_full_unions}
use Rattle.plan_check.specs.Types.{is_typed_by, types_at, types_by}
use Rattle.sound_plans.proofs.laws.Numbers.{below_is_not, then_parts}
use Rattle.sound_plans.proofs.laws.Lists.{both, map_at, map_length, of_each, the_same, within}
use Rattle.sound_plans.proofs.laws.Tables.{key_within, upsert_has_key}
use Rattle.plan_rules.proofs.laws.Erasing.{of_groups, unary_told, binary_told}
use Rattle.plan_rules.specs.Phases.{has_parts, local_below}
use Rattle.plan_rules.specs.Plans.{kinds_in}
use Rattle.plan_rules.specs.TreeKinds.{kinds_declared, table_kinds, tree_kinds, trees_kinds}
use Rattle.laid_plans.specs.Shapes.{bundles_in, types_of}
use Rattle.laid_plans.proofs.laws.Laid.{both_parts}
use Rattle.laid_plans.proofs.laws.LaidNodes.{IsFed, IsInner, OpMeets, flow_at, flow_from, inner, types_from}
use Rattle.laid_plans.proofs.laws.Same.{both_hold}
use Rattle.laid_plans.proofs.laws.Sent.{way_sends, ways_send}
use Rattle.laid_plans.proofs.laws.Parts.{Part, next_part, no_part, two_parts}

-- what is left of common columns is there from the start
common_some : (types : List (List ColTy)) (start : Option (List ColTy)) (inputs : Rels) (columns : List ColTy) → common_from types start inputs ≡ Some columns → (first : List ColTy) × (start ≡ Some first)
common_some types start no_rels columns t = (columns, t)
common_some types start (rel_and input inputs) columns t =
    let q = common_some types (both_of common_columns start (columns_of types input)) inputs columns t in
    let p = both_parts common_columns start (columns_of types input) q.0 q.1 in
    (p.0, p.2)

-- numbers below a width are columns of so many
pub are_columns : (columns : List ColTy) (key : List ℕ) → AllByRecursion (λ column. column < length columns) key → list_all (is_column columns) key ≡ true
are_columns columns [] h = refl
are_columns columns (c ∷ key) h = (λ i. lt-ltb c (length columns) h.0 i && list_all (is_column columns) key) ∙ are_columns columns key h.1

module _ (plan : Plan) where
  -- the columns that a node sends
  abbrev columns_at : ℕ → Option (List ColTy)
  columns_at v = types_at plan.sources plan.nodes v

  -- the nodes of a tree behind n nodes, whose root sends these columns and kinds by this exchange, and may feed any node
  pub record Told (n : ℕ) (x : Exchange) (root : ℕ) (columns : List ColTy) (kinds : KindSet) : Type 0 where
    pub part : Part plan n root (root ∷ [])
    pub columns_are : columns_at root ≡ Some columns
    pub flow_is : flow_at plan root ≡ plain kinds
    pub edge : Edge
    pub is_edge : numbered plan.edges root ≡ Some edge
    pub exchange : edge.exchange ≡ x
    pub kinds_are : edge.kinds ≡ kinds
    pub node : Node
    pub is_node : numbered plan.nodes root ≡ Some node
    pub feeds : (above : Option Op) → suits_consumer plan.sources node.op above ≡ true

  -- those of several trees, whose common columns and whose kinds these are; each may be an input of a union
  record Several (n last : ℕ) (roots : List ℕ) (start common : Option (List ColTy)) (kinds : List KindSet) : Type 0 where
    pub part : Part plan n last roots
    pub kinds_are : map sent_of (map (flow_at plan) roots) ≡ kinds
    pub common_are : common_with start (map columns_at roots) ≡ common
    pub fed : (p root : ℕ) → slice_get roots p ≡ Some root → (port : ℕ) → IsFed plan op.Union port root

  -- ---- one node more

  -- the root of a tree may feed a port that asks for its exchange
  pub feeds_port : (n : ℕ) (x : Exchange) (root : ℕ) (columns : List ColTy) (kinds : KindSet) (o : Op) (port : ℕ) → by_columns (asked o port) ≡ x → Told n x root columns kinds → IsFed plan o port root
  feeds_port n x root columns kinds o port asks t = record {
    node = t.node;
    is_node = t.is_node;
    suits = t.feeds (Some o);
    edge = t.edge;
    is_edge = t.is_edge;
    exchanged = asks ∙ sym t.exchange;
  }

  -- the only port of an operator with one input
  pub one_port : (o : Op) (below : ℕ) → IsFed plan o 0 below → (port input : ℕ) → slice_get (below ∷ []) port ≡ Some input → IsFed plan o port input
  one_port o below f zero input e = subst (λ i. IsFed plan o 0 i) (the_same below input e) f
  one_port o below f (suc port) input e = absurd (cc)

  -- the ports of an operator with two
  two_ports : (o : Op) (first second : ℕ) → IsFed plan o 0 first → IsFed plan o 1 second → (port input : ℕ) → slice_get (first ∷ (second ∷ [])) port ≡ Some input → IsFed plan o port input
  two_ports o first second f g zero input e = subst (λ i. IsFed plan o 0 i) (the_same first input e) f
  two_ports o first second f g (suc zero) input e = subst (λ i. IsFed plan o 1 i) (the_same second input e) g
  two_ports o first second f g (suc (suc port)) input e = absurd (cc)

  -- an operator that asks nothing of the tables, behind its inputs
  inner_node : (n last root : ℕ) (x : Exchange) (o : Op) (roots : List ℕ) (columns : List ColTy) (kinds : KindSet) → IsInner plan o → Part plan n last roots → root ≡ last + 1 → HasNode plan root o roots
      → Carries plan root x kinds → root < length plan.nodes → takes o (length roots) ≡ true → types_by plan.sources o (map columns_at roots) ≡ Some columns → flow_of plan.sources o (map (flow_at plan) roots) ≡ plain kinds
      → ((port input : ℕ) → slice_get roots port ≡ Some input → IsFed plan o port input) → Told n x root columns kinds
  inner_node n last root x o roots columns kinds is s next has carries high ports typed flow fed =
      let below : AllByRecursion (λ input. input < root) roots = of_each (λ input. input < root) roots (λ p input e. let c = (s.segment.contains p input e).1 in omega arith) in
      let k : columns_at root ≡ Some columns = types_from plan root o roots has below ∙ typed in
      record {
        part = next_part plan n last root roots o s next has (record {
          ruled = is.ruled;
          keeps = λ parts. absurd (cc (is.whole, parts));
          suits = is.suits;
          ports = ports;
          below = is.below _ _;
          last = is.no_sink ∙ sym (below_is_not root (length plan.nodes) high);
          typed = ap (is_typed_by plan.sink o) k ∙ is.typed columns;
          fed = fed;
        });
        columns_are = k;
        flow_is = flow_from plan root o roots has below ∙ flow;
        edge = _;
        is_edge = carries;
        exchange = refl;
        kinds_are = refl;
        node = has.node;
        is_node = has.is_there;
        feeds = λ above. ap (λ (p : Op). suits_consumer plan.sources p above) has.is_op ∙ is.feeds above;
      }

  -- with one input
  on_one : (n below root : ℕ) (x y : Exchange) (o : Op) (own columns : List ColTy) (kinds sent : KindSet) → IsInner plan o → Told n x below own kinds → by_columns (asked o 0) ≡ x → takes o 1 ≡ true
      → types_by plan.sources o (Some own ∷ []) ≡ Some columns → flow_of plan.sources o (plain kinds ∷ []) ≡ plain sent → root ≡ below + 1 → HasNode plan root o (below ∷ []) → Carries plan root y sent → root < length plan.nodes
      → Told n y root columns sent
  on_one n below root x y o own columns kinds sent is t asks ports typed flow next has carries high =
      inner_node n below root y o (below ∷ []) columns sent is t.part next has carries high ports
      (ap (λ (c : Option (List ColTy)). types_by plan.sources o (c ∷ [])) t.columns_are ∙ typed)
      (ap (λ (f : Flow). flow_of plan.sources o (f ∷ [])) t.flow_is ∙ flow)
      (one_port o below (feeds_port n x below own kinds o 0 asks t))

  -- with two
  on_two : (n first second root : ℕ) (x y z : Exchange) (o : Op) (left right columns : List ColTy) (one other sent : KindSet) → IsInner plan o → Told n x first left one → Told first y second right other
      → by_columns (asked o 0) ≡ x → by_columns (asked o 1) ≡ y → takes o 2 ≡ true
      → types_by plan.sources o (Some left ∷ (Some right ∷ [])) ≡ Some columns → flow_of plan.sources o (plain one ∷ (plain other ∷ [])) ≡ plain sent
      → root ≡ second + 1 → HasNode plan root o (first ∷ (second ∷ [])) → Carries plan root z sent → root < length plan.nodes → Told n z root columns sent
  on_two n first second root x y z o left right columns one other sent is s t left_asks right_asks ports typed flow next has carries high =
      inner_node n second root z o (first ∷ (second ∷ [])) columns sent is (two_parts plan n first second (second ∷ []) s.part t.part) next has carries high ports
      ((λ i. types_by plan.sources o (s.columns_are i ∷ (t.columns_are i ∷ []))) ∙ typed)
      ((λ i. flow_of plan.sources o (s.flow_is i ∷ (t.flow_is i ∷ []))) ∙ flow)
      (two_ports o first second (feeds_port n x first left one o 0 left_asks s) (feeds_port first y second right other o 1 right_asks t))

  -- ---- operators

  -- one is told by this role, has the role's columns, asks nothing of the tables, and takes its inputs by these exchanges
  pub record OpFits (r : Role) (x y : Exchange) (o : Op) : Type 0 where
    pub told : role o ≡ r
    pub made : (inputs : List (Option (List ColTy))) → types_by plan.sources o inputs ≡ columns_as plan.sources (role o) inputs
    pub is_inner : IsInner plan o
    pub asks : by_columns (asked o 0) ≡ x
    pub other_asks : by_columns (asked o 1) ≡ y

  abbrev pub UnaryFits : Unary → Op → Type 0
  UnaryFits how o = OpFits (one_of how) (unary_way how).asks (unary_way how).asks o

  abbrev pub BinaryFits : Binary → Op → Type 0
  BinaryFits how o = OpFits (two_of how) (binary_way how).left (binary_way how).right o

  -- the operator of a way
  pub unary_fits : (how : Unary) → UnaryFits how ((unary_way how).op plan.mini_batch)
  unary_fits (filter_by condition) = record {
    told = unary_told plan.mini_batch (filter_by condition);
    made = λ inputs. refl;
    is_inner = inner plan (op.Filter (expr_of condition)) refl;
    asks = refl;
    other_asks = refl;
  }
  unary_fits (project_on items) = record {
    told = unary_told plan.mini_batch (project_on items);
    made = λ inputs. refl;
    is_inner = inner plan (op.Project (map expr_of items)) refl;
    asks = refl;
    other_asks = refl;
  }
  unary_fits (group_by keys aggs) =
      of_groups (λ o. UnaryFits (group_by keys aggs) o) plan.mini_batch keys aggs
      (record {
        told = refl;
        made = λ inputs. refl;
        is_inner = inner plan (op.Group keys aggs) refl;
        asks = refl;
        other_asks = refl;
      })
      (λ some keyed. record {
        told = refl;
        made = λ inputs. refl;
        is_inner = inner plan (op.BatchGroup keys aggs) (λ i. lt-ltb 0 plan.mini_batch some i && lt-ltb 0 keys keyed i);
        asks = refl;
        other_asks = refl;
      })
  unary_fits (rank_in partition order bound ranked) = record {
    told = refl;
    made = λ inputs. refl;
    is_inner = inner plan (op.TopN partition order bound ranked) refl;
    asks = refl;
    other_asks = refl;
  }

  pub binary_fits : (how : Binary) → BinaryFits how (binary_way how).op
  binary_fits (join_on kind pairs rest) = record {
    told = binary_told (join_on kind pairs rest);
    made = λ inputs. refl;
    is_inner = inner plan (op.Join kind pairs (option_map expr_of rest)) refl;
    asks = refl;
    other_asks = refl;
  }
  binary_fits (semi_on anti pairs rest) = record {
    told = binary_told (semi_on anti pairs rest);
    made = λ inputs. refl;
    is_inner = inner plan (op.Semi anti pairs (option_map expr_of rest)) refl;
    asks = refl;
    other_asks = refl;
  }
  binary_fits (set_by except all columns) = record {
    told = refl;
    made = λ inputs. refl;
    is_inner = inner plan (op.SetOp except all columns) refl;
    asks = refl;
    other_asks = refl;
  }

  unary_typed : (how : Unary) (o : Op) → UnaryFits how o → (own : List ColTy) → types_by plan.sources o (Some own ∷ []) ≡ unary_columns how own
  unary_typed how o f own = f.made (Some own ∷ []) ∙ ap (λ r. columns_as plan.sources r (Some own ∷ [])) f.told

  binary_typed : (how : Binary) (o : Op) → BinaryFits how o → (left right : List ColTy) → types_by plan.sources o (Some left ∷ (Some right ∷ [])) ≡ binary_columns how left right
  binary_typed how o f left right = f.made (Some left ∷ (Some right ∷ [])) ∙ ap (λ r. columns_as plan.sources r (Some left ∷ (Some right ∷ []))) f.told

  -- ---- tables

  -- a scan of a table that is there
  scan_meets : (v source : ℕ) (table : TableDef) → slice_get plan.sources source ≡ Some table → HasNode plan v (op.Scan source) [] → v < length plan.nodes → (columns_at v ≡ Some (column_types table)) × OpMeets plan v (op.Scan source) []
  scan_meets v source table e has high =
      let k : columns_at v ≡ Some (column_types table) = types_from plan v (op.Scan source) [] has tt ∙ ap (option_map column_types) e in (
        k,
        record {
          ruled = refl;
          keeps = λ parts. absurd (cc (parts));
          suits = lt-ltb source (length plan.sources) (within plan.sources source table e);
          ports = refl;
          below = refl;
          last = sym (below_is_not v (length plan.nodes) high);
          typed = ap (is_typed_by plan.sink (op.Scan source)) k;
          fed = λ port input f. absurd (cc);
        },
      )

  -- a scan of a table that isn't an upsert table
  plain_scan : (n source root : ℕ) (table : TableDef) (x : Exchange) (kinds : KindSet) → slice_get plan.sources source ≡ Some table → is_upsert table.mode ≡ false → scan_kinds (Some table) ≡ kinds → root < length plan.nodes
      → root ≡ n + 1 → HasNode plan root (op.Scan source) [] → Carries plan root x kinds → Told n x root (column_types table) kinds
  plain_scan n source root table x kinds e no_keys sends high next has carries =
      let m = scan_meets root source table e has high in
      record {
        part = next_part plan n n root [] (op.Scan source) (no_part plan n) next has m.1;
        columns_are = m.0;
        flow_is = flow_from plan root (op.Scan source) [] has tt ∙ ap (λ t. plain (scan_kinds t)) e ∙ ap plain sends;
        edge = _;
        is_edge = carries;
        exchange = refl;
        kinds_are = refl;
        node = has.node;
        is_node = has.is_there;
        feeds = λ above. ap (λ (p : Op). suits_consumer plan.sources p above) has.is_op ∙ ap (λ t. is_read t above) e ∙ ap (λ b. not b || normalizes_by table.key above) no_keys;
      }

  -- the test of equal keys
  same_key : (key : List ℕ) → bytes_eq key key ≡ true
  same_key key = (bytes_eq-Decides key key).1 refl

  -- a scan of an upsert table, and its changes told in full by the table's key
  upsert_scan : (n source root : ℕ) (table : TableDef) (x : Exchange) (key : List ℕ) → slice_get plan.sources source ≡ Some table → is_declarable table ≡ true → table.mode ≡ Upsert → table.key ≡ Some key
      → root < length plan.nodes → ScanLaid plan n x source Upsert key root → Told n x root (column_types table) (kinds_of retract)
  upsert_scan n source root table x key e d mode has_key high l =
      let next = l.0 in
      let scan = l.1 in
      let has = l.3 in
      let low : n + 1 < length plan.nodes = omega arith in
      let m = scan_meets (n + 1) source table e scan low in
      let first = next_part plan n n (n + 1) [] (op.Scan source) (no_part plan n) refl scan m.1 in
      let wide : length (column_types table) ≡ length table.cols = map_length (λ column. column.ty) table.cols in
      let there : list_all (is_column (column_types table)) key ≡ true = are_columns (column_types table) key (subst (λ w. AllByRecursion (λ column. column < w) key) (sym wide) (key_within table key d has_key)) in
      let lower : n + 1 < root = omega arith in
      let is_mode : is_upsert table.mode ≡ true = ap is_upsert mode in
      let read : suits_consumer plan.sources scan.node.op (Some (op.Normalize key)) ≡ true =
      ap (λ (p : Op). suits_consumer plan.sources p (Some (op.Normalize key))) scan.is_op ∙ ap (λ t. is_read t (Some (op.Normalize key))) e
      ∙ (λ i. not (is_mode i) || normalizes_by (has_key i) (Some (op.Normalize key))) ∙ same_key key in
      let stands : scans_by plan.sources key (op_in (numbered plan.nodes (n + 1))) ≡ true =
      ap (λ o. scans_by plan.sources key (op_in o)) scan.is_there ∙ ap (λ (p : Op). scans_by plan.sources key (Some p)) scan.is_op ∙ ap (is_upsert_by key) e
      ∙ (λ i. is_mode i && is_keyed_by key (has_key i)) ∙ same_key key in
      let fed : IsFed plan (op.Normalize key) 0 (n + 1) = record {
        node = scan.node;
        is_node = scan.is_there;
        suits = read;
        edge = _;
        is_edge = l.2;
        exchanged = refl;
      } in
      let k : columns_at root ≡ Some (column_types table) =
      types_from plan root (op.Normalize key) ((n + 1) ∷ []) has (lower, tt) ∙ ap (λ (c : Option (List ColTy)). types_by plan.sources (op.Normalize key) (c ∷ [])) m.0 ∙ ap (λ b. columns_if b (column_types table)) there in
      record {
        part = next_part plan n (n + 1) root ((n + 1) ∷ []) (op.Normalize key) first (let h : root ≡ n + 1 + 1 = omega arith in h) has (record {
          ruled = refl;
          keeps = λ parts. absurd (cc (parts));
          suits = refl;
          ports = refl;
          below = stands;
          last = sym (below_is_not root (length plan.nodes) high);
          typed = ap (is_typed_by plan.sink (op.Normalize key)) k;
          fed = one_port (op.Normalize key) (n + 1) fed;
        });
        columns_are = k;
        flow_is = flow_from plan root (op.Normalize key) ((n + 1) ∷ []) has (lower, tt);
        edge = _;
        is_edge = l.4;
        exchange = refl;
        kinds_are = refl;
        node = has.node;
        is_node = has.is_there;
        feeds = λ above. ap (λ (p : Op). suits_consumer plan.sources p above) has.is_op;
      }

  -- a table, by its mode
  table_tree : (n source root : ℕ) (table : TableDef) (x : Exchange) → slice_get plan.sources source ≡ Some table → is_declarable table ≡ true → root < length plan.nodes
      → (mode : Declared) → table.mode ≡ mode → ScanLaid plan n x source mode (unwrap_or table.key []) root → Told n x root (column_types table) (kinds_declared mode (kinds_of (mode_of mode [])))
  table_tree n source root table x e d high Append mode l = plain_scan n source root table x (kinds_of append) e (ap is_upsert mode) (ap (λ m. kinds_of (mode_of m [])) mode) high l.0 l.1 l.2
  table_tree n source root table x e d high Retract mode l = plain_scan n source root table x (kinds_of retract) e (ap is_upsert mode) (ap (λ m. kinds_of (mode_of m [])) mode) high l.0 l.1 l.2
  table_tree n source root table x e d high Upsert mode l =
      let k = upsert_has_key table d mode in
      upsert_scan n source root table x k.0 e d mode k.1 high (subst (λ (o : Option (List ℕ)). ScanLaid plan n x source Upsert (unwrap_or o []) root) k.1 l)

  -- a table that is there, with its columns
  source_tree : ((source : ℕ) (table : TableDef) → slice_get plan.sources source ≡ Some table → is_declarable table ≡ true) → (n source root : ℕ) (x : Exchange) → root < length plan.nodes
      → (o : Option TableDef) → slice_get plan.sources source ≡ o → SourceLaid plan n x source o root → (columns : List ColTy) → slice_get (types_of plan.sources) source ≡ Some columns → Told n x root columns (table_kinds o)
  source_tree tables n source root x high None e laid columns t =
      let none : slice_get (types_of plan.sources) source ≡ None = slice_get-map column_types plan.sources source ∙ ap (option_map column_types) e in
      absurd (let k : None ≡ Some columns = sym none ∙ t in cc (k))
  source_tree tables n source root x high (Some table) e laid columns t =
      let same : column_types table ≡ columns = the_same (column_types table) columns (sym (map_at column_types plan.sources source table e) ∙ t) in
      subst (λ c. Told n x root c (table_kinds (Some table))) same (table_tree n source root table x e (tables source table e) high table.mode refl laid)

  -- ---- unions

  -- a union of two inputs or more has as many roots
  two_roots : (two_phase : Bool) (inputs : Rels) (n : ℕ) (roots : List ℕ) (last : ℕ) → has_two inputs ≡ true → AreLaid plan two_phase n inputs roots last → nat_le 2 (length roots) ≡ true
  two_roots two_phase no_rels n roots last h laid = absurd (cc)
  two_roots two_phase (rel_and input no_rels) n roots last h laid = absurd (cc)
  two_roots two_phase (rel_and input (rel_and other inputs)) n roots last h laid =
      let later = laid.3 in
      let many : length roots ≡ suc (suc (length later.1)) = ap length laid.4 ∙ ap (λ (rs : List ℕ). suc (length rs)) later.4 in
      le-leb 2 (length roots) (omega arith)

  -- no tree
  no_others : (n : ℕ) (roots : List ℕ) (last : ℕ) (start : Option (List ColTy)) → roots ≡ [] → last ≡ n → Several n last roots start start []
  no_others n roots last start none same = subst (λ (rs : List ℕ). Several n last rs start start []) (sym none) (subst (λ m. Several n m [] start start []) (sym same) (record {
    part = no_part plan n;
    kinds_are = refl;
    common_are = refl;
    fed = λ p root e. absurd (cc);
  }))

  -- the roots of a tree and of others behind it
  fed_both : (n mid : ℕ) (columns : List ColTy) (kinds : KindSet) (others : List ℕ) → Told n Forward mid columns kinds → ((p root : ℕ) → slice_get others p ≡ Some root → (port : ℕ) → IsFed plan op.Union port root)
      → (p root : ℕ) → slice_get (mid ∷ others) p ≡ Some root → (port : ℕ) → IsFed plan op.Union port root
  fed_both n mid columns kinds others t f zero root e port = subst (λ v. IsFed plan op.Union port v) (the_same mid root e) (feeds_port n Forward mid columns kinds op.Union port refl t)
  fed_both n mid columns kinds others t f (suc p) root e port = f p root e port

  -- the kinds of a tree and of others behind it
  kinds_both : (mid : ℕ) (others : List ℕ) (kinds : KindSet) (more : List KindSet) → flow_at plan mid ≡ plain kinds → map sent_of (map (flow_at plan) others) ≡ more → map sent_of (map (flow_at plan) (mid ∷ others)) ≡ kinds ∷ more
  kinds_both mid others kinds more one all = λ i. sent_of (one i) ∷ all i

  -- a tree, and others behind it
  one_more : (n mid last : ℕ) (others roots : List ℕ) (start common : Option (List ColTy)) (columns : List ColTy) (kinds : KindSet) (more : List KindSet) → Told n Forward mid columns kinds
      → Several mid last others (both_of common_columns start (Some columns)) common more → roots ≡ mid ∷ others → Several n last roots start common (kinds ∷ more)
  one_more n mid last others roots start common columns kinds more t s e = subst (λ (rs : List ℕ). Several n last rs start common (kinds ∷ more)) (sym e) (record {
    part = two_parts plan n mid last others t.part s.part;
    kinds_are = kinds_both mid others kinds more t.flow_is s.kinds_are;
    common_are = ap (λ c. common_with (both_of common_columns start c) (map columns_at others)) t.columns_are ∙ s.common_are;
    fed = fed_both n mid columns kinds others t s.fed;
  })

  -- the union of a tree and others behind it
  union_tree : (n first last root : ℕ) (x : Exchange) (others roots : List ℕ) (own columns : List ColTy) (kinds : KindSet) (more : List KindSet) → Told n Forward first own kinds → Several first last others (Some own) (Some columns) more
      → roots ≡ first ∷ others → nat_le 2 (length roots) ≡ true → root ≡ last + 1 → HasNode plan root op.Union roots → Carries plan root x (fold either no_kinds (kinds ∷ more)) → root < length plan.nodes
      → Told n x root columns (fold either no_kinds (kinds ∷ more))
  union_tree n first last root x others roots own columns kinds more t s e many next has carries high =
      let all = first ∷ others in
      inner_node n last root x op.Union all columns (fold either no_kinds (kinds ∷ more)) (inner plan op.Union refl) (two_parts plan n first last others t.part s.part) next
      (subst (λ (rs : List ℕ). HasNode plan root op.Union rs) e has) carries high (ap (λ (rs : List ℕ). nat_le 2 (length rs)) (sym e) ∙ many)
      (ap (λ c. common_with c (map columns_at others)) t.columns_are ∙ s.common_are)
      (ap (λ ks. plain (fold either no_kinds ks)) (kinds_both first others kinds more t.flow_is s.kinds_are))
      (λ port input f. fed_both n first own kinds others t s.fed port input f port)

  -- ---- local groups

  is_held : {A : Type 0} (b : Bool) (x y : A) → cond b (Some x) None ≡ Some y → (b ≡ true) × (x ≡ y)
  is_held true x y e = (refl, cc e)
  is_held false x y e = absurd (cc e)

  -- a group that is taken in two phases
  pub record InPhases (two_phase : Bool) (keys : ℕ) (aggs : List Agg) (kinds : KindSet) (local : Op) : Type 0 where
    pub local_is : local ≡ op.LocalGroup keys aggs
    pub bundled : (plan.mini_batch == 0 || keys == 0) ≡ false
    pub parts : list_all (λ agg. has_parts kinds agg.call) aggs ≡ true

  in_phases : (two_phase : Bool) (keys : ℕ) (aggs : List Agg) (kinds : KindSet) (local : Op) → local_below (bundles_in plan two_phase) (group_by keys aggs) kinds ≡ Some local → InPhases two_phase keys aggs kinds local
  in_phases two_phase keys aggs kinds local e =
      let none : Bool = plan.mini_batch == 0 || keys == 0 in
      let parts : Bool = list_all (λ agg. has_parts kinds agg.call) aggs in
      let h = is_held (two_phase && (not none && parts)) (op.LocalGroup keys aggs) local e in
      let a = both two_phase (not none && parts) h.0 in
      let b = both (not none) parts a.1 in
      record { local_is = sym h.1; bundled = not_true none b.0; parts = b.1 }
    where
      not_true : (b : Bool) → not b ≡ true → b ≡ false
      not_true true e = absurd (cc)
      not_true false e = refl

  same_calls : (call : AggCall) → same_call call call ≡ true
  same_calls CountAll = refl
  same_calls Count = refl
  same_calls CountDistinct = refl
  same_calls Sum = refl
  same_calls Min = refl
  same_calls Max = refl
  same_calls Avg = refl

  columns_same : (column : Option ℕ) → same_column column column ≡ true
  columns_same None = refl
  columns_same (Some column) = eq-eqb column column refl

  aggs_same : (aggs : List Agg) → same_aggs aggs aggs ≡ true
  aggs_same [] = refl
  aggs_same (agg ∷ aggs) =
      both_hold (same_agg agg agg) (same_aggs aggs aggs)
      (both_hold (same_call agg.call agg.call) (same_column agg.arg agg.arg && same_column agg.filter agg.filter) (same_calls agg.call)
      (both_hold (same_column agg.arg agg.arg) (same_column agg.filter agg.filter) (columns_same agg.arg) (columns_same agg.filter)))
      (aggs_same aggs)

  -- a local group on a tree's root, and the group that merges its partial rows
  module _ (n below mid root : ℕ) (x : Exchange) (keys : ℕ) (aggs : List Agg) (own columns : List ColTy) (kinds : KindSet) (two_phase : Bool) (local : Op) (is : InPhases two_phase keys aggs kinds local)
      (t : Told n Forward below own kinds) (typed : group_columns keys own aggs ≡ Some columns) (l : IsOver plan below local mid (unary_way (group_by keys aggs)).asks inserts)
      (m : IsOver plan mid ((unary_way (group_by keys aggs)).op plan.mini_batch) root x (group_kinds keys aggs kinds)) (high : root < length plan.nodes) where
    abbrev summed : Op
    summed = op.LocalGroup keys aggs

    abbrev merged : Op
    merged = op.BatchGroup keys aggs

    local_has : HasNode plan mid (op.LocalGroup keys aggs) (below ∷ [])
    local_has = subst (λ (o : Op). HasNode plan mid o (below ∷ [])) is.local_is l.1

    merged_has : HasNode plan root (op.BatchGroup keys aggs) (mid ∷ [])
    merged_has = subst (λ b. HasNode plan root (cond b (op.Group keys aggs) (op.BatchGroup keys aggs)) (mid ∷ [])) is.bundled m.1

    lower : below < mid
    lower = omega (arith, l.0)

    -- its columns are those of its input, and it sends partial rows
    local_columns : columns_at mid ≡ Some own
    local_columns =
        types_from plan mid summed (below ∷ []) local_has (lower, tt) ∙ ap (λ (c : Option (List ColTy)). types_by plan.sources summed (c ∷ [])) t.columns_are
        ∙ ap (λ (o : Option (List ColTy)). columns_if (is_some o) own) typed

    local_flow : flow_at plan mid ≡ record { sent = inserts; meant = kinds }
    local_flow = flow_from plan mid summed (below ∷ []) local_has (lower, tt) ∙ ap (λ (f : Flow). flow_of plan.sources summed (f ∷ [])) t.flow_is

    edge_says : kinds_in (numbered plan.edges below) ≡ kinds
    edge_says = ap kinds_in t.is_edge ∙ t.kinds_are

    in_bundles : (nat_lt 0 plan.mini_batch ≡ true) × (nat_lt 0 keys ≡ true)
    in_bundles =
        let none = or_false (plan.mini_batch == 0) (keys == 0) is.bundled in
        let a = eqb-false plan.mini_batch 0 none.0 in
        let b = eqb-false keys 0 none.1 in
        (lt-ltb 0 plan.mini_batch (omega (arith, a)), lt-ltb 0 keys (omega (arith, b)))
      where
        or_false : (a b : Bool) → (a || b) ≡ false → (a ≡ false) × (b ≡ false)
        or_false true b e = absurd (cc)
        or_false false b e = (refl, e)

    local_part : Part plan n mid (mid ∷ [])
    local_part =
        next_part plan n below mid (below ∷ []) summed t.part l.0 local_has (record {
          ruled = refl;
          keeps = λ parts. ap (λ (f : Flow). f.sent) t.flow_is ∙ sym edge_says;
          suits = in_bundles.0;
          ports = refl;
          below = ap (λ k. list_all (λ (agg : Agg). has_parts k agg.call) aggs) edge_says ∙ is.parts;
          last = sym (below_is_not mid (length plan.nodes) (let next = m.0 in omega (arith, next, high)));
          typed = ap (is_typed_by plan.sink summed) local_columns;
          fed = one_port summed below (feeds_port n Forward below own kinds summed 0 refl t);
        })

    pub phases_tree : Told n x root columns (group_kinds keys aggs kinds)
    phases_tree =
        inner_node n mid root x merged (mid ∷ []) columns (group_kinds keys aggs kinds) (inner plan merged (λ i. in_bundles.0 i && in_bundles.1 i)) local_part m.0 merged_has m.2 high refl
        (ap (λ (c : Option (List ColTy)). types_by plan.sources merged (c ∷ [])) local_columns ∙ typed)
        (ap (λ (f : Flow). flow_of plan.sources merged (f ∷ [])) local_flow)
        (one_port merged mid (record {
          node = local_has.node;
          is_node = local_has.is_there;
          suits = ap (λ (p : Op). suits_consumer plan.sources p (Some merged)) local_has.is_op ∙ both_hold (keys == keys) (same_aggs aggs aggs) (eq-eqb keys keys refl) (aggs_same aggs);
          edge = _;
          is_edge = l.2;
          exchanged = refl;
        }))

-- ---- the tree

module _ (plan : Plan) (two_phase : Bool) (tables : (source : ℕ) (table : TableDef) → slice_get plan.sources source ≡ Some table → is_declarable table ≡ true) where
  -- a node with one input, over a local group or not
  one_tree : (how : Unary) (input : Rel) (n : ℕ) (x : Exchange) (root : ℕ) (own columns : List ColTy) → unary_columns how own ≡ Some columns
      → ((asks : Exchange) (below : ℕ) → IsLaid plan two_phase n asks input below → below < length plan.nodes → Told plan n asks below own (tree_kinds plan.sources input))
      → (local : Option Op) → local_below (bundles_in plan two_phase) how (tree_kinds plan.sources input) ≡ local
      → OneLaid plan how local (λ asks below. IsLaid plan two_phase n asks input below) x (tree_kinds plan.sources (One how input)) root → root < length plan.nodes
      → Told plan n x root columns (tree_kinds plan.sources (One how input))
  one_tree how input n x root own columns typed told None e laid high =
      let below = laid.0 in
      let over = laid.2 in
      let next = over.0 in
      let low : below < length plan.nodes = omega (arith, next, high) in
      let o = (unary_way how).op plan.mini_batch in
      let f = unary_fits plan how in
      on_one plan n below root (unary_way how).asks x o own columns (tree_kinds plan.sources input) (tree_kinds plan.sources (One how input)) f.is_inner (told (unary_way how).asks below laid.1 low) f.asks (ap (λ r. takes_as r 1) f.told)
      (unary_typed plan how o f own ∙ typed) (way_sends plan.sources plan.mini_batch how (tree_kinds plan.sources input)) next over.1 over.2 high
  one_tree (group_by keys aggs) input n x root own columns typed told (Some local) e laid high =
      let below = laid.0 in
      let mid = laid.1 in
      let first = laid.3 in
      let second = laid.4 in
      let low : below < length plan.nodes = omega (arith, first.0, second.0, high) in
      phases_tree plan n below mid root x keys aggs own columns (tree_kinds plan.sources input) two_phase local (in_phases plan two_phase keys aggs (tree_kinds plan.sources input) local e) (told Forward below laid.2 low) typed first second high
  one_tree (filter_by condition) input n x root own columns typed told (Some local) e laid high = absurd (cc)
  one_tree (project_on items) input n x root own columns typed told (Some local) e laid high = absurd (cc)
  one_tree (rank_in partition order bound ranked) input n x root own columns typed told (Some local) e laid high = absurd (cc)

  mutual
    -- a tree, to its root
    pub tree : (rel : Rel) (n : ℕ) (x : Exchange) (root : ℕ) → IsLaid plan two_phase n x rel root → root < length plan.nodes → has_full_unions rel ≡ true
        → (columns : List ColTy) → columns_of (types_of plan.sources) rel ≡ Some columns → Told plan n x root columns (tree_kinds plan.sources rel)
    tree (Scan source) n x root laid high full columns t = source_tree plan tables n source root x high (slice_get plan.sources source) refl laid columns t
    tree (One how input) n x root laid high full columns t =
        let p = then_parts (unary_columns how) (columns_of (types_of plan.sources) input) columns t in
        one_tree how input n x root p.0 columns p.2 (λ asks below under low. tree input n asks below under low full p.0 p.1) (local_below (bundles_in plan two_phase) how (tree_kinds plan.sources input)) refl laid high
    tree (Two how left right) n x root laid high full columns t =
        let p = both_parts (binary_columns how) (columns_of (types_of plan.sources) left) (columns_of (types_of plan.sources) right) columns t in
        let next = laid.4 in
        let low : laid.1 < length plan.nodes = omega arith in
        let fulls = both (has_full_unions left) (has_full_unions right) full in
        let b = tree right laid.0 (binary_way how).right laid.1 laid.3 low fulls.1 p.1 p.3 in
        let before = b.part.segment.grows in
        let lower : laid.0 < length plan.nodes = omega arith in
        let o = (binary_way how).op in
        let f = binary_fits plan how in
        on_two plan n laid.0 laid.1 root (binary_way how).left (binary_way how).right x o p.0 p.1 columns (tree_kinds plan.sources left) (tree_kinds plan.sources right) (tree_kinds plan.sources (Two how left right)) f.is_inner
        (tree left n (binary_way how).left laid.0 laid.2 lower fulls.0 p.0 p.2) b f.asks f.other_asks (ap (λ r. takes_as r 2) f.told) (binary_typed plan how o f p.0 p.1 ∙ p.4)
        (ways_send plan.sources how (tree_kinds plan.sources left) (tree_kinds plan.sources right)) next laid.5 laid.6 high
    tree (Many no_rels) n x root laid high full columns t = absurd (cc)
    tree (Many (rel_and input inputs)) n x root laid high full columns t =
        let parts = laid.2 in
        let next = laid.3 in
        let low : laid.1 < length plan.nodes = omega arith in
        let own = common_some (types_of plan.sources) (columns_of (types_of plan.sources) input) inputs columns t in
        let told : common_from (types_of plan.sources) (Some own.0) inputs ≡ Some columns = ap (λ c. common_from (types_of plan.sources) c inputs) (sym own.1) ∙ t in
        let wide = both (has_two (rel_and input inputs)) (all_have_full_unions (rel_and input inputs)) full in
        let fulls = both (has_full_unions input) (all_have_full_unions inputs) wide.1 in
        let s = several inputs parts.0 parts.1 laid.1 parts.3 low fulls.1 (Some own.0) columns told in
        let before = s.part.segment.grows in
        let lower : parts.0 < length plan.nodes = omega arith in
        union_tree plan n parts.0 laid.1 root x parts.1 laid.0 own.0 columns (tree_kinds plan.sources input) (trees_kinds plan.sources inputs) (tree input n Forward parts.0 parts.2 lower fulls.0 own.0 own.1) s parts.4
        (two_roots plan two_phase (rel_and input inputs) n laid.0 laid.1 wide.0 parts) next laid.4 laid.5 high

    -- several trees, each behind the one before it
    several : (inputs : Rels) (n : ℕ) (roots : List ℕ) (last : ℕ) → AreLaid plan two_phase n inputs roots last → last < length plan.nodes → all_have_full_unions inputs ≡ true
        → (start : Option (List ColTy)) (columns : List ColTy) → common_from (types_of plan.sources) start inputs ≡ Some columns → Several plan n last roots start (Some columns) (trees_kinds plan.sources inputs)
    several no_rels n roots last laid high full start columns t = subst (λ c. Several plan n last roots start c []) t (no_others plan n roots last start laid.0 laid.1)
    several (rel_and input inputs) n roots last laid high full start columns t =
        let q = common_some (types_of plan.sources) (both_of common_columns start (columns_of (types_of plan.sources) input)) inputs columns t in
        let p = both_parts common_columns start (columns_of (types_of plan.sources) input) q.0 q.1 in
        let told : common_from (types_of plan.sources) (both_of common_columns start (Some p.1)) inputs ≡ Some columns = ap (λ c. common_from (types_of plan.sources) (both_of common_columns start c) inputs) (sym p.3) ∙ t in
        let fulls = both (has_full_unions input) (all_have_full_unions inputs) full in
        let s = several inputs laid.0 laid.1 last laid.3 high fulls.1 (both_of common_columns start (Some p.1)) columns told in
        let before = s.part.segment.grows in
        let lower : laid.0 < length plan.nodes = omega arith in
        one_more plan n laid.0 last laid.1 roots start (Some columns) p.1 (tree_kinds plan.sources input) (trees_kinds plan.sources inputs) (tree input n Forward laid.0 laid.2 lower fulls.0 p.1 p.3) s laid.4
