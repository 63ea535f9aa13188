-- Each node of a sound plan meets its facts, and its ports take what their edges carry.
use Rattle.std.specs.Prelude.{◌≡◌, ℕ, ◌<◌, ◌⊎◌, ◌==◌, Bool, List, length, map, slice_get, slice_index_or, Option, option_map}
use Rattle.std.proofs.Common.{zero, suc, true, false, [], ◌∷◌, refl, sym, ap, subst, ◌∙◌, arith, Some, None, inl, inr}
use Rattle.std.proofs.lemmas.Bool.{eqb-true, eqb-false}
use Rattle.ct_value.specs.declared.ty.ColTy.{ColTy}
use Rattle.ct_catalog.specs.declared.table.TableDef.{TableDef}
use Rattle.ct_expr.specs.declared.expr.Expr.{Expr}
use Rattle.ct_expr.specs.View.{expr_view}
use Rattle.rel_algebra.specs.declared.agg.Agg.{Agg}
use Rattle.rel_algebra.specs.declared.join.JoinKind.{JoinKind}
use Rattle.rel_algebra.specs.declared.join.Pair.{Pair}
use Rattle.rel_algebra.specs.declared.sort.SortCol.{SortCol}
use Rattle.op_rules.specs.Edges.{Edge}
use Rattle.op_rules.specs.Ports.{TakesAll}
use Rattle.op_rules.specs.Tasks.{Task, Facts}
use Rattle.emission_rules.proofs.laws.Filters.{filters_stand, filters_take}
use Rattle.emission_rules.proofs.laws.Projects.{projects_stand, projects_take}
use Rattle.emission_rules.proofs.laws.Unions.{unions_stand, unions_take}
use Rattle.emission_rules.proofs.laws.Normalizes.{normalizes_stand, normalizes_take}
use Rattle.emission_rules.proofs.laws.Materializes.{materializers_stand, materializers_take}
use Rattle.emission_rules.proofs.laws.Sinks.{sinks_stand, sinks_take}
use Rattle.emission_rules.specs.Grouping.{Grouping, group_rule}
use Rattle.emission_rules.specs.GroupFits.{batch, group_task, part}
use Rattle.emission_rules.proofs.laws.GroupFacts.{group_stands as groups_stand}
use Rattle.emission_rules.proofs.laws.Theorems.{groups_take}
use Rattle.emission_rules.proofs.laws.Nodes.{joins_stand, joins_take}
use Rattle.emission_rules.specs.SetOps.{SetOperation}
use Rattle.emission_rules.proofs.laws.SetFacts.{set_operations_stand, set_operations_take}
use Rattle.emission_rules.specs.Ranking.{topn_rule}
use Rattle.emission_rules.specs.TopFits.{topn_task}
use Rattle.emission_rules.proofs.laws.TopFacts.{topn_stands, topn_takes}
use Rattle.phase_rules.specs.LocalGrouping.{local_rule}
use Rattle.phase_rules.specs.LocalFits.{local_task}
use Rattle.phase_rules.specs.MergeFits.{merge_task}
use Rattle.phase_rules.specs.Merging.{merge_rule}
use Rattle.phase_rules.proofs.laws.LocalFacts.{local_groups_stand, local_groups_take}
use Rattle.phase_rules.proofs.laws.MergeFacts.{merging_groups_stand, merging_groups_take}
use Rattle.phys_plan.specs.declared.node.Node.{Node}
use Rattle.phys_plan.specs.declared.node.Op.{Op}
use Rattle.phys_plan.specs.declared.node.Op.TheVariants as op
use Rattle.phys_plan.specs.declared.plan.Plan.{Plan}
use Rattle.column_sets.specs.Places.{first_columns}
use Rattle.stream_model.specs.Network.{task, ScanFacts}
use Rattle.stream_model.proofs.laws.Theorems.{scans_stand}
use Rattle.plan_rules.specs.Columns.{columns_at}
use Rattle.plan_rules.specs.Phases.{local_by}
use Rattle.plan_rules.specs.Plans.{inputs_in, kinds_in, local_in, scan_of, table_of, update_in}
use Rattle.phys_plan.specs.Reading.{first_input, numbered}
use Rattle.plan_rules.specs.Around.{Around, filter_of, grouping_of, join_of, local_of, merging_of, mode_read, mode_told, normalize_of, project_of, ranking_of, semi_of, sink_of, union_of}
use Rattle.plan_rules.specs.Behaviours.{behaviour, TakesBy}
use Rattle.plan_rules.specs.Doings.{around_of, doing_by, doing_in, network}
use Rattle.plan_shape.specs.Shape.{is_sink, takes as ports_of}
use Rattle.plan_shape.specs.Shaped.{MeetsShape}
use Rattle.sound_plans.specs.Agrees.{Agrees, LocalAgrees, MaterializeAgrees, MergeAgrees, NormalizeAgrees, SinkAgrees}
use Rattle.sound_plans.specs.Outputs.{IsProper, Output, around_by, around_sent, edge_of, edges_of, no_output, partial_edge, printed_edge, without_local}
use Rattle.sound_plans.specs.Sound.{IsRuled}
use Rattle.sound_plans.proofs.laws.Filters.{filters_fit}
use Rattle.sound_plans.proofs.laws.Projects.{projects_fit}
use Rattle.sound_plans.proofs.laws.Unions.{unions_fit}
use Rattle.sound_plans.proofs.laws.Normalizes.{normalizes_fit}
use Rattle.sound_plans.proofs.laws.Materializes.{materializes_fit}
use Rattle.sound_plans.proofs.laws.Groups.{as_group, groups_fit}
use Rattle.sound_plans.proofs.laws.Joins.{joins_fit, semis_fit}
use Rattle.sound_plans.proofs.laws.Phases.{local_groups_fit, merging_groups_fit}
use Rattle.sound_plans.proofs.laws.TopN.{topns_fit}
use Rattle.sound_plans.proofs.laws.SetOps.{set_operations_fit}
use Rattle.sound_plans.proofs.laws.Sinks.{sinks_fit}
use Rattle.sound_plans.proofs.laws.Scans.{scans_fit}
use Rattle.sound_plans.proofs.laws.Inputs.{facts_of_ports, takes_by_ports, takes_of_ports}
use Rattle.sound_plans.proofs.laws.Numbers.{index_at}
use Rattle.sound_plans.proofs.laws.Lists.{map_length, same_number, the_same}
use Rattle.sound_plans.proofs.laws.Consumers.{by_test}
use Rattle.sound_plans.specs.Promises.{Laws}
use Rattle.sound_plans.proofs.laws.Agreed as a
use Rattle.sound_plans.proofs.laws.Shapes as s
use Rattle.sound_plans.proofs.laws.Outputs.{around_is, around_parts, edge_is, kinds_is, local_at, output_at, parts_are, printed_is, update_is}

-- ---- one operator, between what its inputs send and its own edge

module _ (many : ℕ) (some : 0 < many) (sources : List TableDef) (sink : TableDef) where
  abbrev pub task_by : Op → Around → List Output → Edge → Task
  task_by o around inputs to = record {
    subtasks = many;
    ports = length inputs;
    input = edges_of many inputs;
    output = to;
    opening = (doing_by o around).opening;
    emits = (doing_by o around).emits;
    part = (doing_by o around).part;
    batch = (doing_by o around).batch;
  }

  abbrev pub StandsBy : Op → List Output → Output → Edge → Type 0
  StandsBy o inputs own to = Facts (task_by o (around_by sink inputs own) inputs to) × TakesBy (behaviour o (around_by sink inputs own)) (task_by o (around_by sink inputs own) inputs to)

  abbrev pub Works : Op → List Output → Output → Type 0
  Works o inputs own = StandsBy o inputs own (edge_of many own) × IsProper own

  one_port : (input : Output) (p : ℕ) → p < 1 → edges_of many (input ∷ []) p ≡ edge_of many input
  one_port input zero l = refl
  one_port input (suc p) l = absurd (omega arith)

  pub filter_works : (cond : Expr) (input own : Output) → Agrees sources sink (op.Filter cond) (input ∷ []) own → Works (op.Filter cond) (input ∷ []) own
  filter_works cond input own agrees =
      let f = filters_fit many sources sink cond input own agrees in
      let rule = filter_of (expr_view cond) in
      ((filters_stand rule many (edges_of many (input ∷ [])) (edge_of many own) f.0, filters_take rule many (edges_of many (input ∷ [])) (edge_of many own) f.0), f.1)

  pub project_works : (items : List Expr) (input own : Output) → Agrees sources sink (op.Project items) (input ∷ []) own → Works (op.Project items) (input ∷ []) own
  project_works items input own agrees =
      let f = projects_fit many sources sink items input own agrees in
      let rule = project_of (map expr_view items) (around_by sink (input ∷ []) own) in
      ((projects_stand rule many (edges_of many (input ∷ [])) (edge_of many own) f.0, projects_take rule many (edges_of many (input ∷ [])) (edge_of many own) f.0), f.1)

  union_works : (inputs : List Output) (own : Output) → Agrees sources sink op.Union inputs own → Works op.Union inputs own
  union_works inputs own agrees =
      let f = unions_fit many sources sink inputs own agrees in
      let rule = union_of (around_by sink inputs own) in
      ((unions_stand rule many (edges_of many inputs) (edge_of many own) f.0, unions_take rule many (edges_of many inputs) (edge_of many own) f.0), f.1)

  normalize_works : (key : List ℕ) (input own : Output) → NormalizeAgrees key input own → Works (op.Normalize key) (input ∷ []) own
  normalize_works key input own agrees =
      let f = normalizes_fit many some sink key input own agrees in
      let rule = normalize_of key (around_by sink (input ∷ []) own) in
      ((normalizes_stand rule many (edges_of many (input ∷ [])) (edge_of many own) f.0, normalizes_take rule many (edges_of many (input ∷ [])) (edge_of many own) f.0), f.1)

  materialize_works : (key : List ℕ) (input own : Output) → MaterializeAgrees sink key input own → Works (op.Materialize key) (input ∷ []) own
  materialize_works key input own agrees =
      let f = materializes_fit many some sink key input own agrees in
      ((materializers_stand key many (edges_of many (input ∷ [])) (edge_of many own) f.0, materializers_take key many (edges_of many (input ∷ [])) (edge_of many own) f.0), f.1)

  pub group_works : (keys : ℕ) (aggs : List Agg) (input own : Output) → Agrees sources sink (op.Group keys aggs) (input ∷ []) own → Works (op.Group keys aggs) (input ∷ []) own
  group_works keys aggs input own agrees =
      let f = groups_fit many some sources sink keys aggs input own agrees in
      let g = grouping_of keys aggs (around_by sink (input ∷ []) own) in
      let t = group_task many g (edge_of many input) (edge_of many own) in (
        (
          facts_of_ports t (edges_of many (input ∷ [])) (one_port input) (groups_stand many g (edge_of many input) (edge_of many own) f.0),
          takes_of_ports t (edges_of many (input ∷ [])) (one_port input) (group_rule g) (groups_take many g (edge_of many input) (edge_of many own) f.0),
        ),
        f.1,
      )

  -- and so works one in bundles
  pub bundles_work : (keys : ℕ) (aggs : List Agg) (input own : Output) → Agrees sources sink (op.BatchGroup keys aggs) (input ∷ []) own → Works (op.BatchGroup keys aggs) (input ∷ []) own
  bundles_work keys aggs input own agrees = group_works keys aggs input own (as_group sources sink keys aggs input own agrees)

  -- a local group, whose edge carries partial rows
  local_works : (keys : ℕ) (aggs : List Agg) (input own : Output) → LocalAgrees sources sink keys aggs input own
      → StandsBy (op.LocalGroup keys aggs) (input ∷ []) own (partial_edge many (local_of keys aggs (around_by sink (input ∷ []) own)) own) × IsProper own
  local_works keys aggs input own agrees =
      let f = local_groups_fit many some sources sink keys aggs input own agrees in
      let l = local_of keys aggs (around_by sink (input ∷ []) own) in
      let t = local_task many l (edge_of many input) (partial_edge many l own) in (
        (
          facts_of_ports t (edges_of many (input ∷ [])) (one_port input) (local_groups_stand many l (edge_of many input) (partial_edge many l own) f.0),
          takes_of_ports t (edges_of many (input ∷ [])) (one_port input) (local_rule l) (local_groups_take many l (edge_of many input) (partial_edge many l own) f.0),
        ),
        f.1,
      )

  -- the group in bundles above it, at whose port partial rows come
  abbrev pub merging_task : ℕ → List Agg → Output → Output → Output → (ℕ → Edge) → Task
  merging_task keys aggs input below own from = record {
    subtasks = many;
    ports = 1;
    input = from;
    output = edge_of many own;
    opening = (doing_by (op.BatchGroup keys aggs) (around_sent (Some (local_of keys aggs (around_by sink (input ∷ []) below))) sink (below ∷ []) own)).opening;
    emits = (doing_by (op.BatchGroup keys aggs) (around_sent (Some (local_of keys aggs (around_by sink (input ∷ []) below))) sink (below ∷ []) own)).emits;
    part = (doing_by (op.BatchGroup keys aggs) (around_sent (Some (local_of keys aggs (around_by sink (input ∷ []) below))) sink (below ∷ []) own)).part;
    batch = (doing_by (op.BatchGroup keys aggs) (around_sent (Some (local_of keys aggs (around_by sink (input ∷ []) below))) sink (below ∷ []) own)).batch;
  }

  -- it answers over columns, which are those of what comes to the local group
  abbrev group_over : ℕ → List Agg → Output → Output → List ColTy → Grouping
  group_over keys aggs below own columns = record { keys = keys; aggs = aggs; columns = columns; input = mode_read below.edge.kinds below.edge.update; output = mode_told own.edge.update }

  abbrev merging_over : ℕ → List Agg → Output → Output → Output → (ℕ → Edge) → List ColTy → Task
  merging_over keys aggs input below own from columns = record {
    subtasks = many;
    ports = 1;
    input = from;
    output = edge_of many own;
    opening = (merge_rule (merging_of (local_of keys aggs (around_by sink (input ∷ []) below)) (around_by sink (below ∷ []) own))).opening;
    emits = (merge_rule (merging_of (local_of keys aggs (around_by sink (input ∷ []) below)) (around_by sink (below ∷ []) own))).emits;
    part = part (group_over keys aggs below own columns);
    batch = batch (group_over keys aggs below own columns);
  }

  merging_works : (keys : ℕ) (aggs : List Agg) (input below own : Output) (from : ℕ → Edge) → MergeAgrees sources sink keys aggs input below own
      → ((p : ℕ) → p < 1 → from p ≡ partial_edge many (local_of keys aggs (around_by sink (input ∷ []) below)) below)
      → (Facts (merging_task keys aggs input below own from)
      × TakesBy (behaviour (op.BatchGroup keys aggs) (around_sent (Some (local_of keys aggs (around_by sink (input ∷ []) below))) sink (below ∷ []) own)) (merging_task keys aggs input below own from))
      × IsProper own
  merging_works keys aggs input below own from agrees same =
      let f = merging_groups_fit many some sources sink keys aggs input below own agrees in
      let l = local_of keys aggs (around_by sink (input ∷ []) below) in
      let m = merging_of l (around_by sink (below ∷ []) own) in
      let raw = edge_of many (without_local (first_columns keys) input) in
      let typed : input.columns ≡ below.columns = the_same input.columns below.columns agrees.local.agrees.typed in
      let t = merge_task many m (partial_edge many l below) (edge_of many own) in
      let whole : (Facts (record t { input = from })) × (TakesAll (merge_rule m) (record t { input = from })) = (
        facts_of_ports t from same (merging_groups_stand many m raw (partial_edge many l below) (edge_of many own) f.0),
        takes_of_ports t from same (merge_rule m) (merging_groups_take many m raw (partial_edge many l below) (edge_of many own) f.0),
      ) in
      (subst (λ (columns : List ColTy). Facts (merging_over keys aggs input below own from columns) × TakesAll (merge_rule m) (merging_over keys aggs input below own from columns)) typed whole, f.1)

  pub join_works : (kind : JoinKind) (on : List Pair) (rest : Option Expr) (left right own : Output) → Agrees sources sink (op.Join kind on rest) (left ∷ (right ∷ [])) own → Works (op.Join kind on rest) (left ∷ (right ∷ [])) own
  join_works kind on rest left right own agrees =
      let f = joins_fit many some sources sink kind on rest left right own agrees in
      let j = join_of kind on (option_map expr_view rest) (around_by sink (left ∷ (right ∷ [])) own) in
      ((joins_stand many j (edges_of many (left ∷ (right ∷ []))) (edge_of many own) f.0, joins_take many j (edges_of many (left ∷ (right ∷ []))) (edge_of many own) f.0), f.1)

  pub semi_works : (anti : Bool) (on : List Pair) (rest : Option Expr) (left right own : Output) → Agrees sources sink (op.Semi anti on rest) (left ∷ (right ∷ [])) own → Works (op.Semi anti on rest) (left ∷ (right ∷ [])) own
  semi_works anti on rest left right own agrees =
      let f = semis_fit many some sources sink anti on rest left right own agrees in
      let j = semi_of anti on (option_map expr_view rest) (around_by sink (left ∷ (right ∷ [])) own) in
      ((joins_stand many j (edges_of many (left ∷ (right ∷ []))) (edge_of many own) f.0, joins_take many j (edges_of many (left ∷ (right ∷ []))) (edge_of many own) f.0), f.1)

  pub set_works : (except all : Bool) (columns : ℕ) (left right own : Output) → Agrees sources sink (op.SetOp except all columns) (left ∷ (right ∷ [])) own → Works (op.SetOp except all columns) (left ∷ (right ∷ [])) own
  set_works except all columns left right own agrees =
      let f = set_operations_fit many some sources sink except all columns left right own agrees in
      let operation : SetOperation = record { except = except; all = all } in (
        (
          set_operations_stand many operation (first_columns columns) left.columns right.columns (edges_of many (left ∷ (right ∷ []))) (edge_of many own) f.0,
          set_operations_take many operation (first_columns columns) left.columns right.columns (edges_of many (left ∷ (right ∷ []))) (edge_of many own) f.0,
        ),
        f.1,
      )

  pub rank_works : (partition : List ℕ) (order : List SortCol) (bound : ℕ) (ranked : Bool) (input own : Output) → Agrees sources sink (op.TopN partition order bound ranked) (input ∷ []) own → Works (op.TopN partition order bound ranked) (input ∷ []) own
  rank_works partition order bound ranked input own agrees =
      let f = topns_fit many some sources sink partition order bound ranked input own agrees in
      let r = ranking_of partition order bound ranked (around_by sink (input ∷ []) own) in
      let t = topn_task many r (edge_of many input) (edge_of many own) in (
        (
          facts_of_ports t (edges_of many (input ∷ [])) (one_port input) (topn_stands many r (edge_of many input) (edge_of many own) f.0),
          takes_of_ports t (edges_of many (input ∷ [])) (one_port input) (topn_rule r) (topn_takes many r (edge_of many input) (edge_of many own) f.0),
        ),
        f.1,
      )

  sink_works : (input own : Output) → SinkAgrees sink input own → StandsBy op.Sink (input ∷ []) own (printed_edge many sink own) × IsProper own
  sink_works input own agrees =
      let f = sinks_fit many sink input own agrees in
      let rule = sink_of (around_by sink (input ∷ []) own) in
      ((sinks_stand rule many (edges_of many (input ∷ [])) (printed_edge many sink own) f.0, sinks_take rule many (edges_of many (input ∷ [])) (printed_edge many sink own) f.0), f.1)

-- ---- nodes of a plan

module _ (laws : Laws) (plan : Plan) (ruled : IsRuled plan) where
  abbrev pub edge_at : ℕ → Edge
  edge_at v = (network plan).edge v

  abbrev outs : List ℕ → List Output
  outs inputs = map (output_at plan) inputs

  meets : MeetsShape plan
  meets = a.meets laws plan ruled

  pub some : 0 < plan.parallelism
  some = (s.shape plan meets laws.shaped).parallel

  abbrev Fits : Op → List Output → Output → Edge → Type 0
  Fits o inputs own to = StandsBy plan.parallelism some plan.sources plan.sink o inputs own to

  abbrev pub Stands : ℕ → Node → Type 0
  Stands v node = Facts (task (network plan) v) × TakesBy (behaviour node.op (around_of plan v node.inputs)) (task (network plan) v)

  -- ---- a node as the network has it

  abbrev task_in : ℕ → Option Node → Task
  task_in v o = record {
    subtasks = plan.parallelism;
    ports = length (inputs_in o);
    input = λ p. edge_at (slice_index_or (inputs_in o) p 0);
    output = edge_at v;
    opening = (doing_in plan v o).opening;
    emits = (doing_in plan v o).emits;
    part = (doing_in plan v o).part;
    batch = (doing_in plan v o).batch;
  }

  abbrev task_told : ℕ → Op → List ℕ → ℕ → Around → Task
  task_told v o inputs ports around = record {
    subtasks = plan.parallelism;
    ports = ports;
    input = λ p. edge_at (slice_index_or inputs p 0);
    output = edge_at v;
    opening = (doing_by o around).opening;
    emits = (doing_by o around).emits;
    part = (doing_by o around).part;
    batch = (doing_by o around).batch;
  }

  abbrev task_to : Edge → Op → List ℕ → ℕ → Around → Task
  task_to to o inputs ports around = record {
    subtasks = plan.parallelism;
    ports = ports;
    input = λ p. edge_at (slice_index_or inputs p 0);
    output = to;
    opening = (doing_by o around).opening;
    emits = (doing_by o around).emits;
    part = (doing_by o around).part;
    batch = (doing_by o around).batch;
  }

  out_there : (inputs : List ℕ) (p : ℕ) → p < length inputs → slice_index_or (outs inputs) p no_output ≡ output_at plan (slice_index_or inputs p 0)
  out_there [] p l = absurd (omega arith)
  out_there (input ∷ inputs) zero l = refl
  out_there (input ∷ inputs) (suc p) l = out_there inputs p (omega arith)

  not_last : (v : ℕ) → v < length plan.nodes → (v == length plan.nodes) ≡ false
  not_last v l = by_test (v == length plan.nodes) (λ t. absurd (let k = eqb-true v (length plan.nodes) t in omega arith)) (λ f. f)

  -- a node that isn't a local group sends rows
  pub sends_rows : (v : ℕ) (node : Node) → numbered plan.nodes v ≡ Some node → s.sends_parts node.op ≡ false → local_at plan v ≡ None
  sends_rows v node e n = ap (local_in (columns_at plan.sources plan.nodes) plan) e ∙ none node.op n
    where
      none : (o : Op) → s.sends_parts o ≡ false → local_by o (columns_at plan.sources plan.nodes (first_input node.inputs)) (mode_read (kinds_in (numbered plan.edges (first_input node.inputs))) (update_in (numbered plan.edges (first_input node.inputs)))) ≡ None
      none (op.LocalGroup keys aggs) h = absurd (cc)
      none _ h = refl

  ports_are : (v : ℕ) (node : Node) → numbered plan.nodes v ≡ Some node → a.ArePlain laws plan ruled node.inputs → (p : ℕ) → p < length (outs node.inputs) → edge_at (slice_index_or node.inputs p 0) ≡ edges_of plan.parallelism (outs node.inputs) p
  ports_are v node e are_plain p l =
      let many = map_length (output_at plan) node.inputs in
      let near : p < length node.inputs = omega arith in
      let input = slice_index_or node.inputs p 0 in
      let there = (s.input_there plan meets laws.shaped v node p input e (index_at node.inputs p near)).1 in
      let few = (s.among plan.nodes v node e).few in
      edge_is plan input (not_last input (let k = there.2 in omega arith)) (sends_rows input there.0 there.1 (are_plain p input there.0 (index_at node.inputs p near) there.1)) ∙ ap (edge_of plan.parallelism) (sym (out_there node.inputs p near))

  pub first_rows : (v : ℕ) (node : Node) (first : ℕ) → numbered plan.nodes v ≡ Some node → a.ArePlain laws plan ruled node.inputs → slice_get node.inputs 0 ≡ Some first → local_at plan first ≡ None
  first_rows v node first e are_plain i = let there = (s.input_there plan meets laws.shaped v node 0 first e i).1 in sends_rows first there.0 there.1 (are_plain 0 first there.0 i there.1)

  stands_at : (v : ℕ) (node : Node) (first : ℕ) (rest : List ℕ) → numbered plan.nodes v ≡ Some node → a.ArePlain laws plan ruled node.inputs → node.inputs ≡ first ∷ rest → Fits node.op (outs node.inputs) (output_at plan v) (edge_at v) → Stands v node
  stands_at v node first rest e are_plain are h =
      let own = output_at plan v in
      let around = around_by plan.sink (outs node.inputs) own in
      let t = task_by plan.parallelism some plan.sources plan.sink node.op around (outs node.inputs) (edge_at v) in
      let other = λ (p : ℕ). edge_at (slice_index_or node.inputs p 0) in
      let told : task_told v node.op node.inputs (length (outs node.inputs)) around ≡ task_told v node.op node.inputs (length (outs node.inputs)) around = refl in
      let facts : Facts (task_told v node.op node.inputs (length (outs node.inputs)) around) = facts_of_ports t other (ports_are v node e are_plain) h.0 in
      let takes : TakesBy (behaviour node.op around) (task_told v node.op node.inputs (length (outs node.inputs)) around) = takes_by_ports t other (ports_are v node e are_plain) (behaviour node.op around) h.1 in
      let seen : around_of plan v node.inputs ≡ around = subst (λ (xs : List ℕ). around_of plan v xs ≡ around_by plan.sink (outs xs) own) (sym are) (around_is plan v first rest (first_rows v node first e are_plain (ap (λ (xs : List ℕ). slice_get xs 0) are))) in
      let many = map_length (output_at plan) node.inputs in
      let counted = subst (λ n. Facts (task_told v node.op node.inputs n around) × TakesBy (behaviour node.op around) (task_told v node.op node.inputs n around)) many (facts, takes) in
      let around_told = subst (λ (x : Around). Facts (task_told v node.op node.inputs (length node.inputs) x) × TakesBy (behaviour node.op x) (task_told v node.op node.inputs (length node.inputs) x)) (sym seen) counted in
      subst (λ (o : Option Node). Facts (task_in v o) × TakesBy (behaviour node.op (around_of plan v node.inputs)) (task_in v o)) (sym e) around_told

  -- ---- all nodes

  pub record IsScanNode (v : ℕ) (node : Node) : Type 0 where
    pub source : ℕ
    pub table : TableDef
    pub scans : scan_of node.op ≡ Some source
    pub no_inputs : node.inputs ≡ []
    pub is_table : slice_get plan.sources source ≡ Some table
    pub facts : ScanFacts plan.parallelism (table_of plan.parallelism table) (edge_at v)

  pub record IsWorker (v : ℕ) (node : Node) : Type 0 where
    pub no_scan : scan_of node.op ≡ None
    pub has_inputs : 0 < length node.inputs
    pub stands : Stands v node

  pub record NodeStands (v : ℕ) (node : Node) : Type 0 where
    pub works : IsScanNode v node ⊎ IsWorker v node
    pub proper : IsProper (output_at plan v)

  before_sink : (v : ℕ) (node : Node) → numbered plan.nodes v ≡ Some node → a.sinks node.op ≡ false → (v == length plan.nodes) ≡ false
  before_sink v node e n =
      by_test (v == length plan.nodes)
      (λ t. absurd (let h : is_sink (Some node.op) ≡ true = s.last_sinks plan meets laws.shaped v node e (eqb-true v (length plan.nodes) t) in let k : false ≡ true = sym n ∙ sym (a.is_sink_too node.op) ∙ h in cc))
      (λ f. f)

  inner_edge : (v : ℕ) (node : Node) → numbered plan.nodes v ≡ Some node → a.sinks node.op ≡ false → s.sends_parts node.op ≡ false → edge_at v ≡ edge_of plan.parallelism (output_at plan v)
  inner_edge v node e n rows = edge_is plan v (before_sink v node e n) (sends_rows v node e rows)

  is_last : (v : ℕ) (node : Node) → numbered plan.nodes v ≡ Some node → node.op ≡ op.Sink → v ≡ length plan.nodes
  is_last v node e is =
      by_test (v == length plan.nodes) (λ t. eqb-true v (length plan.nodes) t)
      (λ f.
      let few = (s.among plan.nodes v node e).few in
      let apart = eqb-false v (length plan.nodes) f in
      absurd (let h = s.inner_no_sink plan meets laws.shaped v node e (omega arith) in let k : true ≡ false = sym (ap (λ x. is_sink (Some x)) is) ∙ h in cc))

  -- what isn't a group in bundles takes rows
  pub plain : (v : ℕ) (node : Node) → numbered plan.nodes v ≡ Some node → {o : Op} → node.op ≡ o → s.takes_parts o ≡ false → a.ArePlain laws plan ruled node.inputs
  plain v node e is n = a.all_plain laws plan ruled v node e (ap s.takes_parts is ∙ n)

  -- a node with one input that works
  works_over : (v : ℕ) (node : Node) → numbered plan.nodes v ≡ Some node → (o : Op) → node.op ≡ o → (input : ℕ) → a.ArePlain laws plan ruled node.inputs → node.inputs ≡ input ∷ [] → scan_of o ≡ None → a.sinks o ≡ false → s.sends_parts o ≡ false
      → Works plan.parallelism some plan.sources plan.sink o (output_at plan input ∷ []) (output_at plan v) → NodeStands v node
  works_over v node e o is input are_plain are no_scan no_sink rows w =
      let own = output_at plan v in
      let sent : outs node.inputs ≡ output_at plan input ∷ [] = ap outs are in
      let fits : Fits o (outs node.inputs) own (edge_at v) = subst (λ (to : Edge). Fits o (outs node.inputs) own to) (sym (inner_edge v node e (ap a.sinks is ∙ no_sink) (ap s.sends_parts is ∙ rows))) (subst (λ xs. Fits o xs own (edge_of plan.parallelism own)) (sym sent) w.0) in
      record {
        works = inr (record {
          no_scan = ap scan_of is ∙ no_scan;
          has_inputs = subst (λ (xs : List ℕ). 0 < length xs) (sym are) (omega arith);
          stands = stands_at v node input [] e are_plain are (subst (λ p. Fits p (outs node.inputs) own (edge_at v)) (sym is) fits);
        });
        proper = w.1;
      }

  -- such a node, by its operator
  pub one : (v : ℕ) (node : Node) → numbered plan.nodes v ≡ Some node → (o : Op) → node.op ≡ o → ((n : ℕ) → ports_of o n ≡ (n == 1)) → a.ArePlain laws plan ruled node.inputs → s.sends_parts o ≡ false → scan_of o ≡ None → a.scans o ≡ false → a.normalizes o ≡ false → a.materializes o ≡ false → a.sinks o ≡ false
      → a.AreProper laws plan ruled node.inputs → ((input own : Output) → Agrees plan.sources plan.sink o (input ∷ []) own → Works plan.parallelism some plan.sources plan.sink o (input ∷ []) own) → NodeStands v node
  one v node e o is takes_one are_plain rows no_scan x y m z proper works =
      let i = a.one_input laws plan ruled v node e (λ n. ap (λ p. ports_of p n) is ∙ takes_one n) in
      let own = output_at plan v in
      let agrees = a.agrees laws plan ruled v node e are_plain (ap a.scans is ∙ x) (ap a.normalizes is ∙ y) (ap a.materializes is ∙ m) (ap a.sinks is ∙ z) proper in
      let sent : outs node.inputs ≡ output_at plan i.0 ∷ [] = ap outs i.1 in
      works_over v node e o is i.0 are_plain i.1 no_scan z rows
      (works (output_at plan i.0) own (subst (λ xs. Agrees plan.sources plan.sink o xs own) sent (subst (λ p. Agrees plan.sources plan.sink p (outs node.inputs) own) is agrees)))

  -- a node with two inputs, by its operator
  pub two : (v : ℕ) (node : Node) → numbered plan.nodes v ≡ Some node → (o : Op) → node.op ≡ o → ((n : ℕ) → ports_of o n ≡ (n == 2)) → a.ArePlain laws plan ruled node.inputs → s.sends_parts o ≡ false → scan_of o ≡ None → a.scans o ≡ false → a.normalizes o ≡ false → a.materializes o ≡ false → a.sinks o ≡ false
      → a.AreProper laws plan ruled node.inputs
      → ((left right own : Output) → Agrees plan.sources plan.sink o (left ∷ (right ∷ [])) own → Works plan.parallelism some plan.sources plan.sink o (left ∷ (right ∷ [])) own) → NodeStands v node
  two v node e o is takes_two are_plain rows no_scan x y m z proper works =
      let i = a.two_inputs laws plan ruled v node e (λ n. ap (λ p. ports_of p n) is ∙ takes_two n) in
      let own = output_at plan v in
      let agrees = a.agrees laws plan ruled v node e are_plain (ap a.scans is ∙ x) (ap a.normalizes is ∙ y) (ap a.materializes is ∙ m) (ap a.sinks is ∙ z) proper in
      let sent : outs node.inputs ≡ output_at plan i.0 ∷ (output_at plan i.1 ∷ []) = ap outs i.2 in
      let w = works (output_at plan i.0) (output_at plan i.1) own (subst (λ xs. Agrees plan.sources plan.sink o xs own) sent (subst (λ p. Agrees plan.sources plan.sink p (outs node.inputs) own) is agrees)) in
      let fits : Fits o (outs node.inputs) own (edge_at v) = subst (λ (to : Edge). Fits o (outs node.inputs) own to) (sym (inner_edge v node e (ap a.sinks is ∙ z) (ap s.sends_parts is ∙ rows))) (subst (λ xs. Fits o xs own (edge_of plan.parallelism own)) (sym sent) w.0) in
      record {
        works = inr (record {
          no_scan = ap scan_of is ∙ no_scan;
          has_inputs = subst (λ (xs : List ℕ). 0 < length xs) (sym i.2) (omega arith);
          stands = stands_at v node i.0 (i.1 ∷ []) e are_plain i.2 (subst (λ p. Fits p (outs node.inputs) own (edge_at v)) (sym is) fits);
        });
        proper = w.1;
      }

  pub scan : (v : ℕ) (node : Node) → numbered plan.nodes v ≡ Some node → (source : ℕ) → node.op ≡ op.Scan source → NodeStands v node
  scan v node e source is =
      let t = a.table_there laws plan ruled v node source e is in
      let f = scans_fit plan.parallelism some t.0 (output_at plan v) (a.scan_agrees laws plan ruled v node source t.0 e is t.1 t.2) in
      record {
        works = inl (record {
          source = source;
          table = t.0;
          scans = ap scan_of is;
          no_inputs = ((s.shape plan meets laws.shaped).scans v source node e (ap scan_of is)).0;
          is_table = t.1;
          facts =
              subst (λ (x : Edge). ScanFacts plan.parallelism (table_of plan.parallelism t.0) x) (sym (inner_edge v node e (ap a.sinks is) (ap s.sends_parts is)))
              (scans_stand plan.parallelism (table_of plan.parallelism t.0) (edge_of plan.parallelism (output_at plan v)) f.0);
        });
        proper = f.1;
      }

  pub union : (v : ℕ) (node : Node) → numbered plan.nodes v ≡ Some node → node.op ≡ op.Union → a.AreProper laws plan ruled node.inputs → NodeStands v node
  union v node e is proper =
      let i = a.some_inputs laws plan ruled v node e is in
      let own = output_at plan v in
      let agrees = a.agrees laws plan ruled v node e (plain v node e is refl) (ap a.scans is) (ap a.normalizes is) (ap a.materializes is) (ap a.sinks is) proper in
      let w = union_works plan.parallelism some plan.sources plan.sink (outs node.inputs) own (subst (λ p. Agrees plan.sources plan.sink p (outs node.inputs) own) is agrees) in
      let fits : Fits op.Union (outs node.inputs) own (edge_at v) = subst (λ (to : Edge). Fits op.Union (outs node.inputs) own to) (sym (inner_edge v node e (ap a.sinks is) (ap s.sends_parts is))) w.0 in
      record {
        works = inr (record {
          no_scan = ap scan_of is;
          has_inputs = subst (λ (xs : List ℕ). 0 < length xs) (sym i.2) (omega arith);
          stands = stands_at v node i.0 i.1 e (plain v node e is refl) i.2 (subst (λ p. Fits p (outs node.inputs) own (edge_at v)) (sym is) fits);
        });
        proper = w.1;
      }

  pub normalize : (v : ℕ) (node : Node) → numbered plan.nodes v ≡ Some node → (key : List ℕ) → node.op ≡ op.Normalize key → a.AreProper laws plan ruled node.inputs → NodeStands v node
  normalize v node e key is proper =
      let i = a.one_input laws plan ruled v node e (λ n. ap (λ p. ports_of p n) is) in
      works_over v node e (op.Normalize key) is i.0 (plain v node e is refl) i.1 refl refl refl
      (normalize_works plan.parallelism some plan.sources plan.sink key (output_at plan i.0) (output_at plan v) (a.normalize_agrees laws plan ruled v node key i.0 e is i.1 proper))

  pub materialize : (v : ℕ) (node : Node) → numbered plan.nodes v ≡ Some node → (key : List ℕ) → node.op ≡ op.Materialize key → a.AreProper laws plan ruled node.inputs → NodeStands v node
  materialize v node e key is proper =
      let i = a.one_input laws plan ruled v node e (λ n. ap (λ p. ports_of p n) is) in
      works_over v node e (op.Materialize key) is i.0 (plain v node e is refl) i.1 refl refl refl
      (materialize_works plan.parallelism some plan.sources plan.sink key (output_at plan i.0) (output_at plan v) (a.materialize_agrees laws plan ruled v node key i.0 e is i.1 proper))

  pub sink_is : (v : ℕ) (node : Node) → numbered plan.nodes v ≡ Some node → node.op ≡ op.Sink → a.AreProper laws plan ruled node.inputs
      → (input : ℕ) × (node.inputs ≡ input ∷ []) × SinkAgrees plan.sink (output_at plan input) (output_at plan v)
  sink_is v node e is proper =
      let i = a.one_input laws plan ruled v node e (λ n. ap (λ p. ports_of p n) is) in
      (i.0, i.1, a.sink_agrees laws plan ruled v node i.0 e is (is_last v node e is) i.1 proper)

  pub sink : (v : ℕ) (node : Node) → numbered plan.nodes v ≡ Some node → node.op ≡ op.Sink → a.AreProper laws plan ruled node.inputs → NodeStands v node
  sink v node e is proper =
      let i = sink_is v node e is proper in
      let own = output_at plan v in
      let sent : outs node.inputs ≡ output_at plan i.0 ∷ [] = ap outs i.1 in
      let w = sink_works plan.parallelism some plan.sources plan.sink (output_at plan i.0) own i.2 in
      let last : (v == length plan.nodes) ≡ true = ap (λ n. n == length plan.nodes) (is_last v node e is) ∙ same_number (length plan.nodes) in
      let fits : Fits op.Sink (outs node.inputs) own (edge_at v) =
      subst (λ (to : Edge). Fits op.Sink (outs node.inputs) own to) (sym (printed_is plan v last (sends_rows v node e (ap s.sends_parts is)))) (subst (λ xs. Fits op.Sink xs own (printed_edge plan.parallelism plan.sink own)) (sym sent) w.0) in
      record {
        works = inr (record {
          no_scan = ap scan_of is;
          has_inputs = subst (λ (xs : List ℕ). 0 < length xs) (sym i.1) (omega arith);
          stands = stands_at v node i.0 [] e (plain v node e is refl) i.1 (subst (λ p. Fits p (outs node.inputs) own (edge_at v)) (sym is) fits);
        });
        proper = w.1;
      }

  -- the grouping of a local group is that of its around
  pub grouping_there : (v : ℕ) (node : Node) (keys : ℕ) (aggs : List Agg) (input : ℕ) → numbered plan.nodes v ≡ Some node → node.op ≡ op.LocalGroup keys aggs → node.inputs ≡ input ∷ []
      → local_at plan v ≡ Some (local_of keys aggs (around_by plan.sink (output_at plan input ∷ []) (output_at plan v)))
  grouping_there v node keys aggs input e is are =
      ap (local_in (columns_at plan.sources plan.nodes) plan) e
      ∙ (λ i. local_by (is i) (columns_at plan.sources plan.nodes (first_input (are i))) (mode_read (kinds_in (numbered plan.edges (first_input (are i)))) (update_in (numbered plan.edges (first_input (are i))))))
      ∙ (λ i. Some (record { keys = keys; aggs = aggs; columns = columns_at plan.sources plan.nodes input; input = mode_read (kinds_is plan (numbered plan.edges input) i) (update_is plan (numbered plan.edges input) i) }))

  pub local_node : (v : ℕ) (node : Node) → numbered plan.nodes v ≡ Some node → (keys : ℕ) (aggs : List Agg) → node.op ≡ op.LocalGroup keys aggs → a.AreProper laws plan ruled node.inputs → NodeStands v node
  local_node v node e keys aggs is proper =
      let i = a.one_input laws plan ruled v node e (λ n. ap (λ p. ports_of p n) is) in
      let own = output_at plan v in
      let input = output_at plan i.0 in
      let up = a.under_there laws plan ruled v node keys aggs e is in
      let w = local_works plan.parallelism some plan.sources plan.sink keys aggs input own (a.local_agrees laws plan ruled v node keys aggs i.0 e is i.1 up proper) in
      let sent : outs node.inputs ≡ input ∷ [] = ap outs i.1 in
      let edge = parts_are plan (local_of keys aggs (around_by plan.sink (input ∷ []) own)) v (before_sink v node e (ap a.sinks is)) (grouping_there v node keys aggs i.0 e is i.1) in
      let fits : Fits (op.LocalGroup keys aggs) (outs node.inputs) own (edge_at v) =
      subst (λ (to : Edge). Fits (op.LocalGroup keys aggs) (outs node.inputs) own to) (sym edge)
      (subst (λ xs. Fits (op.LocalGroup keys aggs) xs own (partial_edge plan.parallelism (local_of keys aggs (around_by plan.sink (input ∷ []) own)) own)) (sym sent) w.0) in
      record {
        works = inr (record {
          no_scan = ap scan_of is;
          has_inputs = subst (λ (xs : List ℕ). 0 < length xs) (sym i.1) (omega arith);
          stands = stands_at v node i.0 [] e (plain v node e is refl) i.1 (subst (λ p. Fits p (outs node.inputs) own (edge_at v)) (sym is) fits);
        });
        proper = w.1;
      }

  -- those below a node are proper
  abbrev pub AreLower : ℕ → Type 0
  AreLower v = (w : ℕ) (other : Node) → w < v → numbered plan.nodes w ≡ Some other → IsProper (output_at plan w)

  -- so are the inputs of those
  pub lower_proper : (v : ℕ) → AreLower v → (w : ℕ) (below : Node) → numbered plan.nodes w ≡ Some below → w < v → a.AreProper laws plan ruled below.inputs
  lower_proper v lower w below f l p other h = let under = (s.input_there plan meets laws.shaped w below p other f h).1 in lower other under.0 (let k = under.2 in omega (arith, l)) under.1

  -- above a local group
  merging_node : (v : ℕ) (node : Node) (below_at : ℕ) (below : Node) → numbered plan.nodes v ≡ Some node → (keys : ℕ) (aggs : List Agg) → node.op ≡ op.BatchGroup keys aggs → node.inputs ≡ below_at ∷ [] → numbered plan.nodes below_at ≡ Some below
      → (under : ℕ) (calls : List Agg) → below.op ≡ op.LocalGroup under calls → a.AreProper laws plan ruled below.inputs → NodeStands v node
  merging_node v node below_at below e keys aggs is are f under calls is_local proper =
      let i = a.one_input laws plan ruled below_at below f (λ n. ap (λ p. ports_of p n) is_local) in
      let own = output_at plan v in
      let sent = output_at plan below_at in
      let input = output_at plan i.0 in
      let agrees = a.merge_agrees laws plan ruled v node below_at below i.0 keys aggs under calls e is are f is_local i.1 proper in
      let shared = a.calls_shared laws plan ruled v node below_at below keys aggs under calls e is are f is_local in
      let grouping = local_of under calls (around_by plan.sink (input ∷ []) sent) in
      let group : op.BatchGroup under calls ≡ node.op = (λ k. op.BatchGroup (sym shared.0 k) (sym shared.1 k)) ∙ sym is in
      let there : local_at plan below_at ≡ Some grouping = grouping_there below_at below under calls i.0 f is_local i.1 in
      let from = parts_are plan grouping below_at (before_sink below_at below f (ap a.sinks is_local)) there in
      let w = merging_works plan.parallelism some plan.sources plan.sink under calls input sent own (λ p. edge_at (slice_index_or (below_at ∷ []) p 0)) agrees (one_edge below_at from) in
      let to : edge_of plan.parallelism own ≡ edge_at v = sym (inner_edge v node e (ap a.sinks is) (ap s.sends_parts is)) in
      let seen : around_sent (Some grouping) plan.sink (sent ∷ []) own ≡ around_of plan v (below_at ∷ []) = sym (around_parts plan grouping v below_at [] there) in
      let told : Facts (task_told v node.op (below_at ∷ []) 1 (around_of plan v (below_at ∷ []))) × TakesBy (behaviour node.op (around_of plan v (below_at ∷ []))) (task_told v node.op (below_at ∷ []) 1 (around_of plan v (below_at ∷ []))) =
      subst (λ (x : Around). Facts (task_told v node.op (below_at ∷ []) 1 x) × TakesBy (behaviour node.op x) (task_told v node.op (below_at ∷ []) 1 x)) seen
      (subst (λ (p : Op). Facts (task_told v p (below_at ∷ []) 1 (around_sent (Some grouping) plan.sink (sent ∷ []) own)) × TakesBy (behaviour p (around_sent (Some grouping) plan.sink (sent ∷ []) own)) (task_told v p (below_at ∷ []) 1 (around_sent (Some grouping) plan.sink (sent ∷ []) own))) group
      (subst (λ (x : Edge). Facts (task_to x (op.BatchGroup under calls) (below_at ∷ []) 1 (around_sent (Some grouping) plan.sink (sent ∷ []) own)) × TakesBy (behaviour (op.BatchGroup under calls) (around_sent (Some grouping) plan.sink (sent ∷ []) own)) (task_to x (op.BatchGroup under calls) (below_at ∷ []) 1 (around_sent (Some grouping) plan.sink (sent ∷ []) own))) to w.0)) in
      record {
        works = inr (record {
          no_scan = ap scan_of is;
          has_inputs = subst (λ (xs : List ℕ). 0 < length xs) (sym are) (omega arith);
          stands =
              subst (λ (o : Option Node). Facts (task_in v o) × TakesBy (behaviour node.op (around_of plan v node.inputs)) (task_in v o)) (sym e)
              (subst (λ (xs : List ℕ). Facts (task_told v node.op xs (length xs) (around_of plan v xs)) × TakesBy (behaviour node.op (around_of plan v xs)) (task_told v node.op xs (length xs) (around_of plan v xs))) (sym are) told);
        });
        proper = w.1;
      }
    where
      one_edge : (n : ℕ) {x : Edge} → edge_at n ≡ x → (p : ℕ) → p < 1 → edge_at (slice_index_or (n ∷ []) p 0) ≡ x
      one_edge n h zero l = h
      one_edge n h (suc p) l = absurd (omega arith)

  -- a node whose only input sends rows
  pub only_plain : (node : Node) (input : ℕ) (below : Node) → numbered plan.nodes input ≡ Some below → node.inputs ≡ input ∷ [] → s.sends_parts below.op ≡ false → a.ArePlain laws plan ruled node.inputs
  only_plain node input below f are n p other found h g =
      let same : input ≡ other = a.only_one input other p (sym (ap (λ (xs : List ℕ). slice_get xs p) are) ∙ h) in
      let alike : found ≡ below = the_same found below (sym g ∙ ap (numbered plan.nodes) (sym same) ∙ f) in
      ap (λ (x : Node). s.sends_parts x.op) alike ∙ n

  pub bundled_node : (v : ℕ) (node : Node) → numbered plan.nodes v ≡ Some node → (keys : ℕ) (aggs : List Agg) → node.op ≡ op.BatchGroup keys aggs → AreLower v → a.AreProper laws plan ruled node.inputs → NodeStands v node
  bundled_node v node e keys aggs is lower proper =
      let i = a.one_input laws plan ruled v node e (λ n. ap (λ p. ports_of p n) is) in
      let first : slice_get node.inputs 0 ≡ Some i.0 = ap (λ (xs : List ℕ). slice_get xs 0) i.1 in
      let there = (s.input_there plan meets laws.shaped v node 0 i.0 e first).1 in
      by_test (s.sends_parts there.0.op)
      (λ t. let local = s.is_local there.0.op t in merging_node v node i.0 there.0 e keys aggs is i.1 there.1 local.0 local.1 local.2 (lower_proper v lower i.0 there.0 there.1 there.2))
      (λ n. one v node e (op.BatchGroup keys aggs) is (λ m. refl) (only_plain node i.0 there.0 there.1 i.1 n) refl refl refl refl refl refl proper (bundles_work plan.parallelism some plan.sources plan.sink keys aggs))
