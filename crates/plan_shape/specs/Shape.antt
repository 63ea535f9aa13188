-- The rule Shape, said of one node of a plan. What it says of the whole plan counts at node 1.
use Rattle.std.specs.Prelude.{ℕ, ◌==◌, nat_le, nat_lt, Bool, true, false, not, ◌&&◌, ◌||◌, cond, List, [], ◌∷◌, ◌+◌, length, slice_get, Option, Some, None}
use Rattle.std.specs.List.{find, list_all, list_any}
use Rattle.std.specs.Str.{bytes_eq as same_numbers}
use Rattle.ct_change.specs.declared.kind.KindSet.{KindSet}
use Rattle.ct_catalog.specs.declared.table.TableDef.{TableDef}
use Rattle.rel_algebra.specs.declared.agg.Agg.{Agg}
use Rattle.rel_algebra.specs.declared.agg.AggCall.{AggCall}
use Rattle.rel_algebra.specs.declared.agg.AggCall.TheVariants.{CountAll, Count, CountDistinct, Sum, Min, Max, Avg}
use Rattle.phys_plan.specs.declared.node.Node.{Node}
use Rattle.phys_plan.specs.declared.node.Op.{Op}
use Rattle.phys_plan.specs.declared.node.Op.TheVariants as op
use Rattle.phys_plan.specs.declared.plan.Plan.{Plan}
pub use Rattle.plan_rules.specs.Phases.{only_inserts, has_parts}
use Rattle.plan_rules.specs.Plans.{kinds_in}
use Rattle.plan_rules.specs.Roles.{role, takes as takes_as}
use Rattle.phys_plan.specs.Reading.{numbered, first_input}
use Rattle.plan_shape.specs.Tables.{are_tables}
use Rattle.ct_change.specs.Kinds.{is_upsert}

-- ---- the whole plan

abbrev pub most_nodes : ℕ
most_nodes = 128

abbrev pub most_subtasks : ℕ
most_subtasks = 16

abbrev pub most_bundled : ℕ
most_bundled = 1000000

-- at least one, and at most so many
abbrev pub is_up_to : ℕ → ℕ → Bool
is_up_to most number = nat_le 1 number && nat_le number most

-- at most so many nodes, with an edge each
abbrev pub has_nodes : Plan → Bool
has_nodes plan = is_up_to most_nodes (length plan.nodes) && length plan.edges == length plan.nodes

-- how many nodes, edges and subtasks there are, and how much a bundle holds
abbrev pub has_sizes : Plan → Bool
has_sizes plan = has_nodes plan && (nat_le plan.mini_batch most_bundled && is_up_to most_subtasks plan.parallelism)

abbrev pub is_whole : Plan → Bool
is_whole plan = has_sizes plan && are_tables (plan.sink ∷ plan.sources)

-- ---- inputs

-- how many inputs an operator has
abbrev pub takes : Op → ℕ → Bool
takes operator inputs = takes_as (role operator) inputs

-- each is a node with a smaller number
abbrev pub are_before : ℕ → List ℕ → Bool
are_before v inputs = list_all (λ input. nat_lt 0 input && nat_lt input v) inputs

-- ---- consumers

-- how often a number stands in a list, and among the inputs of all nodes
abbrev pub times : ℕ → List ℕ → ℕ
times v [] = 0
times v (input ∷ inputs) = cond (v == input) 1 0 + times v inputs

abbrev pub uses : ℕ → List Node → ℕ
uses v [] = 0
uses v (node ∷ nodes) = times v node.inputs + uses v nodes

abbrev pub has_input : ℕ → Node → Bool
has_input v node = list_any (λ input. input == v) node.inputs

abbrev pub op_in : Option Node → Option Op
op_in None = None
op_in (Some node) = Some node.op

-- the operator that a node feeds: the first, where it feeds several
abbrev pub consumer : ℕ → List Node → Option Op
consumer v nodes = op_in (find (has_input v) nodes)

-- ---- keys of the tables

abbrev pub is_sink_key : TableDef → List ℕ → Option (List ℕ) → Bool
is_sink_key sink key None = false
is_sink_key sink key (Some of_sink) = is_upsert sink.mode && same_numbers key of_sink

abbrev pub is_keyed_by : List ℕ → Option (List ℕ) → Bool
is_keyed_by key None = false
is_keyed_by key (Some of_table) = same_numbers key of_table

-- an upsert table with this key
abbrev pub is_upsert_by : List ℕ → Option TableDef → Bool
is_upsert_by key None = false
is_upsert_by key (Some table) = is_upsert table.mode && is_keyed_by key table.key

-- a scan of such a table
abbrev pub scans_by : List TableDef → List ℕ → Option Op → Bool
scans_by sources key (Some (op.Scan source)) = is_upsert_by key (slice_get sources source)
scans_by sources key _ = false

-- ---- calls and consumers

abbrev pub same_call : AggCall → AggCall → Bool
same_call CountAll CountAll = true
same_call Count Count = true
same_call CountDistinct CountDistinct = true
same_call Sum Sum = true
same_call Min Min = true
same_call Max Max = true
same_call Avg Avg = true
same_call _ _ = false

abbrev pub same_column : Option ℕ → Option ℕ → Bool
same_column None None = true
same_column (Some column) (Some other) = column == other
same_column _ _ = false

abbrev pub same_agg : Agg → Agg → Bool
same_agg agg other = same_call agg.call other.call && (same_column agg.arg other.arg && same_column agg.filter other.filter)

abbrev pub same_aggs : List Agg → List Agg → Bool
same_aggs [] [] = true
same_aggs (agg ∷ aggs) (other ∷ others) = same_agg agg other && same_aggs aggs others
same_aggs _ _ = false

abbrev pub is_sink : Option Op → Bool
is_sink (Some op.Sink) = true
is_sink _ = false

-- a group in bundles, of so many keys and these aggregates
abbrev pub merges : ℕ → List Agg → Option Op → Bool
merges keys aggs (Some (op.BatchGroup of_keys of_aggs)) = keys == of_keys && same_aggs aggs of_aggs
merges keys aggs _ = false

abbrev pub normalizes_by : Option (List ℕ) → Option Op → Bool
normalizes_by (Some key) (Some (op.Normalize by)) = same_numbers key by
normalizes_by _ _ = false

-- a table whose changes a consumer reads as they come, or in full by the table's key
abbrev pub is_read : Option TableDef → Option Op → Bool
is_read None above = true
is_read (Some table) above = not (is_upsert table.mode) || normalizes_by table.key above

-- ---- what an operator asks, beside its number of inputs

-- of the plan's tables and sizes; of the operator that it stands on and the kinds of the edge between; and of the one that it feeds
pub record Asks : Type 0 where
  pub of_plan : Plan → Bool
  pub of_input : List TableDef → Option Op → KindSet → Bool
  pub of_consumer : List TableDef → Option Op → Bool

abbrev pub nothing_more : Asks
nothing_more = record { of_plan = λ plan. true; of_input = λ sources below kinds. true; of_consumer = λ sources above. true }

-- a scan's table is there, and one of upserts is normalized by its key, above the scan; bundles hold something, and those of a group
-- are of keys; a materializer shows an upsert sink by its key, and stands under it; a local group sums up parts, and stands under the
-- group in bundles that merges them
abbrev pub asks : Op → Asks
asks (op.Scan source) = record nothing_more { of_plan = λ plan. nat_lt source (length plan.sources); of_consumer = λ sources above. is_read (slice_get sources source) above }
asks (op.Filter cond) = nothing_more
asks (op.Project items) = nothing_more
asks op.Union = nothing_more
asks (op.Normalize key) = record nothing_more { of_input = λ sources below kinds. scans_by sources key below }
asks (op.Group keys aggs) = nothing_more
asks (op.BatchGroup keys aggs) = record nothing_more { of_plan = λ plan. nat_lt 0 plan.mini_batch && nat_lt 0 keys }
asks (op.Join kind on rest) = nothing_more
asks (op.Semi anti on rest) = nothing_more
asks (op.TopN partition order bound ranked) = nothing_more
asks (op.Materialize key) = record nothing_more { of_plan = λ plan. is_sink_key plan.sink key plan.sink.key; of_consumer = λ sources above. is_sink above }
asks op.Sink = nothing_more
asks (op.LocalGroup keys aggs) = record {
  of_plan = λ plan. nat_lt 0 plan.mini_batch;
  of_input = λ sources below kinds. list_all (λ agg. has_parts kinds agg.call) aggs;
  of_consumer = λ sources above. merges keys aggs above;
}
asks (op.MultiJoin on) = nothing_more
asks (op.SetOp except all columns) = nothing_more

abbrev pub suits_plan : Plan → Op → Bool
suits_plan plan operator = (asks operator).of_plan plan

abbrev pub suits_input : List TableDef → Op → Option Op → KindSet → Bool
suits_input sources operator below kinds = (asks operator).of_input sources below kinds

abbrev pub suits_consumer : List TableDef → Op → Option Op → Bool
suits_consumer sources operator above = (asks operator).of_consumer sources above

-- ---- nodes

-- by the operators and edges below it
abbrev pub is_fed : Plan → Node → Bool
is_fed plan node =
    takes node.op (length node.inputs)
    && suits_input plan.sources node.op (op_in (numbered plan.nodes (first_input node.inputs))) (kinds_in (numbered plan.edges (first_input node.inputs)))

-- the last node is the sink and no other is, and each other feeds one node, once, that it may feed
abbrev pub is_consumed : Plan → ℕ → Op → Bool
is_consumed plan v operator =
    cond (v == length plan.nodes) (is_sink (Some operator))
    (not (is_sink (Some operator)) && (uses v plan.nodes == 1 && suits_consumer plan.sources operator (consumer v plan.nodes)))

abbrev pub node_has_shape : Plan → ℕ → Node → Bool
node_has_shape plan v node = are_before v node.inputs && (suits_plan plan node.op && (is_fed plan node && is_consumed plan v node.op))

abbrev pub is_shaped : Plan → ℕ → Option Node → Bool
is_shaped plan v None = true
is_shaped plan v (Some node) = node_has_shape plan v node

-- Shape at a number
abbrev pub has_shape : Plan → ℕ → Bool
has_shape plan v = (not (v == 1) || is_whole plan) && is_shaped plan v (numbered plan.nodes v)
