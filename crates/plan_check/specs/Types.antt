-- The rule Types, said of one node of a plan: the columns that each node sends, for all operators, and what the sink takes.
use Rattle.std.specs.Prelude.{ℕ, Bool, true, false, not, ◌&&◌, ◌||◌, List, [], ◌∷◌, ◌++◌, map, Option, Some, None, option_and_then, is_some}
use Rattle.std.specs.List.{list_all}
use Rattle.ct_value.specs.declared.ty.ColTy.{ColTy}
use Rattle.ct_catalog.specs.declared.table.TableDef.{TableDef}
use Rattle.rel_algebra.specs.declared.agg.Agg.{Agg}
use Rattle.rel_algebra.specs.Groups.{group_columns}
use Rattle.rel_algebra.specs.Types.{columns_if, is_column}
use Rattle.rel_algebra.specs.GoesInto.{go_into}
use Rattle.phys_plan.specs.declared.node.Op.{Op}
use Rattle.phys_plan.specs.declared.node.Op.TheVariants as op
use Rattle.phys_plan.specs.declared.node.Node.{Node}
use Rattle.phys_plan.specs.declared.plan.Plan.{Plan}
use Rattle.phys_plan.specs.Reading.{numbered}
use Rattle.ct_catalog.specs.Columns.{column_types}
use Rattle.plan_rules.specs.Columns.{columns_by, numbered_columns, only}
use Rattle.plan_check.specs.Chains.{chain_columns}

-- ---- columns of one operator

-- these columns, where those of the key are among them
abbrev pub keyed_columns : List ℕ → List ColTy → Option (List ColTy)
keyed_columns key columns = columns_if (list_all (is_column columns) key) columns

-- these columns, where groups of rows that have them have columns too
abbrev pub grouped_columns : ℕ → List Agg → List ColTy → Option (List ColTy)
grouped_columns keys aggs columns = columns_if (is_some (group_columns keys columns aggs)) columns

-- the columns of a node, from those of its inputs; none where it isn't well-typed. A local group counts as sending the rows that its
-- partial rows stand for
abbrev pub types_by : List TableDef → Op → List (Option (List ColTy)) → Option (List ColTy)
types_by sources (op.Normalize key) inputs = option_and_then (keyed_columns key) (only inputs)
types_by sources (op.Materialize key) inputs = option_and_then (keyed_columns key) (only inputs)
types_by sources (op.LocalGroup keys aggs) inputs = option_and_then (grouped_columns keys aggs) (only inputs)
types_by sources (op.MultiJoin on) inputs = chain_columns on inputs
types_by sources operator inputs = columns_by sources operator inputs

-- ---- columns of the nodes of a plan

-- those of a node behind these
abbrev pub next_types : List TableDef → List (Option (List ColTy)) → Node → Option (List ColTy)
next_types sources done node = types_by sources node.op (map (numbered_columns done) node.inputs)

-- those of some nodes, each after its inputs, behind those of the nodes before them
abbrev pub types_after : List TableDef → List (Option (List ColTy)) → List Node → List (Option (List ColTy))
types_after sources done [] = done
types_after sources done (node ∷ nodes) = types_after sources (done ++ next_types sources done node ∷ []) nodes

-- those of all nodes, and of a node by its number, from 1
abbrev pub all_types : List TableDef → List Node → List (Option (List ColTy))
all_types sources nodes = types_after sources [] nodes

abbrev pub types_at : List TableDef → List Node → ℕ → Option (List ColTy)
types_at sources nodes v = numbered_columns (all_types sources nodes) v

-- ---- the sink

-- column by column, NULL may stand in the sink's where it may in a row's
abbrev pub keep_nulls : List ColTy → List ColTy → Bool
keep_nulls (column ∷ columns) (sink ∷ sinks) = (not column.nullable || sink.nullable) && keep_nulls columns sinks
keep_nulls columns sinks = true

-- rows of these columns may go into the sink's
abbrev pub fit_sink : List ColTy → List ColTy → Bool
fit_sink columns sinks = go_into columns sinks && keep_nulls columns sinks

-- ---- nodes

-- a node has columns, and those of the sink go into its table
abbrev pub is_typed_by : TableDef → Op → Option (List ColTy) → Bool
is_typed_by sink operator None = false
is_typed_by sink op.Sink (Some columns) = fit_sink columns (column_types sink)
is_typed_by sink _ (Some columns) = true

abbrev pub is_typed : TableDef → Option Node → Option (List ColTy) → Bool
is_typed sink None columns = true
is_typed sink (Some node) columns = is_typed_by sink node.op columns

-- Types at a number
abbrev pub has_types : Plan → ℕ → Bool
has_types plan v = is_typed plan.sink (numbered plan.nodes v) (types_at plan.sources plan.nodes v)
