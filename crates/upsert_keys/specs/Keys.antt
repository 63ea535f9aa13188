-- The keys of each node of a plan, read from the inputs up over the exchanges of its edges.
use Rattle.std.specs.Prelude.{ℕ, ◌+◌, ◌==◌, Bool, true, false, not, List, [], ◌∷◌, ◌++◌, length, slice_get, Option, None, Some}
use Rattle.ct_value.specs.declared.ty.ColTy.{ColTy}
use Rattle.ct_catalog.specs.declared.table.TableDef.{TableDef}
use Rattle.phys_plan.specs.declared.edge.Edge.{Edge}
use Rattle.phys_plan.specs.declared.node.KeyInfo.{KeyInfo}
use Rattle.phys_plan.specs.declared.node.Node.{Node}
use Rattle.phys_plan.specs.declared.node.Op.{Op}
use Rattle.phys_plan.specs.declared.node.Op.TheVariants as op
use Rattle.column_sets.specs.Sets.{set_of}
use Rattle.column_sets.specs.Places.{first_columns, images}
use Rattle.phys_plan.specs.Reading.{Wire, at, read_up, no_keys}
use Rattle.phys_plan.specs.Columns.{plain_columns}
use Rattle.upsert_keys.specs.declared.seen.Seen.{Seen}
use Rattle.upsert_keys.specs.Seen.{all_seen, families}
use Rattle.upsert_keys.specs.Joins.{when, join_keys, semi_keys, chain_keys}

-- one key, which holds at every moment and fixes the subtask
abbrev pub keyed_by : List ℕ → KeyInfo
keyed_by key = families (set_of key ∷ []) (set_of key ∷ []) (set_of key ∷ [])

-- a table without a key is spread by all its columns
abbrev pub table_keys : Option (List ℕ) → ℕ → KeyInfo
table_keys None width = families [] [] (first_columns width ∷ [])
table_keys (Some key) width = keyed_by key

abbrev pub scan_keys : Option TableDef → KeyInfo
scan_keys None = no_keys
scan_keys (Some table) = table_keys table.key (length table.cols)

-- the keys whose columns stay, each at its first place
abbrev pub project_keys : List (Option ℕ) → Seen → KeyInfo
project_keys items input = families (images items input.unique) (images items input.local) (images items input.fixing)

-- with the rank, one row stands at each rank of a partition; without it, the only row of a partition
abbrev pub top_keys : Bool → List ℕ → ℕ → Seen → KeyInfo
top_keys true partition bound input =
    families (input.unique ++ set_of (partition ++ length input.columns ∷ []) ∷ []) (set_of (partition ++ length input.columns ∷ []) ∷ []) (set_of partition ∷ [])
top_keys false partition bound input =
    families (input.unique ++ when (bound == 1) (set_of partition ∷ [])) (input.everywhere ++ when (bound == 1) (set_of partition ∷ [])) (set_of partition ∷ [])

-- a row of EXCEPT is one of the left, a row of INTERSECT one of both; without ALL each row stands once
abbrev pub set_operation_sets : Bool → Bool → ℕ → List (List ℕ) → List (List ℕ) → List (List ℕ)
set_operation_sets except all width lefts rights = lefts ++ (when (not except) rights ++ when (not all) (first_columns width ∷ []))

abbrev pub set_keys : Bool → Bool → Seen → Seen → KeyInfo
set_keys except all left right =
    families
    (set_operation_sets except all (length left.columns) left.unique right.unique)
    (set_operation_sets except all (length left.columns) left.everywhere right.everywhere)
    (first_columns (length left.columns) ∷ [])

-- of an only input, and of two; none where there are fewer or more
abbrev pub with_one : (Seen → KeyInfo) → List Seen → KeyInfo
with_one keys (input ∷ []) = keys input
with_one keys _ = no_keys

abbrev pub with_two : (Seen → Seen → KeyInfo) → List Seen → KeyInfo
with_two keys (left ∷ (right ∷ [])) = keys left right
with_two keys _ = no_keys

abbrev pub filter_keys : Seen → KeyInfo
filter_keys input = families input.unique input.local input.fixing

-- the keys of a node, from what it sees of its inputs
abbrev pub keys_of : List TableDef → Op → List Seen → KeyInfo
keys_of sources (op.Scan source) inputs = scan_keys (slice_get sources source)
keys_of sources (op.Filter cond) inputs = with_one filter_keys inputs
keys_of sources (op.Project items) inputs = with_one (project_keys (plain_columns items)) inputs
keys_of sources op.Union inputs = no_keys
keys_of sources (op.Normalize key) inputs = keyed_by key
keys_of sources (op.Group keys aggs) inputs = keyed_by (first_columns keys)
keys_of sources (op.BatchGroup keys aggs) inputs = keyed_by (first_columns keys)
keys_of sources (op.Join kind on rest) inputs = with_two (join_keys kind on) inputs
keys_of sources (op.Semi anti on rest) inputs = with_two (λ left right. semi_keys on left) inputs
keys_of sources (op.TopN partition order bound ranked) inputs = with_one (top_keys ranked partition bound) inputs
keys_of sources (op.Materialize key) inputs = keyed_by key
keys_of sources op.Sink inputs = no_keys
keys_of sources (op.LocalGroup keys aggs) inputs = no_keys
keys_of sources (op.MultiJoin on) inputs = chain_keys on inputs
keys_of sources (op.SetOp except all columns) inputs = with_two (set_keys except all) inputs

-- the keys of the nodes, behind those of the nodes before them; `columns` are those that each node sends
abbrev pub keys_after : (ℕ → List ColTy) → List TableDef → List Edge → List KeyInfo → List Wire → List KeyInfo
keys_after columns sources edges done ws = read_up (λ w keys. keys_of sources w.op (all_seen columns edges w.inputs keys)) no_keys done ws

abbrev pub keys : (ℕ → List ColTy) → List TableDef → List Edge → List Wire → List KeyInfo
keys columns sources edges ws = keys_after columns sources edges [] ws

-- nodes that are numbered from here, each with its keys in a table of those of all
abbrev pub keyed_from : ℕ → List KeyInfo → List Node → List Node
keyed_from v table [] = []
keyed_from v table (node ∷ nodes) = record { op = node.op; inputs = node.inputs; keys = at no_keys table v } ∷ keyed_from (v + 1) table nodes

abbrev pub keyed : List KeyInfo → List Node → List Node
keyed table nodes = keyed_from 1 table nodes
