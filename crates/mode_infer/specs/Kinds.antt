-- What nodes send, and what operators ask of their inputs: the kinds of each node's output, read from the inputs up; by which columns an
-- operator asks for its inputs, and whether it needs the old rows; its update key, who takes new rows alone, and how an edge tells updates.
use Rattle.std.specs.Prelude.{ℕ, zero, suc, ◌==◌, Bool, true, false, cond, not, ◌&&◌, ◌||◌, List, [], ◌∷◌, ◌++◌, fold, map, slice_get, Option, None, Some, option_and_then}
use Rattle.std.specs.List.{list_any}
use Rattle.ct_change.specs.declared.kind.KindSet.{KindSet}
use Rattle.ct_change.specs.Changelog as changelog
use Rattle.rel_algebra.specs.Joins.{left_columns, right_columns}
use Rattle.ct_catalog.specs.declared.table.TableDef.{TableDef}
use Rattle.rel_algebra.specs.declared.agg.Agg.{Agg}
use Rattle.rel_algebra.specs.declared.join.JoinKind.{JoinKind}
use Rattle.rel_algebra.specs.declared.join.JoinKind.TheVariants.{Inner, Left, Right, Full}
use Rattle.rel_algebra.specs.declared.join.Pair.{Pair}
use Rattle.phys_plan.specs.declared.edge.Exchange.{Exchange}
use Rattle.phys_plan.specs.declared.edge.Exchange.TheVariants.{Forward, Hash}
use Rattle.phys_plan.specs.declared.node.Op.{Op}
use Rattle.phys_plan.specs.declared.node.Op.TheVariants as op
use Rattle.phys_plan.specs.Reading.{Wire, read_up}
use Rattle.phys_plan.specs.Columns.{plain_columns}
use Rattle.column_sets.specs.Places.{first_columns, image}
use Rattle.mode_infer.specs.declared.kinds.Flow.{Flow}
use Rattle.ct_change.specs.Kinds.{has_more_than_inserts, is_upsert}
use Rattle.ct_change.specs.declared.kind.Declared.{Declared}
use Rattle.ct_change.specs.declared.kind.Declared.TheVariants.{Append, Retract, Upsert}
use Rattle.ct_change.specs.declared.update.Update.{Update}
use Rattle.ct_change.specs.declared.update.Update.TheVariants.{Absent, After, Both}
use Rattle.column_sets.specs.Sets.{is_within, same_set, set_of}

-- ---- sets of kinds

abbrev pub kind_set : Bool → Bool → Bool → Bool → KindSet
kind_set i ub ua d = record { i = i; ub = ub; ua = ua; d = d }

abbrev pub no_kinds : KindSet
no_kinds = kind_set false false false false

abbrev pub inserts : KindSet
inserts = kind_set true false false false

abbrev pub either : KindSet → KindSet → KindSet
either one other = kind_set (one.i || other.i) (one.ub || other.ub) (one.ua || other.ua) (one.d || other.d)

-- with -U where there is +U
abbrev pub with_old : KindSet → KindSet
with_old kinds = kind_set kinds.i (kinds.ub || kinds.ua) kinds.ua kinds.d

abbrev pub with_deletes : Bool → KindSet → KindSet
with_deletes deletes kinds = kind_set kinds.i kinds.ub kinds.ua (kinds.d || deletes)

-- ---- one operator

abbrev pub scan_kinds : Option TableDef → KindSet
scan_kinds None = no_kinds
scan_kinds (Some table) = changelog.kinds_of (changelog.mode_of table.mode [])

-- a row of a group without aggregates never changes; the only row of a global group never goes
abbrev pub group_kinds : ℕ → List Agg → KindSet → KindSet
group_kinds keys [] below = kind_set true false false (has_more_than_inserts below)
group_kinds keys (agg ∷ aggs) below = kind_set true true true (not (keys == 0) && has_more_than_inserts below)

-- those of several inputs whose rows stand side by side
abbrev pub inner_kinds : List KindSet → KindSet
inner_kinds inputs = cond (list_any has_more_than_inserts inputs) (with_old (fold either no_kinds inputs)) inserts

abbrev pub join_kinds : JoinKind → KindSet → KindSet → KindSet
join_kinds Inner left right = cond (has_more_than_inserts left || has_more_than_inserts right) (with_old (either left right)) inserts
join_kinds Left left right = kind_set true false false true
join_kinds Right left right = kind_set true false false true
join_kinds Full left right = kind_set true false false true

-- a row that passes goes where its match comes, or with `anti` where it goes
abbrev pub semi_kinds : Bool → KindSet → KindSet → KindSet
semi_kinds anti left right = with_deletes (anti || has_more_than_inserts right) (with_old left)

-- rows at a rank change; without ranks they come and go
abbrev pub top_kinds : Bool → ℕ → KindSet → KindSet
top_kinds ranked bound below = cond (ranked || (bound == 1)) (kind_set true true true (has_more_than_inserts below)) (kind_set true false false true)

abbrev pub set_kinds : Bool → KindSet → KindSet → KindSet
set_kinds except left right = kind_set true false false (except || (has_more_than_inserts left || has_more_than_inserts right))

-- ---- all operators

-- what an edge carries: the kinds sent, and those of the rows that they stand for, which are others only above a local group
abbrev pub plain : KindSet → Flow
plain kinds = record { sent = kinds; meant = kinds }

abbrev pub no_flow : Flow
no_flow = plain no_kinds

abbrev pub sent_of : Flow → KindSet
sent_of flow = flow.sent

-- of an only input, and of two; none where there are fewer or more
abbrev pub with_one : (Flow → Flow) → List Flow → Flow
with_one flow (input ∷ []) = flow input
with_one flow _ = no_flow

abbrev pub with_two : (KindSet → KindSet → KindSet) → List Flow → Flow
with_two kinds (left ∷ (right ∷ [])) = plain (kinds left.sent right.sent)
with_two kinds _ = no_flow

-- a local group sends partial results, each as +I; they stand for the rows of its input
abbrev pub partials : Flow → Flow
partials input = record { sent = inserts; meant = input.sent }

abbrev pub grouped : ℕ → List Agg → Flow → Flow
grouped keys aggs input = plain (group_kinds keys aggs input.sent)

-- above a local group a group goes by the rows that its partial results stand for
abbrev pub grouped_in_bundles : ℕ → List Agg → Flow → Flow
grouped_in_bundles keys aggs input = plain (group_kinds keys aggs input.meant)

abbrev pub passed : Flow → Flow
passed input = plain input.sent

abbrev pub top_rows : Bool → ℕ → Flow → Flow
top_rows ranked bound input = plain (top_kinds ranked bound input.sent)

-- what a node sends, from what its inputs send
abbrev pub flow_of : List TableDef → Op → List Flow → Flow
flow_of sources (op.Scan source) inputs = plain (scan_kinds (slice_get sources source))
flow_of sources (op.Filter cond) inputs = with_one passed inputs
flow_of sources (op.Project items) inputs = with_one passed inputs
flow_of sources op.Union inputs = plain (fold either no_kinds (map sent_of inputs))
flow_of sources (op.Normalize key) inputs = plain (kind_set true true true true)
flow_of sources (op.Group keys aggs) inputs = with_one (grouped keys aggs) inputs
flow_of sources (op.BatchGroup keys aggs) inputs = with_one (grouped_in_bundles keys aggs) inputs
flow_of sources (op.Join kind on rest) inputs = with_two (join_kinds kind) inputs
flow_of sources (op.Semi anti on rest) inputs = with_two (semi_kinds anti) inputs
flow_of sources (op.TopN partition order bound ranked) inputs = with_one (top_rows ranked bound) inputs
flow_of sources (op.Materialize key) inputs = plain (kind_set true false true true)
flow_of sources op.Sink inputs = with_one passed inputs
flow_of sources (op.LocalGroup keys aggs) inputs = with_one partials inputs
flow_of sources (op.MultiJoin on) inputs = plain (inner_kinds (map sent_of inputs))
flow_of sources (op.SetOp except all columns) inputs = with_two (set_kinds except) inputs

-- what the nodes send, behind those before them, as long as no edge leaves out the old rows
abbrev pub flows_after : List TableDef → List Flow → List Wire → List Flow
flows_after sources done ws = read_up (λ w. flow_of sources w.op) no_flow done ws

abbrev pub flows : List TableDef → List Wire → List Flow
flows sources ws = flows_after sources [] ws

-- ---- what operators ask of their inputs

-- port 0 is the left input
abbrev pub side_columns : List Pair → ℕ → List ℕ
side_columns on zero = left_columns on
side_columns on (suc port) = right_columns on

abbrev pub lefts_in : Option (List Pair) → List ℕ
lefts_in None = []
lefts_in (Some on) = left_columns on

abbrev pub rights_in : Option (List Pair) → List ℕ
rights_in None = []
rights_in (Some on) = right_columns on

-- of several inputs the first has the left columns of the innermost join, and each other one the right columns of the join that brings it
abbrev pub chain_columns : List (List Pair) → ℕ → List ℕ
chain_columns on zero = lefts_in (slice_get on 0)
chain_columns on (suc port) = rights_in (slice_get on port)

abbrev pub same_key : Option (List ℕ) → List ℕ → Bool
same_key None key = false
same_key (Some other) key = same_set other key

abbrev pub is_after : Update → Option (List ℕ) → Bool
is_after (After key) image = same_key image key
is_after Absent image = false
is_after Both image = false

-- an upsert sink by its own key
abbrev pub sink_takes : TableDef → List ℕ → Bool
sink_takes sink key = is_upsert sink.mode && same_key sink.key key

-- how an operator takes updates: in full, whether or not it needs the old rows; or by new rows alone, where this holds of the port, the
-- sink's table, how its own edge tells updates, and the key by which the new rows come
pub data Taking : Type 0 where
  all_rows : Bool → Taking
  new_rows : (ℕ → TableDef → Update → List ℕ → Bool) → Taking

-- how it reads its inputs: by port the columns by which it asks for the rows, none where it takes them as they come; and the updates
pub record Reads : Type 0 where
  pub columns : ℕ → Option (List ℕ)
  pub updates : Taking

abbrev pub forward : Taking → Reads
forward updates = record { columns = λ port. None; updates = updates }

abbrev pub hashed : (ℕ → List ℕ) → Taking → Reads
hashed columns updates = record { columns = λ port. Some (columns port); updates = updates }

-- rows of a key that has the columns come to one subtask, which knows the row before
abbrev pub known : (ℕ → List ℕ) → Reads
known columns = hashed columns (new_rows (λ port sink update key. is_within (columns port) key))

-- operators that judge each row by itself, or count rows, need the old rows; a Project hands new rows on where its own edge tells them so
abbrev pub reads : Op → Reads
reads (op.Scan source) = forward (all_rows false)
reads (op.Filter cond) = forward (all_rows true)
reads (op.Project items) = forward (new_rows (λ port sink update key. is_after update (image (plain_columns items) key)))
reads op.Union = forward (all_rows true)
reads (op.Normalize key) = hashed (λ port. key) (all_rows false)
reads (op.Group keys aggs) = hashed (λ port. first_columns keys) (all_rows true)
reads (op.BatchGroup keys aggs) = hashed (λ port. first_columns keys) (all_rows true)
reads (op.Join kind on rest) = known (side_columns on)
reads (op.Semi anti on rest) = known (side_columns on)
reads (op.TopN partition order bound ranked) = known (λ port. partition)
reads (op.Materialize key) = hashed (λ port. key) (all_rows false)
reads op.Sink = forward (new_rows (λ port sink update key. sink_takes sink key))
reads (op.LocalGroup keys aggs) = forward (all_rows true)
reads (op.MultiJoin on) = known (chain_columns on)
reads (op.SetOp except all columns) = hashed (λ port. first_columns columns) (all_rows true)

-- the columns by which an operator asks for the rows of a port
abbrev pub asked : Op → ℕ → Option (List ℕ)
asked operator port = (reads operator).columns port

-- the exchange of an edge whose rows are asked for by these
abbrev pub by_columns : Option (List ℕ) → Exchange
by_columns None = Forward
by_columns (Some cols) = Hash cols

abbrev pub needs_old : Taking → Bool
needs_old (all_rows needed) = needed
needs_old (new_rows taken) = false

abbrev pub needs_old_rows : Op → Bool
needs_old_rows operator = needs_old (reads operator).updates

abbrev pub takes_new : Taking → ℕ → TableDef → Update → List ℕ → Bool
takes_new (all_rows needed) port sink update key = false
takes_new (new_rows taken) port sink update key = taken port sink update key

-- whether an operator takes new rows alone by this key at a port, where its own edge tells updates so
abbrev pub takes : TableDef → Op → ℕ → Update → List ℕ → Bool
takes sink operator port update key = takes_new (reads operator).updates port sink update key

-- ---- update keys

-- without aggregates a group's row never changes
abbrev pub group_key : ℕ → List Agg → Option (List ℕ)
group_key keys [] = None
group_key keys (agg ∷ aggs) = Some (first_columns keys)

-- with the rank, which is the column behind the input's, the row at a rank; the only row of a partition
abbrev pub top_key : Bool → List ℕ → ℕ → ℕ → Option (List ℕ)
top_key ranked partition bound width = cond ranked (Some (set_of (partition ++ width ∷ []))) (cond (bound == 1) (Some (set_of partition)) None)

abbrev pub project_key : List (Option ℕ) → List (Option (List ℕ)) → Option (List ℕ)
project_key items (key ∷ []) = option_and_then (image items) key
project_key items _ = None

-- the update key of a node, from those of its inputs, of which the first has so many columns
abbrev pub update_key_of : ℕ → Op → List (Option (List ℕ)) → Option (List ℕ)
update_key_of width (op.Scan source) inputs = None
update_key_of width (op.Filter cond) inputs = None
update_key_of width (op.Project items) inputs = project_key (plain_columns items) inputs
update_key_of width op.Union inputs = None
update_key_of width (op.Normalize key) inputs = Some (set_of key)
update_key_of width (op.Group keys aggs) inputs = group_key keys aggs
update_key_of width (op.BatchGroup keys aggs) inputs = group_key keys aggs
update_key_of width (op.Join kind on rest) inputs = None
update_key_of width (op.Semi anti on rest) inputs = None
update_key_of width (op.TopN partition order bound ranked) inputs = top_key ranked partition bound width
update_key_of width (op.Materialize key) inputs = None
update_key_of width op.Sink inputs = None
update_key_of width (op.LocalGroup keys aggs) inputs = None
update_key_of width (op.MultiJoin on) inputs = None
update_key_of width (op.SetOp except all columns) inputs = None

-- ---- how they tell updates

-- with the old rows, where there are updates
abbrev pub in_full : KindSet → Update
in_full kinds = cond kinds.ua Both Absent

-- the new rows alone, where there are updates, the node has an update key and its consumer takes them so
abbrev pub told : KindSet → Option (List ℕ) → Bool → Update
told kinds None taken = in_full kinds
told kinds (Some key) taken = cond (kinds.ua && taken) (After key) (in_full kinds)

-- an upsert table tells new rows alone by its key
abbrev pub table_update : Declared → Option (List ℕ) → KindSet → Update
table_update Append key kinds = in_full kinds
table_update Retract key kinds = in_full kinds
table_update Upsert None kinds = in_full kinds
table_update Upsert (Some key) kinds = After key

abbrev pub scan_update : Option TableDef → KindSet → Update
scan_update None kinds = in_full kinds
scan_update (Some table) kinds = table_update table.mode table.key kinds

-- how the edge of a node tells updates, by the kinds and the update key of the node and whether its consumer takes new rows alone
abbrev pub update_of : List TableDef → Op → KindSet → Option (List ℕ) → Bool → Update
update_of sources (op.Scan source) kinds key taken = scan_update (slice_get sources source) kinds
update_of sources (op.Filter cond) kinds key taken = told kinds key taken
update_of sources (op.Project items) kinds key taken = told kinds key taken
update_of sources op.Union kinds key taken = told kinds key taken
update_of sources (op.Normalize by) kinds key taken = told kinds key taken
update_of sources (op.Group keys aggs) kinds key taken = told kinds key taken
update_of sources (op.BatchGroup keys aggs) kinds key taken = told kinds key taken
update_of sources (op.Join kind on rest) kinds key taken = told kinds key taken
update_of sources (op.Semi anti on rest) kinds key taken = told kinds key taken
update_of sources (op.TopN partition order bound ranked) kinds key taken = told kinds key taken
update_of sources (op.Materialize shown) kinds key taken = After shown
update_of sources op.Sink kinds key taken = Absent
update_of sources (op.LocalGroup keys aggs) kinds key taken = told kinds key taken
update_of sources (op.MultiJoin on) kinds key taken = told kinds key taken
update_of sources (op.SetOp except all columns) kinds key taken = told kinds key taken
