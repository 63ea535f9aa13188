-- GROUP BY: a group is its key, the row of the values of the GROUP BY expressions; an aggregate is evaluated over the rows of the group.
use Rattle.std.specs.Prelude.{ℕ, Bool, true, false, cond, ◌||◌, ◌&&◌, List, [], ◌∷◌, ◌++◌, Option, Some, None, option_map, option_and_then, is_some, slice_get}
use Rattle.std.specs.Option.{unwrap_or}
use Rattle.ct_value.specs.declared.row.Row.{Row}
use Rattle.ct_value.specs.declared.ty.ColTy.{ColTy}
use Rattle.ct_value.specs.declared.value.Value.{Value}
use Rattle.ct_value.specs.declared.value.Value.TheVariants.{Null}
use Rattle.ct_change.specs.Changelog.{Rows}
use Rattle.ct_field.specs.Typed.{cell, is_true}
use Rattle.rel_algebra.specs.declared.agg.AggCall.{AggCall}
use Rattle.rel_algebra.specs.Aggregates.{agg_value, call_type, column_is_truth, ty_or_bigint}
use Rattle.rel_algebra.specs.Clauses.{Meaning, row_of, filter_rows, project_rows}
use Rattle.rel_algebra.specs.Keys.{keys_in, rows_of_key}
use Rattle.rel_algebra.specs.Sums.{one, mapped, restrict}
use Rattle.query_answer.specs.Table.{Typed}

-- the key of a row on which no GROUP BY expression is out of range
abbrev pub key_of : List Meaning → Row → Row
key_of keys row = unwrap_or (row_of keys row) []

-- the keys that occur, each once; without GROUP BY all rows are one group, also where there are none
abbrev pub groups_of : List Meaning → Rows → Rows
groups_of [] rows = one []
groups_of (key ∷ keys) rows = keys_in (key_of (key ∷ keys)) rows

-- the rows of a group
abbrev pub members : List Meaning → Row → Rows → Rows
members keys group rows = rows_of_key (key_of keys) group rows

-- what GROUP BY, HAVING and the items make of rows: every expression, argument and FILTER condition is evaluated on every row, then
-- every call in every group, then HAVING, and then the items in every group that is left
abbrev pub filter_if : Option Meaning → Rows → Option Rows
filter_if None rows = Some rows
filter_if (Some condition) rows = filter_rows condition rows

abbrev pub grouped_rows : List Meaning → List Meaning → List Meaning → Option Meaning → List Meaning → Rows → Option Rows
grouped_rows keys operands calls having items rows =
    option_and_then (λ _.
    option_and_then (λ _. option_and_then (project_rows items) (filter_if having (groups_of keys rows)))
    (project_rows calls (groups_of keys rows)))
    (project_rows (keys ++ operands) rows)

-- ---- aggregate calls; their operands have values on every row

-- the value of an argument; `COUNT(*)` has none
abbrev pub taken : Option Typed → Row → Value
taken None row = Null
taken (Some x) row = unwrap_or (x.value row) Null

-- whether a row counts: its FILTER condition, if there is one, is TRUE
abbrev pub counts : Option Typed → Row → Bool
counts None row = true
counts (Some condition) row = is_true (unwrap_or (condition.value row) Null)

abbrev pub column_of : Option Typed → Option ColTy
column_of None = None
column_of (Some x) = x.column

-- a condition that is BOOLEAN, or none
abbrev pub is_condition_if : Option Typed → Bool
is_condition_if None = true
is_condition_if (Some condition) = column_is_truth condition.column

abbrev pub is_typed_if : Option Typed → Bool
is_typed_if None = true
is_typed_if (Some x) = is_some x.column

-- without GROUP BY, or with a FILTER, no value may be left
abbrev pub call_column : Bool → AggCall → Option Typed → Option Typed → Option ColTy
call_column global call arg filter = cond (is_condition_if filter && is_typed_if arg) (call_type (global || is_some filter) call (column_of arg)) None

-- a call over rows
abbrev pub call_value : AggCall → Option Typed → Option Typed → Rows → Option Value
call_value call arg filter rows = agg_value call (ty_or_bigint (column_of arg)) (mapped (taken arg) (restrict (counts filter) rows))

abbrev pub has_no_keys : List Typed → Bool
has_no_keys [] = true
has_no_keys (key ∷ keys) = false

abbrev pub meanings : List Typed → List Meaning
meanings [] = []
meanings (x ∷ xs) = x.value ∷ meanings xs

-- a call in a group of the rows
abbrev pub called : List Typed → Rows → AggCall → Option Typed → Option Typed → Typed
called keys rows call arg filter = record {
  column = call_column (has_no_keys keys) call arg filter;
  value = λ group. call_value call arg filter (members (meanings keys) group rows);
}

-- the n-th GROUP BY expression in a group
abbrev pub key_at : List Typed → Option ℕ → Option Typed
key_at keys None = None
key_at keys (Some n) = option_map (λ key. record { column = key.column; value = λ group. Some (cell n group) }) (slice_get keys n)
