-- The rule of a merging group: it sums up partial rows, group by group, and tells of each group what they amount to together.
use Rattle.std.specs.Prelude.{ℕ, ◌+◌, ◌*◌, ◌==◌, unsigned_abs, Bool, true, cond, ◌&&◌, List, [], ◌∷◌, ◌++◌, drop, length, map, take, Option, None, option_map, is_some, Ok, Err}
use Rattle.ct_value.specs.Order.{number_of}
use Rattle.ct_value.specs.declared.row.Row.{Row}
use Rattle.ct_value.specs.declared.ty.Ty.{Ty}
use Rattle.ct_value.specs.declared.ty.ColTy.{ColTy}
use Rattle.ct_value.specs.declared.value.Value.{Value}
use Rattle.ct_value.specs.declared.value.Value.TheVariants.{Num}
use Rattle.ct_field.specs.Typed.{cell}
use Rattle.ct_change.specs.declared.change.Change.{Change}
use Rattle.ct_change.specs.Changelog.{Mode, append}
use Rattle.ct_change.specs.Emission.{emission}
use Rattle.rel_algebra.specs.declared.agg.Agg.{Agg}
use Rattle.rel_algebra.specs.Aggregates.{sum_of, type_in, ty_or_bigint}
use Rattle.rel_algebra.specs.Clauses.{collect}
use Rattle.agg_fns.specs.Partial.{column_of, partials_sum}
use Rattle.agg_fns.specs.PartialResults.{result_fits, result_of}
use Rattle.agg_fns.specs.Reading.{parts_by}
use Rattle.op_rules.specs.Values.{types_fit}
use Rattle.op_rules.specs.History.{Arrival, at_port}
use Rattle.op_rules.specs.Rules.{Answer, Rule}
use Rattle.emission_rules.specs.Grouping.{Grouping, answers, groups_of}
use Rattle.phase_rules.specs.LocalGrouping.{LocalGrouping, members_of, parts}

-- the partial rows of local groups are summed up, to a changelog in this mode
pub record Merging : Type 0 where
  pub local : LocalGrouping
  pub output : Mode

-- the group that both phases are together
abbrev pub in_one_phase : Merging → Grouping
in_one_phase m = record { keys = m.local.keys; aggs = m.local.aggs; columns = m.local.columns; input = m.local.input; output = m.output }

-- ---- partial rows

-- a partial row has the group's key, with values of its columns, how many more rows have come than gone, and the partials
abbrev pub is_partial_row : LocalGrouping → Row → Bool
is_partial_row l row = types_fit (take l.keys l.columns) (take l.keys row) && (length row == l.keys + length (parts l.aggs))

-- what the partial rows of a group have behind its key
abbrev pub amounts_in : ℕ → Row → List Change → List (List Value)
amounts_in keys key changes = map (λ change. drop keys change.row) (members_of keys key changes)

-- ---- what they amount to together

-- the sums of the calls' partials, one call's behind another's
abbrev pub sums_of_calls : List Agg → List (List Value) → List Value
sums_of_calls [] rows = []
sums_of_calls (agg ∷ aggs) rows = partials_sum agg.call rows ++ sums_of_calls aggs (map (λ row. drop (length (parts_by agg.call)) row) rows)

-- how many more rows have come than gone, then the sums
abbrev pub merged : List Agg → List (List Value) → List Value
merged aggs rows = Num (sum_of (column_of 0 rows)) ∷ sums_of_calls aggs (map (λ row. drop 1 row) rows)

-- the type of a call's argument
abbrev pub argument_type : List ColTy → Agg → Ty
argument_type columns agg = ty_or_bigint (type_in columns agg.arg)

-- the value of each call with these partials, none of one that is out of range
abbrev pub values_from : List ColTy → List Agg → List Value → List (Option Value)
values_from columns [] partials = []
values_from columns (agg ∷ aggs) partials = result_of agg.call (argument_type columns agg) partials ∷ values_from columns aggs (drop (length (parts_by agg.call)) partials)

-- the results of the calls over the rows that amount to this, none where one is out of range
abbrev pub results_from : List ColTy → List Agg → List Value → Option Row
results_from columns aggs amounts = collect (values_from columns aggs (drop 1 amounts))

-- whether the sums in partials are within the limits of the calls' own sums
abbrev pub sums_within : List ColTy → List Agg → List Value → Bool
sums_within columns [] partials = true
sums_within columns (agg ∷ aggs) partials = result_fits agg.call (argument_type columns agg) partials && sums_within columns aggs (drop (length (parts_by agg.call)) partials)

-- a group's row: its key, then the results; none where as many rows have gone as have come
abbrev pub row_from : LocalGrouping → Row → List Value → Option Row
row_from l key amounts = cond (unsigned_abs (number_of (cell 0 amounts)) == 0) None (option_map (λ values. key ++ values) (results_from l.columns l.aggs amounts))

-- ---- what is emitted

-- whether the sums are within the limits after each of these partial rows, which come behind earlier ones
abbrev pub within_after : LocalGrouping → List (List Value) → List (List Value) → Bool
within_after l earlier [] = true
within_after l earlier (row ∷ rows) = sums_within l.columns l.aggs (drop 1 (merged l.aggs (earlier ++ row ∷ []))) && within_after l (earlier ++ row ∷ []) rows

-- for a group, its row before these partial rows is replaced by its row after them; a sum that leaves its limit on the way, or a call
-- that is out of range at the end, is out of range at the group's key
abbrev pub merge_answer : Merging → Row → List (List Value) → List (List Value) → Answer
merge_answer m key earlier rows =
    cond (within_after m.local earlier rows && is_some (results_from m.local.columns m.local.aggs (merged m.local.aggs (earlier ++ rows))))
    (Ok (emission m.output (row_from m.local key (merged m.local.aggs earlier)) (row_from m.local key (merged m.local.aggs (earlier ++ rows))))) (Err key)

-- for a piece, each of its groups in first-seen order
abbrev pub merge_emits : Merging → List Arrival → List Arrival → Answer
merge_emits m before piece =
    answers (λ key. merge_answer m key (amounts_in m.local.keys key (at_port 0 before)) (amounts_in m.local.keys key (at_port 0 piece)))
    (groups_of m.local.keys (at_port 0 piece))

abbrev pub merge_rule : Merging → Rule
merge_rule m = record {
  ports = 1;
  mode = λ port. append;
  fits = λ port change. is_partial_row m.local change.row;
  opening = λ subtask. [];
  emits = merge_emits m;
  work = λ before a. 2 + 3 * length m.local.aggs;
}
