-- The rule of a local group: for each group of a piece, what its rows come and gone amount to, which a group in bundles above sums up.
use Rattle.std.specs.Prelude.{◌≡◌, ℕ, ◌+◌, ◌*◌, ◌<◌, ℤ, pos, Bool, true, false, cond, not, ◌&&◌, List, [], ◌∷◌, ◌++◌, drop, filter, length, map, slice_get, Option, Some, None, Ok, Err}
use Rattle.std.specs.List.{list_all, AllByRecursion}
use Rattle.ct_value.specs.Bag.{bag_of}
use Rattle.ct_value.specs.declared.row.Row.{Row}
use Rattle.ct_value.specs.declared.ty.ColTy.{ColTy}
use Rattle.ct_value.specs.declared.value.Value.{Value}
use Rattle.ct_value.specs.declared.value.Value.TheVariants.{Num}
use Rattle.ct_field.specs.Typed.{cell, row_fits}
use Rattle.ct_change.specs.declared.kind.Kind.TheVariants.{I}
use Rattle.ct_change.specs.declared.change.Change.{Change}
use Rattle.ct_change.specs.Changelog.{Mode, append, Rows, adds}
use Rattle.rel_algebra.specs.declared.agg.Agg.{Agg}
use Rattle.rel_algebra.specs.Aggregates.{values_of}
use Rattle.rel_algebra.specs.Groups.{group_columns}
use Rattle.rel_algebra.specs.GroupedCounts.{in_group}
use Rattle.agg_fns.specs.Partial.{has_partial, is_signed, net, partial_of, partial_fits}
use Rattle.agg_fns.specs.Reading.{Part, summed, parts_by, adds_to_sum, reaches, all_blank}
use Rattle.op_rules.specs.Values.{types_fit}
use Rattle.op_rules.specs.History.{at_port}
use Rattle.op_rules.specs.Partials.{Partials, Worth}
use Rattle.op_rules.specs.Rules.{Answer, Rule}
use Rattle.column_sets.specs.Places.{first_columns}
use Rattle.emission_rules.specs.Grouping.{answers, groups_of, row_count}

-- rows of these columns are grouped by so many first ones, with calls over the rows of each group, from a changelog in this mode
pub record LocalGrouping : Type 0 where
  pub keys : ℕ
  pub aggs : List Agg
  pub columns : List ColTy
  pub input : Mode

-- ---- what rows come and gone amount to

-- the rows that changes add, and those that they take away
abbrev pub rows_come : List Change → Rows
rows_come changes = bag_of (map (λ change. change.row) (filter (λ change. adds change.kind) changes))

abbrev pub rows_gone : List Change → Rows
rows_gone changes = bag_of (map (λ change. change.row) (filter (λ change. not (adds change.kind)) changes))

-- the partials of calls over rows come and gone, one call's behind another's
abbrev pub partials_of_calls : List Agg → Rows → Rows → List Value
partials_of_calls [] come gone = []
partials_of_calls (agg ∷ aggs) come gone = partial_of agg.call (values_of agg come) (values_of agg gone) ++ partials_of_calls aggs come gone

-- how many more rows have come than gone, then the partials
abbrev pub amounts : List Agg → Rows → Rows → List Value
amounts aggs come gone = Num (net (row_count come) (row_count gone)) ∷ partials_of_calls aggs come gone

-- whether the sums in the partials have at most 38 digits
abbrev pub amounts_fit : List Agg → Rows → Rows → Bool
amounts_fit aggs come gone = list_all (λ agg. partial_fits agg.call (values_of agg come) (values_of agg gone)) aggs

-- ---- how that is read

-- what the columns of partials are read for, one call's behind another's
abbrev pub parts_of_calls : List Agg → List Part
parts_of_calls [] = []
parts_of_calls (agg ∷ aggs) = parts_by agg.call ++ parts_of_calls aggs

-- the number of rows, then the calls'
abbrev pub parts : List Agg → List Part
parts aggs = summed ∷ parts_of_calls aggs

-- whether nothing has to be told of them
abbrev pub are_silent : List Agg → Rows → Rows → Bool
are_silent aggs come gone = all_blank (parts aggs) (amounts aggs come gone)

-- ---- what is sent

-- the changes of a group
abbrev pub members_of : ℕ → Row → List Change → List Change
members_of keys key changes = filter (λ change. in_group keys key change.row) changes

-- whether the sums fit after each of these changes, which come behind earlier ones
abbrev pub fit_after : List Agg → List Change → List Change → Bool
fit_after aggs earlier [] = true
fit_after aggs earlier (change ∷ changes) =
    amounts_fit aggs (rows_come (earlier ++ change ∷ [])) (rows_gone (earlier ++ change ∷ [])) && fit_after aggs (earlier ++ change ∷ []) changes

-- a group's partial row: its key, then what its changes amount to
abbrev pub partial_row : List Agg → Row → List Change → Row
partial_row aggs key changes = key ++ amounts aggs (rows_come changes) (rows_gone changes)

-- it comes, unless there is nothing to be told
abbrev pub told_of : List Agg → Row → List Change → List Change
told_of aggs key changes = cond (are_silent aggs (rows_come changes) (rows_gone changes)) [] (record { kind = I; row = partial_row aggs key changes } ∷ [])

-- for the changes of one group; a sum that has more than 38 digits on the way is out of range at the group's key
abbrev pub local_answer : List Agg → Row → List Change → Answer
local_answer aggs key changes = cond (fit_after aggs [] changes) (Ok (told_of aggs key changes)) (Err key)

-- for a piece, each of its groups in first-seen order
abbrev pub local_emits : LocalGrouping → List Change → Answer
local_emits l changes = answers (λ key. local_answer l.aggs key (members_of l.keys key changes)) (groups_of l.keys changes)

abbrev pub local_rule : LocalGrouping → Rule
local_rule l = record {
  ports = 1;
  mode = λ port. l.input;
  fits = λ port change. types_fit l.columns change.row;
  opening = λ subtask. [];
  emits = λ before piece. local_emits l (at_port 0 piece);
  work = λ before a. 2 + 3 * length l.aggs;
}

-- ---- what it is worth

-- column by column; past the last one nothing
abbrev pub sum_at : Option Part → Value → ℤ
sum_at None value = pos 0
sum_at (Some part) value = adds_to_sum part value

abbrev pub reached_at : Option Part → Value → Value → Bool
reached_at None value limit = false
reached_at (Some part) value limit = reaches part value limit

-- what values of these parts are worth, column by column
abbrev pub worth_of_values : List Part → List Value → Worth
worth_of_values ps values = record { sums = λ c. sum_at (slice_get ps c) (cell c values); reached = λ c limit. reached_at (slice_get ps c) (cell c values) limit }

-- a row that they stand for is worth what it amounts to alone
abbrev pub partials_of : LocalGrouping → Partials
partials_of l = record {
  group = first_columns l.keys;
  own = first_columns l.keys;
  holds = λ row. row_fits l.columns row;
  worth = λ row. worth_of_values (parts l.aggs) (drop l.keys row);
  alone = λ row. worth_of_values (parts l.aggs) (amounts l.aggs (bag_of (row ∷ [])) (bag_of []));
}

-- ---- what a local grouping needs

-- there are key columns, the calls have partials and types, and rows stay where values of a call can't be taken back
pub record SumsUp (l : LocalGrouping) : Type 0 where
  pub some_keys : 0 < l.keys
  pub made : List ColTy
  pub typed : group_columns l.keys l.columns l.aggs ≡ Some made
  pub have_partials : AllByRecursion (λ agg. has_partial agg.call ≡ true) l.aggs
  pub stay : AllByRecursion (λ agg. is_signed agg.call ≡ false → l.input ≡ append) l.aggs
