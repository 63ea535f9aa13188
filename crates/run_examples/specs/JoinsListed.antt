-- What a join emits, computed on the lists of the rows that stand on each side.
use Rattle.std.specs.Prelude.{◌==◌, ℕ, Bool, cond, List, [], ◌∷◌, ◌++◌, map, filter, flat_map, Option, Some, None, Ok}
use Rattle.std.specs.List.{find}
use Rattle.ct_value.specs.Bag.{put, drop_one, weigh}
use Rattle.ct_value.specs.Order.{row_cmp}
use Rattle.ct_value.specs.Rows.{project}
use Rattle.ct_value.specs.declared.row.Row.{Row}
use Rattle.ct_change.specs.declared.change.Change.{Change}
use Rattle.ct_change.specs.declared.change.Diff.{Diff}
use Rattle.ct_change.specs.Changelog.{Mode, append, retract, upsert, adds, same_row}
use Rattle.ct_change.specs.Emission.{as_it_is, replaced_by, row_of}
use Rattle.op_rules.specs.History.{Arrival, arrival}
use Rattle.op_rules.specs.Rules.{Answer, appended}
use Rattle.emission_rules.specs.Joins.{Join, turned, is_alone, told_if, told_kind, told_match, pair_with, unless}

-- what comes to a side
pub data Coming : Type 0 where
  to_left : Change → Coming
  to_right : Change → Coming

abbrev pub arrival_of : Coming → Arrival
arrival_of (to_left change) = arrival 0 0 change
arrival_of (to_right change) = arrival 1 0 change

-- each change comes by itself, from subtask 0
abbrev pub arrivals : List Coming → List (List Arrival)
arrivals came = map (λ a. arrival_of a ∷ []) came

-- ---- rows as lists in order

-- the row with the key of another one
abbrev pub row_in : List ℕ → Row → List Row → Option Row
row_in key row rows = find (λ other. same_row (project key row) (project key other)) rows

abbrev pub list_without : List Row → Option Row → List Row
list_without rows None = rows
list_without rows (Some row) = drop_one row_cmp row rows

abbrev pub list_after : Mode → List Row → Change → List Row
list_after append rows change = put row_cmp change.row rows
list_after retract rows change = cond (adds change.kind) (put row_cmp change.row rows) (drop_one row_cmp change.row rows)
list_after (upsert key) rows change = let others = list_without rows (row_in key change.row rows) in cond (adds change.kind) (put row_cmp change.row others) others

abbrev pub list_difference : Mode → List Row → Change → Diff
list_difference append rows change = as_it_is (adds change.kind) change
list_difference retract rows change = as_it_is (adds change.kind) change
list_difference (upsert key) rows change = replaced_by (row_in key change.row rows) change

-- ---- what is told

abbrev pub list_count : (Row → Bool) → List Row → ℕ
list_count matches rows = weigh (λ row. cond (matches row) 1 0) rows

abbrev pub list_tells : Join → List Row → List Row → Option Change → List Change
list_tells join beside others None = []
list_tells join beside others (Some change) =
    flat_map (λ match. told_match join (adds change.kind) (told_kind join change.kind) change.row (list_count (λ row. join.matches row match) beside == 0) match)
    (filter (join.matches change.row) others)
    ++ told_if (is_alone join.own (list_count (join.matches change.row) others)) (told_kind join change.kind) (join.own.form change.row)

abbrev pub list_out : Join → List Row → Option Change → Option Row
list_out join others None = None
list_out join others (Some change) = pair_with join change.row (find (join.outs change.row) others)

abbrev pub list_emits : Join → Mode → List Row → List Row → Change → Answer
list_emits join mode rows others change =
    let diff = list_difference mode rows change in
    let beside = list_without rows (row_of diff.gone) in
    appended (unless (list_out join others diff.gone) (list_tells join beside others diff.gone)) (unless (list_out join others diff.come) (list_tells join beside others diff.come))

-- what is emitted for what comes, where these rows stand on the left and these on the right
abbrev pub listed_changes : Join → Mode → Mode → List Row → List Row → List Coming → Answer
listed_changes join left right ls rs [] = Ok []
listed_changes join left right ls rs (to_left change ∷ others) = appended (list_emits join left ls rs change) (listed_changes join left right (list_after left ls change) rs others)
listed_changes join left right ls rs (to_right change ∷ others) = appended (list_emits (turned join) right rs ls change) (listed_changes join left right ls (list_after right rs change) others)
