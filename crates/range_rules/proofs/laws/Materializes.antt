-- A materializer is never out of range: it shows rows that came.
use Rattle.std.proofs.Common.{ℕ, Bool, true, false, cond, List, [], ◌∷◌, ◌++◌, Option, Some, None}
use Rattle.std.specs.List.{AllByRecursion, filter, fold, last_or}
use Rattle.std.specs.Ordering.{eq_by_cmp}
use Rattle.ct_value.specs.Bag.{drop_one}
use Rattle.ct_value.specs.Order.{row_cmp}
use Rattle.ct_value.specs.Rows.{project}
use Rattle.ct_value.specs.declared.row.Row.{Row}
use Rattle.ct_change.specs.declared.change.Change.{Change}
use Rattle.ct_change.specs.Changelog.{upsert, adds}
use Rattle.ct_change.specs.LastRows.{has_key}
use Rattle.op_rules.proofs.laws.Histories.{all-append}
use Rattle.emission_rules.specs.Changes.{changes_of}
use Rattle.emission_rules.specs.Materialize.{stands_after, standing, under, shown, materialized, materialized_all}
use Rattle.range_rules.specs.Ranges.{IsShortRow, IsShort, MaterializesStayInRange}
use Rattle.range_rules.proofs.laws.Answers.{IsShortIf, emission_short}
use Rattle.range_rules.proofs.laws.Rows.{changes_short}

abbrev AreShortRows : List Row → Type 0
AreShortRows rows = AllByRecursion IsShortRow rows

-- ---- the rows that stand

dropped_short : (row : Row) (rows : List Row) → AreShortRows rows → AreShortRows (drop_one row_cmp row rows)
dropped_short row [] h = tt
dropped_short row (other ∷ rows) h =
    elim (eq_by_cmp row_cmp row other) as (λ b. AreShortRows (cond b rows (other ∷ drop_one row_cmp row rows))) [ true ↦ h.1 | false ↦ (h.0, dropped_short row rows h.1) ]

stands_short : (rows : List Row) (change : Change) → AreShortRows rows → IsShort change → AreShortRows (stands_after rows change)
stands_short rows change h short =
    elim (adds change.kind) as (λ b. AreShortRows (cond b (rows ++ change.row ∷ []) (drop_one row_cmp change.row rows))) [
      | true ↦ all-append IsShortRow rows (change.row ∷ []) h (short, tt)
      | false ↦ dropped_short change.row rows h
    ]

all_stand_short : (rows : List Row) (changes : List Change) → AreShortRows rows → AllByRecursion IsShort changes → AreShortRows (fold stands_after rows changes)
all_stand_short rows [] h k = h
all_stand_short rows (change ∷ changes) h k = all_stand_short (stands_after rows change) changes (stands_short rows change h k.0) k.1

-- ---- the row that is shown

kept_short : (test : Row → Bool) (rows : List Row) → AreShortRows rows → AreShortRows (filter test rows)
kept_short test [] h = tt
kept_short test (row ∷ rows) h =
    elim (test row) as (λ b. AreShortRows (cond b (row ∷ filter test rows) (filter test rows))) [ true ↦ (h.0, kept_short test rows h.1) | false ↦ kept_short test rows h.1 ]

last_short : (o : Option Row) (rows : List Row) → IsShortIf o → AreShortRows rows → IsShortIf (last_or o rows)
last_short o [] h k = h
last_short o (row ∷ rows) h k = last_short (Some row) rows k.0 k.1

shown_short : (key : List ℕ) (values : Row) (rows : List Row) → AreShortRows rows → IsShortIf (shown key values rows)
shown_short key values rows h = last_short None (under key values rows) tt (kept_short (has_key key values) rows h)

-- ---- what it hands on

materialized_short : (key : List ℕ) (rows : List Row) (changes : List Change) → AreShortRows rows → AllByRecursion IsShort changes → AllByRecursion IsShort (materialized_all key rows changes)
materialized_short key rows [] h k = tt
materialized_short key rows (change ∷ changes) h k =
    let values = project key change.row in
    let after = stands_short rows change h k.0 in
    all-append IsShort (materialized key rows change) (materialized_all key (stands_after rows change) changes)
    (emission_short (upsert key) (shown key values rows) (shown key values (stands_after rows change)) (shown_short key values rows h) (shown_short key values (stands_after rows change) after))
    (materialized_short key (stands_after rows change) changes after k.1)

pub materializes_stay : MaterializesStayInRange
materializes_stay key = record {
  opens = λ subtask. tt;
  answers = λ before piece h k few.
      materialized_short key (standing (changes_of before)) (changes_of piece) (all_stand_short [] (changes_of before) tt (changes_short before h)) (changes_short piece k);
}
