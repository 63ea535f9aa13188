-- What is computed on the lists of rows is what the rule of joins emits.
use Rattle.std.proofs.Common.{◌≡◌, Bool, true, false, cond, List, [], ◌∷◌, ◌++◌, map, Option, Some, None, refl, ap, ◌∙◌}
use Rattle.ct_value.specs.Bag.{items, add, remove, put, drop_one}
use Rattle.ct_value.proofs.laws.Bags.{items-none, items-add, items-remove}
use Rattle.ct_value.specs.Order.{row_cmp, row_total}
use Rattle.ct_value.specs.declared.row.Row.{Row}
use Rattle.ct_change.specs.declared.change.Change.{Change}
use Rattle.ct_change.specs.Changelog.{Mode, append, retract, upsert, Rows, adds, apply, without, row_at}
use Rattle.ct_change.specs.Emission.{difference, row_of}
use Rattle.op_rules.specs.History.{Arrival, arrival, joined}
use Rattle.op_rules.specs.Rules.{appended, along, emitted}
use Rattle.op_rules.proofs.laws.Histories.{appended-nothing}
use Rattle.emission_rules.specs.Joins.{Join, turned, told_of, join_emits, first_out, unless}
use Rattle.emission_rules.specs.Joining.{Joining, join_of, left_rows, right_rows, emits, join_rule}
use Rattle.emission_rules.proofs.laws.Walks.{along-emits, rows-push}
use Rattle.run_examples.specs.JoinExamples.{examples}
use Rattle.run_examples.specs.JoinsListed.{Coming, to_left, to_right, arrival_of, arrivals, row_in, list_without, list_after, list_difference, list_tells, list_out, list_emits, listed_changes}

-- ---- rows

items-without : (rows : Rows) (o : Option Row) → items (without rows o) ≡ list_without (items rows) o
items-without rows None = refl
items-without rows (Some row) = items-remove row_total rows row

items-where : (b : Bool) (rows : Rows) (list : List Row) (row : Row) → items rows ≡ list → items (cond b (add rows row) rows) ≡ cond b (put row_cmp row list) list
items-where true rows list row e = items-add row_total rows row ∙ ap (put row_cmp row) e
items-where false rows list row e = e

items-either : (b : Bool) (rows : Rows) (row : Row) → items (cond b (add rows row) (remove rows row)) ≡ cond b (put row_cmp row (items rows)) (drop_one row_cmp row (items rows))
items-either true rows row = items-add row_total rows row
items-either false rows row = items-remove row_total rows row

items-after : (mode : Mode) (rows : Rows) (change : Change) → items (apply mode rows change) ≡ list_after mode (items rows) change
items-after append rows change = items-add row_total rows change.row
items-after retract rows change = items-either (adds change.kind) rows change.row
items-after (upsert key) rows change = items-where (adds change.kind) (without rows (row_at rows key change.row)) (list_without (items rows) (row_in key change.row (items rows))) change.row (items-without rows (row_at rows key change.row))

-- ---- one change

tells-same : (join : Join) (beside others : Rows) (o : Option Change) → told_of join beside others o ≡ list_tells join (items beside) (items others) o
tells-same join beside others None = refl
tells-same join beside others (Some change) = refl

out-same : (join : Join) (others : Rows) (o : Option Change) → first_out join others o ≡ list_out join (items others) o
out-same join others None = refl
out-same join others (Some change) = refl

difference-same : (mode : Mode) (rows : Rows) (change : Change) → difference mode rows change ≡ list_difference mode (items rows) change
difference-same append rows change = refl
difference-same retract rows change = refl
difference-same (upsert key) rows change = refl

emits-same : (join : Join) (mode : Mode) (rows others : Rows) (change : Change) → join_emits join mode rows others change ≡ list_emits join mode (items rows) (items others) change
emits-same join mode rows others change =
    let diff = difference mode rows change in
    let beside = without rows (row_of diff.gone) in
    let list = list_without (items rows) (row_of diff.gone) in
    let half : (o : Option Change) → unless (first_out join others o) (told_of join beside others o) ≡ unless (list_out join (items others) o) (list_tells join list (items others) o) =
    λ o. (λ i. unless (out-same join others o i) ((tells-same join beside others o ∙ ap (λ bs. list_tells join bs (items others) o) (items-without rows (row_of diff.gone))) i)) in
    (λ i. appended (half diff.gone i) (half diff.come i))
    ∙ ap (λ d. appended (unless (list_out join (items others) d.gone) (list_tells join (list_without (items rows) (row_of d.gone)) (items others) d.gone)) (unless (list_out join (items others) d.come) (list_tells join (list_without (items rows) (row_of d.gone)) (items others) d.come))) (difference-same mode rows change)

-- ---- along a history

abbrev listed : List Coming → List Arrival
listed came = map arrival_of came

joined-listed : (came : List Coming) → joined (arrivals came) ≡ listed came
joined-listed [] = refl
joined-listed (a ∷ came) = ap (λ xs. arrival_of a ∷ xs) (joined-listed came)

module _ (j : Joining) where
  along-listed : (before : List Arrival) (came : List Coming) → emits j before (listed came) ≡ listed_changes (join_of j) j.left j.right (items (left_rows j before)) (items (right_rows j before)) came
  along-listed before [] = refl
  along-listed before (to_left change ∷ came) =
      let a = arrival 0 0 change in
      let l : items (left_rows j (before ++ a ∷ [])) ≡ list_after j.left (items (left_rows j before)) change = ap items (rows-push j.left 0 before a) ∙ items-after j.left (left_rows j before) change in
      let r : items (right_rows j (before ++ a ∷ [])) ≡ items (right_rows j before) = ap items (rows-push j.right 1 before a) in
      (λ i. appended (emits-same (join_of j) j.left (left_rows j before) (right_rows j before) change i) (along-listed (before ++ a ∷ []) came i))
      ∙ (λ i. appended (list_emits (join_of j) j.left (items (left_rows j before)) (items (right_rows j before)) change) (listed_changes (join_of j) j.left j.right (l i) (r i) came))
  along-listed before (to_right change ∷ came) =
      let a = arrival 1 0 change in
      let l : items (left_rows j (before ++ a ∷ [])) ≡ items (left_rows j before) = ap items (rows-push j.left 0 before a) in
      let r : items (right_rows j (before ++ a ∷ [])) ≡ list_after j.right (items (right_rows j before)) change = ap items (rows-push j.right 1 before a) ∙ items-after j.right (right_rows j before) change in
      (λ i. appended (emits-same (turned (join_of j)) j.right (right_rows j before) (left_rows j before) change i) (along-listed (before ++ a ∷ []) came i))
      ∙ (λ i. appended (list_emits (turned (join_of j)) j.right (items (right_rows j before)) (items (left_rows j before)) change) (listed_changes (join_of j) j.left j.right (l i) (r i) came))

  pub listed_are : (came : List Coming) → emitted (join_rule j) 0 (arrivals came) ≡ listed_changes (join_of j) j.left j.right [] [] came
  listed_are came =
      appended-nothing (along (emits j) [] (arrivals came))
      ∙ along-emits j [] (arrivals came)
      ∙ ap (emits j []) (joined-listed came)
      ∙ along-listed [] came
      ∙ (λ i. listed_changes (join_of j) j.left j.right (items-none row_cmp i) (items-none row_cmp i) came)

-- ---- the examples

listed_send : map (λ e. listed_changes (join_of e.joining) e.joining.left e.joining.right [] [] e.came) examples ≡ map (λ e. e.sends) examples
listed_send = refl

pub examples_send : map (λ e. emitted (join_rule e.joining) 0 (arrivals e.came)) examples ≡ map (λ e. e.sends) examples
examples_send = ap (λ f. map f examples) (λ i e. listed_are e.joining e.came i) ∙ listed_send
