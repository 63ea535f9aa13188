-- What is computed on the list is what the normalizer's rule emits.
use Rattle.std.proofs.Common.{◌≡◌, ℕ, true, false, cond, List, [], ◌∷◌, ◌++◌, map, None, Ok, refl, ap, ◌∙◌, append-nil}
use Rattle.std.specs.FinMap as map
use Rattle.ct_value.specs.Bag.{none}
use Rattle.ct_value.specs.Order.{row_cmp, row_total}
use Rattle.ct_value.specs.Rows.{project}
use Rattle.ct_value.specs.declared.row.Row.{Row}
use Rattle.ct_change.specs.declared.change.Change.{Change}
use Rattle.ct_change.specs.Changelog.{upsert, Rows, same_row, adds, row_at, apply, fold, fold_from}
use Rattle.ct_change.specs.Emission.{emission}
use Rattle.ct_change.specs.LastRows.{Lasts, AreLast, last_after}
use Rattle.ct_change.proofs.laws.Lasts.{last_none, last-after}
use Rattle.op_rules.specs.History.{Arrival, arrival}
use Rattle.op_rules.specs.Rules.{Answer, appended, along, emitted}
use Rattle.op_rules.proofs.laws.Histories.{appended-nothing}
use Rattle.emission_rules.specs.Changes.{changes_of}
use Rattle.emission_rules.specs.Normalize.{Normalize, row_left, normalized, normalize_emits, normalize_rule}
use Rattle.emission_rules.proofs.laws.RowFacts.{changes_of-append}
use Rattle.run_examples.specs.RowExamples.{examples, normalized_examples, arrivals}
use Rattle.run_examples.specs.RowsListed.{last_of, listed_changes}

-- the row of a key after one more change
get-after : (key : List ℕ) (kept : Lasts) (change : Change) (row : Row)
    → map.get (last_after key kept change) (project key row) ≡ cond (same_row (project key row) (project key change.row)) (row_left (adds change.kind) change.row) (map.get kept (project key row))
get-after key kept change row =
    elim (adds change.kind) as (λ b. map.get (cond b (map.insert kept (project key change.row) change.row) (map.remove kept (project key change.row))) (project key row) ≡ cond (same_row (project key row) (project key change.row)) (row_left b change.row) (map.get kept (project key row))) [
      | true ↦ map.get-insert row_total kept (project key change.row) change.row (project key row)
      | false ↦ map.get-remove row_total kept (project key change.row) (project key row)
    ]

last-from : (key : List ℕ) (row : Row) (kept : Lasts) (rows : Rows) → AreLast key kept rows → (changes : List Change)
    → row_at (fold_from (upsert key) rows changes) key row ≡ last_of key row (map.get kept (project key row)) changes
last-from key row kept rows last [] = last.found (project key row)
last-from key row kept rows last (change ∷ changes) =
    last-from key row (last_after key kept change) (apply (upsert key) rows change) (last-after key kept rows last change) changes
    ∙ ap (λ o. last_of key row o changes) (get-after key kept change row)

last-fold : (key : List ℕ) (row : Row) (changes : List Change) → row_at (fold (upsert key) changes) key row ≡ last_of key row None changes
last-fold key row changes = last-from key row map.empty none (last_none key) changes ∙ ap (λ o. last_of key row o changes) (map.get-empty row_cmp (project key row))

along-listed : (normalize : Normalize) (before : List Arrival) (came : List (ℕ × Change))
    → along (λ b piece. normalize_emits normalize (changes_of b) (changes_of piece)) before (arrivals came) ≡ Ok (listed_changes normalize (changes_of before) came)
along-listed normalize before [] = refl
along-listed normalize before (a ∷ others) =
    let told : List Change = emission normalize.output (last_of normalize.key a.1.row None (changes_of before)) (row_left (adds a.1.kind) a.1.row) in
    let one : normalize_emits normalize (changes_of before) (a.1 ∷ []) ≡ Ok told =
    ap (λ (xs : List Change). let r : Answer = Ok xs in r) (append-nil (normalized normalize (fold (upsert normalize.key) (changes_of before)) a.1)
    ∙ ap (λ o. emission normalize.output o (row_left (adds a.1.kind) a.1.row)) (last-fold normalize.key a.1.row (changes_of before))) in
    ap (λ r. appended r (along (λ b piece. normalize_emits normalize (changes_of b) (changes_of piece)) (before ++ arrival a.0 0 a.1 ∷ []) (arrivals others))) one
    ∙ ap (appended (Ok told)) (along-listed normalize (before ++ arrival a.0 0 a.1 ∷ []) others)
    ∙ ap (λ (b : List Change). let r : Answer = Ok (told ++ listed_changes normalize b others) in r) (changes_of-append before (arrival a.0 0 a.1 ∷ []))

pub listed_are : (normalize : Normalize) (came : List (ℕ × Change)) → emitted (normalize_rule normalize) 0 (arrivals came) ≡ Ok (listed_changes normalize [] came)
listed_are normalize came = appended-nothing (along (λ b piece. normalize_emits normalize (changes_of b) (changes_of piece)) [] (arrivals came)) ∙ along-listed normalize [] came

-- ---- the examples

pub examples_send : map (λ e. emitted e.rule 0 (arrivals e.came)) examples ≡ map (λ e. e.sends) examples
examples_send = refl

listed_send : map (λ e. let r : Answer = Ok (listed_changes e.normalize [] e.came) in r) normalized_examples ≡ map (λ e. Ok e.sends) normalized_examples
listed_send = refl

pub normalized_send : map (λ e. emitted (normalize_rule e.normalize) 0 (arrivals e.came)) normalized_examples ≡ map (λ e. Ok e.sends) normalized_examples
normalized_send = ap (λ f. map f normalized_examples) (λ i e. listed_are e.normalize e.came i) ∙ listed_send
