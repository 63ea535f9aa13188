-- One turn of a loop over rows with counts: a condition, the items' values, the rows of another input.
use Rattle.std.proofs.Common.{◌≡◌, ℕ, ◌+◌, ◌<◌, ◌≤◌, ◌^◌, Bool, true, false, cond, List, [], ◌∷◌, Option, Some, None, refl, sym, ap, ◌∙◌}
use Rattle.std.specs.Prelude.{option_map}
use Rattle.ct_value.specs.Bag.{none, add_many, bag_of_counts, copies}
use Rattle.ct_value.specs.Order.{row_total, row_exact}
use Rattle.ct_value.specs.declared.row.Row.{Row}
use Rattle.ct_change.specs.Changelog.{Rows}
use Rattle.rel_algebra.specs.Sums.{one, kept, together, plus, sum_over}
use Rattle.rel_algebra.specs.Clauses.{Meaning, row_of}
use Rattle.rel_algebra.proofs.laws.Bags.{plus-none-right, plus-none, together-none, together-comm, together-assoc}
use Rattle.batch_answer.specs.Tallies.{Unfit, OfRows, over}
use Rattle.batch_answer.proofs.Sums.{over-none, with_row, with_nothing, out_of_range, unfit-none, unfit-same, unfit-plus, unfit-many, together-many}

-- what was made so far, and what the entries left make
abbrev pub Left : OfRows → Rows → Rows → List (Row × ℕ) → Type 0
Left f all sum entries = plus (Some sum) (over f entries) ≡ sum_over f all

pub left-start : (f : OfRows) (all : Rows) (sum : Rows) (entries : List (Row × ℕ)) → sum ≡ none → bag_of_counts entries ≡ all → Left f all sum entries
left-start f all sum entries e g = ap (λ (r : Rows). plus (Some r) (over f entries)) e ∙ plus-none row_total row_exact (over f entries) ∙ ap (sum_over f) g

pub left-end : (f : OfRows) (all : Rows) (sum : Rows) (entries : List (Row × ℕ)) → entries ≡ [] → Left f all sum entries → sum_over f all ≡ Some sum
left-end f all sum entries e h = sym h ∙ ap (λ es. plus (Some sum) (over f es)) e ∙ ap (plus (Some sum)) (over-none f) ∙ plus-none-right row_total row_exact (Some sum)

module _ (f : OfRows) (all sum : Rows) (row : Row) (n : ℕ) (entries : List (Row × ℕ)) where
  pub left-row : (made : Row) (new : Rows) → f row ≡ Some (one made) → new ≡ add_many sum made n → Left f all sum ((row, n) ∷ entries) → Left f all new entries
  left-row made new e g h = ap (λ (r : Rows). plus (Some r) (over f entries)) g ∙ with_row f sum row n entries made e ∙ h

  pub left-nothing : (new : Rows) → f row ≡ Some none → new ≡ sum → Left f all sum ((row, n) ∷ entries) → Left f all new entries
  left-nothing new e g h = ap (λ (r : Rows). plus (Some r) (over f entries)) g ∙ with_nothing f sum row n entries e ∙ h

  pub left-out : 0 < n → f row ≡ None → Left f all sum ((row, n) ∷ entries) → Unfit (sum_over f all)
  left-out some e h = unfit-none (sum_over f all) (sym h ∙ out_of_range f sum row n entries some e)

  pub left-full : (made : Row) → f row ≡ Some (one made) → 2 ^ 64 ≤ copies sum made + n → Left f all sum ((row, n) ∷ entries) → Unfit (sum_over f all)
  left-full made e many h =
      unfit-same (plus (Some (add_many sum made n)) (over f entries)) (sum_over f all) (with_row f sum row n entries made e ∙ h)
      (unfit-plus (Some (add_many sum made n)) (over f entries) (unfit-many sum made n many))

-- ---- a test on rows

abbrev pub tested : (Row → Option Bool) → OfRows
tested test row = option_map (λ passes. kept passes row) (test row)

module _ (test : Row → Option Bool) (all sum : Rows) (row : Row) (n : ℕ) (entries : List (Row × ℕ)) where
  pub tested-turn : (passes : Bool) (new : Rows) → test row ≡ Some passes → new ≡ cond passes (add_many sum row n) sum → Left (tested test) all sum ((row, n) ∷ entries) → Left (tested test) all new entries
  tested-turn true new e g h = left-row (tested test) all sum row n entries row new (ap (option_map (λ passes. kept passes row)) e) g h
  tested-turn false new e g h = left-nothing (tested test) all sum row n entries new (ap (option_map (λ passes. kept passes row)) e) g h

  pub tested-out : 0 < n → test row ≡ None → Left (tested test) all sum ((row, n) ∷ entries) → Unfit (sum_over (tested test) all)
  tested-out some e h = left-out (tested test) all sum row n entries some (ap (option_map (λ passes. kept passes row)) e) h

  pub tested-full : (passes : Bool) → passes ≡ true → test row ≡ Some passes → 2 ^ 64 ≤ copies sum row + n → Left (tested test) all sum ((row, n) ∷ entries) → Unfit (sum_over (tested test) all)
  tested-full passes t e many h = left-full (tested test) all sum row n entries row (ap (option_map (λ passes. kept passes row)) (e ∙ ap Some t)) many h

-- ---- the items' values

abbrev pub projected : List Meaning → OfRows
projected meanings row = option_map one (row_of meanings row)

-- ---- the rows of another input

pub union-turn : (sum all new : Rows) (row : Row) (n : ℕ) (entries : List (Row × ℕ)) → new ≡ add_many sum row n → together sum (bag_of_counts ((row, n) ∷ entries)) ≡ all → together new (bag_of_counts entries) ≡ all
union-turn sum all new row n entries g h =
    ap (λ (r : Rows). together r (bag_of_counts entries)) (g ∙ sym (together-many sum row n))
    ∙ together-assoc row_total row_exact sum (add_many none row n) (bag_of_counts entries)
    ∙ ap (together sum) (together-comm row_total row_exact (add_many none row n) (bag_of_counts entries) ∙ together-many (bag_of_counts entries) row n)
    ∙ h

pub union-full : (sum all : Rows) (row : Row) (n : ℕ) (entries : List (Row × ℕ)) → 2 ^ 64 ≤ copies sum row + n → together sum (bag_of_counts ((row, n) ∷ entries)) ≡ all → Unfit (Some all)
union-full sum all row n entries many h =
    unfit-same (Some (together (add_many sum row n) (bag_of_counts entries))) (Some all) (ap Some (union-turn sum all (add_many sum row n) row n entries refl h))
    (unfit-plus (Some (add_many sum row n)) (Some (bag_of_counts entries)) (unfit-many sum row n many))

pub union-end : (sum : Rows) (entries : List (Row × ℕ)) → entries ≡ [] → together sum (bag_of_counts entries) ≡ sum
union-end sum entries e = ap (λ es. together sum (bag_of_counts es)) e ∙ together-comm row_total row_exact sum none ∙ together-none row_total row_exact sum
