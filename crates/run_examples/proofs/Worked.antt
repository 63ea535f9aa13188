-- The worked runs.
use Rattle.std.specs.Prelude.{◌≡◌, ℕ, ◌==◌, not, cond, Option, List, ◌++◌}
use Rattle.std.proofs.Common.{[], ◌∷◌, refl, ap, ◌∙◌, arith, Some, None, Err}
use Rattle.std.specs.List.{find}
use Rattle.ct_value.specs.Bag.{items, copies, none, add, put, drop_one, one_at}
use Rattle.ct_value.proofs.laws.Bags.{items-none, items-add, items-remove, copies-none, copies-add}
use Rattle.ct_value.specs.Order.{row_cmp, row_total}
use Rattle.ct_value.specs.Rows.{project}
use Rattle.ct_value.specs.declared.row.Row.{Row}
use Rattle.ct_value.specs.declared.value.Value.TheVariants.{Null}
use Rattle.ct_value.specs.declared.codes.ChangeCode.{ChangeCode}
use Rattle.ct_value.specs.declared.codes.ChangeCode.TheVariants.{RowAbsent, KeyPresent}
use Rattle.ct_change.specs.declared.kind.Kind.TheVariants.{I, UB, UA, D}
use Rattle.ct_change.specs.declared.change.Change.{Change}
use Rattle.ct_change.specs.Changelog.{append, retract, Rows, same_row, fold}
use Rattle.stream_model.specs.declared.events.Event.TheVariants.{Take}
use Rattle.stream_model.specs.declared.events.StepFault.TheVariants.{Change as Refused}
use Rattle.stream_model.specs.declared.events.PrintItem.TheVariants.{Change as Printed, Quiet}
use Rattle.stream_model.specs.Tables.{Table, scanned_at, is_there, or_else, refusal}
use Rattle.stream_model.specs.Network.{Network}
use Rattle.stream_model.specs.Machine.{State, opened, take_unless, take_of, step}
use Rattle.stream_model.specs.Runs.{Item, state_in, after}
use Rattle.stream_model.specs.Drain.{drain}
use Rattle.run_examples.specs.Worked.{does, drains, run_order, take, move, number, rome, oslo, orders, customers, join_network, first_lines, last_lines, customer, order, result, new_row_first, old_row_first, word_network, word, two_words, printed_by, RunsAsWorked}

-- a change that isn't refused is taken
took : (g : Network) (limit : ℕ) (s : State) (table : ℕ) (t : Table) (change : Change) (more : List Item) → g.tables table ≡ Some t → refusal t (fold t.mode (s.taken table)) change ≡ None
    → after g limit s (take table change ∷ more) ≡ after g limit (state_in s (take_unless g limit s table change (scanned_at t change) None)) more
took g limit s table t change more has e =
    ap (λ o. after g limit (state_in s (take_of g limit s table change o)) more) has
    ∙ ap (λ r. after g limit (state_in s (take_unless g limit s table change (scanned_at t change) r)) more) e

items_one : (row : Row) → items {R = row_cmp} (add none row) ≡ row ∷ []
items_one row = items-add row_total none row ∙ ap (put row_cmp row) (items-none row_cmp)

-- ---- words

words_printed : printed_by word_network two_words ≡ Printed (word I 97) ∷ Printed (word I 98) ∷ Quiet (2 ∷ []) ∷ []
words_printed = refl

-- ---- orders and customers

abbrev g : Network
g = join_network

abbrev row_of : ℕ → ℕ → Row
row_of id cust = number id ∷ number cust ∷ []

abbrev c_rome : Change
c_rome = record { kind = I; row = number 1 ∷ rome ∷ [] }

abbrev c_oslo : Change
c_oslo = record { kind = I; row = number 2 ∷ oslo ∷ [] }

abbrev o_new : Change
o_new = record { kind = I; row = row_of 7 1 }

abbrev o_gone : Change
o_gone = record { kind = UB; row = row_of 7 1 }

abbrev o_other : Change
o_other = record { kind = UA; row = row_of 7 2 }

-- no row with the key is found among these
abbrev free_among : Row → List Row → Option ChangeCode
free_among row rows = cond (is_there (find (λ other. same_row (project (0 ∷ []) row) (project (0 ∷ []) other)) rows)) (Some KeyPresent) None

free_rome : refusal customers (fold append []) c_rome ≡ None
free_rome = ap (free_among (number 1 ∷ rome ∷ [])) (items-none row_cmp)

free_oslo : refusal customers (fold append (c_rome ∷ [])) c_oslo ≡ None
free_oslo = ap (free_among (number 2 ∷ oslo ∷ [])) (items_one (number 1 ∷ rome ∷ []))

free_new : refusal orders (fold retract []) o_new ≡ None
free_new = ap (free_among (row_of 7 1)) (items-none row_cmp)

free_gone : refusal orders (fold retract (o_new ∷ [])) o_gone ≡ None
free_gone =
    let here : one_at row_cmp (row_of 7 1) (row_of 7 1) ≡ 1 = refl in
    let one : copies (add none (row_of 7 1)) (row_of 7 1) ≡ 1 = omega (arith, copies-add row_total none (row_of 7 1) (row_of 7 1), copies-none row_total (row_of 7 1), here) in
    ap (λ n. or_else (cond (not (n == 0)) None (Some RowAbsent)) None) one

free_other : refusal orders (fold retract (o_new ∷ o_gone ∷ [])) o_other ≡ None
free_other = ap (free_among (row_of 7 2)) (items-remove row_total (add none (row_of 7 1)) (row_of 7 1) ∙ ap (drop_one row_cmp (row_of 7 1)) (items_one (row_of 7 1)))

abbrev s0 : State
s0 = opened g

abbrev s1 : State
s1 = state_in s0 (take_unless g 100 s0 1 c_rome 1 None)

abbrev s2 : State
s2 = state_in s1 (take_unless g 100 s1 1 c_oslo 0 None)

abbrev s3 : State
s3 = state_in s2 (take_unless g 100 s2 0 o_new 1 None)

first_taken : after g 100 s0 first_lines ≡ s3
first_taken =
    took g 100 s0 1 customers c_rome (customer 2 oslo ∷ order I 7 1 ∷ []) refl free_rome
    ∙ (took g 100 s1 1 customers c_oslo (order I 7 1 ∷ []) refl free_oslo
    ∙ took g 100 s2 0 orders o_new [] refl free_new)

abbrev d3 : State
d3 = after g 100 s3 (drain g 100 s3)

abbrev s4 : State
s4 = state_in d3 (take_unless g 100 d3 0 o_gone 1 None)

abbrev s5 : State
s5 = state_in s4 (take_unless g 100 s4 0 o_other 1 None)

last_taken : (moved : List Item) → after g 100 d3 (last_lines ++ moved) ≡ after g 100 s5 moved
last_taken moved =
    took g 100 d3 0 orders o_gone (order UA 7 2 ∷ moved) refl free_gone
    ∙ took g 100 s4 0 orders o_other moved refl free_other

-- the order after the lines are taken
ends_as : (moved : List Item) → printed_by g (does first_lines ∷ drains ∷ does (last_lines ++ moved) ∷ drains ∷ []) ≡ State.printed (run_order g 100 (after g 100 s5 moved) (drains ∷ []))
ends_as moved =
    ap (λ s. State.printed (run_order g 100 s (drains ∷ does (last_lines ++ moved) ∷ drains ∷ []))) first_taken
    ∙ ap (λ s. State.printed (run_order g 100 s (drains ∷ []))) (last_taken moved)

new_first : printed_by join_network new_row_first ≡ result I rome ∷ Quiet (1 ∷ 2 ∷ []) ∷ result UA oslo ∷ Quiet (3 ∷ 2 ∷ []) ∷ []
new_first = ends_as (move 1 1 0 ∷ move 3 0 0 ∷ move 4 0 1 ∷ move 5 1 1 ∷ [])

old_first : printed_by join_network old_row_first ≡ result I rome ∷ Quiet (1 ∷ 2 ∷ []) ∷ result D Null ∷ result I oslo ∷ Quiet (3 ∷ 2 ∷ []) ∷ []
old_first = ends_as (move 1 1 1 ∷ move 3 1 1 ∷ move 4 1 1 ∷ move 5 1 1 ∷ [])

-- ---- a word that doesn't stand

absent : step word_network 100 (run_order word_network 100 (opened word_network) two_words) (Take 0 (word D 99)) ≡ Err (Refused RowAbsent)
absent =
    let s : State = run_order word_network 100 (opened word_network) two_words in
    let rows : Rows = add (add none (word I 97).row) (word I 98).row in
    let row : Row = (word D 99).row in
    let apart : one_at row_cmp row (word I 97).row ≡ 0 = refl in
    let other : one_at row_cmp row (word I 98).row ≡ 0 = refl in
    let none_there : copies rows row ≡ 0 = omega (arith, copies-add row_total (add none (word I 97).row) (word I 98).row row, copies-add row_total none (word I 97).row row, copies-none row_total row, apart, other) in
    ap (λ n. take_unless word_network 100 s 0 (word D 99) 0 (or_else (cond (not (n == 0)) None (Some RowAbsent)) None)) none_there

pub runs_as_worked : RunsAsWorked
runs_as_worked = record { new_first = new_first; old_first = old_first; words_printed = words_printed; absent = absent; bundled = refl; flushed = refl; no_place = refl; too_few = refl; no_buffer = refl; limited = refl }
