-- The runs over the plans of counted words.
use Rattle.std.proofs.Common.{◌≡◌, ℕ, ◌==◌, true, cond, not, List, [], ◌∷◌, ◌++◌, Option, None, Ok, Err, refl, ap, ◌∙◌}
use Rattle.std.specs.Prelude.{is_some, option_map, take as first_of}
use Rattle.ct_value.specs.Bag.{items, none, add, put, weigh}
use Rattle.ct_value.proofs.laws.Bags.{items-none, items-add}
use Rattle.ct_value.specs.Order.{row_cmp, row_total, row_exact, value_total, value_exact}
use Rattle.ct_value.specs.declared.row.Row.{Row}
use Rattle.ct_change.specs.declared.kind.Kind.TheVariants.{I, UB, UA}
use Rattle.ct_change.specs.declared.change.Change.{Change}
use Rattle.ct_change.specs.Changelog.{retract, Rows, same_row}
use Rattle.ct_change.specs.Emission.{emission}
use Rattle.rel_algebra.specs.Aggregates.{count_value, size, values_of}
use Rattle.rel_algebra.specs.Clauses.{collect}
use Rattle.rel_algebra.proofs.laws.Bags.{total-restrict, total-mapped}
use Rattle.rel_algebra.specs.GroupedCounts.{count_all}
use Rattle.emission_rules.specs.Grouping.{Grouping, members, row_count}
use Rattle.plan_rules.specs.Around.{grouping_of}
use Rattle.plan_rules.specs.Doings.{around_of, network}
use Rattle.op_rules.specs.History.{arrival}
use Rattle.op_rules.specs.Rules.{Answer, appended}
use Rattle.stream_model.specs.Network.{Network}
use Rattle.stream_model.specs.Machine.{State, opened, answered, joins, folded}
use Rattle.stream_model.specs.declared.events.PrintItem.TheVariants.{Change as Printed, Quiet}
use Rattle.stream_model.specs.Runs.{Item, happens, quiet, state_in, after}
use Rattle.stream_model.specs.declared.events.Event.TheVariants.{Flush}
use Rattle.stream_model.specs.Drain.{drain_stages, delivers}
use Rattle.run_examples.specs.Worked.{take, move, printed_by}
use Rattle.plan_rules.specs.Pieces.{bare, shown, plan_of_tree}
use Rattle.run_examples.specs.Planned.{word_table, count_table, counts, counts_rel, word_counts, shown_counts, bundled_counts, in_bundles, a_word, a_comes, twice, counted, word_gone, CountsAsWorked, ShownAsWorked, BundledAsWorked}

abbrev g : Network
g = network counts

abbrev words : Grouping
words = grouping_of 1 (count_all ∷ []) (around_of counts 2 (1 ∷ []))

-- ---- what the group emits

-- the rows of the one group, and how many they are
abbrev size_in : Rows → ℕ
size_in rows = row_count (members words a_word rows)

counted_in : (rows : Rows) → size_in rows ≡ weigh (λ row. cond (same_row a_word (first_of 1 row)) 1 0) (items rows)
counted_in rows = total-restrict row_total row_exact (λ _. 1) (λ row. same_row a_word (first_of 1 row)) rows

-- `COUNT(*)` counts them all
size_of : (rows : Rows) → size (values_of count_all rows) ≡ row_count rows
size_of rows = total-mapped value_total value_exact row_total row_exact (λ _. 1) _ _ ∙ total-restrict row_total row_exact (λ _. 1) (λ _. true) rows

in_none : size_in none ≡ 0
in_none = counted_in none ∙ ap (weigh (λ row. cond (same_row a_word (first_of 1 row)) 1 0)) (items-none row_cmp)

items_one : items {R = row_cmp} (add none a_word) ≡ a_word ∷ []
items_one = items-add row_total none a_word ∙ ap (put row_cmp a_word) (items-none row_cmp)

items_two : items {R = row_cmp} (add (add none a_word) a_word) ≡ a_word ∷ a_word ∷ []
items_two = items-add row_total (add none a_word) a_word ∙ ap (put row_cmp a_word) items_one

in_one : size_in (add none a_word) ≡ 1
in_one = counted_in (add none a_word) ∙ ap (weigh (λ row. cond (same_row a_word (first_of 1 row)) 1 0)) items_one

in_two : size_in (add (add none a_word) a_word) ≡ 2
in_two = counted_in (add (add none a_word) a_word) ∙ ap (weigh (λ row. cond (same_row a_word (first_of 1 row)) 1 0)) items_two

-- the row of the group, which has so many rows and this count
abbrev row_by : ℕ → ℕ → Option Row
row_by rows count = cond (not (rows == 0)) (option_map (λ values. a_word ++ values) (collect (count_value count ∷ []))) None

-- what the group emits, from that before and after
abbrev told : ℕ → ℕ → ℕ → ℕ → Answer
told rows count others other = appended (cond (is_some (collect (count_value other ∷ []))) (Ok (emission retract (row_by rows count) (row_by others other))) (Err a_word)) (Ok [])

abbrev count_in : Rows → ℕ
count_in rows = size (values_of count_all (members words a_word rows))

told_as : (rows others : Rows) (n m : ℕ) → size_in rows ≡ n → size_in others ≡ m → told (size_in rows) (count_in rows) (size_in others) (count_in others) ≡ told n n m m
told_as rows others n m e f =
    ap (λ k. told k (count_in rows) (size_in others) (count_in others)) e
    ∙ (ap (λ k. told n k (size_in others) (count_in others)) (size_of (members words a_word rows) ∙ e)
    ∙ (ap (λ k. told n n k (count_in others)) f
    ∙ ap (λ k. told n n m k) (size_of (members words a_word others) ∙ f)))

abbrev first_answer : Answer
first_answer = Ok (counted I 1 ∷ [])

abbrev second_answer : Answer
second_answer = Ok (counted UB 1 ∷ counted UA 2 ∷ [])

first_emits : g.emits 2 [] (arrival 0 0 a_comes ∷ []) ≡ first_answer
first_emits = told_as none (add none a_word) 0 1 in_none in_one

second_emits : g.emits 2 (arrival 0 0 a_comes ∷ []) (arrival 0 0 a_comes ∷ []) ≡ second_answer
second_emits = told_as (add none a_word) (add (add none a_word) a_word) 1 2 in_one in_two

-- ---- the run

-- the group takes one of the rows, with these behind it, and hands on this answer
abbrev folds : Network → List Change → Answer → State → State
folds net rest answer s = state_in s (answered net 100 2 0 answer (folded 2 0 (joins 1 0 0 (record { node = 2; port = 0 }) a_comes rest s)))

-- both are taken, and then delivered to the group
abbrev taken : Network → State
taken net = after net 100 (opened net) (take 0 a_comes ∷ take 0 a_comes ∷ [])

abbrev grouped : Network → State
grouped net = folds net [] second_answer (folds net (a_comes ∷ []) first_answer (taken net))

delivered : (more : List Item) → after g 100 (taken g) (move 1 0 0 ∷ move 1 0 0 ∷ more) ≡ after g 100 (grouped g) more
delivered more =
    ap (λ answer. after g 100 (folds g (a_comes ∷ []) answer (taken g)) (move 1 0 0 ∷ more)) first_emits
    ∙ ap (λ answer. after g 100 (folds g [] answer (folds g (a_comes ∷ []) first_answer (taken g))) more) second_emits

-- what a drain goes on with from this state
abbrev to_sink : State → List Item
to_sink s = drain_stages g 100 s (delivers 2 0 0 ∷ []) ++ quiet ∷ []

printed : printed_by g twice ≡ Printed (counted I 1) ∷ Printed (counted UB 1) ∷ Printed (counted UA 2) ∷ Quiet (2 ∷ []) ∷ []
printed =
    ap (λ s. State.printed (after g 100 (taken g) (move 1 0 0 ∷ move 1 0 0 ∷ to_sink s))) (delivered [])
    ∙ ap State.printed (delivered (to_sink (grouped g)))

-- ---- the run behind a materializer

abbrev h : Network
h = network shown_counts

delivered_there : (more : List Item) → after h 100 (taken h) (move 1 0 0 ∷ move 1 0 0 ∷ more) ≡ after h 100 (grouped h) more
delivered_there more =
    ap (λ answer. after h 100 (folds h (a_comes ∷ []) answer (taken h)) (move 1 0 0 ∷ more)) first_emits
    ∙ ap (λ answer. after h 100 (folds h [] answer (folds h (a_comes ∷ []) first_answer (taken h))) more) second_emits

abbrev to_shown_sink : State → List Item
to_shown_sink s = drain_stages h 100 s (delivers 2 0 0 ∷ delivers 3 0 0 ∷ []) ++ quiet ∷ []

printed_there : printed_by h twice ≡ Printed (counted I 1) ∷ Printed word_gone ∷ Printed (counted I 2) ∷ Quiet (2 ∷ []) ∷ []
printed_there =
    ap (λ s. State.printed (after h 100 (taken h) (move 1 0 0 ∷ move 1 0 0 ∷ to_shown_sink s))) (delivered_there [])
    ∙ ap State.printed (delivered_there (to_shown_sink (grouped h)))

-- ---- the run in mini-batches

abbrev k : Network
k = network bundled_counts

abbrev both_answer : Answer
both_answer = Ok (counted I 2 ∷ [])

both_emit : k.emits 2 [] (arrival 0 0 a_comes ∷ arrival 0 0 a_comes ∷ []) ≡ both_answer
both_emit = told_as none (add (add none a_word) a_word) 0 2 in_none in_two

-- both rows are held, and then flushed
abbrev held : State
held = after k 100 (taken k) (move 1 0 0 ∷ move 1 0 0 ∷ [])

abbrev flushes_to : Answer → State
flushes_to answer = state_in held (answered k 100 2 0 answer (folded 2 0 held))

flushed : (more : List Item) → after k 100 held (happens (Flush 2 0) ∷ more) ≡ after k 100 (flushes_to both_answer) more
flushed more = ap (λ answer. after k 100 (flushes_to answer) more) both_emit

abbrev to_bundled_sink : State → List Item
to_bundled_sink s = drain_stages k 100 s (delivers 2 0 0 ∷ []) ++ quiet ∷ []

printed_bundled : printed_by k twice ≡ Printed (counted I 2) ∷ Quiet (2 ∷ []) ∷ []
printed_bundled =
    ap (λ s. State.printed (after k 100 held (happens (Flush 2 0) ∷ to_bundled_sink s))) (flushed [])
    ∙ ap State.printed (flushed (to_bundled_sink (flushes_to both_answer)))

-- ---- the plans

is_plan : counts ≡ plan_of_tree (word_table ∷ []) count_table 1 (in_bundles 0) bare counts_rel
is_plan = refl

pub counts_as_worked : CountsAsWorked
counts_as_worked = record { is_plan = is_plan; printed = printed }

is_shown_plan : shown_counts ≡ plan_of_tree (word_table ∷ []) word_counts 1 (in_bundles 0) (shown (0 ∷ [])) counts_rel
is_shown_plan = refl

pub shown_as_worked : ShownAsWorked
shown_as_worked = record { is_plan = is_shown_plan; printed = printed_there }

is_bundled_plan : bundled_counts ≡ plan_of_tree (word_table ∷ []) count_table 1 (in_bundles 1000) bare counts_rel
is_bundled_plan = refl

pub bundled_as_worked : BundledAsWorked
bundled_as_worked = record { is_plan = is_bundled_plan; printed = printed_bundled }
