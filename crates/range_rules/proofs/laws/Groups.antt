-- A group whose calls count or choose stays in range.
use Rattle.std.proofs.Common.{◌≡◌, ℕ, ◌+◌, ◌<◌, ◌==◌, Bool, true, false, cond, not, ◌||◌, ◌&&◌, List, [], ◌∷◌, ◌++◌, length, map, take, Option, Some, None, Ok, Err, refl, arith}
use Rattle.std.specs.Prelude.{option_map, is_some}
use Rattle.std.specs.List.{AllByRecursion, list_all}
use Rattle.std.proofs.lemmas.Bool.{and_parts}
use Rattle.ct_value.specs.Bag.{none}
use Rattle.ct_value.specs.declared.row.Row.{Row}
use Rattle.ct_change.specs.declared.change.Change.{Change}
use Rattle.ct_change.specs.Changelog.{Rows, apply, fold, fold_from, same_row}
use Rattle.ct_change.specs.Emission.{emission}
use Rattle.rel_algebra.specs.declared.agg.Agg.{Agg}
use Rattle.rel_algebra.specs.Aggregates.{values_of, sum_fits}
use Rattle.rel_algebra.specs.GroupedCounts.{in_group}
use Rattle.rel_algebra.proofs.laws.Results.{all-first_seen}
use Rattle.range_rules.specs.Tame.{only_counts}
use Rattle.op_rules.specs.History.{Arrival, at_port}
use Rattle.op_rules.specs.Rules.{Answer}
use Rattle.emission_rules.specs.Grouping.{Grouping, members, is_shown, results, row_of, group_row, arg_type, sums_fit, fits_along, is_counted, groups_of, answers, group_emits, emits, opening}
use Rattle.range_rules.specs.Ranges.{IsShortRow, IsShort, ArrivesShort, IsAnswerOf, IsShortAnswer, GroupsStayInRange}
use Rattle.range_rules.proofs.laws.Expressions.{GivesRow}
use Rattle.range_rules.proofs.laws.Folds.{AreShort, none_short, more_short, all_after, restrict_short}
use Rattle.range_rules.proofs.laws.Counts.{results_give, fits_always}
use Rattle.range_rules.proofs.laws.Answers.{appended_all, all_if, IsShortIf, emission_short, at_port_short, at_port_few, take_short, both_short}

-- ---- answers group by group

pub groups_all : (goes : Change → Type 0) (answer : Row → Answer) (P : Row → Type 0) → ((key : Row) → P key → IsAnswerOf goes (answer key)) → (keys : List Row) → AllByRecursion P keys → IsAnswerOf goes (answers answer keys)
groups_all goes answer P one [] h = tt
groups_all goes answer P one (key ∷ keys) h = appended_all goes (answer key) (answers answer keys) (one key h.0) (groups_all goes answer P one keys h.1)

pub keys_short : (keys : ℕ) (changes : List Change) → AllByRecursion IsShort changes → AllByRecursion IsShortRow (map (λ change. take keys change.row) changes)
keys_short keys [] h = tt
keys_short keys (change ∷ changes) h = (take_short keys change.row h.0, keys_short keys changes h.1)

pub answer_if : (goes : Change → Type 0) (b : Bool) (changes : List Change) (key : Row) → b ≡ true → AllByRecursion goes changes → IsAnswerOf goes (cond b (Ok changes) (Err key))
answer_if goes true changes key e h = h
answer_if goes false changes key e h = absurd (cc)

pub both_true : (a b : Bool) → a ≡ true → b ≡ true → (a && b) ≡ true
both_true true b p q = q
both_true false b p q = absurd (cc)

or_true : (a b : Bool) → b ≡ true → (a || b) ≡ true
or_true true b q = refl
or_true false b q = q

pub some_given : (o : Option Row) → GivesRow o → is_some o ≡ true
some_given None h = absurd h
some_given (Some values) h = refl

pub row_given : (key : Row) → IsShortRow key → (o : Option Row) → GivesRow o → IsShortIf (option_map (λ values. key ++ values) o)
row_given key named None h = tt
row_given key named (Some values) h = both_short key values named h

-- ---- a group of calls that count or choose

module _ (g : Grouping) (tame : list_all (λ agg. only_counts agg.call) g.aggs ≡ true) where
  sums_always : (rows : Rows) → sums_fit g rows ≡ true
  sums_always rows = go g.aggs tame
    where
      go : (aggs : List Agg) → list_all (λ agg. only_counts agg.call) aggs ≡ true → list_all (λ agg. sum_fits agg.call (arg_type g agg) (values_of agg rows)) aggs ≡ true
      go [] t = refl
      go (agg ∷ aggs) t =
          let p = and_parts _ _ t in
          both_true (sum_fits agg.call (arg_type g agg) (values_of agg rows)) _ (fits_always agg.call (arg_type g agg) (values_of agg rows) p.0) (go aggs p.1)

  along_always : (key : Row) (rows : Rows) (changes : List Change) → fits_along g key rows changes ≡ true
  along_always key rows [] = refl
  along_always key rows (change ∷ changes) =
      both_true (not (in_group g.keys key change.row) || sums_fit g (members g key (apply g.input rows change))) (fits_along g key (apply g.input rows change) changes)
      (or_true (not (in_group g.keys key change.row)) (sums_fit g (members g key (apply g.input rows change))) (sums_always (members g key (apply g.input rows change))))
      (along_always key (apply g.input rows change) changes)

  module _ (n : ℕ) (few : n < 9223372036854775808) (rows : Rows) (short : AreShort n rows) (key : Row) (named : IsShortRow key) where
    results_short : GivesRow (results g (members g key rows))
    results_short = results_give g.columns n few (members g key rows) (restrict_short n (λ row. same_row key (take g.keys row)) rows short) g.aggs tame

    counted : is_counted g rows key ≡ true
    counted = some_given (results g (members g key rows)) results_short

    shown : (b : Bool) → IsShortIf (cond b (row_of g key (members g key rows)) None)
    shown true = row_given key named (results g (members g key rows)) results_short
    shown false = tt

    row_short : IsShortIf (group_row g rows key)
    row_short = shown (is_shown g (members g key rows))

  group_short : (n m : ℕ) (rows : Rows) (changes : List Change) → n + m < 9223372036854775808 → AreShort n rows → AreShort (n + m) (fold_from g.input rows changes) → (key : Row) → IsShortRow key → IsShortAnswer (group_emits g rows changes key)
  group_short n m rows changes few old fresh key named =
      let after = fold_from g.input rows changes in
      answer_if IsShort (fits_along g key rows changes && is_counted g after key) (emission g.output (group_row g rows key) (group_row g after key)) key
      (both_true (fits_along g key rows changes) (is_counted g after key) (along_always key rows changes) (counted (n + m) few after fresh key named))
      (emission_short g.output (group_row g rows key) (group_row g after key) (row_short n (omega arith) rows old key named) (row_short (n + m) few after fresh key named))

  piece_short : (before piece : List Arrival) → AllByRecursion ArrivesShort before → AllByRecursion ArrivesShort piece → length before + length piece < 9223372036854775808 → IsShortAnswer (emits g before piece)
  piece_short before piece h k few =
      let n = length (at_port 0 before) in
      let m = length (at_port 0 piece) in
      let a = at_port_few 0 before in
      let b = at_port_few 0 piece in
      let rows = fold g.input (at_port 0 before) in
      let old : AreShort n rows = more_short (0 + n) n rows (omega arith) (all_after g.input 0 none (at_port 0 before) (at_port_short 0 before h) none_short) in
      let came = at_port_short 0 piece k in
      groups_all IsShort (group_emits g rows (at_port 0 piece)) IsShortRow
      (group_short n m rows (at_port 0 piece) (omega arith) old (all_after g.input n rows (at_port 0 piece) came old))
      (groups_of g.keys (at_port 0 piece)) (all-first_seen IsShortRow (map (λ change. take g.keys change.row) (at_port 0 piece)) (keys_short g.keys (at_port 0 piece) came))

  opens_short : (subtask : ℕ) → AllByRecursion IsShort (opening g subtask)
  opens_short subtask =
      let made = emission g.output None (group_row g none []) in
      all_if IsShort (g.keys == 0) (cond (subtask == 0) made []) []
      (all_if IsShort (subtask == 0) made [] (emission_short g.output None (group_row g none []) tt (row_short 0 (omega arith) none none_short [] tt)) tt) tt

pub groups_stay : GroupsStayInRange
groups_stay g tame = record { opens = opens_short g tame; answers = piece_short g tame }
