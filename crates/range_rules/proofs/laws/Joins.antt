-- A join whose rest calculates nothing stays in range: no two rows of short texts are out of range together, and what it tells of them has
-- short texts.
use Rattle.std.proofs.Common.{◌≡◌, ℕ, zero, suc, ◌==◌, Bool, true, false, cond, List, [], ◌∷◌, ◌++◌, length, filter, flat_map, Option, Some, None, refl, sym, ap, ◌∙◌, subst}
use Rattle.std.specs.Prelude.{option_map}
use Rattle.std.specs.List.{AllByRecursion, find}
use Rattle.ct_value.specs.Bag.{none, items}
use Rattle.ct_value.specs.Rows.{project}
use Rattle.ct_value.specs.declared.row.Row.{Row}
use Rattle.ct_value.specs.declared.value.Value.{Value}
use Rattle.ct_field.specs.Typed.{is_true}
use Rattle.ct_change.specs.declared.kind.Kind.{Kind}
use Rattle.ct_change.specs.declared.kind.Kind.TheVariants.{I, D}
use Rattle.ct_change.specs.declared.change.Change.{Change}
use Rattle.ct_change.specs.Changelog.{Mode, append, retract, upsert, Rows, adds, fold, row_at, same_row, without}
use Rattle.ct_change.specs.Emission.{as_it_is, put_in, put_over, replaced_by, difference, row_of}
use Rattle.ct_expr.specs.Expr.{Expr}
use Rattle.ct_expr.specs.Eval.{eval}
use Rattle.rel_algebra.specs.declared.join.Pair.{Pair}
use Rattle.rel_algebra.specs.Joins.{Matching, agree, matching, nulls}
use Rattle.rel_algebra.specs.Sums.{Each}
use Rattle.range_rules.specs.Tame.{rest_is_tame}
use Rattle.op_rules.specs.History.{Arrival, at_port}
use Rattle.op_rules.proofs.laws.Histories.{all-append, all-each}
use Rattle.emission_rules.specs.Joins.{Join, turned, is_out, match_count, is_alone, told_if, told_kind, told_match, told_row, told_of, pair_with, first_out, unless, join_emits}
use Rattle.emission_rules.specs.Joining.{Shape, joins, matched, Joining, match_of, join_by, join_of, left_rows, right_rows, emits_one, emits}
use Rattle.range_rules.specs.Ranges.{IsShortRow, IsShort, ArrivesShort, IsShortAnswer, JoinsStayInRange}
use Rattle.range_rules.proofs.laws.Expressions.{Gives, gives}
use Rattle.range_rules.proofs.laws.Folds.{none_short, all_after}
use Rattle.range_rules.proofs.laws.Answers.{appended_short, IsShortIf, found_short, at_port_short, both_short}

-- ---- pairs of rows

tested : (b : Bool) (m : Option Value) → Gives m → is_out (cond b (option_map is_true m) (Some false)) ≡ false
tested true None g = absurd g
tested true (Some v) g = refl
tested false m g = refl

pair_in_range : (on : List Pair) (rest : Option Expr) → rest_is_tame rest ≡ true → (left right : Row) → IsShortRow left → IsShortRow right → is_out (matching on (option_map eval rest) left right) ≡ false
pair_in_range on None tame left right h k = refl
pair_in_range on (Some rest) tame left right h k = tested (agree on left right) (eval rest (left ++ right)) (gives (left ++ right) (both_short left right h k) rest tame)

nulls_short : (width : ℕ) → IsShortRow (nulls width)
nulls_short zero = tt
nulls_short (suc width) = (refl, nulls_short width)

-- a join, seen from one side, of which no pair of rows of short texts is out of range, and that makes rows of short texts of them
record Stays (join : Join) : Type 0 where
  outs : (row match : Row) → IsShortRow row → IsShortRow match → join.outs row match ≡ false
  pair : (row match : Row) → IsShortRow row → IsShortRow match → IsShortRow (join.pair row match)
  own : (row : Row) → IsShortRow row → IsShortRow (join.own.form row)
  other : (row : Row) → IsShortRow row → IsShortRow (join.other.form row)

turned_stays : (join : Join) → Stays join → Stays (turned join)
turned_stays join s = record { outs = λ row match h k. s.outs match row k h; pair = λ row match h k. s.pair match row k h; own = s.other; other = s.own }

shape_stays : (shape : Shape) (left_width right_width : ℕ) (match : Matching) → ((left right : Row) → IsShortRow left → IsShortRow right → is_out (match left right) ≡ false) → Stays (join_by shape left_width right_width match)
shape_stays (joins kind) left_width right_width match h = record {
  outs = h;
  pair = both_short;
  own = λ row s. both_short row (nulls right_width) s (nulls_short right_width);
  other = λ row s. both_short (nulls left_width) row (nulls_short left_width) s;
}
shape_stays (matched anti) left_width right_width match h = record { outs = h; pair = both_short; own = λ row s. s; other = λ row s. s }

-- ---- lists

all_flat : {A : Type 0} (P : A → Type 0) (Q : Change → Type 0) (f : A → List Change) → ((x : A) → P x → AllByRecursion Q (f x)) → (xs : List A) → AllByRecursion P xs → AllByRecursion Q (flat_map f xs)
all_flat P Q f h [] k = tt
all_flat P Q f h (x ∷ xs) k = all-append Q (f x) (flat_map f xs) (h x k.0) (all_flat P Q f h xs k.1)

all_kept : {A : Type 0} (P : A → Type 0) (test : A → Bool) (xs : List A) → AllByRecursion P xs → AllByRecursion P (filter test xs)
all_kept P test [] h = tt
all_kept P test (x ∷ xs) h = elim (test x) as (λ b. AllByRecursion P (cond b (x ∷ filter test xs) (filter test xs))) [ true ↦ (h.0, all_kept P test xs h.1) | false ↦ all_kept P test xs h.1 ]

none_found : (test : Row → Bool) (rows : List Row) → AllByRecursion (λ row. test row ≡ false) rows → find test rows ≡ None
none_found test [] h = refl
none_found test (row ∷ rows) h = ap (λ b. cond b (Some row) (find test rows)) h.0 ∙ none_found test rows h.1

-- ---- what goes and what comes

abbrev IsShortChange : Option Change → Type 0
IsShortChange None = Unit {0}
IsShortChange (Some change) = IsShort change

as_it_is_short : (b : Bool) (change : Change) → IsShort change → IsShortChange (as_it_is b change).gone × IsShortChange (as_it_is b change).come
as_it_is_short true change h = (tt, h)
as_it_is_short false change h = (h, tt)

put_in_short : (b : Bool) (change : Change) → IsShort change → IsShortChange (put_in b change).gone × IsShortChange (put_in b change).come
put_in_short true change h = (tt, h)
put_in_short false change h = (tt, tt)

put_over_short : (old : Row) (b : Bool) (change : Change) → IsShortRow old → IsShort change → IsShortChange (put_over old b change).gone × IsShortChange (put_over old b change).come
put_over_short old true change k h = (k, h)
put_over_short old false change k h = (k, tt)

replaced_short : (o : Option Row) (change : Change) → IsShortIf o → IsShort change → IsShortChange (replaced_by o change).gone × IsShortChange (replaced_by o change).come
replaced_short None change k h = put_in_short (adds change.kind) change h
replaced_short (Some old) change k h = put_over_short old (adds change.kind) change k h

difference_short : (mode : Mode) (rows : Rows) (change : Change) → Each IsShortRow rows → IsShort change → IsShortChange (difference mode rows change).gone × IsShortChange (difference mode rows change).come
difference_short append rows change each h = as_it_is_short (adds change.kind) change h
difference_short retract rows change each h = as_it_is_short (adds change.kind) change h
difference_short (upsert key) rows change each h =
    replaced_short (row_at rows key change.row) change (found_short (λ other. same_row (project key change.row) (project key other)) (items rows) each) h

-- ---- what is told

told_short : (b : Bool) (kind : Kind) (row : Row) → IsShortRow row → AllByRecursion IsShort (told_if b kind row)
told_short true kind row h = (h, tt)
told_short false kind row h = tt

module _ (join : Join) (s : Stays join) where
  match_short : (adding : Bool) (kind : Kind) (row : Row) (free : Bool) (match : Row) → IsShortRow row → IsShortRow match → AllByRecursion IsShort (told_match join adding kind row free match)
  match_short adding kind row free match h k =
      all-append IsShort _ _ (told_short _ D (join.other.form match) (s.other match k))
      (all-append IsShort _ _ (told_short join.pairs kind (join.pair row match) (s.pair row match h k)) (told_short _ I (join.other.form match) (s.other match k)))

  row_short : (beside others : Rows) (change : Change) → Each IsShortRow others → IsShort change → AllByRecursion IsShort (told_row join beside others change)
  row_short beside others change each h =
      all-append IsShort _ _
      (all_flat IsShortRow IsShort (λ match. told_match join (adds change.kind) (told_kind join change.kind) change.row (match_count (λ row. join.matches row match) beside == 0) match)
      (λ match k. match_short (adds change.kind) (told_kind join change.kind) change.row (match_count (λ row. join.matches row match) beside == 0) match h k)
      (filter (join.matches change.row) (items others)) (all_kept IsShortRow (join.matches change.row) (items others) each))
      (told_short (is_alone join.own (match_count (join.matches change.row) others)) (told_kind join change.kind) (join.own.form change.row) (s.own change.row h))

  of_short : (beside others : Rows) (o : Option Change) → Each IsShortRow others → IsShortChange o → AllByRecursion IsShort (told_of join beside others o)
  of_short beside others None each h = tt
  of_short beside others (Some change) each h = row_short beside others change each h

  none_out : (others : Rows) (o : Option Change) → Each IsShortRow others → IsShortChange o → first_out join others o ≡ None
  none_out others None each h = refl
  none_out others (Some change) each h =
      ap (pair_with join change.row)
      (none_found (join.outs change.row) (items others) (all-each IsShortRow (λ row. join.outs change.row row ≡ false) (λ row k. s.outs change.row row h k) (items others) each))

  one_short : (beside others : Rows) (o : Option Change) → Each IsShortRow others → IsShortChange o → IsShortAnswer (unless (first_out join others o) (told_of join beside others o))
  one_short beside others o each h = subst (λ out. IsShortAnswer (unless out (told_of join beside others o))) (sym (none_out others o each h)) (of_short beside others o each h)

  emits_short : (mode : Mode) (rows others : Rows) (change : Change) → Each IsShortRow rows → Each IsShortRow others → IsShort change → IsShortAnswer (join_emits join mode rows others change)
  emits_short mode rows others change stand each h =
      let diff = difference mode rows change in
      let beside = without rows (row_of diff.gone) in
      let d = difference_short mode rows change stand h in
      appended_short _ _ (one_short beside others diff.gone each d.0) (one_short beside others diff.come each d.1)

-- ---- along a history

rows_short : (mode : Mode) (port : ℕ) (before : List Arrival) → AllByRecursion ArrivesShort before → Each IsShortRow (fold mode (at_port port before))
rows_short mode port before h = (all_after mode 0 none (at_port port before) (at_port_short port before h) none_short).each

module _ (j : Joining) (tame : rest_is_tame j.rest ≡ true) where
  sides : Stays (join_of j)
  sides = shape_stays j.shape (length j.left_columns) (length j.right_columns) (match_of j) (pair_in_range j.on j.rest tame)

  one_arrives : (before : List Arrival) (a : Arrival) → AllByRecursion ArrivesShort before → ArrivesShort a → IsShortAnswer (emits_one j before a)
  one_arrives before a h k =
      let left = rows_short j.left 0 before h in
      let right = rows_short j.right 1 before h in
      elim (a.port == 0) as (λ b. IsShortAnswer (cond b (join_emits (join_of j) j.left (left_rows j before) (right_rows j before) a.change) (join_emits (turned (join_of j)) j.right (right_rows j before) (left_rows j before) a.change))) [
        | true ↦ emits_short (join_of j) sides j.left (left_rows j before) (right_rows j before) a.change left right k
        | false ↦ emits_short (turned (join_of j)) (turned_stays (join_of j) sides) j.right (right_rows j before) (left_rows j before) a.change right left k
      ]

  piece_short : (before piece : List Arrival) → AllByRecursion ArrivesShort before → AllByRecursion ArrivesShort piece → IsShortAnswer (emits j before piece)
  piece_short before [] h k = tt
  piece_short before (a ∷ piece) h k =
      appended_short (emits_one j before a) (emits j (before ++ a ∷ []) piece) (one_arrives before a h k.0) (piece_short (before ++ a ∷ []) piece (all-append ArrivesShort before (a ∷ []) h (k.0, tt)) k.1)

pub joins_stay : JoinsStayInRange
joins_stay j tame = record { opens = λ subtask. tt; answers = λ before piece h k few. piece_short j tame before piece h k }
