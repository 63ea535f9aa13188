-- Partial rows that arrived, as the changes of a piece.
use Rattle.std.proofs.Common.{◌≡◌, ◌≤◌, ◌<◌, ◌^◌, ◌+◌, ◌==◌, ◌++◌, ℕ, true, false, cond, List, [], ◌∷◌, length, map, take, drop, Ok, Err, refl, sym, ap, subst, ◌∙◌, arith, append-nil}
use Rattle.std.specs.List.{AllByRecursion}
use Rattle.std.specs.Cmp.{eq_by_cmp_equiv}
use Rattle.std.proofs.lemmas.Bool.{and_parts, eq-eqb, eqb-true}
use Rattle.std.proofs.lemmas.List.{length-map}
use Rattle.ct_value.specs.Order.{row_total}
use Rattle.ct_value.specs.declared.row.Row.{Row}
use Rattle.ct_change.specs.declared.change.Change.{Change}
use Rattle.ct_change.specs.Changelog.{same_row}
use Rattle.ct_change.proofs.laws.Meanings.{same_row-itself}
use Rattle.rel_algebra.specs.GroupedCounts.{in_group}
use Rattle.op_rules.specs.History.{Arrival, arrival, at_port}
use Rattle.op_rules.specs.Rules.{Answer, ArriveAfter, MayArrive, MayTakePiece, appended}
use Rattle.op_rules.specs.Values.{types_fit}
use Rattle.op_rules.proofs.laws.Histories.{at_port-append, at_port-one}
use Rattle.emission_rules.specs.Grouping.{answers, groups_of}
use Rattle.phase_rules.specs.LocalGrouping.{LocalGrouping, members_of, parts}
use Rattle.phase_rules.specs.Merging.{Merging, amounts_in, is_partial_row, merge_answer, merge_emits, merge_rule}
use Rattle.op_merge.specs.Groups.{amounts_of, with_more}

first_port : (port : ℕ) → port < 1 → port ≡ 0
first_port port less = omega arith

-- a partial row holds the key's columns
long_row : (l : LocalGrouping) (row : Row) → is_partial_row l row ≡ true → l.keys ≤ length row
long_row l row e =
    let size = eqb-true (length row) (l.keys + length (parts l.aggs)) (and_parts (types_fit (take l.keys l.columns) (take l.keys row)) (length row == l.keys + length (parts l.aggs)) e).1 in
    omega arith

amounts-append : (keys : ℕ) (key : Row) (xs ys : List Change) → amounts_in keys key (xs ++ ys) ≡ amounts_in keys key xs ++ amounts_in keys key ys
amounts-append keys key [] ys = refl
amounts-append keys key (x ∷ xs) ys =
    elim (in_group keys key x.row) as (λ b. map (λ change. drop keys change.row) (cond b (x ∷ members_of keys key (xs ++ ys)) (members_of keys key (xs ++ ys))) ≡ map (λ change. drop keys change.row) (cond b (x ∷ members_of keys key xs) (members_of keys key xs)) ++ amounts_in keys key ys) [
      | true ↦ ap (λ rows. drop keys x.row ∷ rows) (amounts-append keys key xs ys)
      | false ↦ amounts-append keys key xs ys
    ]

pub record Arrived (keys : ℕ) (piece : List Arrival) : Type 0 where
  pub long : AllByRecursion (λ change. keys ≤ length change.row) (at_port 0 piece)
  pub all : map (λ a. a.change) piece ≡ at_port 0 piece

arrived : (m : Merging) (before piece : List Arrival) → ArriveAfter (merge_rule m) before piece → Arrived m.local.keys piece
arrived m before [] arrive = record { long = tt; all = refl }
arrived m before (a ∷ others) arrive =
    let port = first_port a.port arrive.0.port in
    let now : at_port 0 (a ∷ others) ≡ a.change ∷ at_port 0 others = ap (λ b. cond b (a.change ∷ at_port 0 others) (at_port 0 others)) (eq-eqb a.port 0 port) in
    let rest = arrived m (before ++ a ∷ []) others arrive.1 in
    record {
      long = subst (AllByRecursion (λ change. m.local.keys ≤ length change.row)) (sym now) ((long_row m.local a.change.row arrive.0.fits, rest.long));
      all = ap (λ l. a.change ∷ l) rest.all ∙ sym now;
    }

module _ (m : Merging) (before piece : List Arrival) (changes : List Change) (may : MayTakePiece (merge_rule m) before piece changes) where
  came : Arrived m.local.keys piece
  came = arrived m before piece may.arrive

  piece_is : at_port 0 piece ≡ changes
  piece_is = sym came.all ∙ may.is

  pub long_piece : AllByRecursion (λ change. m.local.keys ≤ length change.row) changes
  long_piece = subst (AllByRecursion (λ change. m.local.keys ≤ length change.row)) piece_is came.long

  pub few_piece : length changes < 2 ^ 32
  few_piece = let size = ap length (sym may.is) ∙ length-map piece (λ (a : Arrival). a.change) in let few = may.few in omega arith

  pub emits_piece : merge_emits m before piece ≡ answers (λ key. merge_answer m key (amounts_in m.local.keys key (at_port 0 before)) (amounts_in m.local.keys key changes)) (groups_of m.local.keys changes)
  emits_piece = ap (λ l. answers (λ key. merge_answer m key (amounts_in m.local.keys key (at_port 0 before)) (amounts_in m.local.keys key l)) (groups_of m.local.keys l)) piece_is

  pub grows_piece : (key : Row) → amounts_in m.local.keys key (at_port 0 (before ++ piece)) ≡ amounts_in m.local.keys key (at_port 0 before) ++ amounts_in m.local.keys key changes
  grows_piece key = ap (amounts_in m.local.keys key) (at_port-append 0 before piece ∙ ap (λ l. at_port 0 before ++ l) piece_is) ∙ amounts-append m.local.keys key (at_port 0 before) changes

module _ (m : Merging) (before : List Arrival) (port from : ℕ) (change : Change) (may : MayArrive (merge_rule m) before (arrival port from change)) where
  abbrev keys : ℕ
  keys = m.local.keys

  abbrev own : Row
  own = take m.local.keys change.row

  one : at_port 0 (arrival port from change ∷ []) ≡ change ∷ []
  one = at_port-one 0 (arrival port from change) (first_port port may.port)

  pub long_one : m.local.keys ≤ length change.row
  long_one = long_row m.local change.row may.fits

  mine : amounts_in m.local.keys (take m.local.keys change.row) (change ∷ []) ≡ amounts_of m.local.keys (change ∷ [])
  mine = ap (λ b. map (λ (c : Change). drop m.local.keys c.row) (cond b (change ∷ []) [])) (same_row-itself own)

  answer-alone : (answer : Answer) → appended answer (Ok []) ≡ answer
  answer-alone (Ok changes) = ap (λ xs. let r : Answer = Ok xs in r) (append-nil changes)
  answer-alone (Err row) = refl

  pub emits_one : (answer : Answer) → merge_answer m (take m.local.keys change.row) (amounts_in m.local.keys (take m.local.keys change.row) (at_port 0 before)) (amounts_of m.local.keys (change ∷ [])) ≡ answer → merge_emits m before (arrival port from change ∷ []) ≡ answer
  emits_one answer e =
      ap (λ l. answers (λ key. merge_answer m key (amounts_in keys key (at_port 0 before)) (amounts_in keys key l)) (groups_of keys l)) one
      ∙ answer-alone (merge_answer m own (amounts_in keys own (at_port 0 before)) (amounts_in keys own (change ∷ [])))
      ∙ ap (merge_answer m own (amounts_in keys own (at_port 0 before))) mine ∙ e

  pub grows_one : (key : Row) → with_more (λ k. amounts_in m.local.keys k (at_port 0 before)) (take m.local.keys change.row) (amounts_of m.local.keys (change ∷ [])) key ≡ amounts_in m.local.keys key (at_port 0 (before ++ arrival port from change ∷ []))
  grows_one key =
      elim (same_row own key) as (λ b. same_row own key ≡ b → cond b (amounts_in keys key (at_port 0 before) ++ amounts_of keys (change ∷ [])) (amounts_in keys key (at_port 0 before)) ≡ amounts_in keys key (at_port 0 before) ++ amounts_in keys key (change ∷ [])) [
        | true ↦ λ e. ap (λ rows. amounts_in keys key (at_port 0 before) ++ rows) (sym (ap (λ b. map (λ (c : Change). drop keys c.row) (cond b (change ∷ []) [])) ((eq_by_cmp_equiv row_total).symm key own ∙ e)))
        | false ↦ λ e. sym (ap (λ b. amounts_in keys key (at_port 0 before) ++ map (λ (c : Change). drop keys c.row) (cond b (change ∷ []) [])) ((eq_by_cmp_equiv row_total).symm key own ∙ e) ∙ append-nil (amounts_in keys key (at_port 0 before)))
      ] refl
      ∙ sym (ap (amounts_in keys key) (at_port-append 0 before (arrival port from change ∷ []) ∙ ap (λ l. at_port 0 before ++ l) one) ∙ amounts-append keys key (at_port 0 before) (change ∷ []))
