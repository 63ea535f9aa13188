-- Joins of parts: where rows that match are of one part, the answer of the whole is the sum of those of the parts.
use Rattle.std.proofs.Common.{◌≡◌, ℕ, zero, suc, ◌+◌, ◌<◌, ◌≤◌, ◌==◌, Bool, true, false, cond, List, [], ◌∷◌, ◌++◌, Option, Some, None, refl, sym, ap, ◌∙◌, arith}
use Rattle.std.specs.Prelude.{not, option_map}
use Rattle.std.specs.Cmp.{Equal-is}
use Rattle.std.proofs.lemmas.Bool.{eqb-true, eqb-false}
use Rattle.ct_value.specs.Bag.{none, copies, one_at}
use Rattle.ct_value.proofs.laws.Bags.{copies-none, same_bag, total-none, copies-occurs}
use Rattle.ct_value.specs.Order.{row_cmp, row_total, row_exact, value_cmp, value_exact}
use Rattle.ct_value.specs.Rows.{project}
use Rattle.ct_value.specs.declared.row.Row.{Row}
use Rattle.ct_change.specs.Changelog.{Rows}
use Rattle.ct_expr.specs.Eval.{eval}
use Rattle.ct_field.specs.Typed.{cell, is_null}
use Rattle.rel_algebra.specs.declared.join.Pair.{Pair}
use Rattle.rel_algebra.specs.Clauses.{Meaning, holds}
use Rattle.rel_algebra.specs.Joins.{agree, matching, MatchNone, left_columns, right_columns}
use Rattle.rel_algebra.specs.Sums.{together, plus}
use Rattle.rel_algebra.proofs.laws.Bags.{copies-together, each-none}
use Rattle.rel_algebra.proofs.laws.Fits.{first, second}
use Rattle.rel_algebra.proofs.laws.Joins.{join_rows-together, semi_join-together}
use Rattle.op_rules.specs.Tasks.{total as total_below}
use Rattle.op_rules.proofs.laws.Totals.{total-same as below-same, total_one}
use Rattle.emission_rules.specs.Joins.{match_count}
use Rattle.emission_rules.specs.Joining.{Shape, joins, matched, Joining, match_of, join_of, answer_by, joined_answer}
use Rattle.emission_rules.proofs.laws.JoinAnswers.{answer_weighs}
use Rattle.emission_rules.proofs.laws.JoinStanding.{shown_at, alone_at}

-- ---- rows that match agree on the pairs

pub agree-project : (on : List Pair) (l r : Row) → agree on l r ≡ true → project (left_columns on) l ≡ project (right_columns on) r
agree-project [] l r e = refl
agree-project (pair ∷ on) l r e =
    let here = first _ (agree on l r) e in
    let same = value_exact (cell pair.left l) (cell pair.right r) ((Equal-is (value_cmp (cell pair.left l) (cell pair.right r))).0 (second (not (is_null (cell pair.left l))) _ here)) in
    (λ i. same i ∷ agree-project on l r (second _ (agree on l r) e) i)

apart-none : (on : List Pair) (rest : Option Meaning) (l r : Row) → agree on l r ≡ false → matching on rest l r ≡ Some false
apart-none on None l r e = ap Some e
apart-none on (Some rest) l r e = ap (λ b. cond b (holds rest (l ++ r)) (Some false)) e

pub apart_of : (j : Joining) (l r : Row) → agree j.on l r ≡ false → match_of j l r ≡ Some false
apart_of j l r e = apart-none j.on (option_map eval j.rest) l r e

-- rows that don't agree on the pairs don't match
pub no_match : (j : Joining) (l r : Row) → ¬ (project (left_columns j.on) l ≡ project (right_columns j.on) r) → match_of j l r ≡ Some false
no_match j l r apart = elim (agree j.on l r) as (λ b. agree j.on l r ≡ b → match_of j l r ≡ Some false) [ true ↦ λ e. absurd (apart (agree-project j.on l r e)) | false ↦ λ e. apart-none j.on (option_map eval j.rest) l r e ] refl

-- ---- two parts

answer-together : (j : Joining) (a b c d : Rows) → MatchNone (match_of j) a d → MatchNone (match_of j) b c → joined_answer j (together a b) (together c d) ≡ plus (joined_answer j a c) (joined_answer j b d)
answer-together j a b c d apart other_apart = go j.shape
  where
    go : (s : Shape) → answer_by s j (together a b) (together c d) ≡ plus (answer_by s j a c) (answer_by s j b d)
    go (joins kind) = join_rows-together kind _ _ (match_of j) a b c d apart other_apart
    go (matched anti) = semi_join-together (match_of j) a b c d apart other_apart anti

-- ---- the parts of one side

module _ (place : Row → ℕ) (many : ℕ) (routed : (row : Row) → place row < many) (whole : Rows) (parts : ℕ → Rows) (split : (i : ℕ) → i < many → (row : Row) → copies (parts i) row ≡ cond (place row == i) (copies whole row) 0) where
  -- the first parts together
  abbrev pub upto : ℕ → Rows
  upto zero = none
  upto (suc n) = together (upto n) (parts n)

  copies_upto : (n : ℕ) (row : Row) → copies (upto n) row ≡ total_below n (λ i. copies (parts i) row)
  copies_upto zero row = copies-none row_total row
  copies_upto (suc n) row = copies-together row_total row_exact (upto n) (parts n) row ∙ ap (λ m. m + copies (parts n) row) (copies_upto n row)

  pub all_parts : upto many ≡ whole
  all_parts = same_bag row_total row_exact _ _ (λ row.
      copies_upto many row ∙ (below-same many (λ i. copies (parts i) row) (λ i. cond (place row == i) (copies whole row) 0) (λ i l. split i l row)
      ∙ total_one many (place row) (copies whole row) (routed row)))

  there : (b : Bool) (n m : ℕ) → n ≡ cond b m 0 → 0 < n → b ≡ true
  there true n m e h = refl
  there false n m e h = absurd (omega arith)

  pub place_of : (n : ℕ) → n < many → (row : Row) → 0 < copies (parts n) row → place row ≡ n
  place_of n l row some = eqb-true (place row) n (there (place row == n) (copies (parts n) row) (copies whole row) (split n l row) some)

  -- a row of one of the first parts goes to one of the first subtasks
  pub place_upto : (n : ℕ) → n ≤ many → (row : Row) → 0 < copies (upto n) row → place row < n
  place_upto zero l row some = absurd (let e = copies-none row_total row in omega arith)
  place_upto (suc n) l row some =
      elim (copies (parts n) row == 0) as (λ b. (copies (parts n) row == 0) ≡ b → place row < suc n) [
        | true ↦ λ z.
            let none_here = eqb-true (copies (parts n) row) 0 z in
            let sum = copies-together row_total row_exact (upto n) (parts n) row in
            let before = place_upto n (omega arith) row (omega arith) in
            omega arith
        | false ↦ λ z.
            let some_here = eqb-false (copies (parts n) row) 0 z in
            let at = place_of n (omega arith) row (omega arith) in
            omega arith
      ] refl

-- ---- both sides

module _ (j : Joining) (many : ℕ) (route : Row → ℕ) (routed : (key : Row) → route key < many)
    (lefts rights : ℕ → Rows) (left right : Rows) (answers : ℕ → Rows)
    (left_split : (i : ℕ) → i < many → (row : Row) → copies (lefts i) row ≡ cond (route (project (left_columns j.on) row) == i) (copies left row) 0)
    (right_split : (i : ℕ) → i < many → (row : Row) → copies (rights i) row ≡ cond (route (project (right_columns j.on) row) == i) (copies right row) 0)
    (made : (i : ℕ) → i < many → joined_answer j (lefts i) (rights i) ≡ Some (answers i)) where
  abbrev place_left : Row → ℕ
  place_left row = route (project (left_columns j.on) row)

  abbrev place_right : Row → ℕ
  place_right row = route (project (right_columns j.on) row)

  abbrev left_upto : ℕ → Rows
  left_upto = upto place_left many (λ row. routed (project (left_columns j.on) row)) left lefts left_split

  abbrev right_upto : ℕ → Rows
  right_upto = upto place_right many (λ row. routed (project (right_columns j.on) row)) right rights right_split

  none_answer : (c : Rows) × (joined_answer j none none ≡ Some c) × ((row : Row) → copies c row ≡ 0)
  none_answer =
      let a = answer_weighs j none none (each-none row_total row_exact _) in (
        a.0,
        a.1,
        λ row. copies-occurs a.0 row ∙ a.2 (one_at row_cmp row)
            ∙ (let p = total-none row_total (shown_at (one_at row_cmp row) (join_of j) none) in let q = total-none row_total (λ y. alone_at (one_at row_cmp row) (join_of j).other (match_count (λ x. (join_of j).matches x y) none) y) in omega arith),
      )

  made_upto : (n : ℕ) → n ≤ many → (answer : Rows) × (joined_answer j (left_upto n) (right_upto n) ≡ Some answer) × ((row : Row) → total_below n (λ i. copies (answers i) row) ≡ copies answer row)
  made_upto zero l = (none_answer.0, none_answer.1, λ row. sym (none_answer.2 row))
  made_upto (suc n) l =
      let rest = made_upto n (omega arith) in (
        together rest.0 (answers n),
        answer-together j (left_upto n) (lefts n) (right_upto n) (rights n)
            (λ row other some more. no_match j row other (λ same.
            let before = place_upto place_left many (λ row. routed (project (left_columns j.on) row)) left lefts left_split n (omega arith) row some in
            let at = place_of place_right many (λ row. routed (project (right_columns j.on) row)) right rights right_split n (omega arith) other more in
            let one : place_left row ≡ place_right other = ap route same in
            let wrong : ⊥ = omega arith in wrong))
            (λ row other some more. no_match j row other (λ same.
            let at = place_of place_left many (λ row. routed (project (left_columns j.on) row)) left lefts left_split n (omega arith) row some in
            let before = place_upto place_right many (λ row. routed (project (right_columns j.on) row)) right rights right_split n (omega arith) other more in
            let one : place_left row ≡ place_right other = ap route same in
            let wrong : ⊥ = omega arith in wrong))
            ∙ (λ i. plus (rest.1 i) (made n (omega arith) i)),
        λ row. let sum = copies-together row_total row_exact rest.0 (answers n) row in let r = rest.2 row in omega arith,
      )

  pub adds_up : (answer : Rows) × (joined_answer j left right ≡ Some answer) × ((row : Row) → total_below many (λ i. copies (answers i) row) ≡ copies answer row)
  adds_up =
      let all = made_upto many (omega arith) in (
        all.0,
        (λ i. joined_answer j (sym (all_parts place_left many (λ row. routed (project (left_columns j.on) row)) left lefts left_split) i) (sym (all_parts place_right many (λ row. routed (project (right_columns j.on) row)) right rights right_split) i)) ∙ all.1,
        all.2,
      )
