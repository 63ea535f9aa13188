-- The rows of a set operation after one more change, and what its rule emits for it.
use Rattle.std.proofs.Common.{◌≡◌, ℕ, suc, ◌+◌, ◌<◌, ◌≤◌, ◌^◌, ◌==◌, ◌⊎◌, Bool, true, false, cond, List, [], ◌∷◌, ◌++◌, length, Ok, refl, sym, ap, subst, ◌∙◌, arith, append-nil, inl, inr}
use Rattle.std.specs.Ordering.{eq_by_cmp}
use Rattle.std.proofs.lemmas.Bool.{eq-eqb, eqb-true, eqb-false, ne_eqb}
use Rattle.ct_value.specs.Bag.{copies, one_at}
use Rattle.ct_value.proofs.laws.Bags.{copies-none}
use Rattle.ct_value.specs.Order.{row_cmp, row_total}
use Rattle.ct_value.specs.declared.row.Row.{Row}
use Rattle.ct_change.specs.declared.change.Change.{Change}
use Rattle.ct_change.specs.Changelog.{Rows, retract, adds, apply, MayCome, addition}
use Rattle.ct_change.proofs.laws.Meanings.{copies-apply}
use Rattle.op_rules.specs.History.{Arrival, arrival}
use Rattle.op_rules.specs.Rules.{Answer, MayArrive}
use Rattle.emission_rules.specs.SetOps.{SetOperation, rows_of_port, number, number_in, told_by_numbers, set_rule}
use Rattle.emission_rules.proofs.laws.Walks.{rows-push}
use Rattle.op_setops.specs.Kept.{AreRows}

pub at_start : (left right : Rows) → left ≡ rows_of_port 0 [] → right ≡ rows_of_port 1 [] → AreRows left right []
at_start left right l r = record {
  lefts = l;
  rights = r;
  few_left = λ row. (let e = ap (λ (x : Rows). copies x row) l ∙ copies-none row_total row in omega arith);
  few_right = λ row. (let e = ap (λ (x : Rows). copies x row) r ∙ copies-none row_total row in omega arith);
}

length-push : (before : List Arrival) (a : Arrival) → length (before ++ a ∷ []) ≡ suc (length before)
length-push [] a = refl
length-push (b ∷ before) a = ap suc (length-push before a)

-- a change adds one copy of a row at most
one_more : (rows : Rows) (change : Change) (row : Row) → MayCome retract rows change → copies (apply retract rows change) row ≤ suc (copies rows row)
one_more rows change row may =
    let e = copies-apply rows change row may in
    let l : addition row change ≤ 1 = few (adds change.kind) in
    omega arith
  where
    at_most : one_at row_cmp row change.row ≤ 1
    at_most = elim (eq_by_cmp row_cmp row change.row) as (λ b. cond b 1 0 ≤ 1) [ true ↦ omega arith | false ↦ omega arith ]

    few : (b : Bool) → cond b (one_at row_cmp row change.row) 0 ≤ 1
    few true = at_most
    few false = omega arith

module _ (s : SetOperation) (left right : Rows) (before : List Arrival) (are : AreRows left right before) (port from : ℕ) (change : Change) (may : MayArrive (set_rule s) before (arrival port from change)) where
  abbrev a : Arrival
  a = arrival port from change

  is_one : (port == 0) ≡ false → port ≡ 1
  is_one e = let l = may.port in let z = eqb-false port 0 e in omega arith

  side_at : (P : Rows → Type 0) → P (rows_of_port port before) → P (cond (port == 0) left right)
  side_at P p =
      elim (port == 0) as (λ b. (port == 0) ≡ b → P (cond b left right)) [
        | true ↦ λ e. subst P (sym are.lefts) (subst (λ n. P (rows_of_port n before)) (eqb-true port 0 e) p)
        | false ↦ λ e. subst P (sym are.rights) (subst (λ n. P (rows_of_port n before)) (is_one e) p)
      ] refl

  pub may_take : MayCome retract (cond (port == 0) left right) change
  may_take = side_at (λ rows. MayCome retract rows change) may.change

  pub has_room : length before + 1 < 2 ^ 32 → copies (cond (port == 0) left right) change.row + 1 < 2 ^ 64
  has_room few =
      elim (port == 0) as (λ b. copies (cond b left right) change.row + 1 < 2 ^ 64) [
        | true ↦ (let f = are.few_left change.row in omega arith)
        | false ↦ (let f = are.few_right change.row in omega arith)
      ]

  left_after : (new : Rows) → new ≡ cond (port == 0) (apply retract left change) left → new ≡ rows_of_port 0 (before ++ a ∷ [])
  left_after new e = e ∙ ap (λ (rows : Rows). cond (port == 0) (apply retract rows change) rows) are.lefts ∙ sym (rows-push retract 0 before a)

  right_after : (new : Rows) → new ≡ cond (port == 0) right (apply retract right change) → new ≡ rows_of_port 1 (before ++ a ∷ [])
  right_after new e =
      e ∙ ap (λ (rows : Rows). cond (port == 0) rows (apply retract rows change)) are.rights
      ∙ elim (port == 0) as (λ b. (port == 0) ≡ b → cond b (rows_of_port 1 before) (apply retract (rows_of_port 1 before) change) ≡ cond (port == 1) (apply retract (rows_of_port 1 before) change) (rows_of_port 1 before)) [
        | true ↦ λ q. ap (λ b. cond b (apply retract (rows_of_port 1 before) change) (rows_of_port 1 before)) (sym (ne_eqb port 1 (λ o. let z = eqb-true port 0 q in omega arith)))
        | false ↦ λ q. ap (λ b. cond b (apply retract (rows_of_port 1 before) change) (rows_of_port 1 before)) (sym (eq-eqb port 1 (is_one q)))
      ] refl
      ∙ sym (rows-push retract 1 before a)

  few_after : (new old : Rows) (row : Row) → ((new ≡ apply retract old change) × MayCome retract old change) ⊎ (new ≡ old) → copies old row ≤ length before → copies new row ≤ length (before ++ a ∷ [])
  few_after new old row (inl took) few =
      let e = ap (λ (r : Rows). copies r row) took.0 in
      let m = one_more old change row took.1 in
      let l = length-push before a in omega arith
  few_after new old row (inr same) few = let e = ap (λ (r : Rows). copies r row) same in let l = length-push before a in omega arith

  pub are_after : (new_left new_right : Rows) → new_left ≡ cond (port == 0) (apply retract left change) left → new_right ≡ cond (port == 0) right (apply retract right change) → AreRows new_left new_right (before ++ a ∷ [])
  are_after new_left new_right l r = record {
    lefts = left_after new_left l;
    rights = right_after new_right r;
    few_left = λ row. few_after new_left left row (left_took (port == 0) refl l) (are.few_left row);
    few_right = λ row. few_after new_right right row (right_took (port == 0) refl r) (are.few_right row);
  }
    where
      left_took : (b : Bool) → (port == 0) ≡ b → new_left ≡ cond b (apply retract left change) left → ((new_left ≡ apply retract left change) × MayCome retract left change) ⊎ (new_left ≡ left)
      left_took true e is = inl (is, subst (λ b. MayCome retract (cond b left right) change) e may_take)
      left_took false e is = inr is

      right_took : (b : Bool) → (port == 0) ≡ b → new_right ≡ cond b right (apply retract right change) → ((new_right ≡ apply retract right change) × MayCome retract right change) ⊎ (new_right ≡ right)
      right_took true e is = inr is
      right_took false e is = inl (is, subst (λ b. MayCome retract (cond b left right) change) e may_take)

  pub emits_one : (new_left new_right : Rows) → new_left ≡ cond (port == 0) (apply retract left change) left → new_right ≡ cond (port == 0) right (apply retract right change)
      → (sent : List Change) → sent ≡ told_by_numbers (number_in s left right change.row) (number_in s new_left new_right change.row) change.row
      → (set_rule s).emits before (a ∷ []) ≡ Ok sent
  emits_one new_left new_right l r sent told =
      let old : number_in s left right change.row ≡ number s before change.row = (λ i. number_in s (are.lefts i) (are.rights i) change.row) in
      let new : number_in s new_left new_right change.row ≡ number s (before ++ a ∷ []) change.row = (λ i. number_in s (left_after new_left l i) (right_after new_right r i) change.row) in
      let is : sent ≡ told_by_numbers (number s before change.row) (number s (before ++ a ∷ []) change.row) change.row = told ∙ (λ i. told_by_numbers (old i) (new i) change.row) in
      ap (λ (changes : List Change). let r : Answer = Ok changes in r) (append-nil (told_by_numbers (number s before change.row) (number s (before ++ a ∷ []) change.row) change.row) ∙ sym is)
