-- Where a key of what is joined holds: by a key of each side, or by one of a side whose rows have one match at most.
use Rattle.std.proofs.Common.{◌≡◌, ℕ, zero, suc, ◌<◌, ◌≤◌, ◌==◌, Bool, true, false, cond, ◌||◌, List, [], ◌∷◌, ◌++◌, length, filter, Some, refl, sym, ap, subst, ◌∙◌, arith, slice_get, slice_index_or}
use Rattle.std.specs.Prelude.{not}
use Rattle.std.specs.List.{AllByRecursion, Contains}
use Rattle.std.proofs.lemmas.Bool.{eqb-true, eqb-false, eq-eqb}
use Rattle.ct_value.specs.Bag.{copies, items, remove, total, weigh}
use Rattle.ct_value.proofs.laws.Bags.{copies-remove, total-remove}
use Rattle.ct_value.specs.Order.{row_cmp, row_total, row_exact}
use Rattle.ct_value.specs.Rows.{project}
use Rattle.ct_value.specs.declared.row.Row.{Row}
use Rattle.ct_value.specs.declared.ty.ColTy.{ColTy}
use Rattle.ct_value.specs.declared.value.Value.{Value}
use Rattle.ct_value.specs.declared.value.Value.TheVariants.{Null}
use Rattle.ct_change.specs.Changelog.{Rows, same_row}
use Rattle.ct_change.proofs.laws.Meanings.{same_row-itself}
use Rattle.ct_field.specs.Typed.{cell, is_null, value_fits}
use Rattle.rel_algebra.specs.Clauses.{Fits}
use Rattle.rel_algebra.specs.Joins.{agree, left_columns, right_columns}
use Rattle.rel_algebra.specs.Sums.{Each}
use Rattle.rel_algebra.proofs.laws.Bags.{some_weighs, each-copies, copies-each}
use Rattle.rel_algebra.proofs.laws.Fits.{fits-length, fits-cell, second}
use Rattle.op_rules.specs.Edges.{IsUnique, LiesIn}
use Rattle.emission_rules.proofs.laws.Weights.{total-below}
use Rattle.emission_rules.specs.Joins.{is_match}
use Rattle.emission_rules.specs.Joining.{Joining, match_of}
use Rattle.emission_rules.specs.JoinFits.{behind}
use Rattle.emission_rules.proofs.laws.JoinFacts.{project-within, project-behind}
use Rattle.emission_rules.proofs.laws.JoinKeys.{one_if, has_value, of_value, one_if-le, one_if-some, has_it, few_of_key}
use Rattle.emission_rules.proofs.laws.Parts.{agree-project, apart_of}
use Rattle.emission_rules.proofs.laws.Sums.{weigh-le, weigh-filter, weigh-nothing}

-- ---- rows and their columns

abbrev tail_of : Row → Row
tail_of [] = []
tail_of (x ∷ xs) = xs

abbrev pub first_of : Row → Value
first_of [] = Null
first_of (x ∷ xs) = x

-- rows that agree on a set agree on each of its columns
pub cell_of_set : (columns : List ℕ) (a b : Row) (n : ℕ) → Contains columns n → project columns a ≡ project columns b → cell n a ≡ cell n b
cell_of_set columns a b n has e = go columns has.0 has.1 has.2 e
  where
    go : (columns : List ℕ) (k : ℕ) → k < length columns → slice_index_or columns k n ≡ n → project columns a ≡ project columns b → cell n a ≡ cell n b
    go [] k l at e = absurd (omega arith)
    go (c ∷ columns) zero l at e =
        let head : cell c a ≡ cell c b = ap first_of e in
        let is : c ≡ n = at in
        subst (λ x. cell x a ≡ cell x b) is head
    go (c ∷ columns) (suc k) l at e = go columns k (omega arith) at (ap tail_of e)

pub not_null : (columns : List ColTy) (row : Row) (n : ℕ) (column : ColTy) → Fits columns row → slice_get columns n ≡ Some column → column.nullable ≡ false → is_null (cell n row) ≡ false
not_null columns row n column fits is fixed =
    let f = second (value_fits column.ty (cell n row)) _ (fits-cell columns row n column fits is) in
    go (is_null (cell n row)) (sym (ap (λ b. b || not (is_null (cell n row))) fixed) ∙ f)
  where
    go : (b : Bool) → (false || not b) ≡ true → b ≡ false
    go true e = absurd (cc)
    go false e = refl

pub remove-le : (f : Row → ℕ) (rows : Rows) (x : Row) → 0 < copies rows x → total f (remove rows x) ≤ total f rows
remove-le f rows x there = let e = total-remove row_total row_exact f rows x there in omega arith

pub each-remove : (P : Row → Type 0) (rows : Rows) (x : Row) → 0 < copies rows x → Each P rows → Each P (remove rows x)
each-remove P rows x there each =
    copies-each row_total row_exact P (remove rows x) (λ y some. each-copies row_total row_exact P rows each y (let e = copies-remove row_total row_exact rows x y there in omega arith))

pub none-weighs : (f : Row → ℕ) (rows : Rows) → ((row : Row) → 0 < copies rows row → f row ≡ 0) → total f rows ≡ 0
none-weighs f rows h = let le = total-below f (λ _. 0) rows (λ row there. let e = h row there in omega arith) in let z = weigh-nothing (items rows) in omega arith

pub filter-le : (f : Row → ℕ) (p : Row → Bool) (xs : List Row) → weigh f (filter p xs) ≤ weigh f xs
filter-le f p xs = let e = weigh-filter f p xs in let l = weigh-le (λ x. cond (p x) (f x) 0) f (λ x. part (p x) (f x)) xs in omega arith
  where
    part : (b : Bool) (n : ℕ) → cond b n 0 ≤ n
    part true n = omega arith
    part false n = omega arith

-- ---- one value of a key

module _ (j : Joining) (key : List ℕ) (a : Row) where
  abbrev pub w : Row → ℕ
  w = of_value key (project key a)

  pub small : (row : Row) → w row ≤ 1
  small row = one_if-le (has_value key (project key a) row)

  abbrev lw : ℕ
  lw = length j.left_columns

  abbrev rw : ℕ
  rw = length j.right_columns

  abbrev FitsLeft : Row → Type 0
  FitsLeft = Fits j.left_columns

  abbrev FitsRight : Row → Type 0
  FitsRight = Fits j.right_columns

  abbrev pub is_joined : Row → Row → Bool
  is_joined x y = is_match (match_of j x y)

  -- where the row has the value if a part of it has, it weighs nothing if that hasn't
  pub weightless : (b : Bool) (row : Row) → (project key row ≡ project key a → b ≡ true) → b ≡ false → w row ≡ 0
  weightless b row h e =
      elim (w row == 0) as (λ z. (w row == 0) ≡ z → w row ≡ 0) [
        | true ↦ λ z. eqb-true (w row) 0 z
        | false ↦ λ z. let apart = eqb-false (w row) 0 z in let wrong : true ≡ false = sym (h (has_it key (project key a) row (omega arith))) ∙ e in absurd (cc)
      ] refl

  -- the left side's part, of rows as wide as the left's
  abbrev pub own : List ℕ → Row → Bool
  own l x = cond (length x == lw) (has_value l (project l a) x) true

  abbrev pub other : List ℕ → Row → Bool
  other r y = has_value r (project (behind lw r) a) y

  pub is_there : (columns : List ℕ) (value row : Row) → project columns row ≡ value → has_value columns value row ≡ true
  is_there columns value row e = ap (λ v. same_row v value) e ∙ same_row-itself value

  module _ (l : List ℕ) (within : AllByRecursion (λ column. column < lw) l) (lies : LiesIn l key) where
    pub light_left : (x y : Row) → own l x ≡ false → w (x ++ y) ≡ 0
    light_left x y e =
        elim (length x == lw) as (λ b. (length x == lw) ≡ b → cond b (has_value l (project l a) x) true ≡ false → w (x ++ y) ≡ 0) [
          | true ↦ λ z q. weightless (has_value l (project l a) x) (x ++ y) (λ same. is_there l (project l a) x (sym (project-within l x y (subst (λ n. AllByRecursion (λ column. column < n) l) (sym (eqb-true (length x) lw z)) within)) ∙ lies (x ++ y) a same)) q
          | false ↦ λ z q. absurd (cc)
        ] refl e

    pub few_left : (rows : Rows) → Each FitsLeft rows → IsUnique l (copies rows) → total (λ x. one_if (own l x)) rows ≤ 1
    few_left rows fits unique =
        let few = few_of_key l rows unique (project l a) in
        let le = total-below (λ x. one_if (own l x)) (of_value l (project l a)) rows (λ x there.
        let wide = eq-eqb (length x) lw (fits-length j.left_columns x (each-copies row_total row_exact FitsLeft rows fits x there)) in
        let e : one_if (own l x) ≡ of_value l (project l a) x = ap (λ b. one_if (cond b (has_value l (project l a) x) true)) wide in omega arith) in
        omega arith

  module _ (r : List ℕ) (lies : LiesIn (behind lw r) key) where
    pub light_right : (x y : Row) → length x ≡ lw → other r y ≡ false → w (x ++ y) ≡ 0
    light_right x y wide e = weightless (other r y) (x ++ y) (λ same. is_there r (project (behind lw r) a) y (sym (project-behind r lw x y wide) ∙ lies (x ++ y) a same)) e

    pub few_right : (others : Rows) → IsUnique r (copies others) → total (λ y. one_if (other r y)) others ≤ 1
    few_right others unique = few_of_key r others unique (project (behind lw r) a)

  -- ---- one match at most

  matched_agree : (x y : Row) → is_joined x y ≡ true → project (left_columns j.on) x ≡ project (right_columns j.on) y
  matched_agree x y e =
      elim (agree j.on x y) as (λ b. agree j.on x y ≡ b → project (left_columns j.on) x ≡ project (right_columns j.on) y) [
        | true ↦ λ q. agree-project j.on x y q
        | false ↦ λ q. let none = apart_of j x y q in let wrong : true ≡ false = sym e ∙ ap is_match none in absurd (cc)
      ] refl

  one_of : (c : List ℕ) (rows : Rows) → IsUnique c (copies rows) → (p : Row → Bool) → ((x y : Row) → p x ≡ true → p y ≡ true → project c x ≡ project c y) → total (λ x. one_if (p x)) rows ≤ 1
  one_of c rows unique p agree =
      elim (total (λ x. one_if (p x)) rows == 0) as (λ b. (total (λ x. one_if (p x)) rows == 0) ≡ b → total (λ x. one_if (p x)) rows ≤ 1) [
        | true ↦ λ z. let e = eqb-true (total (λ x. one_if (p x)) rows) 0 z in omega arith
        | false ↦ λ z.
            let apart = eqb-false (total (λ x. one_if (p x)) rows) 0 z in
            let found = some_weighs {R = row_cmp} row_total (λ x. one_if (p x)) rows (omega arith) in
            let few = few_of_key c rows unique (project c found.0) in
            let below = total-below (λ x. one_if (p x)) (of_value c (project c found.0)) rows (λ x there. at x found.0 (one_if-some (p found.0) found.2)) in
            omega arith
      ] refl
    where
      at : (x first : Row) → p first ≡ true → one_if (p x) ≤ of_value c (project c first) x
      at x first q =
          elim (p x) as (λ b. p x ≡ b → one_if b ≤ of_value c (project c first) x) [
            | true ↦ λ e. let one : of_value c (project c first) x ≡ 1 = ap one_if (is_there c (project c first) x (agree x first e q)) in omega arith
            | false ↦ λ e. omega arith
          ] refl

  pub one_right : (c : List ℕ) → LiesIn c (right_columns j.on) → (others : Rows) → IsUnique c (copies others) → (x : Row) → total (λ y. one_if (is_joined x y)) others ≤ 1
  one_right c lies others unique x = one_of c others unique (is_joined x) (λ y z e f. lies y z (sym (matched_agree x y e) ∙ matched_agree x z f))

  pub one_left : (c : List ℕ) → LiesIn c (left_columns j.on) → (rows : Rows) → IsUnique c (copies rows) → (y : Row) → total (λ x. one_if (is_joined x y)) rows ≤ 1
  one_left c lies rows unique y = one_of c rows unique (λ x. is_joined x y) (λ x z e f. lies x z (matched_agree x y e ∙ sym (matched_agree z y f)))
