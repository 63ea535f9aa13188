-- Laws of set operations: how many copies they leave, and that of parts that have no row in common they are the sum.
use Rattle.std.proofs.Common.{◌≡◌, ℕ, suc, ◌+◌, ◌-◌, ◌<◌, ◌≤◌, ◌⊎◌, nat_lt, Bool, true, false, cond, List, [], ◌∷◌, Some, refl, sym, ap, subst, ◌∙◌, arith, inl, inr}
use Rattle.std.specs.Prelude.{min, length, Option, None}
use Rattle.std.proofs.lemmas.Bool.{ltb-true, ltb-false}
use Rattle.std.specs.declared.cmp.Ordering.{Ordering}
use Rattle.std.specs.Ordering.{eq_by_cmp}
use Rattle.std.specs.Cmp.{IsTotalOrder, Equal-is}
use Rattle.std.specs.FinMap.{IsAntisymmetric}
use Rattle.ct_value.specs.Bag.{Bag, items, none, copies, occurs, one_at}
use Rattle.ct_value.specs.Order.{row_total, row_exact}
use Rattle.ct_value.specs.declared.row.Row.{Row}
use Rattle.ct_value.proofs.laws.Bags.{copies-none, copies-add, copies-occurs, same_bag}
use Rattle.ct_value.specs.declared.ty.ColTy.{ColTy}
use Rattle.ct_change.specs.Changelog.{Rows}
use Rattle.ct_expr.specs.Types.{both_of}
use Rattle.rel_algebra.specs.declared.sets.SetKind.{SetKind}
use Rattle.rel_algebra.specs.Sums.{gather, together, plus, add_where, thinned, Each}
use Rattle.rel_algebra.specs.Sets.{SetForm, union_all, except_rows, intersect_rows, set_form, counted, set_copies, left_over, set_rows, set_column, set_columns}
use Rattle.rel_algebra.specs.Batch.{set_answer}
use Rattle.rel_algebra.proofs.laws.Bags.{copies-together, each-copies, copies-each}

-- ---- at most so many copies of each item

module _ {A : Type 0} {R : A → A → Ordering} (o : IsTotalOrder R) (exact : IsAntisymmetric R) where
  abbrev some_of : (A → ℕ) → List A → Bag R
  some_of most xs = gather (λ x c. add_where (nat_lt (copies c x) (most x)) x c) none xs

  -- an item beside a list: it is another one, or it is counted once more
  abbrev Beside : A → A → List A → Type 0
  Beside x y xs = ((one_at R y x + occurs R y xs ≡ occurs R y xs) × (one_at R y x ≡ 0)) ⊎ ((one_at R y x + occurs R y xs ≡ suc (occurs R y xs)) × ((one_at R y x ≡ 1) × (y ≡ x)))

  beside : (x y : A) (xs : List A) → Beside x y xs
  beside x y xs =
      elim (eq_by_cmp R y x) as (λ q. eq_by_cmp R y x ≡ q → (let k : ℕ = cond q 1 0 in ((k + occurs R y xs ≡ occurs R y xs) × (k ≡ 0)) ⊎ ((k + occurs R y xs ≡ suc (occurs R y xs)) × ((k ≡ 1) × (y ≡ x))))) [
        | true ↦ λ e. inr (omega arith, (refl, exact y x ((Equal-is (R y x)).0 e)))
        | false ↦ λ e. inl (omega arith, refl)
      ] refl

  pub list_thins : (most : A → ℕ) (xs : List A) (y : A) → copies (some_of most xs) y ≡ min (occurs R y xs) (most y)
  list_thins most [] y = copies-none o y ∙ omega arith
  list_thins most (x ∷ xs) y = step (some_of most xs) (list_thins most xs)
    where
      step : (c : Bag R) → ((z : A) → copies c z ≡ min (occurs R z xs) (most z)) → copies (add_where (nat_lt (copies c x) (most x)) x c) y ≡ min (one_at R y x + occurs R y xs) (most y)
      step c ih =
          elim (nat_lt (copies c x) (most x)) as (λ q. nat_lt (copies c x) (most x) ≡ q → copies (add_where q x c) y ≡ min (one_at R y x + occurs R y xs) (most y)) [
            | true ↦ λ e. copies-add o c x y ∙ more (ltb-true (copies c x) (most x) e) (beside x y xs)
            | false ↦ λ e. less (ltb-false (copies c x) (most x) e) (beside x y xs)
          ] refl
        where
          more : copies c x < most x → Beside x y xs
              → one_at R y x + copies c y ≡ min (one_at R y x + occurs R y xs) (most y)
          more l (inl other) = let a = other.0 in let b = other.1 in let i = ih y in omega arith
          more l (inr same) =
              let below : copies c y < most y = subst (λ w. copies c w < most w) (sym same.1.1) l in
              let a = same.0 in let b = same.1.0 in let i = ih y in omega arith

          less : most x ≤ copies c x → Beside x y xs
              → copies c y ≡ min (one_at R y x + occurs R y xs) (most y)
          less l (inl other) = let a = other.0 in let i = ih y in omega arith
          less l (inr same) =
              let full : most y ≤ copies c y = subst (λ w. most w ≤ copies c w) (sym same.1.1) l in
              let a = same.0 in let i = ih y in omega arith

  pub copies-thinned : (most : A → ℕ) (b : Bag R) (x : A) → copies (thinned most b) x ≡ min (copies b x) (most x)
  unfolding thinned
  copies-thinned most b x = list_thins most (items b) x ∙ ap (λ k. min k (most x)) (sym (copies-occurs b x))

-- ---- how many copies a set operation leaves

pub copies-left_over : (form : SetForm) (left right : Rows) (row : Row) → set_copies form (copies left row) (copies right row) ≤ copies left row → copies (left_over form left right) row ≡ set_copies form (copies left row) (copies right row)
copies-left_over form left right row l = copies-thinned row_total row_exact (λ row. set_copies form (copies left row) (copies right row)) left row ∙ omega arith

counted_few : (all : Bool) (m : ℕ) → counted all m ≤ m
counted_few true m = omega arith
counted_few false m = omega arith

pub copies-set_rows : (form : SetForm) (left right : Rows) (row : Row) → copies (set_rows form left right) row ≡ set_copies form (copies left row) (copies right row)
copies-set_rows union_all left right row = copies-together row_total row_exact left right row
copies-set_rows (except_rows all) left right row = copies-left_over (except_rows all) left right row (let l = counted_few all (copies left row) in omega arith)
copies-set_rows (intersect_rows all) left right row = copies-left_over (intersect_rows all) left right row (let l = counted_few all (copies left row) in omega arith)

-- one more copy counts once more at most
pub counted_step : (all : Bool) (m : ℕ) → (counted all m ≤ counted all (suc m)) × (counted all (suc m) ≤ suc (counted all m))
counted_step true m = (omega arith, omega arith)
counted_step false m = (omega arith, omega arith)

-- without ALL there is one copy at most
pub counted_once : (except : Bool) (m n : ℕ) → set_copies (set_form except false) m n ≤ 1
counted_once true m n = omega arith
counted_once false m n = omega arith

-- those of a set operation of a node
pub copies-set_form : (except all : Bool) (left right : Rows) (row : Row) → copies (set_rows (set_form except all) left right) row ≡ set_copies (set_form except all) (copies left row) (copies right row)
copies-set_form except all left right row = copies-set_rows (set_form except all) left right row

-- it leaves no more copies of a row than the left has
pub few_copies : (except all : Bool) (m n : ℕ) → set_copies (set_form except all) m n ≤ m
few_copies true all m n = let l = counted_few all m in omega arith
few_copies false all m n = let l = counted_few all m in omega arith

-- its rows are rows of the left
pub each-set_rows : (P : Row → Type 0) (except all : Bool) (left right : Rows) → Each P left → Each P (set_rows (set_form except all) left right)
each-set_rows P except all left right h = copies-each row_total row_exact P (set_rows (set_form except all) left right)
    (λ row some. each-copies row_total row_exact P left h row (let e = copies-set_form except all left right row in let f = few_copies except all (copies left row) (copies right row) in omega arith))

-- it leaves no more copies than the left has, and an INTERSECT no more than the right has
pub set_rows-few : (except all : Bool) (left right : Rows) (row : Row) → copies (set_rows (set_form except all) left right) row ≤ copies left row
set_rows-few except all left right row = let e = copies-set_form except all left right row in let f = few_copies except all (copies left row) (copies right row) in omega arith

pub set_rows-few_right : (except all : Bool) (left right : Rows) (row : Row) → except ≡ false → copies (set_rows (set_form except all) left right) row ≤ copies right row
set_rows-few_right true all left right row x = absurd (cc)
set_rows-few_right false all left right row x = let e = copies-set_form false all left right row in omega arith

pub set_rows-left : (except all : Bool) (left right : Rows) (row : Row) → 0 < copies (set_rows (set_form except all) left right) row → 0 < copies left row
set_rows-left except all left right row some = let f = set_rows-few except all left right row in omega arith

pub set_rows-right : (except all : Bool) (left right : Rows) (row : Row) → except ≡ false → 0 < copies (set_rows (set_form except all) left right) row → 0 < copies right row
set_rows-right except all left right row x some = let f = set_rows-few_right except all left right row x in omega arith

-- ---- of two parts on each side

counted_none : (all : Bool) → counted all 0 ≡ 0
counted_none true = refl
counted_none false = omega arith

pub none_left : (except all : Bool) (n : ℕ) → set_copies (set_form except all) 0 n ≡ 0
none_left true all n = let e = counted_none all in omega arith
none_left false all n = let e = counted_none all in omega arith

-- no row stands in parts of both pairs
abbrev pub Apart : Rows → Rows → Rows → Rows → Type 0
Apart a b c d = (row : Row) → ((copies a row ≡ 0) × (copies c row ≡ 0)) ⊎ ((copies b row ≡ 0) × (copies d row ≡ 0))

module _ (except all : Bool) (a b c d : Rows) where
  abbrev form : SetForm
  form = set_form except all

  whole : (row : Row) → copies (set_rows form (together a b) (together c d)) row ≡ set_copies form (copies a row + copies b row) (copies c row + copies d row)
  whole row = copies-set_form except all (together a b) (together c d) row ∙ (λ i. set_copies form (copies-together row_total row_exact a b row i) (copies-together row_total row_exact c d row i))

  parts : (row : Row) → copies (together (set_rows form a c) (set_rows form b d)) row ≡ set_copies form (copies a row) (copies c row) + set_copies form (copies b row) (copies d row)
  parts row = copies-together row_total row_exact (set_rows form a c) (set_rows form b d) row ∙ (λ i. copies-set_form except all a c row i + copies-set_form except all b d row i)

  first_none : (m n k l : ℕ) → m ≡ 0 → k ≡ 0 → set_copies form (m + n) (k + l) ≡ set_copies form m k + set_copies form n l
  first_none m n k l e f =
      let p : m + n ≡ n = omega arith in let q : k + l ≡ l = omega arith in
      let z : set_copies form m k ≡ 0 = ap (λ i. set_copies form i k) e ∙ none_left except all k in
      (λ i. set_copies form (p i) (q i)) ∙ omega arith

  second_none : (m n k l : ℕ) → n ≡ 0 → l ≡ 0 → set_copies form (m + n) (k + l) ≡ set_copies form m k + set_copies form n l
  second_none m n k l e f =
      let p : m + n ≡ m = omega arith in let q : k + l ≡ k = omega arith in
      let z : set_copies form n l ≡ 0 = ap (λ i. set_copies form i l) e ∙ none_left except all l in
      (λ i. set_copies form (p i) (q i)) ∙ omega arith

  same_copies : (row : Row) → ((copies a row ≡ 0) × (copies c row ≡ 0)) ⊎ ((copies b row ≡ 0) × (copies d row ≡ 0)) → copies (set_rows form (together a b) (together c d)) row ≡ copies (together (set_rows form a c) (set_rows form b d)) row
  same_copies row (inl none) = whole row ∙ first_none (copies a row) (copies b row) (copies c row) (copies d row) none.0 none.1 ∙ sym (parts row)
  same_copies row (inr none) = whole row ∙ second_none (copies a row) (copies b row) (copies c row) (copies d row) none.0 none.1 ∙ sym (parts row)

  pub set_rows-together : Apart a b c d → set_rows (set_form except all) (together a b) (together c d) ≡ together (set_rows (set_form except all) a c) (set_rows (set_form except all) b d)
  set_rows-together apart = same_bag row_total row_exact _ _ (λ row. same_copies row (apart row))

pub set_answer-together : (except all : Bool) (a b c d : Rows) → Apart a b c d → set_answer except all (together a b) (together c d) ≡ plus (set_answer except all a c) (set_answer except all b d)
set_answer-together except all a b c d apart = ap (λ (r : Rows). Some r) (set_rows-together except all a b c d apart)

-- ---- columns

-- as many as on both sides
pub set_columns-lengths : (kind : SetKind) (lefts rights made : List ColTy) → set_columns kind lefts rights ≡ Some made → (length made ≡ length lefts) × (length made ≡ length rights)
set_columns-lengths kind [] [] made e = let i : [] ≡ made = cc in (ap length (sym i), ap length (sym i))
set_columns-lengths kind [] (right ∷ rights) made e = absurd (cc)
set_columns-lengths kind (left ∷ lefts) [] made e = absurd (cc)
set_columns-lengths kind (left ∷ lefts) (right ∷ rights) made e = go (set_columns-lengths kind lefts rights) (set_column kind left right) (set_columns kind lefts rights) refl e
  where
    go : ((columns : List ColTy) → set_columns kind lefts rights ≡ Some columns → (length columns ≡ length lefts) × (length columns ≡ length rights))
        → (o : Option ColTy) (p : Option (List ColTy)) → set_columns kind lefts rights ≡ p → both_of (λ column columns. Some (column ∷ columns)) o p ≡ Some made
        → (length made ≡ suc (length lefts)) × (length made ≡ suc (length rights))
    go ih None p q f = absurd (cc)
    go ih (Some column) None q f = absurd (cc)
    go ih (Some column) (Some columns) q f =
        let h = ih columns q in
        let i : column ∷ columns ≡ made = cc in
        (ap length (sym i) ∙ ap suc h.0, ap length (sym i) ∙ ap suc h.1)
