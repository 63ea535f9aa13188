-- The rows that changes of short texts leave: they are short too, and no more than the changes, whether or not these are valid.
use Rattle.std.proofs.Common.{◌≡◌, ℕ, ◌+◌, ◌≤◌, Bool, true, false, cond, List, [], ◌∷◌, length, Option, Some, None, sym, ap, subst, arith}
use Rattle.std.specs.List.{AllByRecursion}
use Rattle.std.specs.Ordering.{eq_by_cmp}
use Rattle.std.specs.declared.cmp.Ordering.{Ordering}
use Rattle.ct_value.specs.Bag.{none, add, remove, items, drop_one, weigh, total}
use Rattle.ct_value.proofs.laws.Bags.{items-remove, total-add, total-none, total-le}
use Rattle.ct_value.specs.Order.{row_cmp, row_total, row_exact}
use Rattle.ct_value.specs.declared.row.Row.{Row}
use Rattle.ct_change.specs.declared.change.Change.{Change}
use Rattle.ct_change.specs.Changelog.{Mode, append, retract, upsert, Rows, adds, row_at, without, apply, fold_from}
use Rattle.rel_algebra.specs.Sums.{Each, restrict}
use Rattle.rel_algebra.proofs.laws.Bags.{each-none, each-add, each-restrict, total-restrict}
use Rattle.op_rules.proofs.laws.Histories.{all-each}
use Rattle.range_rules.specs.Ranges.{IsShortRow, IsShort}

-- ---- a row less

each_drop : {A : Type 0} (R : A → A → Ordering) (P : A → Type 0) (x : A) (xs : List A) → AllByRecursion P xs → AllByRecursion P (drop_one R x xs)
each_drop R P x [] h = tt
each_drop R P x (y ∷ ys) h = elim (eq_by_cmp R x y) as (λ b. AllByRecursion P (cond b ys (y ∷ drop_one R x ys))) [ true ↦ h.1 | false ↦ (h.0, each_drop R P x ys h.1) ]

drop_le : {A : Type 0} (R : A → A → Ordering) (f : A → ℕ) (x : A) (xs : List A) → weigh f (drop_one R x xs) ≤ weigh f xs
drop_le R f x [] = omega arith
drop_le R f x (y ∷ ys) = elim (eq_by_cmp R x y) as (λ b. weigh f (cond b ys (y ∷ drop_one R x ys)) ≤ f y + weigh f ys) [ true ↦ omega arith | false ↦ omega (arith, drop_le R f x ys) ]

-- ---- rows

-- how many rows stand
abbrev pub how_many : Rows → ℕ
how_many rows = total (λ _. 1) rows

-- at most so many rows stand, and their texts are short
pub record AreShort (most : ℕ) (rows : Rows) : Type 0 where
  pub each : Each IsShortRow rows
  pub few : how_many rows ≤ most

pub none_short : AreShort 0 none
none_short = record { each = each-none row_total row_exact IsShortRow; few = let e = total-none row_total (λ _. 1) in omega arith }

pub more_short : (n m : ℕ) (rows : Rows) → n ≤ m → AreShort n rows → AreShort m rows
more_short n m rows l h = record { each = h.each; few = let f = h.few in omega arith }

pub add_short : (n : ℕ) (rows : Rows) (row : Row) → IsShortRow row → AreShort n rows → AreShort (n + 1) (add rows row)
add_short n rows row short h = record {
  each = each-add row_total row_exact IsShortRow rows row short h.each;
  few = let e = total-add row_total (λ _. 1) rows row in let f = h.few in omega arith;
}

remove_short : (n : ℕ) (rows : Rows) (row : Row) → AreShort n rows → AreShort n (remove rows row)
remove_short n rows row h = record {
  each = subst (λ (xs : List Row). AllByRecursion IsShortRow xs) (sym (items-remove row_total rows row)) (each_drop row_cmp IsShortRow row (items rows) h.each);
  few = let e : how_many (remove rows row) ≡ weigh (λ _. 1) (drop_one row_cmp row (items rows)) = ap (weigh (λ _. 1)) (items-remove row_total rows row) in
      let l = drop_le row_cmp (λ _. 1) row (items rows) in let f = h.few in omega arith;
}

without_short : (n : ℕ) (rows : Rows) (o : Option Row) → AreShort n rows → AreShort n (without rows o)
without_short n rows None h = h
without_short n rows (Some row) h = remove_short n rows row h

adds_or_not : (n : ℕ) (b : Bool) (rows others : Rows) (row : Row) → IsShortRow row → AreShort n rows → AreShort n others → AreShort (n + 1) (cond b (add rows row) others)
adds_or_not n true rows others row short h k = add_short n rows row short h
adds_or_not n false rows others row short h k = more_short n (n + 1) others (omega arith) k

-- after one change
pub one_after : (mode : Mode) (n : ℕ) (rows : Rows) (change : Change) → IsShort change → AreShort n rows → AreShort (n + 1) (apply mode rows change)
one_after append n rows change short h = add_short n rows change.row short h
one_after retract n rows change short h = adds_or_not n (adds change.kind) rows (remove rows change.row) change.row short h (remove_short n rows change.row h)
one_after (upsert key) n rows change short h =
    let k = without_short n rows (row_at rows key change.row) h in
    adds_or_not n (adds change.kind) (without rows (row_at rows key change.row)) (without rows (row_at rows key change.row)) change.row short k k

-- after changes
pub all_after : (mode : Mode) (n : ℕ) (rows : Rows) (changes : List Change) → AllByRecursion IsShort changes → AreShort n rows → AreShort (n + length changes) (fold_from mode rows changes)
all_after mode n rows [] short h = more_short n (n + 0) rows (omega arith) h
all_after mode n rows (change ∷ changes) short h =
    more_short (n + 1 + length changes) (n + length (change ∷ changes)) (fold_from mode (apply mode rows change) changes) (omega arith)
    (all_after mode (n + 1) (apply mode rows change) changes short.1 (one_after mode n rows change short.0 h))

-- those that pass a test
one_or_none : (b : Bool) → ◌≤◌ (cond b 1 0) 1
one_or_none true = omega arith
one_or_none false = omega arith

pub restrict_short : (n : ℕ) (test : Row → Bool) (rows : Rows) → AreShort n rows → AreShort n (restrict test rows)
restrict_short n test rows h = record {
  each = all-each (λ row. IsShortRow row × (test row ≡ true)) IsShortRow (λ row k. k.0) (items (restrict test rows)) (each-restrict row_total row_exact IsShortRow test rows h.each);
  few = let e : how_many (restrict test rows) ≡ total (λ row. cond (test row) 1 0) rows = total-restrict row_total row_exact (λ _. 1) test rows in
      let l = total-le (λ row. cond (test row) 1 0) (λ row. one_or_none (test row)) rows in let f = h.few in omega arith;
}
