-- How many copies of a row stand.
use Rattle.std.proofs.Common.{◌≡◌, ℕ, ◌+◌, ◌≤◌, true, false, cond, List, [], ◌∷◌, length, ap, ◌∙◌, arith}
use Rattle.std.specs.Ordering.{eq_by_cmp}
use Rattle.ct_value.specs.Bag.{items, copies, none, add, remove, weigh, one_at, drop_one}
use Rattle.ct_value.proofs.laws.Bags.{items-remove, copies-add, copies-none, copies-occurs}
use Rattle.ct_value.specs.Order.{row_cmp, row_total}
use Rattle.ct_value.specs.declared.row.Row.{Row}
use Rattle.ct_change.specs.declared.change.Change.{Change}
use Rattle.ct_change.specs.Changelog.{append, retract, Rows, adds, apply, fold, fold_from}

-- what weighs no more row by row weighs no more
pub weigh-more : (f g : Row → ℕ) → ((row : Row) → f row ≤ g row) → (rows : List Row) → weigh f rows ≤ weigh g rows
weigh-more f g h [] = omega arith
weigh-more f g h (row ∷ rows) = omega (arith, h row, weigh-more f g h rows)

weigh-less : (f : Row → ℕ) (x : Row) (rows : List Row) → weigh f (drop_one row_cmp x rows) ≤ weigh f rows
weigh-less f x [] = omega arith
weigh-less f x (y ∷ ys) =
    elim (eq_by_cmp row_cmp x y) as (λ b. weigh f (cond b ys (y ∷ drop_one row_cmp x ys)) ≤ f y + weigh f ys) [
      | true ↦ omega arith
      | false ↦ omega (arith, weigh-less f x ys)
    ]

one-most : (row x : Row) → one_at row_cmp row x ≤ 1
one-most row x = elim (eq_by_cmp row_cmp row x) as (λ b. cond b 1 0 ≤ 1) [ true ↦ omega arith | false ↦ omega arith ]

added : (rows : Rows) (x row : Row) → copies (add rows x) row ≤ copies rows row + 1
added rows x row = omega (arith, copies-add row_total rows x row, one-most row x)

removed : (rows : Rows) (x row : Row) → copies (remove rows x) row ≤ copies rows row + 1
removed rows x row =
    let same : copies (remove rows x) row ≡ weigh (one_at row_cmp row) (drop_one row_cmp x (items rows)) = copies-occurs (remove rows x) row ∙ ap (weigh (one_at row_cmp row)) (items-remove row_total rows x) in
    let own : copies rows row ≡ weigh (one_at row_cmp row) (items rows) = copies-occurs rows row in
    omega (arith, same, own, weigh-less (one_at row_cmp row) x (items rows))

-- a retract changelog leaves no more copies of a row than it has changes
few_from : (changes : List Change) (rows : Rows) (row : Row) → copies (fold_from retract rows changes) row ≤ copies rows row + length changes
few_from [] rows row = omega arith
few_from (change ∷ changes) rows row =
    let step : copies (apply retract rows change) row ≤ copies rows row + 1 =
    elim (adds change.kind) as (λ b. copies (cond b (add rows change.row) (remove rows change.row)) row ≤ copies rows row + 1) [
      | true ↦ added rows change.row row
      | false ↦ removed rows change.row row
    ] in
    omega (arith, step, few_from changes (apply retract rows change) row)

pub few_retracted : (changes : List Change) (row : Row) → copies (fold retract changes) row ≤ length changes
few_retracted changes row = omega (arith, few_from changes none row, copies-none row_total row)

appended_from : (changes : List Change) (rows : Rows) (row : Row) → copies (fold_from append rows changes) row ≤ copies rows row + length changes
appended_from [] rows row = omega arith
appended_from (change ∷ changes) rows row = omega (arith, added rows change.row row, appended_from changes (add rows change.row) row)

pub few_appended : (changes : List Change) (row : Row) → copies (fold append changes) row ≤ length changes
few_appended changes row = omega (arith, appended_from changes none row, copies-none row_total row)
