-- What the rows of a bag weigh together, by what came and what went.
use Rattle.std.proofs.Common.{◌≡◌, ℕ, ◌+◌, ◌<◌, ◌≤◌, ◌==◌, Bool, true, false, cond, not, List, [], ◌∷◌, refl, sym, ap, ◌∙◌, arith}
use Rattle.std.specs.List.{AllByRecursion}
use Rattle.std.proofs.lemmas.Bool.{eqb-true, eqb-false}
use Rattle.ct_value.specs.Bag.{copies, items, total, weigh, bag_of, one_at, occurs}
use Rattle.ct_value.proofs.laws.Bags.{same_bag, copies-bag_of, total-bag_of}
use Rattle.ct_value.specs.Order.{row_cmp, row_total, row_exact}
use Rattle.ct_value.specs.declared.row.Row.{Row}
use Rattle.ct_change.specs.declared.change.Change.{Change}
use Rattle.ct_change.specs.Changelog.{Rows, adds, retract, Means}
use Rattle.rel_algebra.specs.Sums.{together, restrict}
use Rattle.rel_algebra.proofs.laws.Bags.{copies-together, total-together, copies-restrict, total-restrict, copies-each}

-- what the rows that come weigh, and those that go
abbrev pub coming : (Row → ℕ) → List Change → ℕ
coming f changes = weigh (λ change. cond (adds change.kind) (f change.row) 0) changes

abbrev pub going : (Row → ℕ) → List Change → ℕ
going f changes = weigh (λ change. cond (adds change.kind) 0 (f change.row)) changes

-- the rows that come, and those that go
abbrev come : List Change → List Row
come [] = []
come (change ∷ changes) = cond (adds change.kind) (change.row ∷ come changes) (come changes)

abbrev gone : List Change → List Row
gone [] = []
gone (change ∷ changes) = cond (adds change.kind) (gone changes) (change.row ∷ gone changes)

weigh-come : (f : Row → ℕ) (changes : List Change) → coming f changes ≡ weigh f (come changes)
weigh-come f [] = refl
weigh-come f (change ∷ changes) =
    let rest = weigh-come f changes in
    elim (adds change.kind) as (λ b. cond b (f change.row) 0 + coming f changes ≡ weigh f (cond b (change.row ∷ come changes) (come changes))) [
      | true ↦ omega (arith, rest)
      | false ↦ omega (arith, rest)
    ]

weigh-gone : (f : Row → ℕ) (changes : List Change) → going f changes ≡ weigh f (gone changes)
weigh-gone f [] = refl
weigh-gone f (change ∷ changes) =
    let rest = weigh-gone f changes in
    elim (adds change.kind) as (λ b. cond b 0 (f change.row) + going f changes ≡ weigh f (cond b (gone changes) (change.row ∷ gone changes))) [
      | true ↦ omega (arith, rest)
      | false ↦ omega (arith, rest)
    ]

-- what comes weighs as much as what goes and what stays
pub means_weighs : (f : Row → ℕ) (changes : List Change) (rows : Rows) → Means retract changes rows → coming f changes ≡ going f changes + total f rows
means_weighs f changes rows means =
    let parts : Rows = together (bag_of (gone changes)) rows in
    let whole : Rows = bag_of (come changes) in
    let same : whole ≡ parts = same_bag row_total row_exact whole parts (λ row.
    let in_all : copies (bag_of {R = row_cmp} (come changes)) row ≡ occurs row_cmp row (come changes) = copies-bag_of row_total (come changes) row in
    let left : copies (bag_of {R = row_cmp} (gone changes)) row ≡ occurs row_cmp row (gone changes) = copies-bag_of row_total (gone changes) row in
    omega (arith, in_all, left, weigh-come (one_at row_cmp row) changes, weigh-gone (one_at row_cmp row) changes, copies-together row_total row_exact (bag_of (gone changes)) rows row, means row)) in
    let weight : total f whole ≡ total f parts = ap (total f) same in
    omega (arith, weight, weigh-come f changes, weigh-gone f changes, total-bag_of {R = row_cmp} row_total f (come changes), total-bag_of {R = row_cmp} row_total f (gone changes), total-together row_total row_exact f (bag_of (gone changes)) rows)

-- ---- bags that agree where something weighs

-- whether a row weighs something
abbrev weighs : (Row → ℕ) → Row → Bool
weighs f row = not (f row == 0)

own : (f : Row → ℕ) (row : Row) → cond (weighs f row) (f row) 0 ≡ f row
own f row = elim (f row == 0) as (λ b. (f row == 0) ≡ b → cond (not b) (f row) 0 ≡ f row) [ true ↦ λ e. sym (eqb-true (f row) 0 e) | false ↦ λ e. refl ] refl

total-weighing : (f : Row → ℕ) (rows : Rows) → total f (restrict (weighs f) rows) ≡ total f rows
total-weighing f rows = total-restrict row_total row_exact f (weighs f) rows ∙ ap (λ (g : Row → ℕ). total g rows) (λ i row. own f row i)

pub total-agree : (f : Row → ℕ) (a b : Rows) → ((row : Row) → 0 < f row → copies a row ≡ copies b row) → total f a ≡ total f b
total-agree f a b agree =
    sym (total-weighing f a) ∙ ap (total f) (same_bag row_total row_exact (restrict (weighs f) a) (restrict (weighs f) b) (λ row.
    copies-restrict row_total row_exact (weighs f) a row
    ∙ elim (f row == 0) as (λ t. (f row == 0) ≡ t → cond (not t) (copies a row) 0 ≡ cond (not t) (copies b row) 0) [
      | true ↦ λ e. refl
      | false ↦ λ e. agree row (positive (f row) e)
    ] refl
    ∙ sym (copies-restrict row_total row_exact (weighs f) b row)))
    ∙ total-weighing f b
  where
    positive : (n : ℕ) → (n == 0) ≡ false → 0 < n
    positive n e = let some = eqb-false n 0 e in omega arith

-- what weighs no more at each row that stands
pub total-below : (f g : Row → ℕ) (rows : Rows) → ((row : Row) → 0 < copies rows row → f row ≤ g row) → total f rows ≤ total g rows
total-below f g rows below = go (items rows) (copies-each row_total row_exact (λ row. f row ≤ g row) rows below)
  where
    go : (xs : List Row) → AllByRecursion (λ row. f row ≤ g row) xs → weigh f xs ≤ weigh g xs
    go [] h = omega arith
    go (x ∷ xs) h = omega (arith, h.0, go xs h.1)
