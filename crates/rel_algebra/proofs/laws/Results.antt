-- The results of the groups: which rows they are.
use Rattle.std.proofs.Common.{◌≡◌, ◌≢◌, ℕ, ◌+◌, ◌<◌, ◌≤◌, ◌==◌, ◌^◌, Bool, true, false, cond, not, ◌&&◌, ◌||◌, List, [], ◌∷◌, ◌++◌, map, filter, length, take, Option, Some, None, refl, sym, ap, ◌∙◌, arith}
use Rattle.std.specs.List.{list_any, list_all, AllByRecursion, IsDistinct}
use Rattle.std.proofs.lemmas.Bool.{eqb-true, eqb-false, lt-ltb}
use Rattle.std.proofs.lemmas.List.{length-take-le}
use Rattle.ct_value.specs.Bag.{copies, one_at, items, none, bag_of, weigh, occurs}
use Rattle.ct_value.proofs.laws.Bags.{one_at_itself, copies-occurs, copies-bag_of, items-none, total-none}
use Rattle.ct_value.specs.Order.{row_cmp, row_total}
use Rattle.ct_value.specs.declared.row.Row.{Row}
use Rattle.ct_value.specs.declared.value.Value.{Value}
use Rattle.ct_change.specs.Changelog.{Rows, same_row}
use Rattle.ct_change.proofs.laws.Meanings.{same_row-true, same_row-itself}
use Rattle.rel_algebra.specs.GroupedCounts.{first_seen, front_of, front, in_it, AreWide, one_of, group_size, counted, sized, result_row, group_keys, count_groups, is_countable, grouped_counts}

-- ---- all but the last value

front_of-push : (x : Value) (xs : Row) (v : Value) → front_of x (xs ++ v ∷ []) ≡ x ∷ xs
front_of-push x [] v = refl
front_of-push x (y ∷ ys) v = ap (λ zs. x ∷ zs) (front_of-push y ys v)

pub front-push : (xs : Row) (v : Value) → front (xs ++ v ∷ []) ≡ xs
front-push [] v = refl
front-push (x ∷ xs) v = front_of-push x xs v

-- ---- each row once

weigh-map : {A B : Type 0} (f : B → ℕ) (g : A → B) (xs : List A) → weigh f (map g xs) ≡ weigh (λ x. f (g x)) xs
weigh-map f g [] = refl
weigh-map f g (x ∷ xs) = ap (λ n. f (g x) + n) (weigh-map f g xs)

abbrev pub others : Row → List Row → List Row
others row rows = filter (λ other. not (same_row row other)) rows

-- what weighs at a row alone weighs nothing among the others
weigh-others-at : (f : Row → ℕ) (row : Row) → ((other : Row) → same_row row other ≡ false → f other ≡ 0) → (rows : List Row) → weigh f (others row rows) ≡ 0
weigh-others-at f row elsewhere [] = refl
weigh-others-at f row elsewhere (x ∷ xs) =
    elim (same_row row x) as (λ t. same_row row x ≡ t → weigh f (cond (not t) (x ∷ others row xs) (others row xs)) ≡ 0) [
      | true ↦ λ e. weigh-others-at f row elsewhere xs
      | false ↦ λ e. omega (arith, elsewhere x e, weigh-others-at f row elsewhere xs)
    ] refl

-- a row that weighs nothing may be left out
weigh-others : (f : Row → ℕ) (row : Row) → f row ≡ 0 → (rows : List Row) → weigh f (others row rows) ≡ weigh f rows
weigh-others f row nothing [] = refl
weigh-others f row nothing (x ∷ xs) =
    elim (same_row row x) as (λ t. same_row row x ≡ t → weigh f (cond (not t) (x ∷ others row xs) (others row xs)) ≡ f x + weigh f xs) [
      | true ↦ λ e. let same = ap f (same_row-true row x e) in omega (arith, weigh-others f row nothing xs)
      | false ↦ λ e. ap (λ n. f x + n) (weigh-others f row nothing xs)
    ] refl

-- a sum over the rows, each once, of what weighs at one of them alone
pub weigh-first_seen : (f : Row → ℕ) (key : Row) → ((other : Row) → same_row key other ≡ false → f other ≡ 0) → (rows : List Row) → weigh f (first_seen rows) ≡ cond (list_any (same_row key) rows) (f key) 0
weigh-first_seen f key elsewhere [] = refl
weigh-first_seen f key elsewhere (x ∷ xs) =
    elim (same_row key x) as (λ t. same_row key x ≡ t → f x + weigh f (others x (first_seen xs)) ≡ cond (t || list_any (same_row key) xs) (f key) 0) [
      | true ↦ λ e.
          let same : key ≡ x = same_row-true key x e in
          let rest = weigh-others-at f x (λ other apart. elsewhere other (ap (λ k. same_row k other) same ∙ apart)) (first_seen xs) in
          omega (arith, ap f same)
      | false ↦ λ e. let nothing = elsewhere x e in omega (arith, weigh-others f x nothing (first_seen xs), weigh-first_seen f key elsewhere xs)
    ] refl

any-others : (key row : Row) → same_row key row ≡ false → (rows : List Row) → list_any (same_row key) (others row rows) ≡ list_any (same_row key) rows
any-others key row apart [] = refl
any-others key row apart (x ∷ xs) =
    elim (same_row row x) as (λ t. same_row row x ≡ t → list_any (same_row key) (cond (not t) (x ∷ others row xs) (others row xs)) ≡ (same_row key x || list_any (same_row key) xs)) [
      | true ↦ λ e.
          let not_x : same_row key x ≡ false = ap (same_row key) (sym (same_row-true row x e)) ∙ apart in
          any-others key row apart xs ∙ sym (ap (λ b. b || list_any (same_row key) xs) not_x)
      | false ↦ λ e. ap (λ b. same_row key x || b) (any-others key row apart xs)
    ] refl

-- each row that is there is seen
pub any-first_seen : (key : Row) (rows : List Row) → list_any (same_row key) (first_seen rows) ≡ list_any (same_row key) rows
any-first_seen key [] = refl
any-first_seen key (x ∷ xs) =
    elim (same_row key x) as (λ t. same_row key x ≡ t → (t || list_any (same_row key) (others x (first_seen xs))) ≡ (t || list_any (same_row key) xs)) [
      | true ↦ λ e. refl
      | false ↦ λ e. any-others key x e (first_seen xs) ∙ any-first_seen key xs
    ] refl

all-filter : (P : Row → Type 0) (test : Row → Bool) (rows : List Row) → AllByRecursion P rows → AllByRecursion P (filter test rows)
all-filter P test [] h = tt
all-filter P test (x ∷ xs) h = elim (test x) as (λ b. AllByRecursion P (cond b (x ∷ filter test xs) (filter test xs))) [ true ↦ (h.0, all-filter P test xs h.1) | false ↦ all-filter P test xs h.1 ]

distinct-filter : (test : Row → Bool) (rows : List Row) → IsDistinct same_row rows → IsDistinct same_row (filter test rows)
unfolding IsDistinct
distinct-filter test [] d = tt
distinct-filter test (x ∷ xs) d = elim (test x) as (λ b. IsDistinct same_row (cond b (x ∷ filter test xs) (filter test xs))) [ true ↦ (all-filter (λ y. same_row x y ≡ false) test xs d.0, distinct-filter test xs d.1) | false ↦ distinct-filter test xs d.1 ]

all-others : (row : Row) (rows : List Row) → AllByRecursion (λ other. same_row row other ≡ false) (others row rows)
all-others row [] = tt
all-others row (x ∷ xs) =
    elim (same_row row x) as (λ t. same_row row x ≡ t → AllByRecursion (λ other. same_row row other ≡ false) (cond (not t) (x ∷ others row xs) (others row xs))) [
      | true ↦ λ e. all-others row xs
      | false ↦ λ e. (e, all-others row xs)
    ] refl

-- no row is seen twice
pub distinct-first_seen : (rows : List Row) → IsDistinct same_row (first_seen rows)
unfolding IsDistinct
distinct-first_seen [] = tt
distinct-first_seen (x ∷ xs) = (all-others x (first_seen xs), distinct-filter (λ other. not (same_row x other)) (first_seen xs) (distinct-first_seen xs))

-- what holds of each row holds of each that is seen
pub all-first_seen : (P : Row → Type 0) (rows : List Row) → AllByRecursion P rows → AllByRecursion P (first_seen rows)
all-first_seen P [] h = tt
all-first_seen P (x ∷ xs) h = (h.0, all-filter P (λ other. not (same_row x other)) (first_seen xs) (all-first_seen P xs h.1))

-- ---- the rows of a group

-- a group is among those of the rows exactly if it has one
size-there : (keys : ℕ) (group : Row) (rows : List Row) → list_any (same_row group) (map (take keys) rows) ≡ true → 0 < weigh (in_it keys group) rows
size-there keys group [] e = absurd (cc)
size-there keys group (x ∷ xs) e =
    elim (same_row group (take keys x)) as (λ t. (t || list_any (same_row group) (map (take keys) xs)) ≡ true → 0 < cond t 1 0 + weigh (in_it keys group) xs) [
      | true ↦ λ h. omega arith
      | false ↦ λ h. omega (arith, size-there keys group xs h)
    ] e

size-not_there : (keys : ℕ) (group : Row) (rows : List Row) → list_any (same_row group) (map (take keys) rows) ≡ false → weigh (in_it keys group) rows ≡ 0
size-not_there keys group [] e = refl
size-not_there keys group (x ∷ xs) e =
    elim (same_row group (take keys x)) as (λ t. (t || list_any (same_row group) (map (take keys) xs)) ≡ false → cond t 1 0 + weigh (in_it keys group) xs ≡ 0) [
      | true ↦ λ h. absurd (cc)
      | false ↦ λ h. omega (arith, size-not_there keys group xs h)
    ] e

wide_group : (keys : ℕ) (group : Row) (rows : List Row) → ((row : Row) → 0 < occurs row_cmp row rows → keys ≤ length row) → 0 < weigh (in_it keys group) rows → length group ≡ keys
wide_group keys group [] wide some = absurd (omega arith)
wide_group keys group (x ∷ xs) wide some =
    elim (same_row group (take keys x)) as (λ t. same_row group (take keys x) ≡ t → 0 < cond t 1 0 + weigh (in_it keys group) xs → length group ≡ keys) [
      | true ↦ λ e h. ap length (same_row-true _ _ e) ∙ length-take-le keys x (wide x (omega (arith, one_at_itself row_cmp row_total x)))
      | false ↦ λ e h. wide_group keys group xs (λ row there. wide row (omega arith)) (omega arith)
    ] refl some

-- a group that has a row has all its columns
pub group-wide : (keys : ℕ) (rows : Rows) (group : Row) → AreWide keys rows → 0 < group_size keys rows group → length group ≡ keys
group-wide keys rows group wide some = wide_group keys group (items rows) (λ row there. wide row (let e = copies-occurs rows row in omega arith)) some

-- ---- which rows are results

-- a group's result names the group
pub sized-front : (group row : Row) (size : ℕ) → sized group size ≡ Some row → (front row ≡ group) × (row ≡ counted group size)
sized-front group row size e =
    elim (size == 0) as (λ b. cond b None (Some (counted group size)) ≡ Some row → (front row ≡ group) × (row ≡ counted group size)) [
      | true ↦ λ q. absurd (cc)
      | false ↦ λ q. let same : row ≡ counted group size = cc in (ap front same ∙ front-push group _, same)
    ] e

pub one_of-some : (o : Option Row) (row : Row) → 0 < one_of o row → o ≡ Some row
one_of-some None row some = absurd (omega arith)
one_of-some (Some other) row some =
    elim (same_row row other) as (λ t. same_row row other ≡ t → 0 < cond t 1 0 → Some other ≡ Some row) [
      | true ↦ λ e h. ap Some (sym (same_row-true row other e))
      | false ↦ λ e h. absurd (omega arith)
    ] refl some

pub nothing_above : (n : ℕ) → (0 < n → ⊥) → n ≡ 0
nothing_above n h = elim (n == 0) as (λ b. (n == 0) ≡ b → n ≡ 0) [ true ↦ λ e. eqb-true n 0 e | false ↦ λ e. absurd (h (let apart = eqb-false n 0 e in omega arith)) ] refl

-- a row that doesn't name the group isn't its result
pub one_of-sized : (group row : Row) (size : ℕ) → front row ≢ group → one_of (sized group size) row ≡ 0
one_of-sized group row size apart = nothing_above _ (λ some. apart (sized-front group row size (one_of-some (sized group size) row some)).0)

-- a row stands among the results exactly if it is its group's
pub copies-count_groups : (keys : ℕ) (rows : Rows) (row : Row) → copies (count_groups keys rows) row ≡ one_of (result_row keys rows (front row)) row
copies-count_groups keys rows row =
    let key = front row in
    let groups = map (take keys) (items rows) in
    let f : Row → ℕ = λ group. one_at row_cmp row (counted group (group_size keys rows group)) in
    let elsewhere : (group : Row) → same_row key group ≡ false → f group ≡ 0 = λ group e.
    elim (same_row row (counted group (group_size keys rows group))) as (λ t. same_row row (counted group (group_size keys rows group)) ≡ t → cond {A = ℕ} t 1 0 ≡ 0) [
      | true ↦ λ t. absurd (
          let same : front row ≡ group = ap front (same_row-true _ _ t) ∙ front-push group _ in
          let itself = same_row-itself group in
          let at_group : same_row key group ≡ same_row group group = ap (λ k. same_row k group) same in
          cc)
      | false ↦ λ t. refl
    ] refl in
    copies-bag_of row_total (map (λ group. counted group (group_size keys rows group)) (first_seen groups)) row
    ∙ weigh-map (one_at row_cmp row) (λ group. counted group (group_size keys rows group)) (first_seen groups)
    ∙ weigh-first_seen f key elsewhere groups
    ∙ elim (list_any (same_row key) groups) as (λ b. list_any (same_row key) groups ≡ b → cond b (f key) 0 ≡ one_of (result_row keys rows key) row) [
      | true ↦ λ b. let some = size-there keys key (items rows) b in
          elim (group_size keys rows key == 0) as (λ z. (group_size keys rows key == 0) ≡ z → f key ≡ one_of (cond z None (Some (counted key (group_size keys rows key)))) row) [
            | true ↦ λ z. absurd (let e = eqb-true _ _ z in omega arith)
            | false ↦ λ z. refl
          ] refl
      | false ↦ λ b. let e : group_size keys rows key ≡ 0 = size-not_there keys key (items rows) b in rw e
    ] refl

-- no rows have no results
pub count_groups-none : (keys : ℕ) → count_groups keys none ≡ none
count_groups-none keys = ap (λ rows. bag_of (map (λ group. counted group (group_size keys none group)) (first_seen (map (take keys) rows)))) (items-none row_cmp)

pub result_row-none : (keys : ℕ) (group : Row) → result_row keys none group ≡ None
result_row-none keys group = ap (sized group) (total-none row_total (in_it keys group))

-- ---- the answer is there where each count is in range

all-countable : (keys : ℕ) (rows : Rows) → ((group : Row) → group_size keys rows group < 2 ^ 63) → (groups : List Row) → list_all (λ group. is_countable (group_size keys rows group)) groups ≡ true
all-countable keys rows small [] = refl
all-countable keys rows small (group ∷ groups) =
    ap (λ b. b && list_all (λ group. is_countable (group_size keys rows group)) groups) (lt-ltb _ _ (small group)) ∙ all-countable keys rows small groups

pub grouped_counts-countable : (keys : ℕ) (rows : Rows) → ((group : Row) → group_size keys rows group < 2 ^ 63) → grouped_counts keys rows ≡ Some (count_groups keys rows)
grouped_counts-countable keys rows small = ap (λ b. cond b (Some (count_groups keys rows)) None) (all-countable keys rows small (group_keys keys rows))
