-- The rows of a bag counted by group: the batch answer of `SELECT columns, COUNT(*) .. GROUP BY columns`.
use Rattle.std.specs.Prelude.{ℕ, pos, ◌≤◌, ◌<◌, Bool, cond, not, nat_lt, ◌==◌, ◌^◌, List, [], ◌∷◌, ◌++◌, length, Option, Some, None, map, take, filter}
use Rattle.std.specs.List.{list_all}
use Rattle.ct_value.specs.Bag.{copies, total, one_at, items, bag_of}
use Rattle.ct_value.specs.Order.{row_cmp}
use Rattle.ct_value.specs.declared.row.Row.{Row}
use Rattle.ct_value.specs.declared.value.Value.{Value}
use Rattle.ct_value.specs.declared.value.Value.TheVariants.{Num}
use Rattle.ct_change.specs.Changelog.{Rows, same_row}
use Rattle.rel_algebra.specs.declared.agg.Agg.{Agg}
use Rattle.rel_algebra.specs.declared.agg.AggCall.TheVariants.{CountAll}

-- each row of a list once, in first-seen order
abbrev pub first_seen : List Row → List Row
first_seen [] = []
first_seen (row ∷ rows) = row ∷ filter (λ other. not (same_row row other)) (first_seen rows)

-- whether a row is of a group, which its first `keys` columns name
abbrev pub in_group : ℕ → Row → Row → Bool
in_group keys group row = same_row group (take keys row)

-- 1 for a row of the group, and 0 for others
abbrev pub in_it : ℕ → Row → Row → ℕ
in_it keys group row = cond (in_group keys group row) 1 0

-- how many rows of the group stand
abbrev pub group_size : ℕ → Rows → Row → ℕ
group_size keys rows group = total (in_it keys group) rows

-- each row has the columns that name its group
abbrev pub AreWide : ℕ → Rows → Type 0
AreWide keys rows = (row : Row) → 0 < copies rows row → keys ≤ length row

-- the group's columns and its count
abbrev pub counted : Row → ℕ → Row
counted group size = group ++ Num (pos size) ∷ []

-- the result of a group of this size, and none where it has no row
abbrev pub sized : Row → ℕ → Option Row
sized group size = cond (size == 0) None (Some (counted group size))

-- all but the last value, this value being before the others
abbrev pub front_of : Value → Row → Row
front_of x [] = []
front_of x (y ∷ ys) = x ∷ front_of y ys

-- all but the last value: the group that a result names
abbrev pub front : Row → Row
front [] = []
front (x ∷ xs) = front_of x xs

-- 1 if the row is this one
abbrev pub one_of : Option Row → Row → ℕ
one_of None row = 0
one_of (Some other) row = one_at row_cmp row other

-- a group's result
abbrev pub result_row : ℕ → Rows → Row → Option Row
result_row keys rows group = sized group (group_size keys rows group)

-- the groups that have a row
abbrev pub group_keys : ℕ → Rows → List Row
group_keys keys rows = first_seen (map (take keys) (items rows))

-- each group's result
abbrev pub count_groups : ℕ → Rows → Rows
count_groups keys rows = bag_of (map (λ group. counted group (group_size keys rows group)) (group_keys keys rows))

-- a count has to be a BIGINT
abbrev pub is_countable : ℕ → Bool
is_countable size = nat_lt size (2 ^ 63)

-- each group's result, and none where a count is out of range
abbrev pub grouped_counts : ℕ → Rows → Option Rows
grouped_counts keys rows = cond (list_all (λ group. is_countable (group_size keys rows group)) (group_keys keys rows)) (Some (count_groups keys rows)) None

-- the call `COUNT(*)` without a filter
abbrev pub count_all : Agg
count_all = record { call = CountAll; arg = None; filter = None }
