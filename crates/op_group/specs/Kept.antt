-- What is kept of a group, and what it is for rows of which one gives way to another.
use Rattle.std.specs.Prelude.{◌≡◌, ◌<◌, ◌+◌, ◌^◌, ◌==◌, ◌||◌, ◌&&◌, ◌++◌, not, ℕ, Bool, true, cond, List, map, Option, Some, None, option_map, is_some}
use Rattle.std.specs.List.{list_all, AllByRecursion}
use Rattle.ct_value.specs.Bag.{copies, add, remove}
use Rattle.ct_value.specs.declared.row.Row.{Row}
use Rattle.ct_value.specs.declared.ty.Ty.{Ty}
use Rattle.ct_value.specs.declared.ty.ColTy.{ColTy}
use Rattle.ct_value.specs.declared.value.Value.{Value}
use Rattle.ct_change.specs.Changelog.{Rows}
use Rattle.ct_change.specs.Emission.{replaced}
use Rattle.rel_algebra.specs.declared.agg.Agg.{Agg}
use Rattle.rel_algebra.specs.declared.agg.AggCall.{AggCall}
use Rattle.rel_algebra.specs.Aggregates.{Values, values_of, type_in, ty_or_bigint, agg_results, sum_fits}
use Rattle.agg_fns.specs.declared.acc.Acc.{Acc}
use Rattle.agg_fns.specs.Picked.{picked}
use Rattle.agg_fns.specs.Standing.{StandsFor, retracts}
use Rattle.emission_rules.specs.Grouping.{row_count}
use Rattle.op_group.specs.declared.counter.Counter.{Counter}
use Rattle.op_group.specs.declared.kept.Kept.{Kept}

-- values without one, and with another
abbrev pub shifted : Values → Option Value → Option Value → Values
shifted values None None = values
shifted values None (Some fresh) = add values fresh
shifted values (Some old) None = remove values old
shifted values (Some old) (Some fresh) = add (remove values old) fresh

-- the value stands, if there is one
abbrev pub HasValue : Values → Option Value → Type 0
HasValue values None = Unit {0}
HasValue values (Some value) = 0 < copies values value

-- the row stands, if there is one
abbrev pub HasRow : Rows → Option Row → Type 0
HasRow rows None = Unit {0}
HasRow rows (Some row) = 0 < copies rows row

-- the type of a call's argument among these columns
abbrev pub type_among : List ColTy → Agg → Ty
type_among columns agg = ty_or_bigint (type_in columns agg.arg)

-- a counter stands for rows of these columns
abbrev pub Stands : List ColTy → Rows → Counter → Type 0
Stands columns rows counter = StandsFor counter.agg.call (type_among columns counter.agg) counter.acc (values_of counter.agg rows)

abbrev pub AllStand : List ColTy → Rows → List Counter → Type 0
AllStand columns rows counters = AllByRecursion (Stands columns rows) counters

-- rows can be removed from each
abbrev pub AllRetract : List Counter → Type 0
AllRetract counters = AllByRecursion (λ counter. retracts counter.acc ≡ true) counters

abbrev pub calls : List Counter → List Agg
calls counters = map (λ counter. counter.agg) counters

-- whether the sums of calls over rows are within their limits
abbrev pub all_fit : List ColTy → List Agg → Rows → Bool
all_fit columns aggs rows = list_all (λ agg. sum_fits agg.call (type_among columns agg) (values_of agg rows)) aggs

-- what is kept of a group stands for its rows
pub record IsKept (columns : List ColTy) (aggs : List Agg) (kept : Kept) (rows : Rows) : Type 0 where
  pub count : kept.rows ≡ row_count rows
  pub calls_are : calls kept.counters.items ≡ aggs
  pub stand : AllStand columns rows kept.counters.items

-- the row of a group with these rows, none where it has none: all rows, of no key columns, always have one
abbrev pub row_in : ℕ → List ColTy → List Agg → Row → Rows → Option Row
row_in keys columns aggs key rows = cond ((keys == 0) || not (row_count rows == 0)) (option_map (λ values. key ++ values) (agg_results columns aggs rows)) None

-- whether all calls have results over rows
abbrev pub all_counted : List ColTy → List Agg → Rows → Bool
all_counted columns aggs rows = is_some (agg_results columns aggs rows)

-- what is kept of a group, if anything is, stands for its rows; nothing is of a group without rows
abbrev pub KeptAt : List ColTy → List Agg → Bool → Rows → Option Kept → Type 0
KeptAt columns aggs retracting rows None = row_count rows ≡ 0
KeptAt columns aggs retracting rows (Some kept) = IsKept columns aggs kept rows × (retracting ≡ true → AllRetract kept.counters.items)

-- whether the sums and the calls over rows are in range
abbrev pub is_in_range : List ColTy → List Agg → Rows → Bool
is_in_range columns aggs rows = all_fit columns aggs rows && all_counted columns aggs rows

-- ---- the rows of a group before and after one goes and another comes

-- the calls of a group
abbrev pub calls_of : Kept → List Agg
calls_of kept = calls kept.counters.items

-- what is kept of a group stands for some rows
abbrev pub IsOfSome : Kept → Type 0
IsOfSome kept = (columns : List ColTy) × (rows : Rows) × IsKept columns (calls_of kept) kept rows

-- so it is of all rows for which what is kept stands
abbrev pub ForRows : Kept → (List ColTy → Rows → Type 0) → Type 0
ForRows kept P = (columns : List ColTy) (rows : Rows) → IsKept columns (calls_of kept) kept rows → P columns rows

-- what is kept of a group stands for some rows, of which one may go, and there is room for another
abbrev pub MayShift : Kept → Option Row → Type 0
MayShift kept gone = (columns : List ColTy) × (rows : Rows) × IsKept columns (calls_of kept) kept rows × HasRow rows gone × (row_count rows + 1 < 2 ^ 63)

-- so it is of all rows for which what is kept stands, and of these after one went and another came
abbrev pub ForShifted : Kept → Option Row → Option Row → (List ColTy → Rows → Rows → Type 0) → Type 0
ForShifted kept gone come P = (columns : List ColTy) (rows : Rows) → IsKept columns (calls_of kept) kept rows → HasRow rows gone → P columns rows (replaced rows gone come)

-- the same of rows for which counters stand
abbrev pub ForCounted : List Counter → Option Row → Option Row → (List ColTy → Rows → Rows → Type 0) → Type 0
ForCounted counters gone come P = (columns : List ColTy) (rows : Rows) → AllStand columns rows counters → HasRow rows gone → P columns rows (replaced rows gone come)

-- ---- the values of a call before and after one goes and another comes

-- so it is of all values for which an accumulator of a call stands, and of these after one went and another came
abbrev pub ForValues : AggCall → Acc → Option Value → Option Value → (Ty → Values → Values → Type 0) → Type 0
ForValues call acc gone come P = (ty : Ty) (values : Values) → StandsFor call ty acc values → HasValue values gone → P ty values (shifted values gone come)

-- the same of what rows have for a counter's call
abbrev pub ForPicked : Counter → Option Row → Option Row → (Ty → Values → Values → Type 0) → Type 0
ForPicked counter gone come P = ForValues counter.agg.call counter.acc (picked counter.agg gone) (picked counter.agg come) P
