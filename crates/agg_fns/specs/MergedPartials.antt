-- What is kept of partials that are merged.
use Rattle.std.specs.Prelude.{◌≡◌, true, List}
use Rattle.ct_value.specs.Bag.{items}
use Rattle.ct_value.specs.declared.ty.Ty.{Ty}
use Rattle.ct_value.specs.declared.value.Value.{Value}
use Rattle.ct_field.specs.Numbers.{has_38_digits}
use Rattle.rel_algebra.specs.declared.agg.AggCall.{AggCall}
use Rattle.rel_algebra.specs.declared.agg.AggCall.TheVariants.{CountAll, Count, Sum, Min, Max, Avg}
use Rattle.rel_algebra.specs.Aggregates.{known, sum_of}
use Rattle.agg_fns.specs.declared.merge_acc.MergeAcc.{MergeAcc}
use Rattle.agg_fns.specs.declared.merge_acc.MergeAcc.TheVariants.{RowCount as MergedRows, ValueCount as MergedValues, Total as MergedTotal, Average as MergedAverage, Least as MergedLeast, Greatest as MergedGreatest}
use Rattle.agg_fns.specs.declared.merged_numbers.MergedNumbers.{MergedNumbers}
use Rattle.agg_fns.specs.Partial.{column_of}
use Rattle.agg_fns.specs.Standing.{first_item, last_item}

-- the sums of the two columns of partials of calls on a type
abbrev pub AreSumsOf : Ty → MergedNumbers → List (List Value) → Type 0
AreSumsOf ty numbers rows = (numbers.ty ≡ ty) × (numbers.count ≡ sum_of (column_of 0 rows)) × (numbers.sum ≡ sum_of (column_of 1 rows))

-- a merging accumulator of a call on a type stands for partials, which may have more columns behind those of the call: it keeps the sum of
-- each column, or its least or greatest value that isn't NULL
abbrev pub StandsForPartials : AggCall → Ty → MergeAcc → List (List Value) → Type 0
StandsForPartials call ty (MergedRows count) rows = (call ≡ CountAll) × (count ≡ sum_of (column_of 0 rows))
StandsForPartials call ty (MergedValues count) rows = (call ≡ Count) × (count ≡ sum_of (column_of 0 rows))
StandsForPartials call ty (MergedTotal numbers) rows = (call ≡ Sum) × AreSumsOf ty numbers rows
StandsForPartials call ty (MergedAverage numbers) rows = (call ≡ Avg) × AreSumsOf ty numbers rows × (has_38_digits numbers.sum ≡ true)
StandsForPartials call ty (MergedLeast kept) rows = (call ≡ Min) × (kept ≡ first_item (items (known (column_of 0 rows))))
StandsForPartials call ty (MergedGreatest kept) rows = (call ≡ Max) × (kept ≡ last_item (items (known (column_of 0 rows))))
