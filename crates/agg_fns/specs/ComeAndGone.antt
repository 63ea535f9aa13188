-- What is kept of values come and gone until their partial is made.
use Rattle.std.specs.Prelude.{◌≡◌, true}
use Rattle.ct_value.specs.Bag.{items, none}
use Rattle.ct_field.specs.Numbers.{has_38_digits}
use Rattle.rel_algebra.specs.declared.agg.AggCall.{AggCall}
use Rattle.rel_algebra.specs.declared.agg.AggCall.TheVariants.{CountAll, Count, Sum, Min, Max, Avg}
use Rattle.rel_algebra.specs.Aggregates.{Values, size, known}
use Rattle.agg_fns.specs.declared.local_acc.LocalAcc.{LocalAcc}
use Rattle.agg_fns.specs.declared.local_acc.LocalAcc.TheVariants.{RowCount as NetRows, ValueCount as NetValues, Total as NetTotal, Average as NetAverage, Least as LeastCome, Greatest as GreatestCome}
use Rattle.agg_fns.specs.declared.net_numbers.NetNumbers.{NetNumbers}
use Rattle.agg_fns.specs.Partial.{net, net_known, net_sum}
use Rattle.agg_fns.specs.Standing.{first_item, last_item}

-- how many more values that aren't NULL have come than gone, and by how much the sum has changed, in at most 38 digits
abbrev pub IsNetOf : NetNumbers → Values → Values → Type 0
IsNetOf numbers come gone = (numbers.count ≡ net_known come gone) × (numbers.sum ≡ net_sum come gone) × (has_38_digits numbers.sum ≡ true)

-- a local accumulator of a call stands for values come and gone; of MIN and MAX nothing has gone
abbrev pub StandsForBoth : AggCall → LocalAcc → Values → Values → Type 0
StandsForBoth call (NetRows count) come gone = (call ≡ CountAll) × (count ≡ net (size come) (size gone))
StandsForBoth call (NetValues count) come gone = (call ≡ Count) × (count ≡ net_known come gone)
StandsForBoth call (NetTotal numbers) come gone = (call ≡ Sum) × IsNetOf numbers come gone
StandsForBoth call (NetAverage numbers) come gone = (call ≡ Avg) × IsNetOf numbers come gone
StandsForBoth call (LeastCome kept) come gone = (call ≡ Min) × (gone ≡ none) × (kept ≡ first_item (items (known come)))
StandsForBoth call (GreatestCome kept) come gone = (call ≡ Max) × (gone ≡ none) × (kept ≡ last_item (items (known come)))
