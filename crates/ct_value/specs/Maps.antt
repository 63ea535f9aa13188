-- An ordered map of the program, seen as a finite map; and such a map by rows.
use Rattle.std.specs.declared.cmp.Ordering.{Ordering}
use Rattle.std.specs.BTreeMap.{BTreeMap}
use Rattle.std.specs.FinMap.{FinMap, from_entries}
use Rattle.ct_value.specs.Order.{row_cmp}
use Rattle.ct_value.specs.declared.row.Row.{Row}

module _ {K X : Type 0} (R : K → K → Ordering) where
  abbrev pub map_of : BTreeMap K X → FinMap R X
  map_of m = from_entries m.entries

module _ {X : Type 0} where
  abbrev pub map_in : BTreeMap Row X → FinMap row_cmp X
  map_in m = from_entries m.entries
