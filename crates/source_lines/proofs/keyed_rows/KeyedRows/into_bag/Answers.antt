use Rattle.std.proofs.Common.{◌≡◌, ℕ, List, Result, Ok, Err, OnOk, IfOk, subst, sym}
use Rattle.std.specs.BTreeMap.{BTreeMap, IsOrdered, values}
use Rattle.ct_value.specs.Bag.{copies, occurs}
use Rattle.ct_value.specs.Maps.{map_in}
use Rattle.ct_value.specs.Order.{row_cmp}
use Rattle.ct_value.specs.declared.row.Row.{Row}
use Rattle.ct_change.specs.Changelog.{Rows}
use Rattle.ct_change.specs.LastRows.{AreLast, Lasts}
use Rattle.source_lines.proofs.Values.{values_stand}
use Rattle.source_lines.proofs.keyed_rows.KeyedRows.into_bag.Goals as goal

standing : {E : Type 0} (m : BTreeMap Row Row) (seen : Lasts) → map_in m ≡ seen → (r : Result Rows E)
    → IfOk r (λ bag. (row : Row) → copies bag row ≡ occurs row_cmp row (values m)) → OnOk r (IsOrdered row_cmp m)
    → IfOk r (λ bag. (columns : List ℕ) (rows : Rows) → AreLast columns seen rows → bag ≡ rows)
standing m seen e (Ok bag) counted ordered = λ columns rows last. values_stand m columns rows bag ordered (subst (λ s. AreLast columns s rows) (sym e) last) counted
standing m seen e (Err fault) counted ordered = tt

pub returns : goal.returns
returns c = standing c.self.inside.rows c.args.self c.self.view_is c.bag_of.result c.bag_of.ensures.bag c.bag_of.ensures.ordered
