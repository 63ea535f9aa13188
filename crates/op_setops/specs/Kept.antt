-- The rows of both inputs that a set operation keeps.
use Rattle.std.specs.Prelude.{◌≡◌, ◌≤◌, List, length}
use Rattle.ct_value.specs.Bag.{copies}
use Rattle.ct_value.specs.declared.row.Row.{Row}
use Rattle.ct_change.specs.Changelog.{Rows}
use Rattle.ct_change.specs.declared.change.Change.{Change}
use Rattle.op_rules.specs.History.{Arrival}
use Rattle.emission_rules.specs.SetOps.{SetOperation, number_in, rows_of_port, told_by_numbers}

-- those that stand after these arrivals, no row oftener than changes came
pub record AreRows (left right : Rows) (before : List Arrival) : Type 0 where
  pub lefts : left ≡ rows_of_port 0 before
  pub rights : right ≡ rows_of_port 1 before
  pub few_left : (row : Row) → copies left row ≤ length before
  pub few_right : (row : Row) → copies right row ≤ length before

-- what is told of a row, by the rows of both inputs before and after a change
abbrev pub told_between : SetOperation → Rows → Rows → Rows → Rows → Row → List Change
told_between op left right new_left new_right row = told_by_numbers (number_in op left right row) (number_in op new_left new_right row) row
