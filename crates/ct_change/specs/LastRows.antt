-- The last row of each key, as it stands for the rows of an upsert changelog.
use Rattle.std.specs.Prelude.{◌≡◌, ℕ, ◌≤◌, Bool, cond, List}
use Rattle.std.specs.FinMap as map
use Rattle.std.specs.List.{find}
use Rattle.ct_value.specs.Bag.{items, total}
use Rattle.ct_value.specs.Order.{row_cmp}
use Rattle.ct_value.specs.Rows.{project}
use Rattle.ct_value.specs.declared.row.Row.{Row}
use Rattle.ct_change.specs.declared.change.Change.{Change}
use Rattle.ct_change.specs.Changelog.{Rows, adds, same_row}

-- a map from keys to rows
abbrev pub Lasts : Type 0
Lasts = map.FinMap row_cmp Row

-- whether a row has this key
abbrev pub has_key : List ℕ → Row → Row → Bool
has_key columns key row = same_row key (project columns row)

-- the map has each key's row, and no key has two
pub record AreLast (columns : List ℕ) (kept : Lasts) (rows : Rows) : Type 0 where
  pub found : (key : Row) → find (has_key columns key) (items rows) ≡ map.get kept key
  pub once : (key : Row) → total (λ row. cond (has_key columns key row) 1 0) rows ≤ 1

-- the map after a change: its key's row is set where it adds, and gone where it removes
abbrev pub last_after : List ℕ → Lasts → Change → Lasts
last_after columns kept change = let key = project columns change.row in cond (adds change.kind) (map.insert kept key change.row) (map.remove kept key)
