-- What is made of a bag key by key, of each key and its rows.
use Rattle.std.specs.Prelude.{◌≢◌, ◌<◌, Option}
use Rattle.ct_value.specs.Bag.{copies}
use Rattle.ct_value.specs.declared.row.Row.{Row}
use Rattle.ct_change.specs.Changelog.{Rows, same_row}
use Rattle.rel_algebra.specs.Sums.{restrict, distinct, mapped, sum_over}

-- the rows that have a key
abbrev pub rows_of_key : (Row → Row) → Row → Rows → Rows
rows_of_key key_of key rows = restrict (λ row. same_row key (key_of row)) rows

-- the keys that occur, each once
abbrev pub keys_in : (Row → Row) → Rows → Rows
keys_in key_of rows = distinct (mapped key_of rows)

-- what f makes of each key and its rows, all together
abbrev pub by_key : (Row → Row) → (Row → Rows → Option Rows) → Rows → Option Rows
by_key key_of f rows = sum_over (λ key. f key (rows_of_key key_of key rows)) (keys_in key_of rows)

-- no row of one bag has the key of a row of the other
abbrev pub AreApart : (Row → Row) → Rows → Rows → Type 0
AreApart key_of rows others = (row other : Row) → 0 < copies rows row → 0 < copies others other → key_of row ≢ key_of other
