-- Grouping: each group's key with its results.
use Rattle.std.specs.Prelude.{ℕ, zero, suc, ◌==◌, nat_le, cond, List, ◌++◌, length, take, Option, None, option_map}
use Rattle.ct_value.specs.declared.row.Row.{Row}
use Rattle.ct_value.specs.declared.ty.ColTy.{ColTy}
use Rattle.ct_change.specs.Changelog.{Rows}
use Rattle.rel_algebra.specs.declared.agg.Agg.{Agg}
use Rattle.rel_algebra.specs.Aggregates.{agg_types}
use Rattle.rel_algebra.specs.Sums.{one}
use Rattle.rel_algebra.specs.Keys.{by_key}

-- a row for each group that has rows, which the first `keys` columns name: the key, then the results over the group's rows.
-- Without key columns all rows are one group, which has its row also where there are none.
abbrev pub group_rows : ℕ → (Rows → Option Row) → Rows → Option Rows
group_rows zero results rows = option_map one (results rows)
group_rows (suc keys) results rows = by_key (take (suc keys)) (λ key members. option_map (λ values. one (key ++ values)) (results members)) rows

-- the key's columns, then the calls'; none where one of them has no type or a key column isn't there
abbrev pub group_columns : ℕ → List ColTy → List Agg → Option (List ColTy)
group_columns keys columns aggs = cond (nat_le keys (length columns)) (option_map (λ results. take keys columns ++ results) (agg_types columns (keys == 0) aggs)) None
