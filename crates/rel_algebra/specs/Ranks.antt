-- Top-N: the rank order of rows, and the first rows of each partition in it.
use Rattle.std.specs.Prelude.{ℕ, suc, pos, Bool, true, false, cond, List, [], ◌∷◌, ◌++◌, map, take, Option, Some}
use Rattle.std.specs.declared.cmp.Ordering.{Ordering}
use Rattle.std.specs.Ordering.{then_cmp, on, flip_args}
use Rattle.ct_value.specs.Bag.{items, bag_of}
use Rattle.ct_value.specs.Order.{value_cmp, row_cmp}
use Rattle.ct_value.specs.Rows.{project}
use Rattle.ct_value.specs.declared.row.Row.{Row}
use Rattle.ct_value.specs.declared.ty.ColTy.{ColTy}
use Rattle.ct_value.specs.declared.ty.Ty.TheVariants.{BigInt}
use Rattle.ct_value.specs.declared.value.Value.{Value}
use Rattle.ct_value.specs.declared.value.Value.TheVariants.{Num}
use Rattle.ct_change.specs.Changelog.{Rows}
use Rattle.rel_algebra.specs.declared.sort.SortCol.{SortCol}
use Rattle.ct_field.specs.Typed.{cell}
use Rattle.rel_algebra.specs.Keys.{by_key}

-- DESC turns the whole comparison of its column round
abbrev pub directed : Bool → Value → Value → Ordering
directed true = flip_args value_cmp
directed false = value_cmp

abbrev pub sort_cmp : SortCol → Row → Row → Ordering
sort_cmp sort = on (cell sort.col) (directed sort.desc)

-- by each sort column in turn, with NULL lowest, and then by the whole row
abbrev pub rank_cmp : List SortCol → Row → Row → Ordering
rank_cmp [] = row_cmp
rank_cmp (sort ∷ sorts) = then_cmp (sort_cmp sort) (rank_cmp sorts)

-- the rows in rank order, each copy by itself
abbrev pub in_rank_order : List SortCol → Rows → List Row
in_rank_order sorts rows = items (bag_of {R = rank_cmp sorts} (items rows))

-- rows with their ranks: each rank is one more than that of the copy before it
abbrev pub ranked_from : ℕ → List Row → List (Row × ℕ)
ranked_from rank [] = []
ranked_from rank (row ∷ rows) = (row, rank) ∷ ranked_from (suc rank) rows

-- a row, with its rank as the last column where that is kept
abbrev pub shown : Bool → Row × ℕ → Row
shown ranked entry = cond ranked (entry.0 ++ Num (pos entry.1) ∷ []) entry.0

-- the first rows of one partition, at most `bound` of them
abbrev pub first_rows : List SortCol → ℕ → Bool → Rows → Rows
first_rows sorts bound ranked members = bag_of (map (shown ranked) (take bound (ranked_from 1 (in_rank_order sorts members))))

-- the first rows of each partition, which these columns name; never out of range
abbrev pub rank_rows : List ℕ → List SortCol → ℕ → Bool → Rows → Option Rows
rank_rows partition sorts bound ranked rows = by_key (project partition) (λ key members. Some (first_rows sorts bound ranked members)) rows

-- the rank's column
abbrev pub rank_column : ColTy
rank_column = record { ty = BigInt; nullable = false }

abbrev pub rank_columns : Bool → List ColTy → List ColTy
rank_columns ranked columns = cond ranked (columns ++ rank_column ∷ []) columns
