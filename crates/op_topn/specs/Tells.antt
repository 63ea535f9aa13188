-- What a mode can tell of first rows, rank by rank; and lists that are walked a row at a time.
use Rattle.std.specs.Prelude.{◌≡◌, ℕ, suc, Bool, false, cond, T, List, [], ◌∷◌, Option, Some, None, option_map}
use Rattle.std.specs.Ordering.{is_lt}
use Rattle.ct_value.specs.Bag.{in_order}
use Rattle.ct_value.specs.declared.row.Row.{Row}
use Rattle.ct_change.specs.Changelog.{Mode, same_row}
use Rattle.ct_change.specs.Emission.{CanTell}
use Rattle.rel_algebra.specs.declared.sort.SortCol.{SortCol}
use Rattle.rel_algebra.specs.Ranks.{rank_cmp, shown}

-- a row of this rank as it is shown, if there is one
abbrev pub shown_at : Bool → ℕ → Option Row → Option Row
shown_at ranked rank row = option_map (λ row. shown ranked (row, rank)) row

-- the mode can tell that each rank's old row gives way to its new one
abbrev pub CanTellFrom : Mode → Bool → ℕ → List Row → List Row → Type 0
CanTellFrom mode ranked rank [] [] = Unit {0}
CanTellFrom mode ranked rank [] (new ∷ news) = CanTell mode None (shown_at ranked rank (Some new)) × CanTellFrom mode ranked (suc rank) [] news
CanTellFrom mode ranked rank (old ∷ olds) [] = CanTell mode (shown_at ranked rank (Some old)) None × CanTellFrom mode ranked (suc rank) olds []
CanTellFrom mode ranked rank (old ∷ olds) (new ∷ news) = CanTell mode (shown_at ranked rank (Some old)) (shown_at ranked rank (Some new)) × CanTellFrom mode ranked (suc rank) olds news

-- the first row of a list, if it has one, and the others
abbrev pub IsNext : List Row → Option Row → List Row → Type 0
IsNext rows None others = (rows ≡ []) × (others ≡ [])
IsNext rows (Some row) others = rows ≡ row ∷ others

-- of rows in rank order, those from a row on
abbrev pub past : List SortCol → Row → List Row → List Row
past order row [] = []
past order row (other ∷ others) = cond (is_lt (rank_cmp order other row)) (past order row others) (other ∷ others)

-- whether the row is the first of a list
abbrev pub heads : Row → List Row → Bool
heads row [] = false
heads row (other ∷ others) = same_row row other

-- the rows stand in rank order
abbrev pub AreRanked : List SortCol → List Row → Type 0
AreRanked order rows = T (in_order (rank_cmp order) rows)
