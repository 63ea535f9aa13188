-- Rows of types: put side by side, cut, padded, and column by column.
use Rattle.std.proofs.Common.{◌≡◌, ℕ, zero, suc, Bool, true, false, not, ◌&&◌, ◌||◌, List, [], ◌∷◌, ◌++◌, map, length, take, Some, refl, sym, ap, ◌∙◌}
use Rattle.std.specs.Prelude.{slice_get}
use Rattle.ct_value.specs.declared.row.Row.{Row}
use Rattle.ct_value.specs.declared.ty.Ty.{Ty}
use Rattle.ct_value.specs.declared.ty.ColTy.{ColTy}
use Rattle.ct_value.specs.declared.value.Value.{Value}
use Rattle.ct_field.specs.Typed.{value_fits, is_null, col_fits, cell}
use Rattle.rel_algebra.specs.Clauses.{Fits}
use Rattle.rel_algebra.specs.Joins.{nulls, nullable_if}

pub first : (a b : Bool) → (a && b) ≡ true → a ≡ true
first true b e = refl
first false b e = e

pub second : (a b : Bool) → (a && b) ≡ true → b ≡ true
second true b e = e
second false b e = absurd (cc)

pub both : (a b : Bool) → a ≡ true → b ≡ true → (a && b) ≡ true
both true b e f = f
both false b e f = e

pub fits-append : (columns others : List ColTy) (row other : Row) → Fits columns row → Fits others other → Fits (columns ++ others) (row ++ other)
fits-append [] others [] other h k = k
fits-append [] others (value ∷ row) other h k = absurd (cc)
fits-append (column ∷ columns) others [] other h k = absurd (cc)
fits-append (column ∷ columns) others (value ∷ row) other h k = both (col_fits column value) _ (first (col_fits column value) _ h) (fits-append columns others row other (second (col_fits column value) _ h) k)

pub fits-take : (n : ℕ) (columns : List ColTy) (row : Row) → Fits columns row → Fits (take n columns) (take n row)
fits-take zero columns row h = refl
fits-take (suc n) [] [] h = refl
fits-take (suc n) [] (value ∷ row) h = absurd (cc)
fits-take (suc n) (column ∷ columns) [] h = absurd (cc)
fits-take (suc n) (column ∷ columns) (value ∷ row) h = both (col_fits column value) _ (first (col_fits column value) _ h) (fits-take n columns row (second (col_fits column value) _ h))

-- a column that may hold NULL holds what one of its type holds
pub fits_nullable : (ty : Ty) (nullable : Bool) (value : Value) → (value_fits ty value && (nullable || not (is_null value))) ≡ true → (value_fits ty value && true) ≡ true
fits_nullable ty nullable value h = both (value_fits ty value) true (first (value_fits ty value) _ h) refl

fits-nullable_if : (may : Bool) (column : ColTy) (value : Value) → col_fits column value ≡ true → col_fits (nullable_if may column) value ≡ true
fits-nullable_if true column value h = fits_nullable column.ty column.nullable value h
fits-nullable_if false column value h = h

pub fits-map-nullable_if : (may : Bool) (columns : List ColTy) (row : Row) → Fits columns row → Fits (map (nullable_if may) columns) row
fits-map-nullable_if may [] row h = h
fits-map-nullable_if may (column ∷ columns) [] h = absurd (cc)
fits-map-nullable_if may (column ∷ columns) (value ∷ row) h = both (col_fits (nullable_if may column) value) _ (fits-nullable_if may column value (first (col_fits column value) _ h)) (fits-map-nullable_if may columns row (second (col_fits column value) _ h))

pub fits-nulls : (columns : List ColTy) → Fits (map (nullable_if true) columns) (nulls (length columns))
fits-nulls [] = refl
fits-nulls (column ∷ columns) = fits-nulls columns

-- the value of a column that is there
pub fits-cell : (columns : List ColTy) (row : Row) (n : ℕ) (column : ColTy) → Fits columns row → slice_get columns n ≡ Some column → col_fits column (cell n row) ≡ true
fits-cell [] row n column h e = absurd (cc)
fits-cell (other ∷ columns) [] n column h e = absurd (cc)
fits-cell (other ∷ columns) (value ∷ row) zero column h e = let i : other ≡ column = cc in ap (λ c. col_fits c value) (sym i) ∙ first (col_fits other value) _ h
fits-cell (other ∷ columns) (value ∷ row) (suc n) column h e = fits-cell columns row n column (second (col_fits other value) _ h) e

-- as many values as columns
pub fits-length : (columns : List ColTy) (row : Row) → Fits columns row → length row ≡ length columns
fits-length [] [] h = refl
fits-length [] (value ∷ row) h = absurd (cc)
fits-length (column ∷ columns) [] h = absurd (cc)
fits-length (column ∷ columns) (value ∷ row) h = ap suc (fits-length columns row (second (col_fits column value) _ h))
