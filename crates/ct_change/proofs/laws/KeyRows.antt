-- A key row has the values of the key and of what lies in it, and nothing is left to take from it.
use Rattle.std.proofs.Common.{◌≡◌, ℕ, zero, suc, ◌+◌, ◌==◌, Bool, true, false, cond, ◌||◌, List, [], ◌∷◌, length, slice_index_or, refl, sym, ap, ◌∙◌, arith}
use Rattle.std.specs.List.{find, AllByRecursion}
use Rattle.std.proofs.lemmas.Bool.{eq-eqb}
use Rattle.ct_value.specs.Bag.{items}
use Rattle.ct_value.specs.Rows.{project}
use Rattle.ct_value.specs.declared.value.Value.{Value}
use Rattle.ct_value.specs.declared.value.Value.TheVariants.{Null}
use Rattle.ct_value.specs.declared.row.Row.{Row}
use Rattle.ct_change.specs.Changelog.{Mode, append, retract, upsert, Rows, row_at, same_row}
use Rattle.ct_change.specs.KeyRows.{is_among, keyed_from, key_row, IsKeyRow, deleted, row_told}

both_null : (b : Bool) → cond b Null Null ≡ Null
both_null true = refl
both_null false = refl

cell_from : (key : List ℕ) (from : ℕ) (row : List Value) (n : ℕ) → slice_index_or (keyed_from key from row) n Null ≡ cond (is_among key (from + n)) (slice_index_or row n Null) Null
cell_from key from [] n = sym (both_null (is_among key (from + n)))
cell_from key from (v ∷ vs) zero = let e : from + 0 ≡ from = omega arith in ap (λ m. cond (is_among key m) v Null) (sym e)
cell_from key from (v ∷ vs) (suc n) = let e : suc from + n ≡ from + suc n = omega arith in cell_from key (suc from) vs n ∙ ap (λ m. cond (is_among key m) (slice_index_or vs n Null) Null) e

-- the value of a column, NULL outside the key
pub cell-key_row : (key : List ℕ) (row : Row) (column : ℕ) → slice_index_or (key_row key row) column Null ≡ cond (is_among key column) (slice_index_or row column Null) Null
cell-key_row key row column = let e : 0 + column ≡ column = omega arith in cell_from key 0 row column ∙ ap (λ m. cond (is_among key m) (slice_index_or row column Null) Null) e

-- columns of the key keep their values
pub columns_stay : (key : List ℕ) (row : Row) (columns : List ℕ) → AllByRecursion (λ c. is_among key c ≡ true) columns → project columns (key_row key row) ≡ project columns row
columns_stay key row [] all = refl
columns_stay key row (c ∷ columns) all =
    let here : slice_index_or (key_row key row) c Null ≡ slice_index_or row c Null = cell-key_row key row c ∙ ap (λ b. cond b (slice_index_or row c Null) Null) all.0 in
    (λ i. here i ∷ columns_stay key row columns all.1 i)

more_among : (k : ℕ) (key columns : List ℕ) → AllByRecursion (λ c. is_among key c ≡ true) columns → AllByRecursion (λ c. is_among (k ∷ key) c ≡ true) columns
more_among k key [] all = tt
more_among k key (c ∷ columns) all = (elim (k == c) as (λ b. (b || is_among key c) ≡ true) [ true ↦ refl | false ↦ all.0 ], more_among k key columns all.1)

own_among : (key : List ℕ) → AllByRecursion (λ c. is_among key c ≡ true) key
own_among [] = tt
own_among (k ∷ key) = let same : (k == k) ≡ true = eq-eqb k k refl in (ap (λ b. b || is_among key k) same, more_among k key key (own_among key))

-- the key itself stays
pub key_stays : (key : List ℕ) (row : Row) → project key (key_row key row) ≡ project key row
key_stays key row = columns_stay key row key (own_among key)

twice : (b : Bool) (v : Value) → cond b (cond b v Null) Null ≡ cond b v Null
twice true v = refl
twice false v = refl

keyed_twice : (key : List ℕ) (from : ℕ) (row : List Value) → keyed_from key from (keyed_from key from row) ≡ keyed_from key from row
keyed_twice key from [] = refl
keyed_twice key from (v ∷ vs) = (λ i. twice (is_among key from) v i ∷ keyed_twice key (suc from) vs i)

pub is_key_row : (key : List ℕ) (row : Row) → IsKeyRow key (key_row key row)
is_key_row key row = keyed_twice key 0 row

length_from : (key : List ℕ) (from : ℕ) (row : List Value) → length (keyed_from key from row) ≡ length row
length_from key from [] = refl
length_from key from (v ∷ vs) = ap suc (length_from key (suc from) vs)

pub length-key_row : (key : List ℕ) (row : Row) → length (key_row key row) ≡ length row
length-key_row key row = length_from key 0 row

-- ---- by the mode

-- what stands with the key of a row, stands with that of its key row
pub row_at-key_row : (rows : Rows) (key : List ℕ) (row : Row) → row_at rows key (key_row key row) ≡ row_at rows key row
row_at-key_row rows key row = ap (λ (k : Row). find (λ other. same_row k (project key other)) (items rows)) (key_stays key row)

pub length-deleted : (mode : Mode) (row : Row) → length (deleted mode row) ≡ length row
length-deleted append row = refl
length-deleted retract row = refl
length-deleted (upsert key) row = length-key_row key row

pub length-told : (mode : Mode) (b : Bool) (row : Row) → length (row_told mode b row) ≡ length row
length-told mode true row = refl
length-told mode false row = length-deleted mode row

pub key-told : (key : List ℕ) (b : Bool) (row : Row) → project key (row_told (upsert key) b row) ≡ project key row
key-told key true row = refl
key-told key false row = key_stays key row
