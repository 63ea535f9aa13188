-- The tables that a plan may have.
use Rattle.std.specs.Prelude.{ℕ, ◌+◌, nat_le, Bool, true, false, not, ◌&&◌, List, [], ◌∷◌, length, map, slice_get, Option, Some, None}
use Rattle.std.specs.List.{list_all}
use Rattle.ct_field.specs.Numbers.{is_type}
use Rattle.ct_change.specs.declared.kind.Declared.{Declared}
use Rattle.ct_catalog.specs.Tables.{repeats}
use Rattle.ct_catalog.specs.declared.table.ColDef.{ColDef}
use Rattle.ct_catalog.specs.declared.table.TableDef.{TableDef}
use Rattle.ct_change.specs.Kinds.{is_upsert}

abbrev pub most_columns : ℕ
most_columns = 64

abbrev pub column_name : ColDef → List ℕ
column_name column = column.name

abbrev pub table_name : TableDef → List ℕ
table_name table = table.name

-- a column's type is one that columns have
abbrev pub has_type : ColDef → Bool
has_type column = is_type column.ty.ty

-- at most so many columns, no two of one name, each of a type that columns have
abbrev pub has_columns : TableDef → Bool
has_columns table = nat_le (length table.cols) most_columns && (not (repeats (map column_name table.cols)) && list_all has_type table.cols)

-- ---- keys

abbrev pub is_required_in : Option ColDef → Bool
is_required_in None = false
is_required_in (Some column) = not column.ty.nullable

-- a column that is there, and in which NULL may not stand
abbrev pub is_required : List ColDef → ℕ → Bool
is_required cols column = is_required_in (slice_get cols column)

-- each of these numbers is larger than the one before it, and none is smaller than this one
abbrev pub rise_from : ℕ → List ℕ → Bool
rise_from low [] = true
rise_from low (column ∷ columns) = nat_le low column && rise_from (column + 1) columns

-- columns that are there and never NULL, in the order of their positions, so that none stands twice
abbrev pub is_key : List ColDef → List ℕ → Bool
is_key cols key = list_all (is_required cols) key && rise_from 0 key

-- an upsert table has a key; another may have one
abbrev pub key_fits : Declared → List ColDef → Option (List ℕ) → Bool
key_fits mode cols None = not (is_upsert mode)
key_fits mode cols (Some key) = is_key cols key

-- ---- tables

abbrev pub is_declarable : TableDef → Bool
is_declarable table = has_columns table && key_fits table.mode table.cols table.key

-- tables that may be declared, no two of one name
abbrev pub are_tables : List TableDef → Bool
are_tables tables = list_all is_declarable tables && not (repeats (map table_name tables))
