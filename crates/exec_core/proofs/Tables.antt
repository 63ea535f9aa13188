-- Changes of a table that may be declared can be spread by its columns, whose types exist.
use Rattle.std.specs.Prelude.{◌≡◌, ℕ, ◌+◌, ◌<◌, ◌≤◌, ◌&&◌, nat_le, not, List, length, map, Option, unwrap_or}
use Rattle.std.proofs.Common.{zero, suc, true, [], ◌∷◌, refl, sym, subst, arith, Some, None}
use Rattle.std.specs.List.{AllByRecursion, list_all}
use Rattle.std.proofs.lemmas.List.Elements.{All-from_recursion}
use Rattle.ct_value.specs.declared.ty.ColTy.{ColTy}
use Rattle.ct_catalog.specs.Tables.{repeats}
use Rattle.ct_catalog.specs.declared.table.ColDef.{ColDef}
use Rattle.ct_catalog.specs.declared.table.TableDef.{TableDef}
use Rattle.plan_rules.specs.Plans.{columns_from, spread_of}
use Rattle.ct_catalog.specs.Columns.{column_types}
use Rattle.plan_shape.specs.Tables.{column_name, has_columns, has_type, is_declarable, key_fits, most_columns}
use Rattle.typing_laws.specs.Exist.{Exist}
use Rattle.session_open.specs.Opening.{AreRoutable}
use Rattle.sound_plans.proofs.laws.Lists.{both, map_length}
use Rattle.sound_plans.proofs.laws.Tables.{key_within}

pub routable : (types : List ColTy) (columns : List ℕ) → AllByRecursion (λ column. column < length types) columns → Exist types → AreRoutable types columns
routable types columns within exist = record { within = All-from_recursion (λ column. column < length types) columns within; typed = All-from_recursion _ types exist }

from_within : (many start n : ℕ) → start + n ≤ many → AllByRecursion (λ column. column < many) (columns_from start n)
from_within many start zero le = tt
from_within many start (suc n) le = (omega (arith, le), from_within many (suc start) n (omega (arith, le)))

all_exist : (cols : List ColDef) → list_all has_type cols ≡ true → Exist (map (λ (col : ColDef). col.ty) cols)
all_exist [] fits = tt
all_exist (col ∷ cols) fits = let b = both (has_type col) (list_all has_type cols) fits in (b.0, all_exist cols b.1)

pub table_exists : (table : TableDef) → is_declarable table ≡ true → Exist (column_types table)
table_exists table made =
    let columns = (both (has_columns table) (key_fits table.mode table.cols table.key) made).0 in
    let others = (both (nat_le (length table.cols) most_columns) (not (repeats (map column_name table.cols)) && list_all has_type table.cols) columns).1 in
    all_exist table.cols (both (not (repeats (map column_name table.cols))) (list_all has_type table.cols) others).1

pub table_routable : (table : TableDef) → is_declarable table ≡ true → AreRoutable (column_types table) (spread_of table)
table_routable table made = routable (column_types table) (spread_of table) (by table.key refl) (table_exists table made)
  where
    by : (key : Option (List ℕ)) → table.key ≡ key → AllByRecursion (λ column. column < length (column_types table)) (unwrap_or key (columns_from 0 (length table.cols)))
    by None is = from_within (length (column_types table)) 0 (length table.cols) (let many = map_length (λ (col : ColDef). col.ty) table.cols in omega (arith, many))
    by (Some key) is = subst (λ (n : ℕ). AllByRecursion (λ column. column < n) key) (sym (map_length (λ (col : ColDef). col.ty) table.cols)) (key_within table key made is)
