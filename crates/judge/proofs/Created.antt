-- A table that isn't refused has types that exist, and the columns of its key.
use Rattle.std.proofs.Common.{◌≡◌, ◌≤◌, ◌<◌, ◌+◌, ℕ, suc, Bool, true, false, ◌&&◌, List, [], ◌∷◌, length, Option, Some, None, refl, ap, arith}
use Rattle.std.specs.Prelude.{◌||◌, not, nat_le, nat_lt, is_none, option_map, unwrap_or, if◌then◌else◌, codes}
use Rattle.std.specs.List.{AllByRecursion}
use Rattle.std.specs.Str.{all_ascii_digits, str_eq_ignore_ascii_case}
use Rattle.std.proofs.lemmas.Bool.{leb-true, le-leb}
use Rattle.ct_value.specs.declared.codes.ScriptCode.{ScriptCode}
use Rattle.ct_value.specs.declared.codes.ScriptCode.TheVariants.{DuplicateName, Unsupported, TooManyColumns, KeyMissing, BadSetting}
use Rattle.ct_value.specs.declared.ty.Ty.{Ty}
use Rattle.ct_value.specs.declared.ty.Ty.TheVariants.{Bool as Boolean, Int, BigInt, Decimal, Text as String}
use Rattle.ct_field.specs.Numbers.{is_type}
use Rattle.sql_syntax.specs.declared.statement.Element.{Element}
use Rattle.sql_syntax.specs.declared.statement.TextPair.{TextPair}
use Rattle.sql_syntax.specs.declared.statement.TypeName.{TypeName}
use Rattle.sql_syntax.specs.declared.statement.Element.TheVariants as el
use Rattle.sql_syntax.specs.Tree as t
use Rattle.ct_catalog.specs.Numbers.{number_from, number_up_to}
use Rattle.ct_catalog.specs.Tables.{has_name, has_table, repeats, has_types, column_names, columns, keys, first_key, is_upsert, declared_mode, has_unknown_mode, lacks_key, first_code, create_refusal, places, table_of, with_column}
use Rattle.ct_catalog.specs.Types.{decimal, decimal_of, is_decimal, plain_of, without_numbers, type_of}
use Rattle.ct_catalog.specs.declared.table.ColDef.{ColDef}
use Rattle.ct_catalog.specs.declared.table.TableDef.{TableDef}
use Rattle.judge.specs.WellDeclared.{HasTypes, HasKeyColumns}

-- ---- types

abbrev FineTy : Option Ty → Type 0
FineTy None = Unit {0}
FineTy (Some ty) = is_type ty ≡ true

abbrev UpTo : ℕ → Option ℕ → Type 0
UpTo most None = Unit {0}
UpTo most (Some n) = n ≤ most

second_true : (a b : Bool) → (a && b) ≡ true → b ≡ true
second_true true b e = e
second_true false b e = absurd (cc (e))

first_true : (a b : Bool) → (a && b) ≡ true → a ≡ true
first_true true b e = refl
first_true false b e = absurd (cc (e))

up_to_if : (test : Bool) (n most : ℕ) → (test ≡ true → n ≤ most) → UpTo most (if test then Some n else None)
up_to_if true n most h = h refl
up_to_if false n most h = tt

number_within : (most : ℕ) (text : List ℕ) → UpTo most (number_up_to most text)
number_within most [] = tt
number_within most (d ∷ ds) =
    up_to_if (all_ascii_digits (d ∷ ds) && nat_le (number_from 0 (d ∷ ds)) most) (number_from 0 (d ∷ ds)) most
    (λ e. leb-true (number_from 0 (d ∷ ds)) most (second_true (all_ascii_digits (d ∷ ds)) (nat_le (number_from 0 (d ∷ ds)) most) e))

fine_if : (test : Bool) (ty : Ty) (rest : Option Ty) → (test ≡ true → is_type ty ≡ true) → FineTy rest → FineTy (if test then Some ty else rest)
fine_if true ty rest h k = h refl
fine_if false ty rest h k = k

decimal_is : (p s : ℕ) → p ≤ 38 → (nat_le 1 p && nat_le s p) ≡ true → is_type (Decimal p s) ≡ true
decimal_is p s few e =
    let a : nat_le 1 p ≡ true = first_true (nat_le 1 p) (nat_le s p) e in
    let b : nat_le p 38 ≡ true = le-leb p 38 few in
    let c : nat_le s p ≡ true = second_true (nat_le 1 p) (nat_le s p) e in
    rw (a, b, c) refl

decimal_fine : (p s : Option ℕ) → UpTo 38 p → FineTy (decimal p s)
decimal_fine None s h = tt
decimal_fine (Some p) None h = tt
decimal_fine (Some p) (Some s) h = fine_if (nat_le 1 p && nat_le s p) (Decimal p s) None (decimal_is p s h) tt

decimal_of_fine : (numbers : List t.Text) → FineTy (decimal_of numbers)
decimal_of_fine [] = refl
decimal_of_fine (p ∷ []) = decimal_fine (number_up_to 38 p) (Some 0) (number_within 38 p)
decimal_of_fine (p ∷ s ∷ []) = decimal_fine (number_up_to 38 p) (number_up_to 38 s) (number_within 38 p)
decimal_of_fine (p ∷ s ∷ r ∷ rest) = tt

plain_fine : (name : t.Text) → FineTy (plain_of name)
plain_fine name =
    fine_if (str_eq_ignore_ascii_case name (codes "BOOLEAN")) Boolean _ (λ e. refl)
    (fine_if (str_eq_ignore_ascii_case name (codes "INT")) Int _ (λ e. refl)
    (fine_if (str_eq_ignore_ascii_case name (codes "INTEGER")) Int _ (λ e. refl)
    (fine_if (str_eq_ignore_ascii_case name (codes "BIGINT")) BigInt _ (λ e. refl)
    (fine_if (str_eq_ignore_ascii_case name (codes "STRING")) String None (λ e. refl) tt))))

without_fine : (numbers : List t.Text) (o : Option Ty) → FineTy o → FineTy (without_numbers numbers o)
without_fine [] o h = h
without_fine (n ∷ ns) o h = tt

either_fine : (test : Bool) (o p : Option Ty) → FineTy o → FineTy p → FineTy (if test then o else p)
either_fine true o p h k = h
either_fine false o p h k = k

type_fine : (x : TypeName) → FineTy (type_of x)
type_fine x = either_fine (is_decimal x.name) (decimal_of x.numbers) (without_numbers x.numbers (plain_of x.name)) (decimal_of_fine x.numbers) (without_fine x.numbers (plain_of x.name) (plain_fine x.name))

abbrev Typed : List ColDef → Type 0
Typed cols = AllByRecursion (λ (column : ColDef). is_type column.ty.ty ≡ true) cols

typed_with : (name : List ℕ) (nullable : Bool) (o : Option Ty) (cols : List ColDef) → FineTy o → Typed cols → Typed (with_column name nullable o cols)
typed_with name nullable None cols h k = k
typed_with name nullable (Some ty) cols h k = (h, k)

columns_typed : (key : List (List ℕ)) (elements : List Element) → Typed (columns key elements)
columns_typed key [] = tt
columns_typed key (el.Column name ty not_null own ∷ elements) = typed_with name (not (not_null || has_name key name)) (type_of ty) (columns key elements) (type_fine ty) (columns_typed key elements)
columns_typed key (el.Key names ∷ elements) = columns_typed key elements

pub has_types_of : (name : t.Text) (elements : List Element) (options : List TextPair) → HasTypes (table_of name elements options)
has_types_of name elements options = columns_typed (unwrap_or (first_key elements) []) elements

-- ---- the key

many_with : (name : List ℕ) (nullable : Bool) (o : Option Ty) (others : Bool) (cols : List ColDef) (n : ℕ) → (if is_none o then false else others) ≡ true → (others ≡ true → length cols ≡ n) → length (with_column name nullable o cols) ≡ suc n
many_with name nullable None others cols n h k = absurd (cc (h))
many_with name nullable (Some ty) others cols n h k = ap suc (k h)

as_many : (key : List (List ℕ)) (elements : List Element) → has_types elements ≡ true → length (columns key elements) ≡ length (column_names elements)
as_many key [] h = refl
as_many key (el.Column name ty not_null own ∷ elements) h = many_with name (not (not_null || has_name key name)) (type_of ty) (has_types elements) (columns key elements) (length (column_names elements)) h (as_many key elements)
as_many key (el.Key names ∷ elements) h = as_many key elements h

placed_if : (bound : ℕ) (test : Bool) (i : ℕ) (rest : List ℕ) → i < bound → AllByRecursion (λ column. column < bound) rest → AllByRecursion (λ column. column < bound) (if test then i ∷ rest else rest)
placed_if bound true i rest h k = (h, k)
placed_if bound false i rest h k = k

places_within : (bound : ℕ) (key : List t.Text) (i : ℕ) (names : List t.Text) → i + length names ≤ bound → AllByRecursion (λ column. column < bound) (places key i names)
places_within bound key i [] h = tt
places_within bound key i (n ∷ names) h = placed_if bound (has_name key n) i (places key (i + 1) names) (omega (arith, h)) (places_within bound key (i + 1) names (omega (arith, h)))

key_within : (bound : ℕ) (names : List t.Text) (o : Option (List t.Text)) → length names ≤ bound → AllByRecursion (λ column. column < bound) (unwrap_or (option_map (λ key. places key 0 names) o) [])
key_within bound names None h = tt
key_within bound names (Some key) h = places_within bound key 0 names (omega (arith, h))

second_fails : (a b : Bool) (x y : ScriptCode) (rest : Option ScriptCode) → (if a then Some x else (if not b then Some y else rest)) ≡ None → b ≡ true
second_fails true b x y rest e = absurd (cc (e))
second_fails false true x y rest e = refl
second_fails false false x y rest e = absurd (cc (e))

pub has_key_columns_of : (tables : List TableDef) (name : t.Text) (elements : List Element) (options : List TextPair) → create_refusal tables name elements options ≡ None → HasKeyColumns (table_of name elements options)
has_key_columns_of tables name elements options e =
    let typed : has_types elements ≡ true =
    second_fails (has_table tables name || repeats (column_names elements)) (has_types elements) DuplicateName Unsupported
    (first_code ((nat_lt 64 (length (column_names elements)), TooManyColumns) ∷ (lacks_key (is_upsert (declared_mode options)) (column_names elements) (keys elements), KeyMissing) ∷ (has_unknown_mode options, BadSetting) ∷ [])) e in
    let same = as_many (unwrap_or (first_key elements) []) elements typed in
    key_within (length (columns (unwrap_or (first_key elements) []) elements)) (column_names elements) (first_key elements) (omega (arith, same))
