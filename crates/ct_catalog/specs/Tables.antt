-- What CREATE TABLE declares, and what it is refused as.
use Rattle.std.specs.Prelude.{ℕ, ◌+◌, Bool, true, false, ◌||◌, not, nat_lt, List, [], ◌∷◌, length, Option, Some, None, is_none, slice_get, option_map, unwrap_or, if◌then◌else◌, codes}
use Rattle.std.specs.List.{list_any, list_all}
use Rattle.std.specs.Str.{bytes_eq}
use Rattle.ct_value.specs.declared.codes.ScriptCode.{ScriptCode}
use Rattle.ct_value.specs.declared.codes.ScriptCode.TheVariants.{DuplicateName, Unsupported, TooManyColumns, KeyMissing, BadSetting}
use Rattle.ct_value.specs.declared.ty.Ty.{Ty}
use Rattle.ct_change.specs.declared.kind.Declared.{Declared}
use Rattle.ct_change.specs.declared.kind.Declared.TheVariants.{Append, Retract, Upsert}
use Rattle.sql_syntax.specs.declared.statement.Element.{Element}
use Rattle.sql_syntax.specs.declared.statement.TextPair.{TextPair}
use Rattle.sql_syntax.specs.declared.statement.Element.TheVariants as el
use Rattle.sql_syntax.specs.Tree as t
use Rattle.ct_catalog.specs.Types.{type_of}
use Rattle.ct_catalog.specs.declared.table.ColDef.{ColDef}
use Rattle.ct_catalog.specs.declared.table.TableDef.{TableDef}

abbrev pub has_name : List t.Text → t.Text → Bool
has_name names name = list_any (λ n. bytes_eq n name) names

-- whether a name stands twice
abbrev pub repeats : List t.Text → Bool
repeats [] = false
repeats (n ∷ ns) = list_any (bytes_eq n) ns || repeats ns

-- ---- the columns and the keys of the elements

abbrev pub column_names : List Element → List t.Text
column_names [] = []
column_names (el.Column name ty not_null key ∷ es) = name ∷ column_names es
column_names (el.Key names ∷ es) = column_names es

-- whether each column has a type
abbrev pub has_types : List Element → Bool
has_types [] = true
has_types (el.Column name ty not_null key ∷ es) = if is_none (type_of ty) then false else has_types es
has_types (el.Key names ∷ es) = has_types es

-- the names of each key, also of one that stands beside its column
abbrev pub keys : List Element → List (List t.Text)
keys [] = []
keys (el.Column name ty not_null key ∷ es) = if key then (name ∷ []) ∷ keys es else keys es
keys (el.Key names ∷ es) = names ∷ keys es

abbrev pub first_key : List Element → Option (List t.Text)
first_key elements = slice_get (keys elements) 0

abbrev pub with_column : t.Text → Bool → Option Ty → List ColDef → List ColDef
with_column name nullable None cols = cols
with_column name nullable (Some ty) cols = record { name = name; ty = record { ty = ty; nullable = nullable } } ∷ cols

-- the columns; NULL may stand in those that are neither NOT NULL nor of the key
abbrev pub columns : List t.Text → List Element → List ColDef
columns key [] = []
columns key (el.Column name ty not_null own_key ∷ es) = with_column name (not (not_null || has_name key name)) (type_of ty) (columns key es)
columns key (el.Key names ∷ es) = columns key es

-- the places of the key's columns among these, counted from a number
abbrev pub places : List t.Text → ℕ → List t.Text → List ℕ
places key i [] = []
places key i (n ∷ ns) = if has_name key n then i ∷ places key (i + 1) ns else places key (i + 1) ns

-- ---- the mode

abbrev pub mode_of : t.Text → Option Declared
mode_of word =
    if bytes_eq word (codes "append") then Some Append
    else (if bytes_eq word (codes "retract") then Some Retract
    else (if bytes_eq word (codes "upsert") then Some Upsert
    else None))

-- the values of the option that tells the mode
abbrev pub mode_words : List TextPair → List t.Text
mode_words [] = []
mode_words (o ∷ os) = if bytes_eq o.left (codes "changelog") then o.right ∷ mode_words os else mode_words os

abbrev pub last_mode : Option Declared → List t.Text → Option Declared
last_mode mode [] = mode
last_mode mode (word ∷ words) = last_mode (mode_of word) words

-- the last option counts; without one the mode is append
abbrev pub declared_mode : List TextPair → Option Declared
declared_mode options = last_mode (Some Append) (mode_words options)

abbrev pub has_unknown_mode : List TextPair → Bool
has_unknown_mode options = list_any (λ word. is_none (mode_of word)) (mode_words options)

abbrev pub is_upsert : Option Declared → Bool
is_upsert None = false
is_upsert (Some Append) = false
is_upsert (Some Retract) = false
is_upsert (Some Upsert) = true

-- ---- refusals

-- a key column that doesn't exist or stands twice
abbrev pub is_bad_key : List t.Text → List t.Text → Bool
is_bad_key cols key = repeats key || not (list_all (has_name cols) key)

-- upsert mode without a key, a bad key, or two keys
abbrev pub lacks_key : Bool → List t.Text → List (List t.Text) → Bool
lacks_key upsert cols [] = upsert
lacks_key upsert cols (key ∷ []) = is_bad_key cols key
lacks_key upsert cols (key ∷ other ∷ others) = true

abbrev pub has_table : List TableDef → t.Text → Bool
has_table tables name = list_any (λ d. bytes_eq d.name name) tables

-- the code of the first test that holds
abbrev pub first_code : List (Bool × ScriptCode) → Option ScriptCode
first_code [] = None
first_code (c ∷ cs) = if c.0 then Some c.1 else first_code cs

abbrev pub create_refusal : List TableDef → t.Text → List Element → List TextPair → Option ScriptCode
create_refusal tables name elements options =
    first_code (
    (has_table tables name || repeats (column_names elements), DuplicateName) ∷
    (not (has_types elements), Unsupported) ∷
    (nat_lt 64 (length (column_names elements)), TooManyColumns) ∷
    (lacks_key (is_upsert (declared_mode options)) (column_names elements) (keys elements), KeyMissing) ∷
    (has_unknown_mode options, BadSetting) ∷ [])

-- the table that is declared where there is no refusal
abbrev pub table_of : t.Text → List Element → List TextPair → TableDef
table_of name elements options = record {
  name = name;
  cols = columns (unwrap_or (first_key elements) []) elements;
  key = option_map (λ key. places key 0 (column_names elements)) (first_key elements);
  mode = unwrap_or (declared_mode options) Append;
}
