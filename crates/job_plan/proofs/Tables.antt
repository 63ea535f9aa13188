-- The tables of a script are ones that a plan may have.
use Rattle.std.specs.Prelude.{◌≡◌, ℕ, ◌+◌, ◌≤◌, Bool, ◌&&◌, ◌||◌, not, is_none, nat_le, nat_lt, if◌then◌else◌, List, ◌++◌, length, map, slice_get, Option, option_map, unwrap_or, Result, Ok, Err}
use Rattle.std.proofs.Common.{suc, true, false, [], ◌∷◌, refl, sym, ap, subst, ◌∙◌, arith, Some, None}
use Rattle.std.specs.List.{AllByRecursion, list_all, list_any}
use Rattle.std.specs.Str.{bytes_eq}
use Rattle.std.proofs.lemmas.Bool.{and_from, le-leb, not_from_false, or_from, or_parts, ltb-false}
use Rattle.ct_value.specs.declared.codes.ScriptCode.{ScriptCode}
use Rattle.ct_value.specs.declared.codes.ScriptCode.TheVariants.{DuplicateName, Unsupported, TooManyColumns, KeyMissing, BadSetting}
use Rattle.ct_value.specs.declared.ty.Ty.{Ty}
use Rattle.ct_change.specs.declared.kind.Declared.{Declared}
use Rattle.ct_change.specs.declared.kind.Declared.TheVariants.{Append, Retract, Upsert}
use Rattle.sql_syntax.specs.declared.statement.Element.{Element}
use Rattle.sql_syntax.specs.declared.statement.Element.TheVariants as el
use Rattle.sql_syntax.specs.declared.statement.TextPair.{TextPair}
use Rattle.sql_syntax.specs.Tree as t
use Rattle.ct_catalog.specs.Types.{type_of}
use Rattle.ct_catalog.specs.Tables.{has_name, repeats, column_names, has_types, keys, first_key, with_column, columns, places, declared_mode, has_unknown_mode, is_upsert, lacks_key, has_table, first_code, create_refusal, table_of}
use Rattle.ct_catalog.specs.Catalogue.{Catalogue, applied, with_table, with_settings}
use Rattle.ct_catalog.specs.Setting.{set_of}
use Rattle.ct_catalog.specs.declared.settings.Settings.{Settings}
use Rattle.ct_catalog.specs.declared.table.ColDef.{ColDef}
use Rattle.ct_catalog.specs.declared.table.TableDef.{TableDef}
use Rattle.judge.specs.Judgement.{Asked, asked_of}
use Rattle.plan_shape.specs.Tables.{column_name, has_type, has_columns, is_declarable, is_required, is_required_in, key_fits, rise_from, table_name}
use Rattle.plan_shape.specs.Tables as plan
use Rattle.ct_change.specs.Kinds as kinds
use Rattle.judge.specs.WellDeclared.{HasTypes}
use Rattle.job_plan.proofs.Catalogues.{of_asked}

-- ---- no refusal

not_first : (test : Bool) (code : ScriptCode) (later : Option ScriptCode) → (if test then Some code else later) ≡ None → (test ≡ false) × (later ≡ None)
not_first true code later e = absurd (cc)
not_first false code later e = (refl, e)

none_holds : (tests : List (Bool × ScriptCode)) → first_code tests ≡ None → AllByRecursion (λ test. test.0 ≡ false) tests
none_holds [] e = tt
none_holds (test ∷ tests) e = let h = not_first test.0 test.1 (first_code tests) e in (h.0, none_holds tests h.1)

not_false : (b : Bool) → not b ≡ false → b ≡ true
not_false true e = refl
not_false false e = absurd (cc)

-- ---- columns

named_with : (name : t.Text) (nullable : Bool) (o : Option Ty) (more : Bool) (cols : List ColDef) (names : List t.Text) → (if is_none o then false else more) ≡ true → (more ≡ true → map column_name cols ≡ names)
    → map column_name (with_column name nullable o cols) ≡ name ∷ names
named_with name nullable None more cols names e k = absurd (cc)
named_with name nullable (Some ty) more cols names e k = ap (λ ns. name ∷ ns) (k e)

-- where each column has a type, each stands among the columns
as_named : (key : List t.Text) (elements : List Element) → has_types elements ≡ true → map column_name (columns key elements) ≡ column_names elements
as_named key [] e = refl
as_named key (el.Column name ty not_null own ∷ elements) e = named_with name (not (not_null || has_name key name)) (type_of ty) (has_types elements) (columns key elements) (column_names elements) e (as_named key elements)
as_named key (el.Key names ∷ elements) e = as_named key elements e

map_count : {A B : Type 0} (f : A → B) (xs : List A) → length (map f xs) ≡ length xs
map_count f [] = refl
map_count f (x ∷ xs) = ap suc (map_count f xs)

typed_all : (cols : List ColDef) → AllByRecursion (λ (column : ColDef). has_type column ≡ true) cols → list_all has_type cols ≡ true
typed_all [] h = refl
typed_all (column ∷ cols) h = and_from (has_type column) (list_all has_type cols) h.0 (typed_all cols h.1)

-- ---- keys

-- NULL stands in no column of the key
abbrev IsRequiredBy : List t.Text → ColDef → Type 0
IsRequiredBy key column = has_name key column.name ≡ true → column.ty.nullable ≡ false

required_with : (key : List t.Text) (name : t.Text) (not_null : Bool) (o : Option Ty) (cols : List ColDef) → AllByRecursion (IsRequiredBy key) cols → AllByRecursion (IsRequiredBy key) (with_column name (not (not_null || has_name key name)) o cols)
required_with key name not_null None cols all = all
required_with key name not_null (Some ty) cols all = (is not_null, all)
  where
    is : (b : Bool) → has_name key name ≡ true → not (b || has_name key name) ≡ false
    is true e = refl
    is false e = ap not e

all_required : (key : List t.Text) (elements : List Element) → AllByRecursion (IsRequiredBy key) (columns key elements)
all_required key [] = tt
all_required key (el.Column name ty not_null own ∷ elements) = required_with key name not_null (type_of ty) (columns key elements) (all_required key elements)
all_required key (el.Key names ∷ elements) = all_required key elements

-- the places of a key among columns are those of columns in which NULL doesn't stand
module _ (key : List t.Text) (cols : List ColDef) where
  place_required : (i : ℕ) (column : ColDef) (rest : List ColDef) (here : Bool) → has_name key column.name ≡ here → IsRequiredBy key column → slice_get cols i ≡ Some column → (behind : List ℕ) → list_all (is_required cols) behind ≡ true
      → list_all (is_required cols) (if here then i ∷ behind else behind) ≡ true
  place_required i column rest true is required there behind all =
      and_from (is_required cols i) (list_all (is_required cols) behind) (ap is_required_in there ∙ ap not (required is)) all
  place_required i column rest false is required there behind all = all

  places_required : (rest : List ColDef) (i : ℕ) → ((j : ℕ) → slice_get cols (i + j) ≡ slice_get rest j) → AllByRecursion (IsRequiredBy key) rest → list_all (is_required cols) (places key i (map column_name rest)) ≡ true
  places_required [] i same all = refl
  places_required (column ∷ rest) i same all =
      let first : i + 0 ≡ i = omega arith in
      let further : (j : ℕ) → slice_get cols (i + 1 + j) ≡ slice_get rest j = λ j. ap (slice_get cols) (let next : i + 1 + j ≡ i + suc j = omega arith in next) ∙ same (suc j) in
      place_required i column rest (has_name key column.name) refl all.0 (ap (slice_get cols) (sym first) ∙ same 0) (places key (i + 1) (map column_name rest)) (places_required rest (i + 1) further all.1)

-- they rise
rises_if : (low i : ℕ) (here : Bool) (behind : List ℕ) → low ≤ i → ((from : ℕ) → from ≤ i + 1 → rise_from from behind ≡ true) → rise_from low (if here then i ∷ behind else behind) ≡ true
rises_if low i true behind l rises = and_from (nat_le low i) (rise_from (i + 1) behind) (le-leb low i l) (rises (i + 1) (omega arith))
rises_if low i false behind l rises = rises low (omega arith)

places_rise : (key : List t.Text) (i : ℕ) (names : List t.Text) (low : ℕ) → low ≤ i → rise_from low (places key i names) ≡ true
places_rise key i [] low l = refl
places_rise key i (name ∷ names) low l = rises_if low i (has_name key name) (places key (i + 1) names) l (λ from m. places_rise key (i + 1) names from m)

mode_told : (o : Option Declared) → kinds.is_upsert (unwrap_or o Append) ≡ is_upsert o
mode_told None = refl
mode_told (Some Append) = refl
mode_told (Some Retract) = refl
mode_told (Some Upsert) = refl

-- an upsert table has a key
has_key : (upsert : Bool) (names : List t.Text) (all : List (List t.Text)) → lacks_key upsert names all ≡ false → slice_get all 0 ≡ None → upsert ≡ false
has_key upsert names [] e none = e
has_key upsert names (key ∷ all) e none = absurd (cc)

module _ (elements : List Element) (options : List TextPair) (typed : has_types elements ≡ true) where
  key_is : (o : Option (List t.Text)) → first_key elements ≡ o → (o ≡ None → is_upsert (declared_mode options) ≡ false)
      → key_fits (unwrap_or (declared_mode options) Append) (columns (unwrap_or o []) elements) (option_map (λ key. places key 0 (column_names elements)) o) ≡ true
  key_is None is none = not_from_false (kinds.is_upsert (unwrap_or (declared_mode options) Append)) (mode_told (declared_mode options) ∙ none refl)
  key_is (Some key) is none =
      let cols = columns key elements in
      let same : (j : ℕ) → slice_get cols (0 + j) ≡ slice_get cols j = λ j. ap (slice_get cols) (let next : 0 + j ≡ j = omega arith in next) in
      let required : list_all (is_required cols) (places key 0 (column_names elements)) ≡ true =
      subst (λ ns. list_all (is_required cols) (places key 0 ns) ≡ true) (as_named key elements typed) (places_required key cols cols 0 same (all_required key elements)) in
      and_from (list_all (is_required cols) (places key 0 (column_names elements))) (rise_from 0 (places key 0 (column_names elements))) required (places_rise key 0 (column_names elements) 0 (omega arith))

-- ---- a table that isn't refused

abbrev create_tests : List TableDef → t.Text → List Element → List TextPair → List (Bool × ScriptCode)
create_tests tables name elements options =
    (has_table tables name || repeats (column_names elements), DuplicateName) ∷
    (not (has_types elements), Unsupported) ∷
    (nat_lt 64 (length (column_names elements)), TooManyColumns) ∷
    (lacks_key (is_upsert (declared_mode options)) (column_names elements) (keys elements), KeyMissing) ∷
    (has_unknown_mode options, BadSetting) ∷ []

-- what is kept of a table beside the types of its columns
record IsKept (table : TableDef) : Type 0 where
  pub few : nat_le (length table.cols) 64 ≡ true
  pub named : repeats (map column_name table.cols) ≡ false
  pub keyed : key_fits table.mode table.cols table.key ≡ true

record IsNew (tables : List TableDef) (table : TableDef) : Type 0 where
  pub kept : IsKept table
  pub other : has_table tables table.name ≡ false

is_new : (tables : List TableDef) (name : t.Text) (elements : List Element) (options : List TextPair) → create_refusal tables name elements options ≡ None → IsNew tables (table_of name elements options)
is_new tables name elements options e =
    let none = none_holds (create_tests tables name elements options) e in
    let table = table_of name elements options in
    let apart = or_parts (has_table tables name) (repeats (column_names elements)) none.0 in
    let typed = not_false (has_types elements) none.1.0 in
    let named = as_named (unwrap_or (first_key elements) []) elements typed in
    let few : length (column_names elements) ≤ 64 = let l = ltb-false 64 (length (column_names elements)) none.1.1.0 in omega (arith, l) in
    let count : length table.cols ≡ length (column_names elements) = sym (map_count column_name table.cols) ∙ ap length named in
    record {
      kept = record {
        few = le-leb (length table.cols) 64 (omega (arith, few, count));
        named = ap repeats named ∙ apart.1;
        keyed = key_is elements options typed (first_key elements) refl (has_key (is_upsert (declared_mode options)) (column_names elements) (keys elements) none.1.1.1.0);
      };
      other = apart.0;
    }

-- ---- catalogues

-- no two tables have one name
abbrev AreApart : List TableDef → Type 0
AreApart tables = repeats (map table_name tables) ≡ false

any_behind : (test : t.Text → Bool) (names : List t.Text) (name : t.Text) → list_any test names ≡ false → test name ≡ false → list_any test (names ++ name ∷ []) ≡ false
any_behind test [] name none one = or_from (test name) false one refl
any_behind test (first ∷ names) name none one =
    let b = or_parts (test first) (list_any test names) none in
    or_from (test first) (list_any test (names ++ name ∷ [])) b.0 (any_behind test names name b.1 one)

apart_behind : (tables : List TableDef) (table : TableDef) → AreApart tables → has_table tables table.name ≡ false → AreApart (tables ++ table ∷ [])
apart_behind [] table apart other = refl
apart_behind (first ∷ tables) table apart other =
    let b = or_parts (list_any (bytes_eq first.name) (map table_name tables)) (repeats (map table_name tables)) apart in
    let c = or_parts (bytes_eq first.name table.name) (has_table tables table.name) other in
    or_from (list_any (bytes_eq first.name) (map table_name (tables ++ table ∷ []))) (repeats (map table_name (tables ++ table ∷ [])))
    (subst (λ names. list_any (bytes_eq first.name) names ≡ false) (sym (map_behind tables table)) (any_behind (bytes_eq first.name) (map table_name tables) table.name b.0 c.0)) (apart_behind tables table b.1 c.1)
  where
    map_behind : (tables : List TableDef) (table : TableDef) → map table_name (tables ++ table ∷ []) ≡ map table_name tables ++ table.name ∷ []
    map_behind [] table = refl
    map_behind (first ∷ tables) table = ap (λ ns. first.name ∷ ns) (map_behind tables table)

kept_behind : (tables : List TableDef) (table : TableDef) → AllByRecursion IsKept tables → IsKept table → AllByRecursion IsKept (tables ++ table ∷ [])
kept_behind [] table all one = (one, tt)
kept_behind (first ∷ tables) table all one = (all.0, kept_behind tables table all.1 one)

record AreKept (c : Catalogue) : Type 0 where
  pub all : AllByRecursion IsKept c.tables
  pub apart : AreApart c.tables

of_created : (c next : Catalogue) (name : t.Text) (elements : List Element) (options : List TextPair) (o : Option ScriptCode) → create_refusal c.tables name elements options ≡ o → AreKept c
    → with_table c (table_of name elements options) o ≡ Ok next → AreKept next
of_created c next name elements options None is kept e =
    let same : record c { tables = c.tables ++ table_of name elements options ∷ [] } ≡ next = cc (e) in
    let new = is_new c.tables name elements options is in
    subst AreKept same (record { all = kept_behind c.tables (table_of name elements options) kept.all new.kept; apart = apart_behind c.tables (table_of name elements options) kept.apart new.other })
of_created c next name elements options (Some code) is kept e = absurd (cc)

of_settings : (c next : Catalogue) (o : Result Settings ScriptCode) → AreKept c → with_settings c o ≡ Ok next → AreKept next
of_settings c next (Ok settings) kept e = let same : record c { settings = settings } ≡ next = cc (e) in subst AreKept same (record { all = kept.all; apart = kept.apart })
of_settings c next (Err code) kept e = absurd (cc)

of_applied : (c next : Catalogue) (x : t.Statement) → AreKept c → applied c x ≡ Ok next → AreKept next
of_applied c next (t.Create name elements options) kept e = of_created c next name elements options (create_refusal c.tables name elements options) refl kept e
of_applied c next (t.Set key value) kept e = of_settings c next (set_of key value c.settings) kept e
of_applied c next (t.Insert table query) kept e = let same : c ≡ next = cc in subst AreKept same kept

-- ---- with types they may be declared

-- tables that may be declared, no two of one name
pub record AreDeclared (tables : List TableDef) : Type 0 where
  pub all : list_all is_declarable tables ≡ true
  pub apart : AreApart tables

declarable : (table : TableDef) → IsKept table → HasTypes table → is_declarable table ≡ true
declarable table kept typed =
    and_from (has_columns table) (key_fits table.mode table.cols table.key)
    (and_from (nat_le (length table.cols) 64) (not (repeats (map column_name table.cols)) && list_all has_type table.cols) kept.few
    (and_from (not (repeats (map column_name table.cols))) (list_all has_type table.cols) (not_from_false (repeats (map column_name table.cols)) kept.named) (typed_all table.cols typed)))
    kept.keyed

all_declarable : (tables : List TableDef) → AllByRecursion IsKept tables → AllByRecursion HasTypes tables → list_all is_declarable tables ≡ true
all_declarable [] kept typed = refl
all_declarable (table ∷ tables) kept typed = and_from (is_declarable table) (list_all is_declarable tables) (declarable table kept.0 typed.0) (all_declarable tables kept.1 typed.1)

pub are_declared : ((text : List ℕ) (asked : Asked) → asked_of text ≡ Ok asked → AllByRecursion HasTypes asked.catalogue.tables) → (text : List ℕ) (asked : Asked) → asked_of text ≡ Ok asked → AreDeclared asked.catalogue.tables
are_declared types text asked e =
    let kept = of_asked AreKept of_applied (record { all = tt; apart = refl }) text asked e in
    record { all = all_declarable asked.catalogue.tables kept.all (types text asked e); apart = kept.apart }
