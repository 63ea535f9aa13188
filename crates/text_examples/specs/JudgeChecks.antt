-- What it is that a table of examples holds: what a script of a text and an INSERT behind it declares and sets, or its refusal.
use Rattle.std.specs.Prelude.{◌≡◌, ℕ, List, ◌++◌, [], length, map, Ok, Err, codes}
use Rattle.ct_value.specs.declared.codes.ScriptCode.{ScriptCode}
use Rattle.ct_catalog.specs.declared.settings.Settings.{Settings}
use Rattle.ct_catalog.specs.declared.table.TableDef.{TableDef}
use Rattle.judge.specs.Judgement.{Asked, Judged, refused, asked_of}

-- an INSERT stands behind the text
abbrev pub with_insert : List ℕ → List ℕ
with_insert text = text ++ codes " INSERT INTO o SELECT a FROM t;"

abbrev pub tables_in : Judged Asked → Judged (List TableDef)
tables_in (Ok asked) = Ok asked.catalogue.tables
tables_in (Err refusal) = Err refusal

abbrev pub settings_in : Judged Asked → Judged Settings
settings_in (Ok asked) = Ok asked.catalogue.settings
settings_in (Err refusal) = Err refusal

-- each text declares the tables beside it
abbrev pub Declare : List (List ℕ × List TableDef) → Type 0
Declare table = map (λ entry. tables_in (asked_of (with_insert entry.0))) table ≡ map (λ entry. Ok entry.1) table

-- each text leaves the settings beside it
abbrev pub Leave : List (List ℕ × Settings) → Type 0
Leave table = map (λ entry. settings_in (asked_of (with_insert entry.0))) table ≡ map (λ entry. Ok entry.1) table

-- each script is refused so, at that statement
abbrev pub AreRefused : List (List ℕ × ScriptCode × ℕ) → Type 0
AreRefused table = map (λ entry. tables_in (asked_of entry.0)) table ≡ map (λ entry. refused entry.1 entry.2) table

-- a setting
abbrev pub set_text : List ℕ → List ℕ → List ℕ
set_text key value = codes "SET '" ++ key ++ codes "' = '" ++ value ++ codes "';"

-- each key with the value beside it leaves the settings
abbrev pub Set : List (List ℕ × List ℕ × Settings) → Type 0
Set table = map (λ entry. settings_in (asked_of (with_insert (set_text entry.0 entry.1)))) table ≡ map (λ entry. Ok entry.2) table

-- each key doesn't take the value beside it
abbrev pub DontSet : ScriptCode → List (List ℕ × List ℕ) → Type 0
DontSet code table = map (λ entry. settings_in (asked_of (with_insert (set_text entry.0 entry.1)))) table ≡ map (λ entry. refused code 1) table

abbrev pub columns_in : Judged (List TableDef) → List ℕ
columns_in (Ok tables) = map (λ table. length table.cols) tables
columns_in (Err refusal) = []
