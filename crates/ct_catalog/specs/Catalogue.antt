-- The tables and settings after CREATE TABLE and SET.
use Rattle.std.specs.Prelude.{List, [], ◌∷◌, ◌++◌, Option, Some, None, Result, Ok, Err}
use Rattle.ct_value.specs.declared.codes.ScriptCode.{ScriptCode}
use Rattle.sql_syntax.specs.declared.statement.Element.{Element}
use Rattle.sql_syntax.specs.declared.statement.TextPair.{TextPair}
use Rattle.sql_syntax.specs.Tree as t
use Rattle.ct_catalog.specs.Setting.{defaults, set_of}
use Rattle.ct_catalog.specs.Tables.{create_refusal, table_of}
use Rattle.ct_catalog.specs.declared.settings.Settings.{Settings}
use Rattle.ct_catalog.specs.declared.table.TableDef.{TableDef}

pub record Catalogue : Type 0 where
  pub tables : List TableDef
  pub settings : Settings

abbrev pub empty : Catalogue
empty = record { tables = []; settings = defaults }

abbrev pub with_table : Catalogue → TableDef → Option ScriptCode → Result Catalogue ScriptCode
with_table c table None = Ok (record c { tables = c.tables ++ table ∷ [] })
with_table c table (Some code) = Err code

abbrev pub with_settings : Catalogue → Result Settings ScriptCode → Result Catalogue ScriptCode
with_settings c (Ok s) = Ok (record c { settings = s })
with_settings c (Err code) = Err code

abbrev pub created : Catalogue → t.Text → List Element → List TextPair → Result Catalogue ScriptCode
created c name elements options = with_table c (table_of name elements options) (create_refusal c.tables name elements options)

abbrev pub changed : Catalogue → t.Text → t.Text → Result Catalogue ScriptCode
changed c key value = with_settings c (set_of key value c.settings)

-- the catalogue after a statement, or what it is refused as; an INSERT declares nothing
abbrev pub applied : Catalogue → t.Statement → Result Catalogue ScriptCode
applied c (t.Create name elements options) = created c name elements options
applied c (t.Set key value) = changed c key value
applied c (t.Insert table query) = Ok c

abbrev pub IsDeclaration : t.Statement → Type 0
IsDeclaration (t.Create name elements options) = Unit {0}
IsDeclaration (t.Set key value) = Unit {0}
IsDeclaration (t.Insert table query) = ⊥
