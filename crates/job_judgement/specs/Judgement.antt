-- What a script is judged to be: the query of its INSERT over the script's tables, or the first reason to refuse it.
use Rattle.std.specs.Prelude.{ℕ, List, [], ◌∷◌, Ok, Err}
use Rattle.ct_value.specs.declared.codes.ScriptCode.TheVariants.{NotOneInsert}
use Rattle.sql_syntax.specs.Tree as t
use Rattle.ct_catalog.specs.Catalogue.{Catalogue}
use Rattle.judge.specs.Judgement.{Asked, Insert, Judged, asked_of, refused, then}
use Rattle.binding.specs.Checked.{Checked}
use Rattle.binding.specs.Inserts.{Inserted, insert_bound}

-- what is judged: the number of the INSERT, the tables and settings, the query as it is written, and what it is bound to
pub record Accepted : Type 0 where
  pub statement : ℕ
  pub catalogue : Catalogue
  pub query : t.Query
  pub inserted : Inserted

abbrev pub at_statement : Catalogue → ℕ → t.Query → Checked Inserted → Judged Accepted
at_statement c number query (Ok inserted) = Ok (record { statement = number; catalogue = c; query = query; inserted = inserted })
at_statement c number query (Err code) = refused code number

abbrev pub bound_query : Catalogue → ℕ → t.Text → t.Query → Judged Accepted
bound_query c number table query = at_statement c number query (insert_bound c.tables table query)

abbrev pub bound_insert : Catalogue → ℕ → t.Statement → Judged Accepted
bound_insert c number (t.Insert table query) = bound_query c number table query
bound_insert c number (t.Create name elements options) = refused NotOneInsert number
bound_insert c number (t.Set key value) = refused NotOneInsert number

abbrev pub first_bound : Catalogue → List Insert → Judged Accepted
first_bound c [] = refused NotOneInsert 1
first_bound c (insert ∷ others) = bound_insert c insert.number insert.statement

-- the step behind the text and the catalogue
abbrev pub accepted_of : Asked → Judged Accepted
accepted_of asked = first_bound asked.catalogue asked.inserts

-- what a text is judged to be, step by step
abbrev pub judgement : List ℕ → Judged Accepted
judgement text = then accepted_of (asked_of text)
