-- What the text of a script asks for, in the words of its tree: its statements declare tables, and the last of them is the INSERT of a query
-- into one of these.
use Rattle.std.specs.Prelude.{◌≡◌, ℕ, List, [], ◌∷◌, ◌++◌, Option, Some, Ok}
use Rattle.std.specs.List.{find}
use Rattle.ct_value.specs.Bag.{none}
use Rattle.ct_change.specs.Changelog.{Rows}
use Rattle.sql_syntax.specs.Tree as t
use Rattle.sql_grammar.specs.Scripts.{IsScript}
use Rattle.ct_catalog.specs.Catalogue.{Catalogue, applied, empty}
use Rattle.ct_catalog.specs.declared.table.TableDef.{TableDef}
use Rattle.query_answer.specs.Answer.{answer}
use Rattle.query_laws.specs.Statement.{filled}
use Rattle.binding.specs.Inserts.{is_table, sources_for}
use Rattle.job_batch.specs.Batch.{with_rows}

-- these statements, one after the other, lead from one catalogue to another
abbrev pub Declare : Catalogue → List t.Statement → Catalogue → Type 0
Declare c [] d = c ≡ d
Declare c (statement ∷ statements) d = (next : Catalogue) × (applied c statement ≡ Ok next) × Declare next statements d

pub record Insert (text : List ℕ) : Type 0 where
  pub script : t.Script
  pub spelled : IsScript text script
  pub before : List t.Statement
  pub table : t.Text
  pub query : t.Query
  pub statements : script.statements ≡ before ++ t.Insert table query ∷ []
  pub catalogue : Catalogue
  pub declared : Declare empty before catalogue
  pub sink : TableDef
  pub fills : find (is_table table) catalogue.tables ≡ Some sink

-- the tables that the query may read
abbrev pub sources_of : {text : List ℕ} → Insert text → List TableDef
sources_of insert = sources_for insert.catalogue.tables insert.table

-- the answer of a query, as it is written, over these rows of the sources, while no row is in the sink
abbrev pub answer_over : List TableDef → TableDef → t.Query → List Rows → Option Rows
answer_over sources sink query rows = (answer (with_rows sources rows ++ filled sink none ∷ []) query).rows

abbrev pub answer_of : {text : List ℕ} → Insert text → List Rows → Option Rows
answer_of insert rows = answer_over (sources_of insert) insert.sink insert.query rows
