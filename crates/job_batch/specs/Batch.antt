-- The batch answer of a script over the first changes: its ending, and the rows that are written.
use Rattle.std.specs.Prelude.{ℕ, List, [], ◌∷◌, ◌++◌, Bool, true, false, map, Option, Some, None, Result, Ok, Err}
use Rattle.ct_value.specs.Bag.{items, none}
use Rattle.ct_value.specs.declared.ty.Ty.{Ty}
use Rattle.ct_change.specs.Changelog.{Rows}
use Rattle.ct_catalog.specs.declared.table.TableDef.{TableDef}
use Rattle.rel_algebra.specs.Answer.{wide}
use Rattle.query_answer.specs.Answer.{TableRows, answer}
use Rattle.query_laws.specs.Statement.{filled, tables_of}
use Rattle.source_lines.specs.Taken.{Taken, RefusedLine, rows_of, taken_of}
use Rattle.source_lines.specs.declared.supply.ChangeFiles.{ChangeFiles}
use Rattle.job_text.specs.Printed.{row_lines}
use Rattle.job_ending.specs.declared.ending.Ending.TheVariants.{Done, Change, Range}
use Rattle.job_ending.specs.Outcome.{Outcome, ends}
use Rattle.job_judgement.specs.Judgement.{Accepted}

-- tables with their rows
abbrev pub with_rows : List TableDef → List Rows → List TableRows
with_rows [] rows = []
with_rows (table ∷ tables) [] = []
with_rows (table ∷ tables) (rows ∷ others) = filled table rows ∷ with_rows tables others

-- the types of the sink's columns, by which the rows are written
abbrev pub sink_types : Accepted → List Ty
sink_types script = map (λ c. c.ty.ty) script.inserted.sink.cols

-- the rows in order, each copy by itself
abbrev pub done : List Ty → Rows → Outcome
done tys rows = record { ending = Done; bytes = row_lines tys (items rows) }

-- of what is out of range nothing is written
abbrev pub answered : List Ty → Bool → Option Rows → Outcome
answered tys true rows = ends (Range 0 0 [] [])
answered tys false None = ends (Range 0 0 [] [])
answered tys false (Some rows) = done tys rows

-- the answer of the query as it is written, over the sources and the sink, in which no row is; where the tree that it is bound to has a
-- part with 2^64 copies of a row or more, that is out of range
abbrev pub over_tables : Accepted → List TableRows → Outcome
over_tables script tables =
    answered (sink_types script) (wide (tables_of tables) script.inserted.query.rel) (answer (tables ++ filled script.inserted.sink none ∷ []) script.query).rows

abbrev pub after_lines : Accepted → Result Taken RefusedLine → Outcome
after_lines script (Err refusal) = ends (Change refusal.code refusal.line refusal.table)
after_lines script (Ok taken) = over_tables script (with_rows script.inserted.sources (rows_of script.inserted.sources taken))

-- what a batch answer over change files is, over the first lines of each or all
abbrev pub with_changes : Accepted → Option ℕ → ChangeFiles → Outcome
with_changes script first files = after_lines script (taken_of script.inserted.sources first files)
