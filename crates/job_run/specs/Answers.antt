-- What a run has written, whatever its ending: the lines of items and a first part of one line more; and before each quiet line stands a
-- changelog that folds to the query's answer on its tree, over the tables that as many first lines of each change file leave as the line tells.
use Rattle.std.specs.Prelude.{◌≡◌, ◌⊎◌, ◌<◌, ℕ, Bool, List, [], ◌++◌, length, Option, Some, None}
use Rattle.ct_value.specs.declared.ty.Ty.{Ty}
use Rattle.command_line.specs.Words.{FileNames, Request, run, batch, explain, load, request_of}
use Rattle.ct_io.specs.Holdings.{Holdings, Whole, loaded}
use Rattle.ct_catalog.specs.Columns.{table_mode}
use Rattle.stream_model.specs.declared.events.PrintItem.{PrintItem}
use Rattle.job_text.specs.Printed.{item_line, item_lines}
use Rattle.job_text.specs.Told.{AreItemsOf, AreTypes, IsItemOf}
use Rattle.job_text.specs.declared.orders.OrderLine.{OrderLine}
use Rattle.source_lines.specs.Supply.{is_by_table}
use Rattle.source_lines.specs.declared.supply.ChangeFiles.{ChangeFiles}
use Rattle.run_laws.specs.Headline.{AreAnswered, EndsQuiet}
use Rattle.job_stream.specs.Stream.{sink_key, sink_types}
use Rattle.job_run.specs.Held.{IsInput, IsOrder}
use Rattle.job_run.specs.Insert.{Insert, answer_of, sources_of}
use Rattle.job_run.specs.Outcome.{script_limit}

-- nothing, or the line of an item without its end
abbrev pub IsTorn : Bool → List Ty → Option (List ℕ) → List ℕ → Type 0
IsTorn by_table tys key torn = (torn ≡ []) ⊎ ((item : PrintItem) × (rest : List ℕ) × IsItemOf tys key item × (item_line by_table tys key item ≡ torn ++ rest) × (0 < length rest))

pub record HasAnswers (names : FileNames) (order : Option (List ℕ)) (holdings : Holdings) (written : List ℕ) : Type 0 where
  pub text : List ℕ
  pub script_held : loaded holdings names.script script_limit ≡ Whole text
  pub insert : Insert text
  pub files : ChangeFiles
  pub files_held : IsInput holdings names.input (sources_of insert) files
  pub orders : List OrderLine
  pub order_held : IsOrder holdings order (is_by_table files) orders
  -- what is written, as it is read: the bytes are the lines of no other items
  pub items : List PrintItem
  pub torn : List ℕ
  pub reads : written ≡ item_lines (is_by_table files) (sink_types insert.sink) (sink_key insert.sink) items ++ torn
  pub is_torn : IsTorn (is_by_table files) (sink_types insert.sink) (sink_key insert.sink) torn
  pub types : AreTypes (sink_types insert.sink)
  pub typed : AreItemsOf (sink_types insert.sink) (sink_key insert.sink) items
  pub answered : AreAnswered (table_mode insert.sink) (sources_of insert) (answer_of insert) files items

-- a run that ends well has written whole lines, the last of them that of a quiet moment after all lines of all change files
pub record HasRun (names : FileNames) (order : Option (List ℕ)) (holdings : Holdings) (written : List ℕ) : Type 0 where
  pub answers : HasAnswers names order holdings written
  pub whole : answers.torn ≡ []
  pub ends : EndsQuiet answers.files answers.items

abbrev pub AreAnswersOf : Option Request → Holdings → List ℕ → Type 0
AreAnswersOf (Some (run names order)) holdings written = (written ≡ []) ⊎ HasAnswers names order holdings written
AreAnswersOf (Some (batch names first)) holdings written = Unit {0}
AreAnswersOf (Some (explain name)) holdings written = Unit {0}
AreAnswersOf (Some (load seed lines)) holdings written = Unit {0}
AreAnswersOf None holdings written = written ≡ []

-- what a job on these words and holdings has written: a run nothing, or answers
abbrev pub AreAnswers : List (List ℕ) → Holdings → List ℕ → Type 0
AreAnswers words holdings written = AreAnswersOf (request_of words) holdings written

-- what was written between, where that is told, has this property
abbrev pub Wrote : Option (List ℕ) → Option (List ℕ) → (List ℕ → Type 0) → Type 0
Wrote old None P = Unit {0}
Wrote None (Some new) P = ⊥
Wrote (Some old) (Some new) P = (written : List ℕ) × (new ≡ old ++ written) × P written
