-- What a job that ends well has written. A run: its answers, to the last line of its change files. A batch answer: the rows of the query's
-- answer on its tree, over the tables that the first lines leave, in order, each copy by itself. A plan: its lines. A load: the line
-- of its sums.
use Rattle.std.specs.Prelude.{◌≡◌, ◌≤◌, ℕ, List, [], ◌∷◌, length, Option, Some, None, Ok}
use Rattle.command_line.specs.Words.{FileNames, Request, run, batch, explain, load, request_of}
use Rattle.ct_io.specs.Holdings.{Holdings, Whole, loaded}
use Rattle.ct_value.specs.Bag.{items}
use Rattle.ct_change.specs.Changelog.{Rows}
use Rattle.source_lines.specs.Taken.{Taken, rows_of, taken_of}
use Rattle.source_lines.specs.declared.supply.ChangeFiles.{ChangeFiles}
use Rattle.source_lines.specs.declared.supply.ChangeFiles.TheVariants.{Each}
use Rattle.phys_plan.specs.declared.plan.Plan.{Plan}
use Rattle.sound_plans.specs.Sound.{IsRuled}
use Rattle.job_text.specs.Printed.{row_lines}
use Rattle.phys_plan.specs.Explained.{explained}
use Rattle.job_judgement.specs.Judgement.{Accepted, judgement}
use Rattle.job_stream.specs.Stream.{sink_types}
use Rattle.job_plan.specs.Planned.{planned}
use Rattle.job_run.specs.Answers.{HasRun}
use Rattle.job_run.specs.Held.{IsInput}
use Rattle.job_run.specs.Insert.{Insert, answer_of, sources_of}
use Rattle.job_run.specs.Loads.{load_holdings, load_names, printed_feed, sums_script, summary_of}
use Rattle.job_run.specs.Outcome.{changes_limit, script_limit}

-- the rows of an INSERT's query on its tree, over the tables that the first lines leave
pub record AreRows {text : List ℕ} (insert : Insert text) (first : Option ℕ) (files : ChangeFiles) (bytes : List ℕ) : Type 0 where
  pub taken : Taken
  pub rows : Rows
  pub lines_taken : taken_of (sources_of insert) first files ≡ Ok taken
  pub answers : answer_of insert (rows_of (sources_of insert) taken) ≡ Some rows
  pub reads : bytes ≡ row_lines (sink_types insert.sink) (items rows)

pub record HasAnswered (names : FileNames) (first : Option ℕ) (holdings : Holdings) (bytes : List ℕ) : Type 0 where
  pub text : List ℕ
  pub script_held : loaded holdings names.script script_limit ≡ Whole text
  pub insert : Insert text
  pub files : ChangeFiles
  pub files_held : IsInput holdings names.input (sources_of insert) files
  pub answers : AreRows insert first files bytes

pub record HasExplained (name : List ℕ) (holdings : Holdings) (bytes : List ℕ) : Type 0 where
  pub script_text : List ℕ
  pub script : Accepted
  pub plan : Plan
  pub script_held : loaded holdings name script_limit ≡ Whole script_text
  pub accepted : judgement script_text ≡ Ok script
  pub runs : planned script ≡ Ok plan
  pub sound : IsRuled plan
  pub reads : bytes ≡ explained 0 plan

-- the answer of the query that sums, where these lines are those of its first table
pub record HasSummed (feed bytes : List ℕ) : Type 0 where
  pub insert : Insert sums_script
  pub within : length feed ≤ changes_limit
  pub answers : AreRows insert None (Each (feed ∷ [])) bytes

-- a load: its run has its answers, its sums are the query's over what that printed, and it has written their line
pub record HasLoaded (seed lines : ℕ) (bytes : List ℕ) : Type 0 where
  pub printed : List ℕ
  pub sums : List ℕ
  pub ran : HasRun load_names None (load_holdings seed lines) printed
  pub summed : HasSummed (printed_feed lines printed) sums
  pub reads : bytes ≡ summary_of lines printed sums

abbrev pub IsHeadlineOf : Option Request → Holdings → List ℕ → Type 0
IsHeadlineOf None holdings bytes = ⊥
IsHeadlineOf (Some (run names order)) holdings bytes = HasRun names order holdings bytes
IsHeadlineOf (Some (batch names first)) holdings bytes = HasAnswered names first holdings bytes
IsHeadlineOf (Some (explain name)) holdings bytes = HasExplained name holdings bytes
IsHeadlineOf (Some (load seed lines)) holdings bytes = HasLoaded seed lines bytes

-- what a job on these words and holdings that ends well has written
abbrev pub IsHeadline : List (List ℕ) → Holdings → List ℕ → Type 0
IsHeadline words holdings bytes = IsHeadlineOf (request_of words) holdings bytes
