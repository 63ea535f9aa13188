-- Sums over bytes, of which the first lines are taken and the last bytes are kept.
use Rattle.std.specs.Prelude.{◌≡◌, ◌⊎◌, ◌≤◌, ℕ, List, [], ◌++◌, length, Ok}
use Rattle.route.specs.Routing.{key_hash}
use Rattle.job_text.specs.Lines.{Record, records_of}
use Rattle.source_lines.specs.Feeds.{FeedStands, feed_taken}
use Rattle.job_ending.specs.Outcome.{Outcome}
use Rattle.job_ending.specs.Endings.{IsPrintable}
use Rattle.job_ending.specs.Runs.{IsBefore, ending_of_halt}
use Rattle.job_judgement.specs.Judgement.{judgement}
use Rattle.job_judgement.specs.Views.{accepted_view}
use Rattle.job_batch.specs.Batch.{after_lines}
use Rattle.job_run.specs.declared.running_sums.Sums.{Sums}
use Rattle.job_run.specs.declared.running_sums.Taking.{Taking}
use Rattle.job_run.specs.declared.running_sums.Taking.TheVariants.{Going, Halted}
use Rattle.job_run.specs.Loads.{line_count, sums_script}
use Rattle.job_run.specs.Outcome.{after_judgement, changes_limit}

-- the batch answer of the script that sums, by the records of its first table
abbrev pub sums_of : List Record → Outcome
sums_of records = after_judgement (λ script. after_lines script (feed_taken script.inserted.sources records)) (judgement sums_script)

-- the script is accepted and these records are taken, or it is known how their sums end, whatever stands behind them
abbrev pub TakesAs : Taking → List Record → Type 0
TakesAs (Going script feed) records = (judgement sums_script ≡ Ok (accepted_view script)) × FeedStands feed script.inserted.sources records
TakesAs (Halted halt) records = IsPrintable (ending_of_halt halt) × ((more : List Record) → IsBefore halt (sums_of (records ++ more)))

-- a file that is cut behind these bytes has the records of both parts, where the rest begins as told
abbrev pub IsCut : List ℕ → List ℕ → Type 0
IsCut gone start = (more : List ℕ) → records_of (gone ++ (start ++ more)) ≡ records_of gone ++ records_of (start ++ more)

-- of the bytes some are gone, whose lines are taken; the others are kept, more of them than a quiet line has, which isn't taken
pub record AreSums (sums : Sums) (bytes : List ℕ) : Type 0 where
  pub gone : List ℕ
  pub start : List ℕ
  pub other : List ℕ
  pub parts : bytes ≡ gone ++ (sums.block ++ sums.held)
  pub block_is : sums.block ≡ start ++ other
  pub cut : IsCut gone start
  pub taken : TakesAs sums.taking (records_of gone)
  pub count_is : sums.count ≡ length gone
  pub few : length gone ≤ changes_limit
  pub ends_are : sums.ends ≡ line_count gone
  pub hash_is : sums.hash ≡ key_hash bytes
  pub left : (gone ≡ []) ⊎ (32 ≤ length other)

-- the last bytes, behind those that are gone
pub record IsRest (taking : Taking) (count : ℕ) (rest gone : List ℕ) : Type 0 where
  pub taken : TakesAs taking (records_of gone)
  pub count_is : count ≡ length gone
  pub joined : records_of (gone ++ rest) ≡ records_of gone ++ records_of rest
