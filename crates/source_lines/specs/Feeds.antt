-- The file of the first source, taken part by part.
use Rattle.std.specs.Prelude.{◌≡◌, List, length, Some, Result, Ok}
use Rattle.ct_catalog.specs.declared.table.TableDef.{TableDef}
use Rattle.job_text.specs.Lines.{Record}
use Rattle.source_lines.specs.declared.feed_fold.FeedFold.{FeedFold}
use Rattle.source_lines.specs.Standing.{StandAll}
use Rattle.source_lines.specs.Taken.{RefusedLine, Taken, nothing_taken, take_records}

-- what is taken where these records are all of the first source, and of no other there is one
abbrev pub feed_taken : List TableDef → List Record → Result Taken RefusedLine
feed_taken sources records = take_records sources (Some 0) 1 nothing_taken records

-- these records were taken, none of which is refused
pub record FeedStands (feed : FeedFold) (sources : List TableDef) (records : List Record) : Type 0 where
  pub taken : Taken
  pub accepted : feed_taken sources records ≡ Ok taken
  pub of_sources : feed.sources ≡ sources
  pub stand : StandAll sources feed.folds.items taken
  pub read_is : feed.read ≡ length records
