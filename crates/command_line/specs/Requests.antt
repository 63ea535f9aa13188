-- Requests and values as the definitions see them.
use Rattle.std.specs.Prelude.{option_map}
use Rattle.command_line.specs.declared.words.FileNames.{FileNames as FileNamesValue}
use Rattle.command_line.specs.declared.words.Given.{Given as GivenValue}
use Rattle.command_line.specs.declared.words.Input.{Input as InputValue}
use Rattle.command_line.specs.declared.words.Input.TheVariants.{Changes, Feeds}
use Rattle.command_line.specs.declared.words.Request.{Request as RequestValue}
use Rattle.command_line.specs.declared.words.Request.TheVariants.{Run, Batch, Explain, Load}
use Rattle.command_line.specs.Words.{FileNames, Given, Input, Request, run, batch, changes, explain, feeds, load}

abbrev pub input_view : InputValue → Input
input_view (Changes name) = changes name
input_view (Feeds prefix) = feeds prefix

abbrev pub names_view : FileNamesValue → FileNames
names_view names = record { script = names.script; input = input_view names.input }

abbrev pub request_view : RequestValue → Request
request_view (Run names order) = run (names_view names) order
request_view (Batch names first) = batch (names_view names) first
request_view (Explain script) = explain script
request_view (Load seed lines) = load seed lines

abbrev pub given_view : GivenValue → Given
given_view given = record {
  what = option_map (λ s. s.now) given.what;
  script = option_map (λ s. s.now) given.script;
  changes = option_map (λ s. s.now) given.changes;
  feeds = option_map (λ s. s.now) given.feeds;
  order = option_map (λ s. s.now) given.order;
  first = option_map (λ s. s.now) given.first;
  seed = option_map (λ s. s.now) given.seed;
  lines = option_map (λ s. s.now) given.lines;
}
