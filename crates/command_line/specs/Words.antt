-- The words of the command line: the command, and what the words ask of it.
use Rattle.std.specs.Prelude.{ℕ, ◌<◌, ◌^◌, true, List, [], ◌∷◌, Option, Some, None, option_and_then, option_map, if◌then◌else◌, codes}
use Rattle.std.specs.Str.{bytes_eq}
use Rattle.std.specs.Str.Parse.{IsNumeral, digits_value, without_leading_plus}
use Rattle.clap.specs.Simple.{on_top}
use Rattle.clap.specs.Kinds.{Kinds}
use Rattle.clap.specs.Words.{App, Rule, fault_of, first_of, matches_of, new_app, new_rule, with_rule}
use Rattle.clap.specs.declared.builder.action.ArgAction.TheVariants.{Set}
use Rattle.clap.specs.declared.builder.value_parser.ValueParser.TheVariants as vp

-- ---- the command

-- an option with a value of any text
abbrev pub text_option : List ℕ → Rule
text_option name = record (new_rule name) { long = Some name; action = Some Set }

-- an option whose value is a number up to `most`
abbrev pub number_option : List ℕ → ℕ → Rule
number_option name most = record (text_option name) { parser = Some (vp.Unsigned 0 most) }

-- a command that takes words with no program's name before them, and no option yet
abbrev pub bare_app : List ℕ → App
bare_app name = on_top (λ s. record s { no_binary_name = true }) (new_app name)

-- with the options that name files
abbrev pub with_files : App → App
with_files app =
    with_rule (with_rule (with_rule (with_rule app
    (text_option (codes "script")))
    (text_option (codes "changes")))
    (text_option (codes "feeds")))
    (text_option (codes "order"))

-- with the options whose values are numbers
abbrev pub with_numbers : App → App
with_numbers app =
    with_rule (with_rule (with_rule app
    (number_option (codes "first") 4294967295))
    (number_option (codes "seed") 18446744073709551615))
    (number_option (codes "lines") 1000000)

-- the command and its options, each of which may be given once
abbrev pub the_app : App
the_app = with_numbers (with_files (with_rule (bare_app (codes "dyntab")) (text_option (codes "do"))))

-- the value that the words give an option
abbrev pub value_of : List (List ℕ) → List ℕ → Option (List ℕ)
value_of words name = first_of name (matches_of the_app words)

-- digits, behind a plus or not, of a number of 64 bits
abbrev pub IsWhole : List ℕ → Type 0
IsWhole text = IsNumeral 10 (without_leading_plus text) × (digits_value 10 (without_leading_plus text) < 2 ^ 64)

-- a value, where there is one, is such a text
abbrev pub IsNumber : Option (List ℕ) → Type 0
IsNumber None = Unit {0}
IsNumber (Some text) = IsWhole text

-- the number that such a text is
abbrev pub number_in : List ℕ → ℕ
number_in text = digits_value 10 (without_leading_plus text)

-- ---- what is asked for

-- the change files: one of all sources by its name, or one of each source by the prefix of their names
pub data Input : Type 0 where
  changes : List ℕ → Input
  feeds : List ℕ → Input

-- the names of a script and of the change files
pub record FileNames : Type 0 where
  pub script : List ℕ
  pub input : Input

pub data Request : Type 0 where
  -- the changelog of the sink, in the order of the file of this name where there is one
  run : FileNames → Option (List ℕ) → Request
  -- the answer over the first so many changes, or over all
  batch : FileNames → Option ℕ → Request
  -- the plan of the script of this name
  explain : List ℕ → Request
  -- the sums over a run on lines that are made from this seed, so many
  load : ℕ → ℕ → Request

-- what can be done
pub data Command : Type 0 where
  running : Command
  answering : Command
  explaining : Command
  loading : Command

-- the values that the words give the options
pub record Given : Type 0 where
  pub what : Option (List ℕ)
  pub script : Option (List ℕ)
  pub changes : Option (List ℕ)
  pub feeds : Option (List ℕ)
  pub order : Option (List ℕ)
  pub first : Option (List ℕ)
  pub seed : Option (List ℕ)
  pub lines : Option (List ℕ)

-- the values that are to be numbers are
pub record AreNumbers (given : Given) : Type 0 where
  pub first : IsNumber given.first
  pub seed : IsNumber given.seed
  pub lines : IsNumber given.lines

-- by the value of `--do`: a run where it isn't given
abbrev pub command_of : Option (List ℕ) → Option Command
command_of None = Some running
command_of (Some word) =
    if bytes_eq word (codes "run") then Some running
    else (if bytes_eq word (codes "batch") then Some answering
    else (if bytes_eq word (codes "explain") then Some explaining
    else (if bytes_eq word (codes "load") then Some loading else None)))

abbrev pub names : List ℕ → Input → FileNames
names script input = record { script = script; input = input }

-- the values that each command needs and those that it may have: of a script, changes, feeds, an order, a number of changes, a seed and a
-- number of lines; each other use is wrong
abbrev pub asked : Command → Option (List ℕ) → Option (List ℕ) → Option (List ℕ) → Option (List ℕ) → Option (List ℕ) → Option (List ℕ) → Option (List ℕ) → Option Request
asked running (Some script) (Some name) None order None None None = Some (run (names script (changes name)) order)
asked running (Some script) None (Some prefix) order None None None = Some (run (names script (feeds prefix)) order)
asked answering (Some script) (Some name) None None first None None = Some (batch (names script (changes name)) (option_map number_in first))
asked answering (Some script) None (Some prefix) None None None None = Some (batch (names script (feeds prefix)) None)
asked explaining (Some script) None None None None None None = Some (explain script)
asked loading None None None None None (Some seed) (Some lines) = Some (load (number_in seed) (number_in lines))
asked command script name prefix order first seed lines = None

abbrev pub asked_of : Given → Command → Option Request
asked_of given command = asked command given.script given.changes given.feeds given.order given.first given.seed given.lines

abbrev pub asked_by : Given → Option Request
asked_by given = option_and_then (asked_of given) (command_of given.what)

-- nothing where the command finds a fault
abbrev pub unless_fault : Kinds → Option Request → Option Request
unless_fault [] request = request
unless_fault (fault ∷ faults) request = None

-- the values by the options' names
abbrev pub given_by : (List ℕ → Option (List ℕ)) → Given
given_by value = record {
  what = value (codes "do");
  script = value (codes "script");
  changes = value (codes "changes");
  feeds = value (codes "feeds");
  order = value (codes "order");
  first = value (codes "first");
  seed = value (codes "seed");
  lines = value (codes "lines");
}

-- what these words ask for; None is a wrong use
unfoldable pub request_of : List (List ℕ) → Option Request
request_of words = unless_fault (fault_of the_app words) (asked_by (given_by (value_of words)))
