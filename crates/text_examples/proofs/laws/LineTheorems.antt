-- The examples, computed.
use Rattle.std.specs.Prelude.{List}
use Rattle.std.specs.Str.{is_utf8, chars}
use Rattle.std.proofs.Common.{◌≡◌, refl, map}
use lib.Utf8.{encode}
use Rattle.csv.proofs.OnLiterals.{csv_on_literals}
use Rattle.job_text.specs.Lines.{lines_of}
use Rattle.text_examples.specs.Lines.{Worked, sources, readings, changes, refusals}

abbrev AreRead : List Worked → Type 0
AreRead files = map (λ w. lines_of sources w.file) files ≡ map (λ w. w.lines) files

pub readings_are_read : AreRead readings
unfolding csv_on_literals is_utf8 chars encode
readings_are_read = refl

pub changes_are_read : AreRead changes
unfolding csv_on_literals is_utf8 chars encode
changes_are_read = refl

pub refusals_are_read : AreRead refusals
unfolding csv_on_literals is_utf8 chars encode
refusals_are_read = refl
