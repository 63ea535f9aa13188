-- A line so many times.
use Rattle.std.specs.Prelude.{ℕ, zero, suc, List, [], ◌++◌}

abbrev pub copies_text : ℕ → List ℕ → List ℕ
copies_text zero line = []
copies_text (suc count) line = line ++ copies_text count line
