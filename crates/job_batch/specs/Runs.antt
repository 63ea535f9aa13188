-- Rows with their counts, as lines.
use Rattle.std.specs.Prelude.{◌≡◌, ℕ, List, [], ◌∷◌, ◌++◌, length}
use Rattle.std.specs.List.{AllByRecursion}
use Rattle.ct_value.specs.Bag.{items}
use Rattle.ct_value.specs.declared.row.Row.{Row}
use Rattle.ct_value.specs.declared.ty.Ty.{Ty}
use Rattle.ct_change.specs.Changelog.{Rows}
use Rattle.ct_io.specs.Copies.{copies_text}
use Rattle.job_text.specs.Printed.{row_line}

-- each row as a line, so many times as it stands
abbrev pub run_lines : List Ty → List (Row × ℕ) → List ℕ
run_lines tys [] = []
run_lines tys (run ∷ runs) = copies_text run.1 (row_line tys run.0) ++ run_lines tys runs

-- each row has so many values
abbrev pub AreWide : ℕ → Rows → Type 0
AreWide width rows = AllByRecursion (λ row. length row ≡ width) (items rows)
