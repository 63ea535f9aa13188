-- What a normalizer emits, computed on the list of what came before.
use Rattle.std.specs.Prelude.{ℕ, cond, List, [], ◌∷◌, ◌++◌, Option, None}
use Rattle.ct_value.specs.Rows.{project}
use Rattle.ct_value.specs.declared.row.Row.{Row}
use Rattle.ct_change.specs.declared.change.Change.{Change}
use Rattle.ct_change.specs.Changelog.{same_row, adds}
use Rattle.ct_change.specs.Emission.{emission}
use Rattle.emission_rules.specs.Normalize.{Normalize, row_left}

-- what the last change of a row's key left, or else the row that stood before
abbrev pub last_of : List ℕ → Row → Option Row → List Change → Option Row
last_of key row before [] = before
last_of key row before (change ∷ changes) = last_of key row (cond (same_row (project key row) (project key change.row)) (row_left (adds change.kind) change.row) before) changes

-- the changes that are emitted for what comes at port and change, behind these
abbrev pub listed_changes : Normalize → List Change → List (ℕ × Change) → List Change
listed_changes normalize before [] = []
listed_changes normalize before (a ∷ others) =
    emission normalize.output (last_of normalize.key a.1.row None before) (row_left (adds a.1.kind) a.1.row) ++ listed_changes normalize (before ++ a.1 ∷ []) others
