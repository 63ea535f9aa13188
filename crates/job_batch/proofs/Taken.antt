-- The lines taken before the rows are answered.
use Rattle.std.proofs.Common.{◌≡◌, ℕ, List, Option, Ok, Err, sym, ap, subst, ◌∙◌}
use Rattle.ct_change.specs.Changelog.{Rows}
use Rattle.ct_catalog.specs.declared.table.TableDef.{TableDef}
use Rattle.source_lines.specs.Fitting.{RowsFit}
use Rattle.ct_value.specs.declared.codes.ChangeCode.{ChangeCode}
use Rattle.source_lines.specs.Taken.{Taken, rows_of, taken_of}
use Rattle.source_lines.specs.declared.supply.ChangeFiles.{ChangeFiles}
use Rattle.job_ending.specs.declared.ending.Ending.TheVariants.{Change}
use Rattle.job_ending.specs.Outcome.{ends}
use Rattle.job_judgement.specs.Judgement.{Accepted}
use Rattle.job_batch.specs.Batch.{after_lines, over_tables, with_changes, with_rows}

-- these rows are those that the first lines leave
abbrev pub AreTaken : List TableDef → Option ℕ → ChangeFiles → List Rows → Type 0
AreTaken sources first files bags = (taken : Taken) × (taken_of sources first files ≡ Ok taken) × (bags ≡ rows_of sources taken)

pub taken_fit : ((sources : List TableDef) (first : Option ℕ) (files : ChangeFiles) (taken : Taken) → taken_of sources first files ≡ Ok taken → RowsFit sources (rows_of sources taken))
    → (sources : List TableDef) (first : Option ℕ) (files : ChangeFiles) (bags : List Rows) → AreTaken sources first files bags → RowsFit sources bags
taken_fit fit sources first files bags are = subst (λ (b : List Rows). RowsFit sources b) (sym are.2) (fit sources first files are.0 are.1)

pub same_over : (script : Accepted) (first : Option ℕ) (files : ChangeFiles) (bags : List Rows) → AreTaken script.inserted.sources first files bags
    → with_changes script first files ≡ over_tables script (with_rows script.inserted.sources bags)
same_over script first files bags are = ap (after_lines script) are.1 ∙ ap (λ (b : List Rows). over_tables script (with_rows script.inserted.sources b)) (sym are.2)

-- a line is refused
pub refused_line : (script : Accepted) (first : Option ℕ) (files : ChangeFiles) (code : ChangeCode) (line table : ℕ)
    → taken_of script.inserted.sources first files ≡ Err (record { line = line; table = table; code = code }) → with_changes script first files ≡ ends (Change code line table)
refused_line script first files code line table is = ap (after_lines script) is
