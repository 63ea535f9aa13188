-- What a project sends for a change, over an edge that is after-only by a key.
use Rattle.std.proofs.Common.{◌≡◌, ℕ, true, false, List, [], ◌∷◌, map, Option, Some, sym, ap, ◌∙◌, Ok}
use Rattle.ct_value.specs.declared.row.Row.{Row}
use Rattle.ct_change.specs.declared.change.Change.{Change}
use Rattle.ct_change.specs.Changelog.{adds}
use Rattle.ct_change.specs.KeyRows.{key_row}
use Rattle.ct_expr.specs.Expr.{Expr}
use Rattle.op_rules.specs.Rules.{Answer}
use Rattle.emission_rules.specs.Project.{row_made, value_handed, handed, image_of, row_after, with_row, project_change}

-- a change that adds is evaluated
pub comes : (items : List Expr) (key : List ℕ) (change : Change) (given : Answer) → adds change.kind ≡ true → with_row change (row_made items change.row) ≡ given → project_change (record { items = items; after = Some key }) change ≡ given
comes items key change given adding e = ap (λ b. with_row change (row_after (Some key) items b change.row)) adding ∙ e

-- and one that removes tells the key alone
pub goes : (items : List Expr) (key places : List ℕ) (columns : List (Option ℕ)) (change : Change) (row : Row) (sent : List Change)
    → adds change.kind ≡ false → columns ≡ handed items → places ≡ image_of items key → row ≡ key_row places (map (value_handed change.row) columns) → sent ≡ record { kind = change.kind; row = row } ∷ []
    → project_change (record { items = items; after = Some key }) change ≡ Ok sent
goes items key places columns change row sent removing is_handed is_image made told =
    ap (λ b. with_row change (row_after (Some key) items b change.row)) removing
    ∙ ap (with_row change) (sym (ap (λ (r : Row). Some r) (made ∙ ap (λ s. key_row s (map (value_handed change.row) columns)) is_image ∙ ap (λ cs. key_row (image_of items key) (map (value_handed change.row) cs)) is_handed)))
    ∙ ap (λ (xs : List Change). let r : Answer = Ok xs in r) (sym told)
