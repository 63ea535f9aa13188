use Rattle.std.proofs.Common.{◌≡◌, Option, Some, sym, ap, ◌∙◌}
use Rattle.std.proofs.lemmas.Bool.{false≢true}
use Rattle.ct_value.specs.declared.row.Row.{Row}
use Rattle.ct_change.specs.Changelog.{same_row}
use Rattle.ct_change.proofs.laws.Meanings.{same_row-true, same_row-itself}
use Rattle.op_group.proofs.group.stays.Goals as goal

pub returns-in-Some-Some-clause-same : goal.returns-in-Some-Some-clause-same
returns-in-Some-Some-clause-same c = λ e.
    c.in-Some-Some.is-0 ∙ ap (λ (row : Row). Some row) (same_row-true c.in-Some-Some.old c.in-Some-Some.fresh (sym c.eq.ensures ∙ e)) ∙ sym c.in-Some-Some.is-1

pub returns-in-Some-Some-clause-other : goal.returns-in-Some-Some-clause-other
returns-in-Some-Some-clause-other c = λ e same.
    let both : ◌≡◌ {A = Option Row} (Some c.in-Some-Some.old) (Some c.in-Some-Some.fresh) = sym c.in-Some-Some.is-0 ∙ same ∙ c.in-Some-Some.is-1 in
    let one : c.in-Some-Some.old ≡ c.in-Some-Some.fresh = cc in
    false≢true (sym e ∙ c.eq.ensures ∙ ap (same_row c.in-Some-Some.old) (sym one) ∙ same_row-itself c.in-Some-Some.old)
