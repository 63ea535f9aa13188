use Rattle.std.proofs.Common.{◌≡◌, ◌∙◌, ℕ, sym, ap, get_or, arith}
use Rattle.std.specs.Prelude.{None, Some}
use Rattle.std.proofs.lemmas.Grind.{common_steps}
use Rattle.column_sets.specs.Places.{place_of}
use Rattle.column_sets.proofs.Stays.{lost, stayed}
use Rattle.column_sets.proofs.places.places_of.Goals as goal

pub returns-in_default : goal.returns-in_default
returns-in_default c = λ items known.
    let i = c.loop-col.col-index in
    let cols = c.args.cols.now in
    let e : place_of items (get_or cols i 0) ≡ None = sym (known (get_or cols i 0)) ∙ sym c.place_in.ensures ∙ c.in_default.is in
    lost items cols i c.loop-col.found c.loop-col-test.true e (c.loop-col.invariant items known)

pub loop-col-preserved : goal.loop-col-preserved
loop-col-preserved c = λ items known.
    let i = c.loop-col.col-index in
    let cols = c.args.cols.now in
    let same : c.in-Some.place ≡ c.in-Ok.place = grind (arith, common_steps) in
    let e : place_of items (get_or cols i 0) ≡ Some c.in-Ok.place = sym (known (get_or cols i 0)) ∙ sym c.place_in.ensures ∙ c.in-Some.is ∙ ap (λ (n : ℕ). Some n) same in
    let f = stayed items cols i c.in-Ok.place c.loop-col.found c.loop-col-test.true e (c.loop-col.invariant items known) in
    grind (arith, common_steps, f)
