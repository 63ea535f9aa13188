use Rattle.std.proofs.Common.{◌≡◌, suc, Bool, true, false, ◌&&◌, List, [], ◌∷◌, length, refl, sym, ap, ◌∙◌}
use Rattle.rel_algebra.specs.declared.agg.Agg.{Agg}
use Rattle.plan_shape.specs.Shape.{same_agg, same_aggs}
use Rattle.plan_shape.proofs.consumers.same_aggs.Goals as goal

no-and : (b : Bool) → (b && false) ≡ false
no-and true = refl
no-and false = refl

uneven : (aggs others : List Agg) → (length aggs ≡ length others → ⊥) → same_aggs aggs others ≡ false
uneven [] [] h = absurd (h refl)
uneven [] (other ∷ others) h = refl
uneven (agg ∷ aggs) [] h = refl
uneven (agg ∷ aggs) (other ∷ others) h = ap (λ b. same_agg agg other && b) (uneven aggs others (λ e. h (ap suc e))) ∙ no-and (same_agg agg other)

pub returns-then-aggs-others : goal.returns-then-aggs-others
returns-then-aggs-others c = sym (uneven c.args.aggs.now c.args.others.now c.if-aggs-others.true)
