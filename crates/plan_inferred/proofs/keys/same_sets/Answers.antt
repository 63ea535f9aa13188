use Rattle.std.proofs.Common.{◌≡◌, ℕ, suc, Bool, true, false, ◌&&◌, List, [], ◌∷◌, length, refl, sym, ap, ◌∙◌}
use Rattle.std.specs.Str.{bytes_eq as same_numbers}
use Rattle.plan_inferred.specs.Same.{same_sets}
use Rattle.plan_inferred.proofs.keys.same_sets.Goals as goal

no-and : (b : Bool) → (b && false) ≡ false
no-and true = refl
no-and false = refl

uneven : (sets others : List (List ℕ)) → (length sets ≡ length others → ⊥) → same_sets sets others ≡ false
uneven [] [] h = absurd (h refl)
uneven [] (other ∷ others) h = refl
uneven (set ∷ sets) [] h = refl
uneven (set ∷ sets) (other ∷ others) h = ap (λ b. same_numbers set other && b) (uneven sets others (λ e. h (ap suc e))) ∙ no-and (same_numbers set other)

pub returns-then-len : goal.returns-then-len
returns-then-len c = sym (uneven c.args.sets.now c.args.others.now (λ e. c.if-len.true (c.len.ensures ∙ e ∙ sym c.len-2.ensures)))
