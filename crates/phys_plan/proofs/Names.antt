-- Names with commas between them, one after the other.
use Rattle.std.proofs.Common.{◌≡◌, ℕ, ◌+◌, Bool, true, false, List, [], ◌∷◌, ◌++◌, map, refl, ap, ◌∙◌, arith}
use Rattle.std.specs.Prelude.{codes, ◌||◌}
use Rattle.ct_change.specs.declared.kind.KindSet.{KindSet}
use Rattle.phys_plan.specs.Explained.{commas, kind_names}
use Rattle.phys_plan.specs.Parts.{name_part}

pub from_zero : (ns : List ℕ) → map (λ n. 0 + n) ns ≡ ns
from_zero [] = refl
from_zero (n ∷ ns) = let e : 0 + n ≡ n = omega arith in ap (λ m. m ∷ map (λ k. 0 + k) ns) e ∙ ap (λ ms. n ∷ ms) (from_zero ns)

names : (i ub ua d : Bool) → commas (kind_names (record { i = i; ub = ub; ua = ua; d = d })) ≡ name_part i false (codes "I") ++ (name_part ub i (codes "UB") ++ (name_part ua (i || ub) (codes "UA") ++ name_part d (i || (ub || ua)) (codes "D")))
names false false false false = refl
names false false false true = refl
names false false true false = refl
names false false true true = refl
names false true false false = refl
names false true false true = refl
names false true true false = refl
names false true true true = refl
names true false false false = refl
names true false false true = refl
names true false true false = refl
names true false true true = refl
names true true false false = refl
names true true false true = refl
names true true true false = refl
names true true true true = refl

pub names_parts : (kinds : KindSet) → commas (kind_names kinds) ≡ name_part kinds.i false (codes "I") ++ (name_part kinds.ub kinds.i (codes "UB") ++ (name_part kinds.ua (kinds.i || kinds.ub) (codes "UA") ++ name_part kinds.d (kinds.i || (kinds.ub || kinds.ua)) (codes "D")))
names_parts kinds = names kinds.i kinds.ub kinds.ua kinds.d
