-- Lists of one operand and of two.
use Rattle.std.proofs.Common.{◌≡◌, ℕ, suc, ◌+◌, List, [], ◌∷◌, ◌++◌, Err, length, length-append, refl, ap, ◌∙◌, arith}
use Rattle.ct_value.specs.declared.codes.ScriptCode.TheVariants.{TypeMismatch}
use Rattle.query_answer.specs.declared.function.Function.TheVariants.{NullIf, CharLength}
use Rattle.binding.specs.Nodes.{applied}
use Rattle.bind_nodes.specs.declared.bound.Bound.{Bound}
use Rattle.bind_nodes.specs.Views.{bound_view, bounds_view}

pub not_one : (xs : List Bound) → ¬ (length xs ≡ 1) → applied CharLength (bounds_view xs) ≡ Err TypeMismatch
not_one [] h = refl
not_one (x ∷ []) h = absurd (h refl)
not_one (x ∷ y ∷ ys) h = refl

pub not_two : (xs : List Bound) → ¬ (length xs ≡ 2) → applied NullIf (bounds_view xs) ≡ Err TypeMismatch
not_two [] h = refl
not_two (x ∷ []) h = refl
not_two (x ∷ y ∷ []) h = absurd (h refl)
not_two (x ∷ y ∷ z ∷ zs) h = refl

none-left : (xs : List Bound) (n : ℕ) → length xs + suc n ≡ suc n → xs ≡ []
none-left [] n e = refl
none-left (x ∷ xs) n e = absurd (omega arith)

pub only_one : (xs ys : List Bound) (x : Bound) → length xs ≡ 1 → xs ≡ ys ++ x ∷ [] → bounds_view xs ≡ bound_view x ∷ []
only_one xs ys x l e =
    let none = none-left ys 0 (omega (arith, l, ap length e, length-append ys (x ∷ []))) in
    ap bounds_view (e ∙ ap (λ zs. zs ++ x ∷ []) none)

pub only_two : (xs ys zs : List Bound) (x y : Bound) → length xs ≡ 2 → xs ≡ ys ++ y ∷ [] → ys ≡ zs ++ x ∷ [] → bounds_view xs ≡ bound_view x ∷ bound_view y ∷ []
only_two xs ys zs x y l e f =
    let none = none-left zs 1 (omega (arith, l, ap length e, ap length f, length-append ys (y ∷ []), length-append zs (x ∷ []))) in
    ap bounds_view (e ∙ ap (λ ws. ws ++ y ∷ []) (f ∙ ap (λ ws. ws ++ x ∷ []) none))
