-- An expression that has a type over the columns of a row is there a value of its column, or out of range.
use Rattle.std.proofs.Common.{◌≡◌, ℕ, zero, suc, Bool, true, false, cond, not, ◌&&◌, ◌||◌, List, [], ◌∷◌, Option, Some, None, refl, sym, ap, ◌∙◌, subst}
use Rattle.std.specs.Prelude.{option_and_then, slice_get}
use Rattle.ct_value.specs.declared.value.Value.{Value}
use Rattle.ct_value.specs.declared.value.Value.TheVariants.{Null, Bool as Truth}
use Rattle.ct_value.specs.declared.ty.Ty.{Ty}
use Rattle.ct_value.specs.declared.ty.Ty.TheVariants.{Bool as Truths, Text as Texts}
use Rattle.ct_value.specs.declared.ty.ColTy.{ColTy}
use Rattle.ct_field.specs.Numbers.{is_type}
use Rattle.ct_field.specs.Typed.{value_fits, is_null, col_fits, row_fits}
use Rattle.ct_expr.specs.Expr.{Expr, Exprs, Whens, OptionalExpr, Column, Literal, Neg, Arith, Compare, And, Or, Not, IsNull, InList, Case, Coalesce, NullIf, Cast, Concat, CharLength, Like, no_exprs, expr_and, no_whens, when_and, no_expr, some_expr}
use Rattle.ct_expr.specs.Eval.{cell, typed, eval, evals, typed_evals, branches, otherwise}
use Rattle.ct_expr.specs.Types as t
use Rattle.ct_expr.specs.Types.{same_ty, col, both_of, gather, gather_some, literal_col, number_col, arith_col, compare_col, logic_col, truth_col, all_truths, null_test_col, in_list_col, case_col, coalesce_col, null_if_col, cast_col, texts_col, char_length_col, type_of, types_of, conds_of, results_of, otherwise_of, ty_of}
use Rattle.ct_expr.specs.Values.{and_of, or_of, not_of, minus_of, arith_of, compare_of, null_if_of, in_list_of, concat_of, char_length_of, like_of, cast_of, first_chosen}
use Rattle.typing_laws.specs.Meaning.{IsOf}
use Rattle.typing_laws.proofs.laws.Lifted.{Lift, LiftAll, lift_out, lift_if, lift_then, lift_map, lift_gather}
use Rattle.typing_laws.proofs.laws.Kinds.{Holds, holds_fits, fits_holds, first_true, second_true, same_null, same_fits}
use Rattle.typing_laws.proofs.laws.Named.{Named, named}
use Rattle.typing_laws.proofs.laws.Forms.{minus_holds, arith_holds, compare_holds, null_if_holds, and_holds, or_holds, not_holds, null_test_holds, HoldsItem, in_list_holds, concat_holds, like_holds, char_length_holds, cast_holds}
use Rattle.typing_laws.proofs.laws.Choices.{LiftResults, no_else_holds, else_holds, coalesce_holds}

-- ---- forms that look at the types of their operands

unary : (f : ColTy → Option ColTy) (g : Ty → Value → Option Value) → ((c : ColTy) (v : Value) → Holds c v → Lift Holds (f c) (g c.ty v)) → (o : Option ColTy) (ty : Ty) (m : Option Value) → Named o ty → Lift Holds o m → Lift Holds (option_and_then f o) (option_and_then (g ty) m)
unary f g step None ty m e h = tt
unary f g step (Some c) ty None e h = lift_out Holds (f c)
unary f g step (Some c) ty (Some v) e h = subst (λ s. Lift Holds (f c) (g s v)) e (step c v h)

binary : (f : ColTy → ColTy → Option ColTy) (g : Ty → Ty → Value → Value → Option Value) → ((c d : ColTy) (v w : Value) → Holds c v → Holds d w → Lift Holds (f c d) (g c.ty d.ty v w))
    → (o p : Option ColTy) (s u : Ty) (m k : Option Value) → Named o s → Named p u → Lift Holds o m → Lift Holds p k → Lift Holds (both_of f o p) (both_of (g s u) m k)
binary f g step None p s u m k a b h i = tt
binary f g step (Some c) None s u m k a b h i = tt
binary f g step (Some c) (Some d) s u None k a b h i = lift_out Holds (f c d)
binary f g step (Some c) (Some d) s u (Some v) None a b h i = lift_out Holds (f c d)
binary f g step (Some c) (Some d) s u (Some v) (Some w) a b h i = subst (λ r. Lift Holds (f c d) (g r u v w)) a (subst (λ r. Lift Holds (f c d) (g c.ty r v w)) b (step c d v w h i))

-- ---- leaves

cell_holds : (cols : List ColTy) (row : List Value) → row_fits cols row ≡ true → (n : ℕ) → Lift Holds (slice_get cols n) (Some (cell n row))
cell_holds [] [] h n = tt
cell_holds [] (v ∷ row) h n = absurd (cc)
cell_holds (c ∷ cols) [] h n = absurd (cc)
cell_holds (c ∷ cols) (v ∷ row) h zero = fits_holds c v (first_true (col_fits c v) (row_fits cols row) h)
cell_holds (c ∷ cols) (v ∷ row) h (suc n) = cell_holds cols row (second_true (col_fits c v) (row_fits cols row) h) n

column_holds : (o : Option ColTy) (ty : Ty) (v : Value) → Lift Holds o (Some v) → Lift Holds (option_and_then (λ c. cond (same_ty c.ty ty) (Some c) None) o) (Some v)
column_holds None ty v h = tt
column_holds (Some c) ty v h = lift_if Holds (same_ty c.ty ty) c (Some v) (λ e. h)

or_not : (b : Bool) → (b || not b) ≡ true
or_not true = refl
or_not false = refl

literal_holds : (v : Value) (ty : Ty) → Lift Holds (literal_col v ty) (Some v)
literal_holds v ty = lift_if Holds (is_type ty && t.value_fits ty v) (col ty (t.is_null v)) (Some v) (λ e.
    (sym (same_fits ty v) ∙ second_true (is_type ty) (t.value_fits ty v) e, ap (λ b. b || not (is_null v)) (same_null v) ∙ or_not (is_null v)))

all_truths_hold : (f : Value → Value → Value) → ((c : ColTy) (v : Value) (d : ColTy) (w : Value) → Holds c v → Holds d w → Lift Holds (logic_col c d) (Some (f v w))) → (start : Bool) (os : List (Option ColTy)) (ms : List (Option Value)) → LiftAll Holds os ms
    → Lift Holds (all_truths os) (gather (λ v w. Some (f v w)) (Some (Truth start)) ms)
all_truths_hold f step start [] ms h = tt
all_truths_hold f step start (o ∷ os) ms h = lift_gather Holds Holds logic_col (λ v w. Some (f v w)) step (o ∷ os) ms h (Some (col Truths false)) (Some (Truth start)) (refl, refl)

item_holds : (o : Option ColTy) (ty : Ty) (m : Option Value) → Named o ty → Lift Holds o m → Lift HoldsItem o (typed ty m)
item_holds None ty m e h = tt
item_holds (Some c) ty None e h = tt
item_holds (Some c) ty (Some v) e h = (e, h)

-- a CASE whose conditions have no type has none
case_holds : (conds made : Option ColTy) (m : Option Value) → Lift Holds made m → Lift Holds (option_and_then (λ _. made) conds) m
case_holds None made m h = tt
case_holds (Some c) made m h = h

-- ---- every expression

module _ (cols : List ColTy) (row : List Value) (fits : row_fits cols row ≡ true) where
  mutual
    pub holds : (x : Expr) → Lift Holds (type_of x cols) (eval x row)
    holds (Column n ty) = column_holds (slice_get cols n) ty (cell n row) (cell_holds cols row fits n)
    holds (Literal v ty) = literal_holds v ty
    holds (Neg x) = unary number_col minus_of minus_holds (type_of x cols) (ty_of x) (eval x row) (named cols x) (holds x)
    holds (Arith op x y) = binary (arith_col op) (arith_of op) (arith_holds op) (type_of x cols) (type_of y cols) (ty_of x) (ty_of y) (eval x row) (eval y row) (named cols x) (named cols y) (holds x) (holds y)
    holds (Compare op x y) = binary compare_col (λ s u v w. Some (compare_of op s u v w)) (compare_holds op) (type_of x cols) (type_of y cols) (ty_of x) (ty_of y) (eval x row) (eval y row) (named cols x) (named cols y) (holds x) (holds y)
    holds (And xs) = all_truths_hold and_of and_holds true (types_of xs cols) (evals xs row) (hold_all xs)
    holds (Or xs) = all_truths_hold or_of or_holds false (types_of xs cols) (evals xs row) (hold_all xs)
    holds (Not x) = lift_map Holds Holds truth_col not_of not_holds (type_of x cols) (eval x row) (holds x)
    holds (IsNull x) = lift_map Holds Holds null_test_col (λ w. Truth (t.is_null w)) null_test_holds (type_of x cols) (eval x row) (holds x)
    holds (InList x xs) = unary (λ c. in_list_col c (types_of xs cols)) (λ s v. in_list_of s v (typed_evals xs row)) (in_list_holds (types_of xs cols) (typed_evals xs row) (hold_items xs)) (type_of x cols) (ty_of x) (eval x row) (named cols x) (holds x)
    holds (Case ws o) = case_holds (all_truths (conds_of ws cols)) (otherwise_of o cols (gather_some case_col (results_of ws cols))) (first_chosen (branches ws row) (otherwise o row)) (case_with (gather_some case_col (results_of ws cols)) (results_of ws cols) (branches ws row) refl (hold_results ws) o)
    holds (Coalesce xs) = coalesce_holds (gather_some coalesce_col (types_of xs cols)) (types_of xs cols) (evals xs row) refl (hold_all xs)
    holds (NullIf x y) = binary null_if_col (λ s u v w. Some (null_if_of s u v w)) null_if_holds (type_of x cols) (type_of y cols) (ty_of x) (ty_of y) (eval x row) (eval y row) (named cols x) (named cols y) (holds x) (holds y)
    holds (Cast x ty) = unary (cast_col ty) (λ s. cast_of s ty) (cast_holds ty) (type_of x cols) (ty_of x) (eval x row) (named cols x) (holds x)
    holds (Concat x y) = binary (texts_col Texts) (λ s u. concat_of) concat_holds (type_of x cols) (type_of y cols) (ty_of x) (ty_of y) (eval x row) (eval y row) (named cols x) (named cols y) (holds x) (holds y)
    holds (CharLength x) = lift_then Holds Holds char_length_col char_length_of char_length_holds (type_of x cols) (eval x row) (holds x)
    holds (Like x y) = binary (texts_col Truths) (λ s u v w. Some (like_of v w)) like_holds (type_of x cols) (type_of y cols) (ty_of x) (ty_of y) (eval x row) (eval y row) (named cols x) (named cols y) (holds x) (holds y)

    hold_all : (xs : Exprs) → LiftAll Holds (types_of xs cols) (evals xs row)
    hold_all no_exprs = tt
    hold_all (expr_and x xs) = (holds x, hold_all xs)

    hold_items : (xs : Exprs) → LiftAll HoldsItem (types_of xs cols) (typed_evals xs row)
    hold_items no_exprs = tt
    hold_items (expr_and x xs) = (item_holds (type_of x cols) (ty_of x) (eval x row) (named cols x) (holds x), hold_items xs)

    hold_results : (ws : Whens) → LiftResults (results_of ws cols) (branches ws row)
    hold_results no_whens = tt
    hold_results (when_and x y ws) = (holds y, hold_results ws)

    case_with : (made : Option ColTy) (os : List (Option ColTy)) (bs : List (Option Value × Option Value)) → gather_some case_col os ≡ made → LiftResults os bs → (o : OptionalExpr) → Lift Holds (otherwise_of o cols made) (first_chosen bs (otherwise o row))
    case_with made os bs e h no_expr = no_else_holds made os bs e h
    case_with made os bs e h (some_expr x) = else_holds made (type_of x cols) (eval x row) os bs e h (holds x)

  -- at a type that is there
  settled : (o : Option ColTy) (m : Option Value) (c : ColTy) → Lift Holds o m → o ≡ Some c → IsOf c m
  settled None m c h e = absurd (cc)
  settled (Some d) None c h e = tt
  settled (Some d) (Some v) c h e = let i : d ≡ c = cc in subst (λ b. col_fits b v ≡ true) i (holds_fits d v h)

  pub is_of_its_column : (x : Expr) (c : ColTy) → type_of x cols ≡ Some c → IsOf c (eval x row)
  is_of_its_column x c e = settled (type_of x cols) (eval x row) c (holds x) e

  -- where NULL may not stand it doesn't
  pub never_null : (x : Expr) (c : ColTy) → type_of x cols ≡ Some c → c.nullable ≡ false → ¬ (eval x row ≡ Some Null)
  never_null x c e n k =
      let h : (c.nullable || false) ≡ true = second_true (value_fits c.ty Null) (c.nullable || false) (subst (λ m. IsOf c m) k (is_of_its_column x c e)) in
      let i : false ≡ true = subst (λ b. (b || false) ≡ true) n h in
      cc
