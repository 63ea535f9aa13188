-- Forms that begin with an operand, at that operand's type and meaning.
use Rattle.std.specs.Prelude.{List, Option, None}
use Rattle.ct_value.specs.declared.ty.Ty.{Ty}
use Rattle.ct_value.specs.declared.ty.Ty.TheVariants.{Bool as Truths, Int, Text as Texts}
use Rattle.ct_value.specs.declared.value.Value.{Value}
use Rattle.ct_expr.specs.Expr.{Expr, Neg, Arith, Compare, Not, IsNull, InList, NullIf, Cast, Concat, CharLength, Like}
use Rattle.ct_expr.specs.Types.{arith_ty, ty_of}
use Rattle.ct_expr.specs.Eval.{eval, typed_evals}
use Rattle.ct_expr.specs.Values.{minus, arithmetic, comparison, negation, null_test, in_list, null_if, conversion, concatenation, char_length, likeness}

abbrev pub with_first : Expr → Ty → Option Value → List Value → Option Value
with_first (Neg x) t v row = minus t v
with_first (Not x) t v row = negation v
with_first (IsNull x) t v row = null_test v
with_first (Cast x ty) t v row = conversion t ty v
with_first (CharLength x) t v row = char_length v
with_first (InList x xs) t v row = in_list t v (typed_evals xs row)
with_first (Arith op x y) t v row = arithmetic op t (ty_of y) v (eval y row)
with_first (Compare op x y) t v row = comparison op t (ty_of y) v (eval y row)
with_first (NullIf x y) t v row = null_if t (ty_of y) v (eval y row)
with_first (Concat x y) t v row = concatenation v (eval y row)
with_first (Like x y) t v row = likeness v (eval y row)
with_first _ t v row = None

abbrev pub ty_with_first : Expr → Ty → Ty
ty_with_first (Neg x) t = t
ty_with_first (Cast x ty) t = ty
ty_with_first (CharLength x) t = Int
ty_with_first (Arith op x y) t = arith_ty op t (ty_of y)
ty_with_first (NullIf x y) t = t
ty_with_first (Concat x y) t = Texts
ty_with_first _ t = Truths
