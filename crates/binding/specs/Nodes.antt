-- An expression over columns for each node of a tree, where the table of expressions gives it a type: from the expressions of its
-- operands.
use Rattle.std.specs.Prelude.{ℤ, Bool, true, false, ◌&&◌, ◌||◌, not, List, [], ◌∷◌, ◌++◌, map, Option, Some, None, option_map, option_and_then, Ok, Err}
use Rattle.ct_value.specs.declared.codes.ScriptCode.TheVariants.{TypeMismatch, Unsupported, NotGrouped, Nondeterministic}
use Rattle.ct_value.specs.declared.ty.ColTy.{ColTy}
use Rattle.ct_value.specs.declared.ty.Ty.{Ty}
use Rattle.ct_value.specs.declared.ty.Ty.TheVariants.{Bool as Truths, Text as Texts}
use Rattle.ct_value.specs.declared.value.CompareOp.{CompareOp}
use Rattle.ct_value.specs.declared.value.CompareOp.TheVariants.{Le, Ge}
use Rattle.ct_value.specs.declared.value.Value.{Value}
use Rattle.ct_value.specs.declared.value.Value.TheVariants.{Null, Num}
use Rattle.ct_expr.specs.declared.expr.ArithOp.{ArithOp}
use Rattle.ct_expr.specs.declared.expr.ArithOp.TheVariants.{Add, Sub, Mul}
use Rattle.ct_expr.specs.Expr.{Expr, Exprs, exprs, whens, optional_expr}
use Rattle.ct_expr.specs.Expr as e
use Rattle.ct_expr.specs.Types.{gather_some, literal_col, number_col, arith_col, compare_col, truth_col, all_truths, null_test_col, in_list_col, case_col, coalesce_col, null_if_col, cast_col, texts_col, char_length_col}
use Rattle.rel_algebra.specs.declared.agg.AggCall.{AggCall}
use Rattle.rel_algebra.specs.declared.agg.AggCall.TheVariants.{Count}
use Rattle.sql_syntax.specs.declared.tree.ProductWord.{ProductWord}
use Rattle.sql_syntax.specs.declared.tree.ProductWord.TheVariants.{Times, Divide, Modulo}
use Rattle.sql_syntax.specs.declared.tree.SumWord.{SumWord}
use Rattle.sql_syntax.specs.declared.tree.SumWord.TheVariants.{Plus, Minus, Concat}
use Rattle.query_answer.specs.declared.function.Function.{Function}
use Rattle.query_answer.specs.declared.function.Function.TheVariants.{Aggregate, Coalesce, NullIf, CharLength, RowNumber, Changing, Unknown}
use Rattle.query_answer.specs.Table.{with_otherwise}
use Rattle.binding.specs.Checked.{Checked, ◌>>=◌, refused_if}

-- an expression with its type
pub record Bound : Type 0 where
  pub expr : Expr
  pub column : ColTy

-- an expression of this type, where there is one
abbrev pub typed : Option ColTy → Expr → Checked Bound
typed None x = Err TypeMismatch
typed (Some column) x = Ok (record { expr = x; column = column })

abbrev pub columns : List Bound → List (Option ColTy)
columns xs = map (λ x. Some x.column) xs

abbrev pub expr_list : List Bound → List Expr
expr_list xs = map (λ x. x.expr) xs

abbrev pub operands : List Bound → Exprs
operands xs = exprs (expr_list xs)

-- ---- literals, signs, sums and products

abbrev pub literal : Value → Ty → Checked Bound
literal value ty = typed (literal_col value ty) (e.Literal value ty)

abbrev pub number : Option (ℤ × Ty) → Checked Bound
number None = Err Unsupported
number (Some n) = literal (Num n.0) n.1

abbrev pub signed : Bool → Bound → Checked Bound
signed true x = typed (number_col x.column) (e.Neg x.expr)
signed false x = typed (number_col x.column) x.expr

abbrev pub arith : ArithOp → Bound → Bound → Checked Bound
arith op x y = typed (arith_col op x.column y.column) (e.Arith op x.expr y.expr)

abbrev pub added : SumWord → Bound → Bound → Checked Bound
added Plus x y = arith Add x y
added Minus x y = arith Sub x y
added Concat x y = typed (texts_col Texts x.column y.column) (e.Concat x.expr y.expr)

abbrev pub multiplied : ProductWord → Bound → Bound → Checked Bound
multiplied Times x y = arith Mul x y
multiplied Divide x y = Err Unsupported
multiplied Modulo x y = Err Unsupported

-- ---- tests

abbrev pub compare : CompareOp → Bound → Bound → Checked Bound
compare op x y = typed (compare_col x.column y.column) (e.Compare op x.expr y.expr)

abbrev pub conjunction : List Bound → Checked Bound
conjunction xs = typed (all_truths (columns xs)) (e.And (operands xs))

abbrev pub disjunction : List Bound → Checked Bound
disjunction xs = typed (all_truths (columns xs)) (e.Or (operands xs))

abbrev pub negation : Bound → Checked Bound
negation x = typed (truth_col x.column) (e.Not x.expr)

abbrev pub negated_if : Bool → Bound → Checked Bound
negated_if true x = negation x
negated_if false x = Ok x

abbrev pub null_test : Bound → Checked Bound
null_test x = typed (null_test_col x.column) (e.IsNull x.expr)

abbrev pub between : Bound → Bound → Bound → Checked Bound
between x low high = compare Ge x low >>= λ y. compare Le x high >>= λ z. conjunction (y ∷ z ∷ [])

abbrev pub in_list : Bound → List Bound → Checked Bound
in_list x xs = typed (in_list_col x.column (columns xs)) (e.InList x.expr (operands xs))

abbrev pub like : Bound → Bound → Checked Bound
like x pattern = typed (texts_col Truths x.column pattern.column) (e.Like x.expr pattern.expr)

-- ---- casts and CASE; None stands for the literal NULL

abbrev pub cast_to : Option Ty → Option Bound → Checked Bound
cast_to None x = Err Unsupported
cast_to (Some ty) None = literal Null ty
cast_to (Some ty) (Some x) = typed (cast_col ty x.column) (e.Cast x.expr ty)

abbrev pub choice : List (Bound × Bound) → Option Bound → Checked Bound
choice branches otherwise =
    typed (option_and_then (λ _. with_otherwise (option_map (λ x. Some x.column) otherwise) (gather_some case_col (map (λ b. Some b.1.column) branches))) (all_truths (map (λ b. Some b.0.column) branches)))
    (e.Case (whens (map (λ b. (b.0.expr, b.1.expr)) branches)) (optional_expr (option_map (λ x. x.expr) otherwise)))

abbrev pub known_columns : List (Option Bound) → List (Option ColTy)
known_columns [] = []
known_columns (None ∷ results) = known_columns results
known_columns (Some x ∷ results) = Some x.column ∷ known_columns results

abbrev pub null_of : Option ColTy → Checked Bound
null_of None = Err TypeMismatch
null_of (Some column) = literal Null column.ty

-- a literal NULL is of the type of the other results
abbrev pub or_null_of : Option ColTy → Option Bound → Checked Bound
or_null_of common None = null_of common
or_null_of common (Some x) = Ok x

abbrev pub with_nulls : Option ColTy → List (Bound × Option Bound) → Checked (List (Bound × Bound))
with_nulls common [] = Ok []
with_nulls common (b ∷ branches) = or_null_of common b.1 >>= λ x. with_nulls common branches >>= λ xs. Ok ((b.0, x) ∷ xs)

abbrev pub otherwise_with_null : Option ColTy → Option (Option Bound) → Checked (Option Bound)
otherwise_with_null common None = Ok None
otherwise_with_null common (Some x) = or_null_of common x >>= λ y. Ok (Some y)

abbrev pub results_of : List (Bound × Option Bound) → Option (Option Bound) → List (Option Bound)
results_of branches None = map (λ b. b.1) branches
results_of branches (Some x) = map (λ b. b.1) branches ++ x ∷ []

abbrev pub case : List (Bound × Option Bound) → Option (Option Bound) → Checked Bound
case branches otherwise =
    let common = gather_some case_col (known_columns (results_of branches otherwise)) in
    with_nulls common branches >>= λ xs. otherwise_with_null common otherwise >>= λ x. choice xs x

-- ---- calls

abbrev pub applied : Function → List Bound → Checked Bound
applied Coalesce xs = typed (gather_some coalesce_col (columns xs)) (e.Coalesce (operands xs))
applied NullIf (x ∷ y ∷ []) = typed (null_if_col x.column y.column) (e.NullIf x.expr y.expr)
applied CharLength (x ∷ []) = typed (char_length_col x.column) (e.CharLength x.expr)
applied _ _ = Err TypeMismatch

abbrev pub is_count : AggCall → Bool
is_count Count = true
is_count _ = false

-- what stands at a call besides its operands
pub record CallForm : Type 0 where
  pub distinct : Bool
  pub filter : Bool
  pub over : Bool

-- a call outside groups, its operands being bound
abbrev pub call : Function → CallForm → List Bound → Checked Bound
call (Aggregate c) form xs = refused_if (form.over || (form.distinct && not (is_count c))) Unsupported (Err NotGrouped)
call RowNumber form xs = Err Unsupported
call Changing form xs = Err Nondeterministic
call Unknown form xs = Err Unsupported
call Coalesce form xs = refused_if (form.distinct || (form.filter || form.over)) Unsupported (applied Coalesce xs)
call NullIf form xs = refused_if (form.distinct || (form.filter || form.over)) Unsupported (applied NullIf xs)
call CharLength form xs = refused_if (form.distinct || (form.filter || form.over)) Unsupported (applied CharLength xs)
