-- The table of expressions, line by line: what an expression is, from what its operands are. The types and values themselves are those
-- of the table in `ct_expr`.
use Rattle.std.specs.Prelude.{Bool, true, false, List, [], ◌∷◌, ◌++◌, map, Option, Some, None, option_map, option_and_then}
use Rattle.ct_value.specs.declared.row.Row.{Row}
use Rattle.ct_value.specs.declared.ty.ColTy.{ColTy}
use Rattle.ct_value.specs.declared.ty.Ty.{Ty}
use Rattle.ct_value.specs.declared.ty.Ty.TheVariants.{Bool as Truths, Text as Texts}
use Rattle.ct_value.specs.declared.value.CompareOp.{CompareOp}
use Rattle.ct_value.specs.declared.value.CompareOp.TheVariants.{Le, Ge}
use Rattle.ct_value.specs.declared.value.Value.{Value}
use Rattle.ct_value.specs.declared.value.Value.TheVariants.{Null}
use Rattle.ct_expr.specs.declared.expr.ArithOp.{ArithOp}
use Rattle.ct_expr.specs.Eval.{typed}
use Rattle.ct_expr.specs.Types.{both_of, gather_some, literal_col, number_col, arith_col, compare_col, truth_col, all_truths, null_test_col, in_list_col, case_col, coalesce_col, null_if_col, cast_col, texts_col, char_length_col, or_null}
use Rattle.ct_expr.specs.Values as v
use Rattle.rel_algebra.specs.Clauses.{Meaning}

-- what an expression is: its type with whether NULL may come, none where the table gives none; and its value at each row
pub record Typed : Type 0 where
  pub column : Option ColTy
  pub value : Meaning

-- the type alone
abbrev pub ty_in : Option ColTy → Ty
ty_in None = Truths
ty_in (Some column) = column.ty

-- what stands for nothing; no query that is accepted has it
abbrev pub nothing : Typed
nothing = record { column = None; value = λ row. None }

abbrev pub columns : List Typed → List (Option ColTy)
columns xs = map (λ x. x.column) xs

abbrev pub values : List Typed → Row → List (Option Value)
values xs row = map (λ x. x.value row) xs

abbrev pub typed_values : List Typed → Row → List (Option (Ty × Value))
typed_values xs row = map (λ x. typed (ty_in x.column) (x.value row)) xs

-- ---- literals, signs, sums and products

abbrev pub constant : Value → Ty → Typed
constant value ty = record { column = literal_col value ty; value = λ row. Some value }

-- +x
abbrev pub positive : Typed → Typed
positive x = record { column = option_and_then number_col x.column; value = x.value }

-- -x
abbrev pub negative : Typed → Typed
negative x = record { column = option_and_then number_col x.column; value = λ row. v.minus (ty_in x.column) (x.value row) }

abbrev pub arith : ArithOp → Typed → Typed → Typed
arith op x y = record { column = both_of (arith_col op) x.column y.column; value = λ row. v.arithmetic op (ty_in x.column) (ty_in y.column) (x.value row) (y.value row) }

-- x || y
abbrev pub concat : Typed → Typed → Typed
concat x y = record { column = both_of (texts_col Texts) x.column y.column; value = λ row. v.concatenation (x.value row) (y.value row) }

-- ---- tests

abbrev pub compare : CompareOp → Typed → Typed → Typed
compare op x y = record { column = both_of compare_col x.column y.column; value = λ row. v.comparison op (ty_in x.column) (ty_in y.column) (x.value row) (y.value row) }

abbrev pub conjunction : List Typed → Typed
conjunction xs = record { column = all_truths (columns xs); value = λ row. v.conjunction (values xs row) }

abbrev pub disjunction : List Typed → Typed
disjunction xs = record { column = all_truths (columns xs); value = λ row. v.disjunction (values xs row) }

abbrev pub negation : Typed → Typed
negation x = record { column = option_and_then truth_col x.column; value = λ row. v.negation (x.value row) }

-- x IS NULL
abbrev pub null_test : Typed → Typed
null_test x = record { column = option_and_then null_test_col x.column; value = λ row. v.null_test (x.value row) }

-- x >= low AND x <= high
abbrev pub between : Typed → Typed → Typed → Typed
between x low high = conjunction (compare Ge x low ∷ compare Le x high ∷ [])

abbrev pub in_list : Typed → List Typed → Typed
in_list x xs = record { column = option_and_then (λ c. in_list_col c (columns xs)) x.column; value = λ row. v.in_list (ty_in x.column) (x.value row) (typed_values xs row) }

abbrev pub like : Typed → Typed → Typed
like x pattern = record { column = both_of (texts_col Truths) x.column pattern.column; value = λ row. v.likeness (x.value row) (pattern.value row) }

-- NOT before a test that has it within
abbrev pub negated_if : Bool → Typed → Typed
negated_if true x = negation x
negated_if false x = x

-- ---- functions and casts

abbrev pub coalesce : List Typed → Typed
coalesce xs = record { column = gather_some coalesce_col (columns xs); value = λ row. v.first_known (values xs row) }

abbrev pub null_if : Typed → Typed → Typed
null_if x y = record { column = both_of null_if_col x.column y.column; value = λ row. v.null_if (ty_in x.column) (ty_in y.column) (x.value row) (y.value row) }

abbrev pub char_length : Typed → Typed
char_length x = record { column = option_and_then char_length_col x.column; value = λ row. v.char_length (x.value row) }

abbrev pub cast : Ty → Typed → Typed
cast ty x = record { column = option_and_then (cast_col ty) x.column; value = λ row. v.conversion (ty_in x.column) ty (x.value row) }

-- ---- CASE: conditions with their results, and the result of the ELSE

-- NULL may come without an ELSE
abbrev pub with_otherwise : Option (Option ColTy) → Option ColTy → Option ColTy
with_otherwise None column = option_and_then or_null column
with_otherwise (Some other) column = both_of case_col column other

abbrev pub otherwise_value : Option Typed → Meaning
otherwise_value None row = Some Null
otherwise_value (Some x) row = x.value row

abbrev pub choice : List (Typed × Typed) → Option Typed → Typed
choice branches otherwise = record {
  column = option_and_then (λ _. with_otherwise (option_map (λ x. x.column) otherwise) (gather_some case_col (map (λ b. b.1.column) branches))) (all_truths (map (λ b. b.0.column) branches));
  value = λ row. v.first_chosen (map (λ b. (b.0.value row, b.1.value row)) branches) (otherwise_value otherwise row);
}

-- the columns of the results that aren't the literal NULL, for which None stands
abbrev pub known_columns : List (Option Typed) → List (Option ColTy)
known_columns [] = []
known_columns (None ∷ results) = known_columns results
known_columns (Some x ∷ results) = x.column ∷ known_columns results

-- a literal NULL is of the type of the other results; without one it has none
abbrev pub null_of : Option ColTy → Typed
null_of None = nothing
null_of (Some column) = constant Null column.ty

abbrev pub or_null_of : Option ColTy → Option Typed → Typed
or_null_of common None = null_of common
or_null_of common (Some x) = x

-- the results in order, the ELSE last
abbrev pub results_of : List (Typed × Option Typed) → Option (Option Typed) → List (Option Typed)
results_of branches None = map (λ b. b.1) branches
results_of branches (Some x) = map (λ b. b.1) branches ++ x ∷ []

-- CASE with literal NULLs among its results
abbrev pub case : List (Typed × Option Typed) → Option (Option Typed) → Typed
case branches otherwise =
    let common = gather_some case_col (known_columns (results_of branches otherwise)) in
    choice (map (λ b. (b.0, or_null_of common b.1)) branches) (option_map (or_null_of common) otherwise)
