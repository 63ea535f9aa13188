-- The types of expressions, line by line of the table of expressions.
use Rattle.std.specs.Prelude.{ℕ, ◌+◌, max, min, ◌==◌, nat_le, Bool, true, false, ◌&&◌, ◌||◌, cond, List, [], ◌∷◌, slice_get, Option, Some, None, option_map, option_and_then, unwrap_or, fold}
use Rattle.ct_value.specs.declared.ty.Ty.{Ty}
use Rattle.ct_value.specs.declared.ty.Ty.TheVariants.{Bool as Truths, Int, BigInt, Decimal, Text as Texts}
use Rattle.ct_value.specs.declared.ty.ColTy.{ColTy}
use Rattle.ct_value.specs.declared.value.Value.{Value}
use Rattle.ct_value.specs.declared.value.Value.TheVariants.{Null, Bool as Truth, Num, Text}
use Rattle.ct_field.specs.Numbers.{is_type, in_range}
use Rattle.ct_field.specs.Fields.{scale_of}
use Rattle.ct_expr.specs.declared.expr.ArithOp.{ArithOp}
use Rattle.ct_expr.specs.declared.expr.ArithOp.TheVariants.{Add, Sub, Mul}
use Rattle.ct_expr.specs.Expr.{Expr, Exprs, Whens, OptionalExpr, Column, Literal, Neg, Arith, Compare, And, Or, Not, IsNull, InList, Case, Coalesce, NullIf, Cast, Concat, CharLength, Like, no_exprs, expr_and, no_whens, when_and, no_expr, some_expr}

-- ---- types alone

-- the decimals of a type; no type has more than 38
abbrev pub scale : Ty → ℕ
scale ty = min 38 (scale_of ty)

abbrev pub is_number : Ty → Bool
is_number Int = true
is_number BigInt = true
is_number (Decimal p s) = true
is_number _ = false

abbrev pub is_truths : Ty → Bool
is_truths Truths = true
is_truths _ = false

abbrev pub is_texts : Ty → Bool
is_texts Texts = true
is_texts _ = false

abbrev pub same_ty : Ty → Ty → Bool
same_ty Truths Truths = true
same_ty Int Int = true
same_ty BigInt BigInt = true
same_ty (Decimal p s) (Decimal q t) = (p == q) && (s == t)
same_ty Texts Texts = true
same_ty _ _ = false

-- the same type, BIGINT of whole numbers, or the decimal of the larger precision where the scales are the same
abbrev pub common_ty : Ty → Ty → Option Ty
common_ty Truths Truths = Some Truths
common_ty Int Int = Some Int
common_ty Int BigInt = Some BigInt
common_ty BigInt Int = Some BigInt
common_ty BigInt BigInt = Some BigInt
common_ty (Decimal p s) (Decimal q t) = cond (s == t) (Some (Decimal (max p q) s)) None
common_ty Texts Texts = Some Texts
common_ty _ _ = None

-- two numbers whatever their scales, two texts or two truth values
abbrev pub comparable : Ty → Ty → Bool
comparable s t = (is_number s && is_number t) || ((is_truths s && is_truths t) || (is_texts s && is_texts t))

-- of whole numbers a whole number, INT only of two INTs; beside a decimal a decimal of 38 digits
abbrev pub number_ty : ℕ → Ty → Ty → Ty
number_ty decimals Int Int = Int
number_ty decimals Int BigInt = BigInt
number_ty decimals BigInt Int = BigInt
number_ty decimals BigInt BigInt = BigInt
number_ty decimals _ _ = Decimal 38 decimals

-- a sum has the larger scale, a product the sum of the scales
abbrev pub arith_ty : ArithOp → Ty → Ty → Ty
arith_ty Add s t = number_ty (max (scale s) (scale t)) s t
arith_ty Sub s t = number_ty (max (scale s) (scale t)) s t
arith_ty Mul s t = number_ty (scale s + scale t) s t

abbrev pub can_arith : ArithOp → Ty → Ty → Bool
can_arith op s t = is_number s && (is_number t && nat_le (scale_of (arith_ty op s t)) 38)

-- a number to a number, a number or a truth value to a text, and a type to itself
abbrev pub can_cast : Ty → Ty → Bool
can_cast from to = (is_number from && (is_number to || is_texts to)) || ((is_truths from && (is_truths to || is_texts to)) || (is_texts from && is_texts to))

-- ---- values of types

-- whether a value is NULL or of a type
abbrev pub value_fits : Ty → Value → Bool
value_fits ty Null = true
value_fits Truths (Truth b) = true
value_fits Texts (Text t) = true
value_fits ty (Num n) = in_range ty n
value_fits _ _ = false

abbrev pub is_null : Value → Bool
is_null Null = true
is_null _ = false

abbrev pub col_fits : ColTy → Value → Bool
col_fits c v = cond (is_null v) c.nullable (value_fits c.ty v)

-- as many values as columns, each of its column's type
abbrev pub row_fits : List ColTy → List Value → Bool
row_fits [] [] = true
row_fits (col ∷ cols) (v ∷ vs) = col_fits col v && row_fits cols vs
row_fits _ _ = false

-- ---- types with whether NULL may come

abbrev pub col : Ty → Bool → ColTy
col ty nullable = record { ty = ty; nullable = nullable }

-- with both, where both are
abbrev pub both_of : {A B C : Type 0} → (A → B → Option C) → Option A → Option B → Option C
both_of f (Some a) (Some b) = f a b
both_of f _ _ = None

-- from the left over all of them, where each is
abbrev pub gather : {A B : Type 0} → (A → B → Option A) → Option A → List (Option B) → Option A
gather f a [] = a
gather f a (o ∷ os) = gather f (both_of f a o) os

abbrev pub begun : {A : Type 0} → (A → A → Option A) → Option A → Option A → Option A
begun f None o = o
begun f (Some a) o = both_of f (Some a) o

abbrev pub joined : {A : Type 0} → (A → A → Option A) → Option A → List (Option A) → Option A
joined f a [] = a
joined f a (o ∷ os) = option_and_then (λ b. joined f (Some b) os) (begun f a o)

-- the first, and from the left over the others, where each is; none of no type
abbrev pub gather_some : {A : Type 0} → (A → A → Option A) → List (Option A) → Option A
gather_some f os = joined f None os

abbrev pub column_col : ℕ → Ty → List ColTy → Option ColTy
column_col n ty cols = option_and_then (λ c. cond (same_ty c.ty ty) (Some c) None) (slice_get cols n)

abbrev pub literal_col : Value → Ty → Option ColTy
literal_col v ty = cond (is_type ty && value_fits ty v) (Some (col ty (is_null v))) None

abbrev pub number_col : ColTy → Option ColTy
number_col c = cond (is_number c.ty) (Some c) None

abbrev pub arith_col : ArithOp → ColTy → ColTy → Option ColTy
arith_col op c d = cond (can_arith op c.ty d.ty) (Some (col (arith_ty op c.ty d.ty) (c.nullable || d.nullable))) None

abbrev pub compare_col : ColTy → ColTy → Option ColTy
compare_col c d = cond (comparable c.ty d.ty) (Some (col Truths (c.nullable || d.nullable))) None

-- two truth values
abbrev pub logic_col : ColTy → ColTy → Option ColTy
logic_col c d = cond (is_truths c.ty && is_truths d.ty) (Some (col Truths (c.nullable || d.nullable))) None

abbrev pub truth_col : ColTy → Option ColTy
truth_col c = cond (is_truths c.ty) (Some c) None

-- one truth value or more
abbrev pub all_truths : List (Option ColTy) → Option ColTy
all_truths [] = None
all_truths (o ∷ os) = gather logic_col (Some (col Truths false)) (o ∷ os)

abbrev pub null_test_col : ColTy → Option ColTy
null_test_col c = Some (col Truths false)

-- equalities of a value with one item or more
abbrev pub in_list_col : ColTy → List (Option ColTy) → Option ColTy
in_list_col c [] = None
in_list_col c (o ∷ os) = gather (λ (a d : ColTy). both_of logic_col (Some a) (compare_col c d)) (Some (col Truths false)) (o ∷ os)

-- a common type; nullable where one is
abbrev pub case_col : ColTy → ColTy → Option ColTy
case_col c d = option_map (λ ty. col ty (c.nullable || d.nullable)) (common_ty c.ty d.ty)

-- a common type; nullable where all are
abbrev pub coalesce_col : ColTy → ColTy → Option ColTy
coalesce_col c d = option_map (λ ty. col ty (c.nullable && d.nullable)) (common_ty c.ty d.ty)

abbrev pub null_if_col : ColTy → ColTy → Option ColTy
null_if_col c d = cond (comparable c.ty d.ty) (Some (col c.ty true)) None

abbrev pub cast_col : Ty → ColTy → Option ColTy
cast_col ty c = cond (is_type ty && can_cast c.ty ty) (Some (col ty c.nullable)) None

-- two texts
abbrev pub texts_col : Ty → ColTy → ColTy → Option ColTy
texts_col ty c d = cond (is_texts c.ty && is_texts d.ty) (Some (col ty (c.nullable || d.nullable))) None

abbrev pub char_length_col : ColTy → Option ColTy
char_length_col c = cond (is_texts c.ty) (Some (col Int c.nullable)) None

-- NULL may come without an ELSE
abbrev pub or_null : ColTy → Option ColTy
or_null c = Some (col c.ty true)

abbrev mutual
  -- the type of an expression over these columns, and none where the table gives none
  pub type_of : Expr → List ColTy → Option ColTy
  type_of (Column n ty) cols = column_col n ty cols
  type_of (Literal v ty) cols = literal_col v ty
  type_of (Neg x) cols = option_and_then number_col (type_of x cols)
  type_of (Arith op x y) cols = both_of (arith_col op) (type_of x cols) (type_of y cols)
  type_of (Compare op x y) cols = both_of compare_col (type_of x cols) (type_of y cols)
  type_of (And xs) cols = all_truths (types_of xs cols)
  type_of (Or xs) cols = all_truths (types_of xs cols)
  type_of (Not x) cols = option_and_then truth_col (type_of x cols)
  type_of (IsNull x) cols = option_and_then null_test_col (type_of x cols)
  type_of (InList x xs) cols = option_and_then (λ c. in_list_col c (types_of xs cols)) (type_of x cols)
  type_of (Case ws o) cols = option_and_then (λ _. otherwise_of o cols (gather_some case_col (results_of ws cols))) (all_truths (conds_of ws cols))
  type_of (Coalesce xs) cols = gather_some coalesce_col (types_of xs cols)
  type_of (NullIf x y) cols = both_of null_if_col (type_of x cols) (type_of y cols)
  type_of (Cast x ty) cols = option_and_then (cast_col ty) (type_of x cols)
  type_of (Concat x y) cols = both_of (texts_col Texts) (type_of x cols) (type_of y cols)
  type_of (CharLength x) cols = option_and_then char_length_col (type_of x cols)
  type_of (Like x y) cols = both_of (texts_col Truths) (type_of x cols) (type_of y cols)

  pub types_of : Exprs → List ColTy → List (Option ColTy)
  types_of no_exprs cols = []
  types_of (expr_and x xs) cols = type_of x cols ∷ types_of xs cols

  -- of the conditions, and of the results, of branches
  pub conds_of : Whens → List ColTy → List (Option ColTy)
  conds_of no_whens cols = []
  conds_of (when_and x y ws) cols = type_of x cols ∷ conds_of ws cols

  pub results_of : Whens → List ColTy → List (Option ColTy)
  results_of no_whens cols = []
  results_of (when_and x y ws) cols = type_of y cols ∷ results_of ws cols

  -- of the results with that of the ELSE
  pub otherwise_of : OptionalExpr → List ColTy → Option ColTy → Option ColTy
  otherwise_of no_expr cols c = option_and_then or_null c
  otherwise_of (some_expr x) cols c = both_of case_col c (type_of x cols)

-- ---- the type that an expression says of itself, which is its type where it has one

abbrev pub wider : Ty → Ty → Ty
wider s t = unwrap_or (common_ty s t) s

abbrev pub with_ty : Option Ty → Ty → Ty
with_ty None t = t
with_ty (Some s) t = wider s t

-- the common type of all, from the left
abbrev pub widest : List Ty → Ty
widest ts = unwrap_or (fold (λ o t. Some (with_ty o t)) None ts) Truths

abbrev mutual
  pub ty_of : Expr → Ty
  ty_of (Column n ty) = ty
  ty_of (Literal v ty) = ty
  ty_of (Neg x) = ty_of x
  ty_of (Arith op x y) = arith_ty op (ty_of x) (ty_of y)
  ty_of (Compare op x y) = Truths
  ty_of (And xs) = Truths
  ty_of (Or xs) = Truths
  ty_of (Not x) = Truths
  ty_of (IsNull x) = Truths
  ty_of (InList x xs) = Truths
  ty_of (Case ws o) = otherwise_ty o (widest (result_tys ws))
  ty_of (Coalesce xs) = widest (tys_of xs)
  ty_of (NullIf x y) = ty_of x
  ty_of (Cast x ty) = ty
  ty_of (Concat x y) = Texts
  ty_of (CharLength x) = Int
  ty_of (Like x y) = Truths

  pub tys_of : Exprs → List Ty
  tys_of no_exprs = []
  tys_of (expr_and x xs) = ty_of x ∷ tys_of xs

  pub result_tys : Whens → List Ty
  result_tys no_whens = []
  result_tys (when_and x y ws) = ty_of y ∷ result_tys ws

  pub otherwise_ty : OptionalExpr → Ty → Ty
  otherwise_ty no_expr t = t
  otherwise_ty (some_expr x) t = wider t (ty_of x)
