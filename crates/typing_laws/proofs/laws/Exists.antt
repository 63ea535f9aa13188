-- The columns that each clause makes have types that columns may have, where those of its inputs have.
use Rattle.std.proofs.Common.{◌≡◌, ◌==◌, ◌≤◌, ◌+◌, ℕ, zero, suc, Bool, true, false, cond, ◌&&◌, ◌||◌, List, [], ◌∷◌, ◌++◌, map, take, length, max, Option, Some, None, refl, arith}
use Rattle.std.specs.Prelude.{nat_le, option_map, option_and_then, slice_get, is_some}
use Rattle.std.proofs.lemmas.Bool.{leb-true, le-leb}
use Rattle.std.proofs.Math.Nat.{le-max_left, max-le}
use Rattle.ct_value.specs.declared.ty.Ty.{Ty}
use Rattle.ct_value.specs.declared.ty.Ty.TheVariants.{Bool as Truths, Int, BigInt, Decimal, Text as Texts}
use Rattle.ct_value.specs.declared.ty.ColTy.{ColTy}
use Rattle.ct_field.specs.Numbers.{is_type}
use Rattle.ct_field.specs.Fields.{scale_of}
use Rattle.ct_expr.specs.declared.expr.ArithOp.{ArithOp}
use Rattle.ct_expr.specs.declared.expr.ArithOp.TheVariants.{Add, Sub, Mul}
use Rattle.ct_expr.specs.Expr.{Expr, Exprs, Whens, OptionalExpr, Column, Literal, Neg, Arith, Compare, And, Or, Not, IsNull, InList, Case, Coalesce, NullIf, Cast, Concat, CharLength, Like, no_exprs, expr_and, no_whens, when_and, no_expr, some_expr}
use Rattle.ct_expr.specs.Types.{same_ty, scale, common_ty, number_ty, comparable, arith_ty, can_arith, is_number, is_truths, is_texts, is_null, can_cast, value_fits, col, both_of, gather, joined, gather_some, number_col, arith_col, compare_col, logic_col, truth_col, all_truths, null_test_col, in_list_col, case_col, coalesce_col, null_if_col, cast_col, texts_col, char_length_col, or_null, type_of, types_of, conds_of, results_of, otherwise_of}
use Rattle.typing_laws.proofs.laws.Kinds.{first_true, second_true}
use Rattle.rel_algebra.specs.declared.agg.Agg.{Agg}
use Rattle.rel_algebra.specs.declared.agg.AggCall.{AggCall}
use Rattle.rel_algebra.specs.declared.agg.AggCall.TheVariants as call
use Rattle.rel_algebra.specs.Aggregates.{sum_type, avg_type, column_if, call_type, agg_type, agg_types, arg_fits, filter_fits, column_before, type_in}
use Rattle.rel_algebra.specs.Groups.{group_columns}
use Rattle.rel_algebra.specs.Joins.{nullable_if}
use Rattle.rel_algebra.specs.Ranks.{rank_columns, rank_column}
use Rattle.rel_algebra.specs.declared.sets.SetKind.{SetKind}
use Rattle.rel_algebra.specs.Sets.{set_nullable, set_column, set_columns}
use Rattle.rel_algebra.specs.Types.{columns_if, item_columns}
use Rattle.typing_laws.specs.Exist.{Exist}

-- ---- types

exists : (p s : ℕ) → 1 ≤ p → p ≤ 38 → s ≤ p → is_type (Decimal p s) ≡ true
exists p s some few behind =
    let a : nat_le 1 p ≡ true = le-leb 1 p some in
    let b : nat_le p 38 ≡ true = le-leb p 38 few in
    let c : nat_le s p ≡ true = le-leb s p behind in
    rw (a, b, c) refl

parts : (p s : ℕ) → is_type (Decimal p s) ≡ true → (1 ≤ p) × (p ≤ 38) × (s ≤ p)
parts p s is =
    let rest = second_true (nat_le 1 p) (nat_le p 38 && nat_le s p) is in
    (leb-true 1 p (first_true (nat_le 1 p) (nat_le p 38 && nat_le s p) is), leb-true p 38 (first_true (nat_le p 38) (nat_le s p) rest), leb-true s p (second_true (nat_le p 38) (nat_le s p) rest))

-- the type exists, where there is one
abbrev FineTy : Option Ty → Type 0
FineTy None = Unit {0}
FineTy (Some ty) = is_type ty ≡ true

larger : (test : Bool) (p q s t : ℕ) → is_type (Decimal p s) ≡ true → is_type (Decimal q t) ≡ true → FineTy (cond test (Some (Decimal (max p q) s)) None)
larger false p q s t h k = tt
larger true p q s t h k =
    let a = parts p s h in
    let b = parts q t k in
    exists (max p q) s (omega (arith, a.0, le-max_left p q)) (max-le a.1 b.1) (omega (arith, a.2, le-max_left p q))

common_fine : (s t : Ty) → is_type s ≡ true → is_type t ≡ true → FineTy (common_ty s t)
common_fine Truths Truths h k = refl
common_fine Truths Int h k = tt
common_fine Truths BigInt h k = tt
common_fine Truths (Decimal q t) h k = tt
common_fine Truths Texts h k = tt
common_fine Int Truths h k = tt
common_fine Int Int h k = refl
common_fine Int BigInt h k = refl
common_fine Int (Decimal q t) h k = tt
common_fine Int Texts h k = tt
common_fine BigInt Truths h k = tt
common_fine BigInt Int h k = refl
common_fine BigInt BigInt h k = refl
common_fine BigInt (Decimal q t) h k = tt
common_fine BigInt Texts h k = tt
common_fine (Decimal p s) Truths h k = tt
common_fine (Decimal p s) Int h k = tt
common_fine (Decimal p s) BigInt h k = tt
common_fine (Decimal p s) (Decimal q t) h k = larger (s == t) p q s t h k
common_fine (Decimal p s) Texts h k = tt
common_fine Texts Truths h k = tt
common_fine Texts Int h k = tt
common_fine Texts BigInt h k = tt
common_fine Texts (Decimal q t) h k = tt
common_fine Texts Texts h k = refl

wide_is : (d : ℕ) → nat_le d 38 ≡ true → is_type (Decimal 38 d) ≡ true
wide_is d h = exists 38 d (omega arith) (omega arith) (leb-true d 38 h)

number_is : (d : ℕ) (s t : Ty) → nat_le (scale_of (number_ty d s t)) 38 ≡ true → is_type (number_ty d s t) ≡ true
number_is d Truths Truths h = wide_is d h
number_is d Truths Int h = wide_is d h
number_is d Truths BigInt h = wide_is d h
number_is d Truths (Decimal q t) h = wide_is d h
number_is d Truths Texts h = wide_is d h
number_is d Int Truths h = wide_is d h
number_is d Int Int h = refl
number_is d Int BigInt h = refl
number_is d Int (Decimal q t) h = wide_is d h
number_is d Int Texts h = wide_is d h
number_is d BigInt Truths h = wide_is d h
number_is d BigInt Int h = refl
number_is d BigInt BigInt h = refl
number_is d BigInt (Decimal q t) h = wide_is d h
number_is d BigInt Texts h = wide_is d h
number_is d (Decimal p s) Truths h = wide_is d h
number_is d (Decimal p s) Int h = wide_is d h
number_is d (Decimal p s) BigInt h = wide_is d h
number_is d (Decimal p s) (Decimal q t) h = wide_is d h
number_is d (Decimal p s) Texts h = wide_is d h
number_is d Texts Truths h = wide_is d h
number_is d Texts Int h = wide_is d h
number_is d Texts BigInt h = wide_is d h
number_is d Texts (Decimal q t) h = wide_is d h
number_is d Texts Texts h = wide_is d h

arith_scale : (op : ArithOp) (s t : Ty) → can_arith op s t ≡ true → nat_le (scale_of (arith_ty op s t)) 38 ≡ true
arith_scale op s t e = second_true (is_number t) (nat_le (scale_of (arith_ty op s t)) 38) (second_true (is_number s) (is_number t && nat_le (scale_of (arith_ty op s t)) 38) e)

arith_is : (op : ArithOp) (s t : Ty) → nat_le (scale_of (arith_ty op s t)) 38 ≡ true → is_type (arith_ty op s t) ≡ true
arith_is Add s t h = number_is (max (scale s) (scale t)) s t h
arith_is Sub s t h = number_is (max (scale s) (scale t)) s t h
arith_is Mul s t h = number_is (scale s + scale t) s t h

sum_is : (ty : Ty) → is_type ty ≡ true → is_type (sum_type ty) ≡ true
sum_is Truths h = refl
sum_is Int h = refl
sum_is BigInt h = refl
sum_is (Decimal p s) h = let a = parts p s h in exists 38 s (omega arith) (omega arith) (omega (arith, a.1, a.2))
sum_is Texts h = refl

avg_is : (ty : Ty) → is_type ty ≡ true → is_type (avg_type ty) ≡ true
avg_is Truths h = refl
avg_is Int h = refl
avg_is BigInt h = refl
avg_is (Decimal p s) h = let a = parts p s h in exists 38 (max 6 s) (omega arith) (omega arith) (max-le (omega arith) (omega (arith, a.1, a.2)))
avg_is Texts h = refl

-- ---- columns

-- the column's type exists, where there is a column
abbrev Fine : Option ColTy → Type 0
Fine None = Unit {0}
Fine (Some c) = is_type c.ty ≡ true

abbrev AllFine : List (Option ColTy) → Type 0
AllFine [] = Unit {0}
AllFine (o ∷ os) = Fine o × AllFine os

fine_if : (test : Bool) (c : ColTy) → (test ≡ true → is_type c.ty ≡ true) → Fine (cond test (Some c) None)
fine_if true c h = h refl
fine_if false c h = tt

fine_then : (f : ColTy → Option ColTy) → ((c : ColTy) → is_type c.ty ≡ true → Fine (f c)) → (o : Option ColTy) → Fine o → Fine (option_and_then f o)
fine_then f step None h = tt
fine_then f step (Some c) h = step c h

fine_both : (f : ColTy → ColTy → Option ColTy) → ((c d : ColTy) → is_type c.ty ≡ true → is_type d.ty ≡ true → Fine (f c d)) → (o p : Option ColTy) → Fine o → Fine p → Fine (both_of f o p)
fine_both f step None p h k = tt
fine_both f step (Some c) None h k = tt
fine_both f step (Some c) (Some d) h k = step c d h k

fine_next : {B : Type 0} (f : ColTy → B → Option ColTy) → ((c : ColTy) (b : B) → Fine (f c b)) → (o : Option ColTy) (p : Option B) → Fine (both_of f o p)
fine_next f step None p = tt
fine_next f step (Some c) None = tt
fine_next f step (Some c) (Some b) = step c b

fine_gather : {B : Type 0} (f : ColTy → B → Option ColTy) → ((c : ColTy) (b : B) → Fine (f c b)) → (os : List (Option B)) (o : Option ColTy) → Fine o → Fine (gather f o os)
fine_gather f step [] o h = h
fine_gather f step (p ∷ os) o h = fine_gather f step os (both_of f o p) (fine_next f step o p)

joined_fine : (f : ColTy → ColTy → Option ColTy) → ((c d : ColTy) → is_type c.ty ≡ true → is_type d.ty ≡ true → Fine (f c d)) → (os : List (Option ColTy)) → AllFine os → (c : ColTy) → is_type c.ty ≡ true → Fine (joined f (Some c) os)
joined_fine f step [] h c e = e
joined_fine f step (None ∷ os) h c e = tt
joined_fine f step (Some d ∷ os) h c e = fine_then (λ b. joined f (Some b) os) (λ b i. joined_fine f step os h.1 b i) (f c d) (step c d e h.0)

gathered_fine : (f : ColTy → ColTy → Option ColTy) → ((c d : ColTy) → is_type c.ty ≡ true → is_type d.ty ≡ true → Fine (f c d)) → (os : List (Option ColTy)) → AllFine os → Fine (gather_some f os)
gathered_fine f step [] h = tt
gathered_fine f step (None ∷ os) h = tt
gathered_fine f step (Some d ∷ os) h = joined_fine f step os h.1 d h.0

fine_at : (cols : List ColTy) (n : ℕ) → Exist cols → Fine (slice_get cols n)
fine_at [] n h = tt
fine_at (c ∷ cols) zero h = h.0
fine_at (c ∷ cols) (suc n) h = fine_at cols n h.1

logic_fine : (c d : ColTy) → Fine (logic_col c d)
logic_fine c d = fine_if (is_truths c.ty && is_truths d.ty) (col Truths (c.nullable || d.nullable)) (λ e. refl)

compare_fine : (c d : ColTy) → Fine (compare_col c d)
compare_fine c d = fine_if (comparable c.ty d.ty) (col Truths (c.nullable || d.nullable)) (λ e. refl)

texts_fine : (ty : Ty) → is_type ty ≡ true → (c d : ColTy) → Fine (texts_col ty c d)
texts_fine ty is c d = fine_if (is_texts c.ty && is_texts d.ty) (col ty (c.nullable || d.nullable)) (λ e. is)

all_fine : (os : List (Option ColTy)) → Fine (all_truths os)
all_fine [] = tt
all_fine (o ∷ os) = fine_gather logic_col logic_fine (o ∷ os) (Some (col Truths false)) refl

in_list_fine : (c : ColTy) (os : List (Option ColTy)) → Fine (in_list_col c os)
in_list_fine c [] = tt
in_list_fine c (o ∷ os) = fine_gather (λ (a d : ColTy). both_of logic_col (Some a) (compare_col c d)) (λ a d. fine_next logic_col logic_fine (Some a) (compare_col c d)) (o ∷ os) (Some (col Truths false)) refl

fine_common : (nullable : Bool) (o : Option Ty) → FineTy o → Fine (option_map (λ ty. col ty nullable) o)
fine_common nullable None h = tt
fine_common nullable (Some ty) h = h

case_fine : (c d : ColTy) → is_type c.ty ≡ true → is_type d.ty ≡ true → Fine (case_col c d)
case_fine c d h k = fine_common (c.nullable || d.nullable) (common_ty c.ty d.ty) (common_fine c.ty d.ty h k)

coalesce_fine : (c d : ColTy) → is_type c.ty ≡ true → is_type d.ty ≡ true → Fine (coalesce_col c d)
coalesce_fine c d h k = fine_common (c.nullable && d.nullable) (common_ty c.ty d.ty) (common_fine c.ty d.ty h k)

after : (o p : Option ColTy) → Fine p → Fine (option_and_then (λ _. p) o)
after None p h = tt
after (Some c) p h = h

module _ (cols : List ColTy) (exist : Exist cols) where
  mutual
    pub fine : (x : Expr) → Fine (type_of x cols)
    fine (Column n ty) = fine_then (λ c. cond (same_ty c.ty ty) (Some c) None) (λ c h. fine_if (same_ty c.ty ty) c (λ e. h)) (slice_get cols n) (fine_at cols n exist)
    fine (Literal v ty) = fine_if (is_type ty && value_fits ty v) (col ty (is_null v)) (λ e. first_true (is_type ty) (value_fits ty v) e)
    fine (Neg x) = fine_then number_col (λ c h. fine_if (is_number c.ty) c (λ e. h)) (type_of x cols) (fine x)
    fine (Arith op x y) = fine_both (arith_col op) (λ c d h k. fine_if (can_arith op c.ty d.ty) (col (arith_ty op c.ty d.ty) (c.nullable || d.nullable)) (λ e. arith_is op c.ty d.ty (arith_scale op c.ty d.ty e))) (type_of x cols) (type_of y cols) (fine x) (fine y)
    fine (Compare op x y) = fine_both compare_col (λ c d h k. compare_fine c d) (type_of x cols) (type_of y cols) (fine x) (fine y)
    fine (And xs) = all_fine (types_of xs cols)
    fine (Or xs) = all_fine (types_of xs cols)
    fine (Not x) = fine_then truth_col (λ c h. fine_if (is_truths c.ty) c (λ e. h)) (type_of x cols) (fine x)
    fine (IsNull x) = fine_then null_test_col (λ c h. refl) (type_of x cols) (fine x)
    fine (InList x xs) = fine_then (λ c. in_list_col c (types_of xs cols)) (λ c h. in_list_fine c (types_of xs cols)) (type_of x cols) (fine x)
    fine (Case ws o) = after (all_truths (conds_of ws cols)) (otherwise_of o cols (gather_some case_col (results_of ws cols))) (else_fine o (gather_some case_col (results_of ws cols)) (gathered_fine case_col case_fine (results_of ws cols) (results_fine ws)))
    fine (Coalesce xs) = gathered_fine coalesce_col coalesce_fine (types_of xs cols) (list_fine xs)
    fine (NullIf x y) = fine_both null_if_col (λ c d h k. fine_if (comparable c.ty d.ty) (col c.ty true) (λ e. h)) (type_of x cols) (type_of y cols) (fine x) (fine y)
    fine (Cast x ty) = fine_then (cast_col ty) (λ c h. fine_if (is_type ty && can_cast c.ty ty) (col ty c.nullable) (λ e. first_true (is_type ty) (can_cast c.ty ty) e)) (type_of x cols) (fine x)
    fine (Concat x y) = fine_both (texts_col Texts) (λ c d h k. texts_fine Texts refl c d) (type_of x cols) (type_of y cols) (fine x) (fine y)
    fine (CharLength x) = fine_then char_length_col (λ c h. fine_if (is_texts c.ty) (col Int c.nullable) (λ e. refl)) (type_of x cols) (fine x)
    fine (Like x y) = fine_both (texts_col Truths) (λ c d h k. texts_fine Truths refl c d) (type_of x cols) (type_of y cols) (fine x) (fine y)

    list_fine : (xs : Exprs) → AllFine (types_of xs cols)
    list_fine no_exprs = tt
    list_fine (expr_and x xs) = (fine x, list_fine xs)

    results_fine : (ws : Whens) → AllFine (results_of ws cols)
    results_fine no_whens = tt
    results_fine (when_and x y ws) = (fine y, results_fine ws)

    else_fine : (o : OptionalExpr) (c : Option ColTy) → Fine c → Fine (otherwise_of o cols c)
    else_fine no_expr c h = fine_then or_null (λ c h. h) c h
    else_fine (some_expr x) c h = fine_both case_col case_fine c (type_of x cols) h (fine x)

-- ---- lists of columns

abbrev pub FineList : Option (List ColTy) → Type 0
FineList None = Unit {0}
FineList (Some cols) = Exist cols

pub exist-append : (xs ys : List ColTy) → Exist xs → Exist ys → Exist (xs ++ ys)
exist-append [] ys h k = k
exist-append (x ∷ xs) ys h k = (h.0, exist-append xs ys h.1 k)

exist-take : (n : ℕ) (xs : List ColTy) → Exist xs → Exist (take n xs)
exist-take zero xs h = tt
exist-take (suc n) [] h = tt
exist-take (suc n) (x ∷ xs) h = (h.0, exist-take n xs h.1)

exist_one : (test : Bool) (c : ColTy) → is_type c.ty ≡ true → is_type (nullable_if test c).ty ≡ true
exist_one true c h = h
exist_one false c h = h

pub exist_nullable : (test : Bool) (xs : List ColTy) → Exist xs → Exist (map (nullable_if test) xs)
exist_nullable test [] h = tt
exist_nullable test (x ∷ xs) h = (exist_one test x h.0, exist_nullable test xs h.1)

pub list_if : (test : Bool) (xs : List ColTy) → Exist xs → FineList (columns_if test xs)
list_if true xs h = h
list_if false xs h = tt

pub list_then : (f : List ColTy → Option (List ColTy)) → ((xs : List ColTy) → Exist xs → FineList (f xs)) → (o : Option (List ColTy)) → FineList o → FineList (option_and_then f o)
list_then f step None h = tt
list_then f step (Some xs) h = step xs h

pub list_both : (f : List ColTy → List ColTy → Option (List ColTy)) → ((xs ys : List ColTy) → Exist xs → Exist ys → FineList (f xs ys)) → (o p : Option (List ColTy)) → FineList o → FineList p → FineList (both_of f o p)
list_both f step None p h k = tt
list_both f step (Some xs) None h k = tt
list_both f step (Some xs) (Some ys) h k = step xs ys h k

beside : (o : Option ColTy) (p : Option (List ColTy)) → Fine o → FineList p → FineList (both_of (λ c others. Some (c ∷ others)) o p)
beside None p h k = tt
beside (Some c) None h k = tt
beside (Some c) (Some cols) h k = (h, k)

pub items_fine : (cols : List ColTy) (items : List Expr) → Exist cols → FineList (item_columns cols items)
items_fine cols [] h = tt
items_fine cols (item ∷ items) h = beside (type_of item cols) (item_columns cols items) (fine cols h item) (items_fine cols items h)

common_one : (nullable : Bool) (o : Option Ty) → FineTy o → Fine (option_map (λ ty. record { ty = ty; nullable = nullable }) o)
common_one nullable None h = tt
common_one nullable (Some ty) h = h

pub set_lists : (kind : SetKind) (xs ys : List ColTy) → Exist xs → Exist ys → FineList (set_columns kind xs ys)
set_lists kind [] [] h k = tt
set_lists kind [] (y ∷ ys) h k = tt
set_lists kind (x ∷ xs) [] h k = tt
set_lists kind (x ∷ xs) (y ∷ ys) h k = beside (set_column kind x y) (set_columns kind xs ys) (common_one (set_nullable kind x y) (common_ty x.ty y.ty) (common_fine x.ty y.ty h.0 k.0)) (set_lists kind xs ys h.1 k.1)

fine_column_if : (test : Bool) (c : ColTy) → is_type c.ty ≡ true → Fine (column_if test c)
fine_column_if true c h = h
fine_column_if false c h = tt

fine_call : (gaps : Bool) (c : AggCall) (o : Option ColTy) → Fine o → Fine (call_type gaps c o)
fine_call gaps call.CountAll None h = refl
fine_call gaps call.CountAll (Some a) h = tt
fine_call gaps call.Count None h = tt
fine_call gaps call.Count (Some a) h = refl
fine_call gaps call.CountDistinct None h = tt
fine_call gaps call.CountDistinct (Some a) h = refl
fine_call gaps call.Sum None h = tt
fine_call gaps call.Sum (Some a) h = fine_column_if (is_number a.ty) (record { ty = sum_type a.ty; nullable = a.nullable || gaps }) (sum_is a.ty h)
fine_call gaps call.Min None h = tt
fine_call gaps call.Min (Some a) h = h
fine_call gaps call.Max None h = tt
fine_call gaps call.Max (Some a) h = h
fine_call gaps call.Avg None h = tt
fine_call gaps call.Avg (Some a) h = fine_column_if (is_number a.ty) (record { ty = avg_type a.ty; nullable = a.nullable || gaps }) (avg_is a.ty h)

fine_argument : (cols : List ColTy) (arg : Option ℕ) → Exist cols → Fine (type_in cols arg)
fine_argument cols None h = tt
fine_argument cols (Some n) h = fine_at cols n h

fine_where : (test : Bool) (o : Option ColTy) → Fine o → Fine (cond test o None)
fine_where true o h = h
fine_where false o h = tt

fine_before : (o : Option ColTy) (p : Option (List ColTy)) → Fine o → FineList p → FineList (column_before o p)
fine_before None p h k = tt
fine_before (Some c) None h k = tt
fine_before (Some c) (Some cols) h k = (h, k)

calls_fine : (cols : List ColTy) (global : Bool) (aggs : List Agg) → Exist cols → FineList (agg_types cols global aggs)
calls_fine cols global [] h = tt
calls_fine cols global (agg ∷ aggs) h =
    fine_before (agg_type cols global agg) (agg_types cols global aggs)
    (fine_where (filter_fits cols agg.filter && arg_fits cols agg.arg) (call_type (global || is_some agg.filter) agg.call (type_in cols agg.arg)) (fine_call (global || is_some agg.filter) agg.call (type_in cols agg.arg) (fine_argument cols agg.arg h)))
    (calls_fine cols global aggs h)

behind_key : (key : List ColTy) (o : Option (List ColTy)) → Exist key → FineList o → FineList (option_map (λ results. key ++ results) o)
behind_key key None h k = tt
behind_key key (Some results) h k = exist-append key results h k

pub list_where : (test : Bool) (o : Option (List ColTy)) → FineList o → FineList (cond test o None)
list_where true o h = h
list_where false o h = tt

pub group_fine : (keys : ℕ) (aggs : List Agg) (cols : List ColTy) → Exist cols → FineList (group_columns keys cols aggs)
group_fine keys aggs cols h =
    list_where (nat_le keys (length cols)) (option_map (λ results. take keys cols ++ results) (agg_types cols (keys == 0) aggs))
    (behind_key (take keys cols) (agg_types cols (keys == 0) aggs) (exist-take keys cols h) (calls_fine cols (keys == 0) aggs h))

pub rank_fine : (ranked : Bool) (cols : List ColTy) → Exist cols → Exist (rank_columns ranked cols)
rank_fine true cols h = exist-append cols (rank_column ∷ []) h (refl, tt)
rank_fine false cols h = h
