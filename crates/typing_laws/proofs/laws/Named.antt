-- The type that an expression says of itself is its type, where it has one.
use Rattle.std.proofs.Common.{◌≡◌, ◌==◌, Bool, true, false, cond, ◌&&◌, ◌||◌, List, [], ◌∷◌, Option, Some, None, refl, sym, ap, ◌∙◌, subst, fold}
use Rattle.std.specs.Prelude.{option_map, option_and_then, unwrap_or, slice_get}
use Rattle.std.proofs.lemmas.Bool.{eqb-true}
use Rattle.ct_value.specs.declared.ty.Ty.{Ty}
use Rattle.ct_value.specs.declared.ty.Ty.TheVariants.{Bool as Truths, Int, BigInt, Decimal, Text as Texts}
use Rattle.ct_value.specs.declared.ty.ColTy.{ColTy}
use Rattle.ct_expr.specs.declared.expr.ArithOp.{ArithOp}
use Rattle.ct_expr.specs.Expr.{Expr, Exprs, Whens, OptionalExpr, Column, Literal, Neg, Arith, Compare, And, Or, Not, IsNull, InList, Case, Coalesce, NullIf, Cast, Concat, CharLength, Like, no_exprs, expr_and, no_whens, when_and, no_expr, some_expr}
use Rattle.ct_expr.specs.Types.{same_ty, common_ty, comparable, arith_ty, can_arith, is_number, is_truths, is_texts, is_null, can_cast, value_fits, col, both_of, gather, joined, gather_some, number_col, arith_col, compare_col, logic_col, truth_col, all_truths, null_test_col, in_list_col, case_col, coalesce_col, null_if_col, cast_col, texts_col, char_length_col, or_null, type_of, types_of, conds_of, results_of, otherwise_of, wider, with_ty, widest, ty_of, tys_of, result_tys, otherwise_ty}
use Rattle.ct_field.specs.Numbers.{is_type}
use Rattle.typing_laws.proofs.laws.Kinds.{first_true, second_true}

-- the type is this one, where there is one
abbrev pub Named : Option ColTy → Ty → Type 0
Named None ty = Unit {0}
Named (Some c) ty = c.ty ≡ ty

abbrev pub AllNamed : List (Option ColTy) → List Ty → Type 0
AllNamed [] [] = Unit {0}
AllNamed [] (ty ∷ tys) = ⊥
AllNamed (o ∷ os) [] = ⊥
AllNamed (o ∷ os) (ty ∷ tys) = Named o ty × AllNamed os tys

named_if : (test : Bool) (c : ColTy) (ty : Ty) → (test ≡ true → c.ty ≡ ty) → Named (cond test (Some c) None) ty
named_if true c ty h = h refl
named_if false c ty h = tt

named_then : (f : ColTy → Option ColTy) (g : Ty → Ty) → ((c : ColTy) → Named (f c) (g c.ty)) → (o : Option ColTy) (ty : Ty) → Named o ty → Named (option_and_then f o) (g ty)
named_then f g step None ty h = tt
named_then f g step (Some c) ty h = subst (λ t. Named (f c) (g t)) h (step c)

named_both : (f : ColTy → ColTy → Option ColTy) (g : Ty → Ty → Ty) → ((c d : ColTy) → Named (f c d) (g c.ty d.ty)) → (o p : Option ColTy) (s t : Ty) → Named o s → Named p t → Named (both_of f o p) (g s t)
named_both f g step None p s t h k = tt
named_both f g step (Some c) None s t h k = tt
named_both f g step (Some c) (Some d) s t h k = subst (λ u. Named (f c d) (g u t)) h (subst (λ u. Named (f c d) (g c.ty u)) k (step c d))

named_next : {B : Type 0} (f : ColTy → B → Option ColTy) (ty : Ty) → ((c : ColTy) (b : B) → Named (f c b) ty) → (o : Option ColTy) (p : Option B) → Named (both_of f o p) ty
named_next f ty step None p = tt
named_next f ty step (Some c) None = tt
named_next f ty step (Some c) (Some b) = step c b

named_gather : {B : Type 0} (f : ColTy → B → Option ColTy) (ty : Ty) → ((c : ColTy) (b : B) → Named (f c b) ty) → (os : List (Option B)) (o : Option ColTy) → Named o ty → Named (gather f o os) ty
named_gather f ty step [] o h = h
named_gather f ty step (p ∷ os) o h = named_gather f ty step os (both_of f o p) (named_next f ty step o p)

named_rest : (f : ColTy → Option ColTy) (s ty : Ty) → ((c : ColTy) → c.ty ≡ s → Named (f c) ty) → (r : Option ColTy) → Named r s → Named (option_and_then f r) ty
named_rest f s ty step None h = tt
named_rest f s ty step (Some c) h = step c h

joined_named : (f : ColTy → ColTy → Option ColTy) → ((c d : ColTy) → Named (f c d) (wider c.ty d.ty)) → (os : List (Option ColTy)) (tys : List Ty) → AllNamed os tys → (c : ColTy) (s : Ty) → c.ty ≡ s → Named (joined f (Some c) os) (unwrap_or (fold (λ o t. Some (with_ty o t)) (Some s) tys) Truths)
joined_named f step [] [] h c s e = e
joined_named f step [] (ty ∷ tys) h c s e = absurd h
joined_named f step (o ∷ os) [] h c s e = absurd h
joined_named f step (None ∷ os) (ty ∷ tys) h c s e = tt
joined_named f step (Some d ∷ os) (ty ∷ tys) h c s e =
    named_rest (λ b. joined f (Some b) os) (wider s ty) (unwrap_or (fold (λ o t. Some (with_ty o t)) (Some (wider s ty)) tys) Truths) (λ b i. joined_named f step os tys h.1 b (wider s ty) i)
    (f c d) (subst (λ u. Named (f c d) (wider u ty)) e (subst (λ u. Named (f c d) (wider c.ty u)) h.0 (step c d)))

gathered_named : (f : ColTy → ColTy → Option ColTy) → ((c d : ColTy) → Named (f c d) (wider c.ty d.ty)) → (os : List (Option ColTy)) (tys : List Ty) → AllNamed os tys → Named (gather_some f os) (widest tys)
gathered_named f step [] [] h = tt
gathered_named f step [] (ty ∷ tys) h = absurd h
gathered_named f step (o ∷ os) [] h = absurd h
gathered_named f step (None ∷ os) (ty ∷ tys) h = tt
gathered_named f step (Some d ∷ os) (ty ∷ tys) h = joined_named f step os tys h.1 d ty h.0

pub same_types : (s t : Ty) → same_ty s t ≡ true → s ≡ t
same_types Truths Truths e = refl
same_types Int Int e = refl
same_types BigInt BigInt e = refl
same_types (Decimal p s) (Decimal q t) e =
    let i : p ≡ q = eqb-true p q (first_true (p == q) (s == t) e) in
    let j : s ≡ t = eqb-true s t (second_true (p == q) (s == t) e) in
    λ k. Decimal (i k) (j k)
same_types Texts Texts e = refl
same_types s t e = absurd (cc)

column_named : (o : Option ColTy) (ty : Ty) → Named (option_and_then (λ c. cond (same_ty c.ty ty) (Some c) None) o) ty
column_named None ty = tt
column_named (Some c) ty = named_if (same_ty c.ty ty) c ty (same_types c.ty ty)

number_named : (c : ColTy) → Named (number_col c) c.ty
number_named c = named_if (is_number c.ty) c c.ty (λ e. refl)

arith_named : (op : ArithOp) (c d : ColTy) → Named (arith_col op c d) (arith_ty op c.ty d.ty)
arith_named op c d = named_if (can_arith op c.ty d.ty) (col (arith_ty op c.ty d.ty) (c.nullable || d.nullable)) (arith_ty op c.ty d.ty) (λ e. refl)

compare_named : (c d : ColTy) → Named (compare_col c d) Truths
compare_named c d = named_if (comparable c.ty d.ty) (col Truths (c.nullable || d.nullable)) Truths (λ e. refl)

logic_named : (c d : ColTy) → Named (logic_col c d) Truths
logic_named c d = named_if (is_truths c.ty && is_truths d.ty) (col Truths (c.nullable || d.nullable)) Truths (λ e. refl)

is_truths-Truths : (ty : Ty) → is_truths ty ≡ true → ty ≡ Truths
is_truths-Truths Truths e = refl
is_truths-Truths ty e = absurd (cc)

not_named : (c : ColTy) → Named (truth_col c) Truths
not_named c = named_if (is_truths c.ty) c Truths (is_truths-Truths c.ty)

logic_all : (os : List (Option ColTy)) → Named (all_truths os) Truths
logic_all [] = tt
logic_all (o ∷ os) = named_gather logic_col Truths logic_named (o ∷ os) (Some (col Truths false)) refl

in_list_named : (c : ColTy) (os : List (Option ColTy)) → Named (in_list_col c os) Truths
in_list_named c [] = tt
in_list_named c (o ∷ os) = named_gather (λ (a d : ColTy). both_of logic_col (Some a) (compare_col c d)) Truths
    (λ a d. named_both logic_col (λ _ _. Truths) logic_named (Some a) (compare_col c d) a.ty Truths refl (compare_named c d)) (o ∷ os) (Some (col Truths false)) refl

common_named : (nullable : Bool) (s : Ty) (o : Option Ty) → Named (option_map (λ ty. col ty nullable) o) (unwrap_or o s)
common_named nullable s None = tt
common_named nullable s (Some ty) = refl

case_named : (c d : ColTy) → Named (case_col c d) (wider c.ty d.ty)
case_named c d = common_named (c.nullable || d.nullable) c.ty (common_ty c.ty d.ty)

coalesce_named : (c d : ColTy) → Named (coalesce_col c d) (wider c.ty d.ty)
coalesce_named c d = common_named (c.nullable && d.nullable) c.ty (common_ty c.ty d.ty)

null_if_named : (c d : ColTy) → Named (null_if_col c d) c.ty
null_if_named c d = named_if (comparable c.ty d.ty) (col c.ty true) c.ty (λ e. refl)

cast_named : (ty : Ty) (c : ColTy) → Named (cast_col ty c) ty
cast_named ty c = named_if (is_type ty && can_cast c.ty ty) (col ty c.nullable) ty (λ e. refl)

texts_named : (ty : Ty) (c d : ColTy) → Named (texts_col ty c d) ty
texts_named ty c d = named_if (is_texts c.ty && is_texts d.ty) (col ty (c.nullable || d.nullable)) ty (λ e. refl)

char_length_named : (c : ColTy) → Named (char_length_col c) Int
char_length_named c = named_if (is_texts c.ty) (col Int c.nullable) Int (λ e. refl)

after : (o p : Option ColTy) (ty : Ty) → Named p ty → Named (option_and_then (λ _. p) o) ty
after None p ty h = tt
after (Some c) p ty h = h

module _ (cols : List ColTy) where
  mutual
    pub named : (x : Expr) → Named (type_of x cols) (ty_of x)
    named (Column n ty) = column_named (slice_get cols n) ty
    named (Literal v ty) = named_if (is_type ty && value_fits ty v) (col ty (is_null v)) ty (λ e. refl)
    named (Neg x) = named_then number_col (λ t. t) number_named (type_of x cols) (ty_of x) (named x)
    named (Arith op x y) = named_both (arith_col op) (arith_ty op) (arith_named op) (type_of x cols) (type_of y cols) (ty_of x) (ty_of y) (named x) (named y)
    named (Compare op x y) = named_both compare_col (λ _ _. Truths) compare_named (type_of x cols) (type_of y cols) (ty_of x) (ty_of y) (named x) (named y)
    named (And xs) = logic_all (types_of xs cols)
    named (Or xs) = logic_all (types_of xs cols)
    named (Not x) = named_then truth_col (λ _. Truths) not_named (type_of x cols) (ty_of x) (named x)
    named (IsNull x) = named_then null_test_col (λ _. Truths) (λ c. refl) (type_of x cols) (ty_of x) (named x)
    named (InList x xs) = named_then (λ c. in_list_col c (types_of xs cols)) (λ _. Truths) (λ c. in_list_named c (types_of xs cols)) (type_of x cols) (ty_of x) (named x)
    named (Case ws o) = after (all_truths (conds_of ws cols)) (otherwise_of o cols (gather_some case_col (results_of ws cols))) (otherwise_ty o (widest (result_tys ws)))
        (else_named o (gather_some case_col (results_of ws cols)) (widest (result_tys ws)) (gathered_named case_col case_named (results_of ws cols) (result_tys ws) (results_named ws)))
    named (Coalesce xs) = gathered_named coalesce_col coalesce_named (types_of xs cols) (tys_of xs) (all_named xs)
    named (NullIf x y) = named_both null_if_col (λ s _. s) null_if_named (type_of x cols) (type_of y cols) (ty_of x) (ty_of y) (named x) (named y)
    named (Cast x ty) = named_then (cast_col ty) (λ _. ty) (cast_named ty) (type_of x cols) (ty_of x) (named x)
    named (Concat x y) = named_both (texts_col Texts) (λ _ _. Texts) (texts_named Texts) (type_of x cols) (type_of y cols) (ty_of x) (ty_of y) (named x) (named y)
    named (CharLength x) = named_then char_length_col (λ _. Int) char_length_named (type_of x cols) (ty_of x) (named x)
    named (Like x y) = named_both (texts_col Truths) (λ _ _. Truths) (texts_named Truths) (type_of x cols) (type_of y cols) (ty_of x) (ty_of y) (named x) (named y)

    pub all_named : (xs : Exprs) → AllNamed (types_of xs cols) (tys_of xs)
    all_named no_exprs = tt
    all_named (expr_and x xs) = (named x, all_named xs)

    results_named : (ws : Whens) → AllNamed (results_of ws cols) (result_tys ws)
    results_named no_whens = tt
    results_named (when_and x y ws) = (named y, results_named ws)

    else_named : (o : OptionalExpr) (c : Option ColTy) (ty : Ty) → Named c ty → Named (otherwise_of o cols c) (otherwise_ty o ty)
    else_named no_expr c ty h = named_then or_null (λ t. t) (λ c. refl) c ty h
    else_named (some_expr x) c ty h = named_both case_col wider case_named c (type_of x cols) ty (ty_of x) h (named x)

  at_some : (o : Option ColTy) (ty : Ty) (c : ColTy) → Named o ty → o ≡ Some c → ty ≡ c.ty
  at_some None ty c h e = absurd (cc)
  at_some (Some d) ty c h e = let i : d ≡ c = cc in sym h ∙ ap (λ (b : ColTy). b.ty) i

  pub says_its_type : (x : Expr) (c : ColTy) → type_of x cols ≡ Some c → ty_of x ≡ c.ty
  says_its_type x c e = at_some (type_of x cols) (ty_of x) c (named x) e
