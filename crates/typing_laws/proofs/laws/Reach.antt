-- The columns that an expression reads are there, and its value rests on them alone.
use Rattle.std.proofs.Common.{◌≡◌, ℕ, zero, suc, ◌<◌, false, cond, List, [], ◌∷◌, ◌++◌, length, Option, Some, None, refl, arith}
use Rattle.std.specs.Prelude.{option_and_then, slice_get}
use Rattle.std.specs.List.{AllByRecursion}
use Rattle.ct_value.specs.declared.value.Value.{Value}
use Rattle.ct_value.specs.declared.ty.Ty.TheVariants.{Bool as Truths, Text as Texts}
use Rattle.ct_value.specs.declared.ty.ColTy.{ColTy}
use Rattle.ct_expr.specs.Expr.{Expr, Exprs, Whens, OptionalExpr, Column, Literal, Neg, Arith, Compare, And, Or, Not, IsNull, InList, Case, Coalesce, NullIf, Cast, Concat, CharLength, Like, no_exprs, expr_and, no_whens, when_and, no_expr, some_expr}
use Rattle.ct_expr.specs.Eval.{cell, typed, eval, evals, typed_evals, branches, otherwise}
use Rattle.ct_expr.specs.Types.{col, same_ty, both_of, gather, begun, joined, gather_some, number_col, arith_col, compare_col, logic_col, truth_col, all_truths, null_test_col, in_list_col, case_col, coalesce_col, null_if_col, cast_col, texts_col, char_length_col, or_null, type_of, types_of, conds_of, results_of, otherwise_of, ty_of}
use Rattle.ct_expr.specs.Values.{minus, arithmetic, comparison, conjunction, disjunction, negation, null_test, in_list, first_chosen, first_known, null_if, conversion, concatenation, char_length, likeness}
use Rattle.typing_laws.specs.Reads.{columns_read, read_by_all, read_by_branches, read_by_else}

-- ---- what is there

abbrev IsThere : {A : Type 0} → Option A → Type 0
IsThere None = ⊥
IsThere (Some a) = Unit {0}

abbrev AllThere : {A : Type 0} → List (Option A) → Type 0
AllThere [] = Unit {0}
AllThere (o ∷ os) = IsThere o × AllThere os

there_then : {A B : Type 0} (f : A → Option B) (o : Option A) → IsThere (option_and_then f o) → IsThere o
there_then f None h = h
there_then f (Some a) h = tt

there_after : {A B : Type 0} (o : Option A) (p : Option B) → IsThere (option_and_then (λ _. p) o) → IsThere p
there_after None p h = absurd h
there_after (Some a) p h = h

there_left : {A B C : Type 0} (f : A → B → Option C) (o : Option A) (p : Option B) → IsThere (both_of f o p) → IsThere o
there_left f None p h = h
there_left f (Some a) p h = tt

there_right : {A B C : Type 0} (f : A → B → Option C) (o : Option A) (p : Option B) → IsThere (both_of f o p) → IsThere p
there_right f None p h = absurd h
there_right f (Some a) None h = h
there_right f (Some a) (Some b) h = tt

there_gather : {A B : Type 0} (f : A → B → Option A) (o : Option A) (os : List (Option B)) → IsThere (gather f o os) → IsThere o × AllThere os
there_gather f o [] h = (h, tt)
there_gather f o (p ∷ os) h = let i = there_gather f (both_of f o p) os h in (there_left f o p i.0, (there_right f o p i.0, i.1))

there_begun : (f : ColTy → ColTy → Option ColTy) (o p : Option ColTy) → IsThere (begun f o p) → IsThere p
there_begun f None p h = h
there_begun f (Some a) p h = there_right f (Some a) p h

there_rest : {P : Type 0} (f : ColTy → Option ColTy) → ((c : ColTy) → IsThere (f c) → P) → (r : Option ColTy) → IsThere (option_and_then f r) → P
there_rest f step None h = absurd h
there_rest f step (Some c) h = step c h

there_joined : (f : ColTy → ColTy → Option ColTy) (o : Option ColTy) (os : List (Option ColTy)) → IsThere (joined f o os) → AllThere os
there_joined f o [] h = tt
there_joined f o (p ∷ os) h = (there_begun f o p (there_then (λ b. joined f (Some b) os) (begun f o p) h), there_rest (λ b. joined f (Some b) os) (λ b i. there_joined f (Some b) os i) (begun f o p) h)

truths_there : (os : List (Option ColTy)) → IsThere (all_truths os) → AllThere os
truths_there [] h = tt
truths_there (o ∷ os) h = (there_gather logic_col (Some (col Truths false)) (o ∷ os) h).1

in_list_there : (c : Option ColTy) (os : List (Option ColTy)) → IsThere (option_and_then (λ d. in_list_col d os) c) → AllThere os
in_list_there None os h = absurd h
in_list_there (Some c) [] h = tt
in_list_there (Some c) (o ∷ os) h = (there_gather (λ (a d : ColTy). both_of logic_col (Some a) (compare_col c d)) (Some (col Truths false)) (o ∷ os) h).1

there_index : (cols : List ColTy) (n : ℕ) → IsThere (slice_get cols n) → n < length cols
there_index [] n h = absurd h
there_index (c ∷ cols) zero h = omega arith
there_index (c ∷ cols) (suc n) h = omega (arith, there_index cols n h)

there_some : (o : Option ColTy) (c : ColTy) → o ≡ Some c → IsThere o
there_some None c e = absurd (cc)
there_some (Some d) c e = tt

-- ---- lists of columns

all_of_both : (P : ℕ → Type 0) (ns ms : List ℕ) → AllByRecursion P ns → AllByRecursion P ms → AllByRecursion P (ns ++ ms)
all_of_both P [] ms h k = k
all_of_both P (n ∷ ns) ms h k = (h.0, all_of_both P ns ms h.1 k)

all_left : (P : ℕ → Type 0) (ns ms : List ℕ) → AllByRecursion P (ns ++ ms) → AllByRecursion P ns
all_left P [] ms h = tt
all_left P (n ∷ ns) ms h = (h.0, all_left P ns ms h.1)

all_right : (P : ℕ → Type 0) (ns ms : List ℕ) → AllByRecursion P (ns ++ ms) → AllByRecursion P ms
all_right P [] ms h = h
all_right P (n ∷ ns) ms h = all_right P ns ms h.1

-- ---- the columns that are read are there

module _ (cols : List ColTy) where
  abbrev Here : ℕ → Type 0
  Here n = n < length cols

  abbrev Reached : List ℕ → Type 0
  Reached ns = AllByRecursion Here ns

  reach_two : (f : ColTy → ColTy → Option ColTy) (o p : Option ColTy) (ns ms : List ℕ) → (IsThere o → Reached ns) → (IsThere p → Reached ms) → IsThere (both_of f o p) → Reached (ns ++ ms)
  reach_two f o p ns ms g k h = all_of_both Here ns ms (g (there_left f o p h)) (k (there_right f o p h))

  results_there : (o : OptionalExpr) (made : Option ColTy) → IsThere (otherwise_of o cols made) → IsThere made
  results_there no_expr made h = there_then or_null made h
  results_there (some_expr x) made h = there_left case_col made (type_of x cols) h

  mutual
    reach : (x : Expr) → IsThere (type_of x cols) → Reached (columns_read x)
    reach (Column n ty) h = (there_index cols n (there_then (λ c. cond (same_ty c.ty ty) (Some c) None) (slice_get cols n) h), tt)
    reach (Literal v ty) h = tt
    reach (Neg x) h = reach x (there_then number_col (type_of x cols) h)
    reach (Arith op x y) h = reach_two (arith_col op) (type_of x cols) (type_of y cols) (columns_read x) (columns_read y) (reach x) (reach y) h
    reach (Compare op x y) h = reach_two compare_col (type_of x cols) (type_of y cols) (columns_read x) (columns_read y) (reach x) (reach y) h
    reach (And xs) h = reach_all xs (truths_there (types_of xs cols) h)
    reach (Or xs) h = reach_all xs (truths_there (types_of xs cols) h)
    reach (Not x) h = reach x (there_then truth_col (type_of x cols) h)
    reach (IsNull x) h = reach x (there_then null_test_col (type_of x cols) h)
    reach (InList x xs) h = all_of_both Here (columns_read x) (read_by_all xs) (reach x (there_then (λ c. in_list_col c (types_of xs cols)) (type_of x cols) h)) (reach_all xs (in_list_there (type_of x cols) (types_of xs cols) h))
    reach (Case ws o) h =
        let made = gather_some case_col (results_of ws cols) in
        let k : IsThere (otherwise_of o cols made) = there_after (all_truths (conds_of ws cols)) (otherwise_of o cols made) h in
        all_of_both Here (read_by_branches ws) (read_by_else o)
        (reach_branches ws (truths_there (conds_of ws cols) (there_then (λ _. otherwise_of o cols made) (all_truths (conds_of ws cols)) h)) (there_joined case_col None (results_of ws cols) (results_there o made k)))
        (reach_else o made k)
    reach (Coalesce xs) h = reach_all xs (there_joined coalesce_col None (types_of xs cols) h)
    reach (NullIf x y) h = reach_two null_if_col (type_of x cols) (type_of y cols) (columns_read x) (columns_read y) (reach x) (reach y) h
    reach (Cast x ty) h = reach x (there_then (cast_col ty) (type_of x cols) h)
    reach (Concat x y) h = reach_two (texts_col Texts) (type_of x cols) (type_of y cols) (columns_read x) (columns_read y) (reach x) (reach y) h
    reach (CharLength x) h = reach x (there_then char_length_col (type_of x cols) h)
    reach (Like x y) h = reach_two (texts_col Truths) (type_of x cols) (type_of y cols) (columns_read x) (columns_read y) (reach x) (reach y) h

    reach_all : (xs : Exprs) → AllThere (types_of xs cols) → Reached (read_by_all xs)
    reach_all no_exprs h = tt
    reach_all (expr_and x xs) h = all_of_both Here (columns_read x) (read_by_all xs) (reach x h.0) (reach_all xs h.1)

    reach_branches : (ws : Whens) → AllThere (conds_of ws cols) → AllThere (results_of ws cols) → Reached (read_by_branches ws)
    reach_branches no_whens h k = tt
    reach_branches (when_and x y ws) h k = all_of_both Here (columns_read x ++ columns_read y) (read_by_branches ws) (all_of_both Here (columns_read x) (columns_read y) (reach x h.0) (reach y k.0)) (reach_branches ws h.1 k.1)

    reach_else : (o : OptionalExpr) (made : Option ColTy) → IsThere (otherwise_of o cols made) → Reached (read_by_else o)
    reach_else no_expr made h = tt
    reach_else (some_expr x) made h = reach x (there_right case_col made (type_of x cols) h)

  pub columns_exist : (x : Expr) (c : ColTy) → type_of x cols ≡ Some c → Reached (columns_read x)
  columns_exist x c e = reach x (there_some (type_of x cols) c e)

-- ---- the value rests on them alone

module _ (row other : List Value) where
  abbrev Same : ℕ → Type 0
  Same n = cell n row ≡ cell n other

  abbrev Agree : List ℕ → Type 0
  Agree ns = AllByRecursion Same ns

  mutual
    pub agree : (x : Expr) → Agree (columns_read x) → eval x row ≡ eval x other
    agree (Column n ty) h = λ i. Some (h.0 i)
    agree (Literal v ty) h = refl
    agree (Neg x) h = λ i. minus (ty_of x) (agree x h i)
    agree (Arith op x y) h = λ i. arithmetic op (ty_of x) (ty_of y) (agree x (all_left Same (columns_read x) (columns_read y) h) i) (agree y (all_right Same (columns_read x) (columns_read y) h) i)
    agree (Compare op x y) h = λ i. comparison op (ty_of x) (ty_of y) (agree x (all_left Same (columns_read x) (columns_read y) h) i) (agree y (all_right Same (columns_read x) (columns_read y) h) i)
    agree (And xs) h = λ i. conjunction (agree_all xs h i)
    agree (Or xs) h = λ i. disjunction (agree_all xs h i)
    agree (Not x) h = λ i. negation (agree x h i)
    agree (IsNull x) h = λ i. null_test (agree x h i)
    agree (InList x xs) h = λ i. in_list (ty_of x) (agree x (all_left Same (columns_read x) (read_by_all xs) h) i) (agree_items xs (all_right Same (columns_read x) (read_by_all xs) h) i)
    agree (Case ws o) h = λ i. first_chosen (agree_branches ws (all_left Same (read_by_branches ws) (read_by_else o) h) i) (agree_else o (all_right Same (read_by_branches ws) (read_by_else o) h) i)
    agree (Coalesce xs) h = λ i. first_known (agree_all xs h i)
    agree (NullIf x y) h = λ i. null_if (ty_of x) (ty_of y) (agree x (all_left Same (columns_read x) (columns_read y) h) i) (agree y (all_right Same (columns_read x) (columns_read y) h) i)
    agree (Cast x ty) h = λ i. conversion (ty_of x) ty (agree x h i)
    agree (Concat x y) h = λ i. concatenation (agree x (all_left Same (columns_read x) (columns_read y) h) i) (agree y (all_right Same (columns_read x) (columns_read y) h) i)
    agree (CharLength x) h = λ i. char_length (agree x h i)
    agree (Like x y) h = λ i. likeness (agree x (all_left Same (columns_read x) (columns_read y) h) i) (agree y (all_right Same (columns_read x) (columns_read y) h) i)

    agree_all : (xs : Exprs) → Agree (read_by_all xs) → evals xs row ≡ evals xs other
    agree_all no_exprs h = refl
    agree_all (expr_and x xs) h = λ i. agree x (all_left Same (columns_read x) (read_by_all xs) h) i ∷ agree_all xs (all_right Same (columns_read x) (read_by_all xs) h) i

    agree_items : (xs : Exprs) → Agree (read_by_all xs) → typed_evals xs row ≡ typed_evals xs other
    agree_items no_exprs h = refl
    agree_items (expr_and x xs) h = λ i. typed (ty_of x) (agree x (all_left Same (columns_read x) (read_by_all xs) h) i) ∷ agree_items xs (all_right Same (columns_read x) (read_by_all xs) h) i

    agree_branches : (ws : Whens) → Agree (read_by_branches ws) → branches ws row ≡ branches ws other
    agree_branches no_whens h = refl
    agree_branches (when_and x y ws) h =
        let k : Agree (columns_read x ++ columns_read y) = all_left Same (columns_read x ++ columns_read y) (read_by_branches ws) h in
        λ i. (agree x (all_left Same (columns_read x) (columns_read y) k) i, agree y (all_right Same (columns_read x) (columns_read y) k) i) ∷ agree_branches ws (all_right Same (columns_read x ++ columns_read y) (read_by_branches ws) h) i

    agree_else : (o : OptionalExpr) → Agree (read_by_else o) → otherwise o row ≡ otherwise o other
    agree_else no_expr h = refl
    agree_else (some_expr x) h = agree x h
