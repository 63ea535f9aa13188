-- An expression that calculates nothing is at a row of short texts a value with a short text, and never out of range.
use Rattle.std.proofs.Common.{◌≡◌, ℕ, zero, suc, ◌+◌, ◌*◌, ◌-◌, ◌^◌, ◌≤◌, Bool, true, false, cond, List, [], ◌∷◌, length, map, Option, Some, None, refl, sym, ap, ◌∙◌, subst, arith}
use Rattle.std.specs.Prelude.{pos, ◌&&◌, option_map, option_and_then, slice_index_or}
use Rattle.std.specs.List.{AllByRecursion, list_all}
use Rattle.std.specs.Str.{chars, chars_after, continuation_len, lead_bits}
use Rattle.std.proofs.lemmas.Bool.{and_parts, lt-ltb, leb-true}
use Rattle.ct_value.specs.declared.row.Row.{Row}
use Rattle.ct_value.specs.declared.ty.Ty.{Ty}
use Rattle.ct_value.specs.declared.ty.Ty.TheVariants.{Int}
use Rattle.ct_value.specs.declared.value.CompareOp.{CompareOp}
use Rattle.ct_value.specs.declared.value.CompareOp.TheVariants.{Eq}
use Rattle.ct_value.specs.declared.value.Value.{Value}
use Rattle.ct_value.specs.declared.value.Value.TheVariants.{Null, Bool as Truth, Num, Text}
use Rattle.ct_field.specs.Fields.{longest_field}
use Rattle.ct_field.specs.Numbers.{in_range, has_38_digits}
use Rattle.ct_expr.specs.Expr.{Expr, Exprs, Whens, OptionalExpr, Column, Literal, Neg, Arith, Compare, And, Or, Not, IsNull, InList, Case, Coalesce, NullIf, Cast, Concat, CharLength, Like, no_exprs, expr_and, no_whens, when_and, no_expr, some_expr}
use Rattle.ct_expr.specs.Eval.{typed, eval, evals, typed_evals, branches, otherwise}
use Rattle.ct_expr.specs.Types.{both_of, gather, is_null, ty_of}
use Rattle.ct_expr.specs.Values.{and_of, or_of, not_of, is_true, compare_of, null_if_of, first_known, first_chosen, char_length_of, like_of, ranged}
use Rattle.rel_algebra.specs.Clauses.{collect}
use Rattle.rel_algebra.proofs.laws.Averages.{within_pos}
use Rattle.range_rules.specs.Tame.{is_short, is_tame, are_tame, whens_are_tame, is_none_or_tame}
use Rattle.range_rules.specs.Ranges.{IsShortRow}

-- a value, with a short text
abbrev pub Gives : Option Value → Type 0
Gives None = ⊥
Gives (Some v) = is_short v ≡ true

-- ---- forms of operands

chosen : (b : Bool) (m k : Option Value) → Gives m → Gives k → Gives (cond b m k)
chosen true m k a c = a
chosen false m k a c = c

mapped : (f : Value → Value) → ((v : Value) → is_short v ≡ true → is_short (f v) ≡ true) → (m : Option Value) → Gives m → Gives (option_map f m)
mapped f h None a = absurd a
mapped f h (Some v) a = h v a

and_then : (f : Value → Option Value) → ((v : Value) → is_short v ≡ true → Gives (f v)) → (m : Option Value) → Gives m → Gives (option_and_then f m)
and_then f h None a = absurd a
and_then f h (Some v) a = h v a

both : (f : Value → Value → Value) → ((v w : Value) → is_short v ≡ true → is_short w ≡ true → is_short (f v w) ≡ true) → (m k : Option Value) → Gives m → Gives k → Gives (both_of (λ v w. Some (f v w)) m k)
both f h None k a b = absurd a
both f h (Some v) None a b = absurd b
both f h (Some v) (Some w) a b = h v w a b

all : (f : Value → Value → Value) → ((v w : Value) → is_short v ≡ true → is_short w ≡ true → is_short (f v w) ≡ true) → (m : Option Value) (ms : List (Option Value)) → Gives m → AllByRecursion Gives ms → Gives (gather (λ v w. Some (f v w)) m ms)
all f h m [] a each = a
all f h m (k ∷ ms) a each = all f h (both_of (λ v w. Some (f v w)) m k) ms (both f h m k a each.0) each.1

-- ---- truth values and texts

and_short : (v w : Value) → is_short (and_of v w) ≡ true
and_short (Truth false) w = refl
and_short v (Truth false) = refl
and_short (Truth true) (Truth true) = refl
and_short v w = refl

or_short : (v w : Value) → is_short (or_of v w) ≡ true
or_short (Truth true) w = refl
or_short v (Truth true) = refl
or_short (Truth false) (Truth false) = refl
or_short v w = refl

not_short : (v : Value) → is_short (not_of v) ≡ true
not_short (Truth b) = refl
not_short v = refl

compare_short : (op : CompareOp) (s t : Ty) (v w : Value) → is_short (compare_of op s t v w) ≡ true
compare_short op s t (Num a) (Num b) = refl
compare_short op s t (Text a) (Text b) = refl
compare_short op s t (Truth a) (Truth b) = refl
compare_short op s t v w = refl

like_short : (v w : Value) → is_short (like_of v w) ≡ true
like_short (Text t) (Text p) = refl
like_short v w = refl

null_or : (b : Bool) (v : Value) → is_short v ≡ true → is_short (cond b Null v) ≡ true
null_or true v a = refl
null_or false v a = a

-- ---- lists

-- an item is there
abbrev IsThere : Option (Ty × Value) → Type 0
IsThere None = ⊥
IsThere (Some w) = Unit {0}

typed_there : (ty : Ty) (m : Option Value) → Gives m → IsThere (typed ty m)
typed_there ty None a = a
typed_there ty (Some v) a = tt

one_of : (s : Ty) (v : Value) (m : Option Value) (o : Option (Ty × Value)) → Gives m → IsThere o → Gives (both_of (λ a w. Some (or_of a (compare_of Eq s w.0 v w.1))) m o)
one_of s v None o a there = absurd a
one_of s v (Some a) None c there = absurd there
one_of s v (Some a) (Some w) c there = or_short a (compare_of Eq s w.0 v w.1)

in_all : (s : Ty) (v : Value) (m : Option Value) (os : List (Option (Ty × Value))) → Gives m → AllByRecursion IsThere os → Gives (gather (λ a w. Some (or_of a (compare_of Eq s w.0 v w.1))) m os)
in_all s v m [] a there = a
in_all s v m (o ∷ os) a there = in_all s v (both_of (λ a w. Some (or_of a (compare_of Eq s w.0 v w.1))) m o) os (one_of s v m o a there.0) there.1

known : (ms : List (Option Value)) → AllByRecursion Gives ms → Gives (first_known ms)
known [] each = refl
known (None ∷ ms) each = absurd each.0
known (Some v ∷ ms) each = chosen (is_null v) (first_known ms) (Some v) (known ms each.1) each.0

-- a branch's condition and its result
abbrev GivesBoth : Option Value × Option Value → Type 0
GivesBoth w = Gives w.0 × Gives w.1

branch : (ws : List (Option Value × Option Value)) (m : Option Value) → AllByRecursion GivesBoth ws → Gives m → Gives (first_chosen ws m)
branch [] m each a = a
branch (w ∷ ws) m each a = and_then (λ c. cond (is_true c) w.1 (first_chosen ws m)) (λ c h. chosen (is_true c) w.1 (first_chosen ws m) each.0.1 (branch ws m each.1 a)) w.0 each.0.0

-- ---- the number of a text's characters

chars_few : (n c : ℕ) (bs : List ℕ) → length (chars_after n c bs) ≤ length bs + 1
chars_few zero c [] = omega arith
chars_few zero c (b ∷ bs) = omega (arith, chars_few (continuation_len b) (lead_bits b) bs)
chars_few (suc n) c [] = omega arith
chars_few (suc n) c (b ∷ bs) = omega (arith, chars_few n (c * 64 + (b - 128)) bs)

length-chars : (bs : List ℕ) → length (chars bs) ≤ length bs
unfolding chars
length-chars [] = omega arith
length-chars (b ∷ bs) = omega (arith, chars_few (continuation_len b) (lead_bits b) bs)

int_gives : (n : ℕ) → n ≤ longest_field → Gives (ranged Int (pos n))
int_gives n h =
    let digits : has_38_digits (pos n) ≡ true = lt-ltb n (10 ^ 38) (omega arith) in
    let range : in_range Int (pos n) ≡ true = within_pos (2 ^ 31) n (omega arith) in
    let is : (has_38_digits (pos n) && in_range Int (pos n)) ≡ true = ap (λ b. b && in_range Int (pos n)) digits ∙ range in
    subst (λ b. Gives (cond b (Some (Num (pos n))) None)) (sym is) refl

length_gives : (v : Value) → is_short v ≡ true → Gives (char_length_of v)
length_gives (Text t) a = int_gives (length (chars t)) (let l = length-chars t in let h = leb-true (length t) longest_field a in omega arith)
length_gives v a = refl

-- ---- every expression

pub cell_short : (row : Row) (n : ℕ) → IsShortRow row → is_short (slice_index_or row n Null) ≡ true
cell_short [] n short = refl
cell_short (v ∷ row) zero short = short.0
cell_short (v ∷ row) (suc n) short = cell_short row n short.1

module _ (row : Row) (short : IsShortRow row) where
  mutual
    pub gives : (x : Expr) → is_tame x ≡ true → Gives (eval x row)
    gives (Column n ty) t = cell_short row n short
    gives (Literal v ty) t = t
    gives (Neg x) t = absurd (cc)
    gives (Arith op x y) t = absurd (cc)
    gives (Compare op x y) t = let p = and_parts _ _ t in both (compare_of op (ty_of x) (ty_of y)) (λ v w a b. compare_short op (ty_of x) (ty_of y) v w) (eval x row) (eval y row) (gives x p.0) (gives y p.1)
    gives (And xs) t = all and_of (λ v w a b. and_short v w) (Some (Truth true)) (evals xs row) refl (all_give xs t)
    gives (Or xs) t = all or_of (λ v w a b. or_short v w) (Some (Truth false)) (evals xs row) refl (all_give xs t)
    gives (Not x) t = mapped not_of (λ v a. not_short v) (eval x row) (gives x t)
    gives (IsNull x) t = mapped (λ w. Truth (is_null w)) (λ v a. refl) (eval x row) (gives x t)
    gives (InList x xs) t = let p = and_parts _ _ t in and_then (λ v. gather (λ a w. Some (or_of a (compare_of Eq (ty_of x) w.0 v w.1))) (Some (Truth false)) (typed_evals xs row)) (λ v a. in_all (ty_of x) v (Some (Truth false)) (typed_evals xs row) refl (all_there xs p.1)) (eval x row) (gives x p.0)
    gives (Case ws o) t = let p = and_parts _ _ t in branch (branches ws row) (otherwise o row) (branches_give ws p.0) (otherwise_gives o p.1)
    gives (Coalesce xs) t = known (evals xs row) (all_give xs t)
    gives (NullIf x y) t = let p = and_parts _ _ t in both (null_if_of (ty_of x) (ty_of y)) (λ v w a b. null_or (is_true (compare_of Eq (ty_of x) (ty_of y) v w)) v a) (eval x row) (eval y row) (gives x p.0) (gives y p.1)
    gives (Cast x ty) t = absurd (cc)
    gives (Concat x y) t = absurd (cc)
    gives (CharLength x) t = and_then char_length_of length_gives (eval x row) (gives x t)
    gives (Like x y) t = let p = and_parts _ _ t in both like_of (λ v w a b. like_short v w) (eval x row) (eval y row) (gives x p.0) (gives y p.1)

    all_give : (xs : Exprs) → are_tame xs ≡ true → AllByRecursion Gives (evals xs row)
    all_give no_exprs t = tt
    all_give (expr_and x xs) t = let p = and_parts _ _ t in (gives x p.0, all_give xs p.1)

    all_there : (xs : Exprs) → are_tame xs ≡ true → AllByRecursion IsThere (typed_evals xs row)
    all_there no_exprs t = tt
    all_there (expr_and x xs) t = let p = and_parts _ _ t in (typed_there (ty_of x) (eval x row) (gives x p.0), all_there xs p.1)

    branches_give : (ws : Whens) → whens_are_tame ws ≡ true → AllByRecursion GivesBoth (branches ws row)
    branches_give no_whens t = tt
    branches_give (when_and x y ws) t = let p = and_parts _ _ t in let q = and_parts _ _ p.1 in ((gives x p.0, gives y q.0), branches_give ws q.1)

    otherwise_gives : (o : OptionalExpr) → is_none_or_tame o ≡ true → Gives (otherwise o row)
    otherwise_gives no_expr t = refl
    otherwise_gives (some_expr x) t = gives x t

-- ---- rows of values

-- a row, with short texts
abbrev pub GivesRow : Option Row → Type 0
GivesRow None = ⊥
GivesRow (Some row) = IsShortRow row

value_before : (v : Value) (o : Option Row) → is_short v ≡ true → GivesRow o → GivesRow (option_map (λ values. v ∷ values) o)
value_before v None a h = h
value_before v (Some values) a h = (a, h)

pub collected : (ms : List (Option Value)) → AllByRecursion Gives ms → GivesRow (collect ms)
collected [] each = tt
collected (None ∷ ms) each = absurd each.0
collected (Some v ∷ ms) each = value_before v (collect ms) each.0 (collected ms each.1)

-- the values of items at a row
pub items_give : (row : Row) → IsShortRow row → (items : List Expr) → list_all is_tame items ≡ true → AllByRecursion Gives (map (λ meaning. meaning row) (map eval items))
items_give row short [] t = tt
items_give row short (item ∷ items) t = let p = and_parts _ _ t in (gives row short item p.0, items_give row short items p.1)
