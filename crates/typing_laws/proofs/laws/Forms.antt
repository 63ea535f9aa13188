-- A form of operands that hold values of their columns has a value of its column, or is out of range.
use Rattle.std.proofs.Common.{◌≡◌, ℕ, ℤ, pos, Bool, true, false, cond, not, ◌&&◌, ◌||◌, ◌+◌, ◌++◌, List, [], ◌∷◌, length, Option, Some, None, refl, sym, ◌∙◌, subst}
use Rattle.std.specs.Prelude.{neg_ℤ, ◌+ℤ◌, ◌-ℤ◌, ◌*ℤ◌, max, nat_lt, option_and_then}
use Rattle.std.specs.Str.{chars}
use Rattle.ct_value.specs.declared.value.CompareOp.{CompareOp}
use Rattle.ct_value.specs.declared.value.CompareOp.TheVariants.{Eq}
use Rattle.ct_value.specs.declared.value.Value.{Value}
use Rattle.ct_value.specs.declared.value.Value.TheVariants.{Null, Bool as Truth, Num, Text}
use Rattle.ct_value.specs.declared.ty.Ty.{Ty}
use Rattle.ct_value.specs.declared.ty.Ty.TheVariants.{Bool as Truths, Int, BigInt, Decimal, Text as Texts}
use Rattle.ct_value.specs.declared.ty.ColTy.{ColTy}
use Rattle.ct_field.specs.Numbers.{in_range, has_38_digits, rescale, is_type}
use Rattle.ct_field.specs.Fields.{longest_field}
use Rattle.ct_field.specs.Typed.{value_fits, is_null}
use Rattle.ct_expr.specs.declared.expr.ArithOp.{ArithOp}
use Rattle.ct_expr.specs.declared.expr.ArithOp.TheVariants.{Add, Sub, Mul}
use Rattle.ct_expr.specs.Types.{scale, arith_ty, can_arith, can_cast, comparable, is_number, is_truths, is_texts, col, both_of, number_col, arith_col, compare_col, logic_col, truth_col, null_test_col, in_list_col, null_if_col, cast_col, texts_col, char_length_col}
use Rattle.ct_expr.specs.Types as t
use Rattle.ct_expr.specs.Values.{and_of, or_of, not_of, is_true, ranged, minus_of, arith_of, numbers_arith, compare_of, in_list_of, null_if_of, concat_of, char_length_of, like_of, truncated, cast_number, cast_truth, cast_text, cast_of}
use Rattle.typing_laws.proofs.laws.Lifted.{Lift, LiftAll, lift_if, lift_both, lift_gather}
use Rattle.typing_laws.proofs.laws.Kinds.{kind, kind_of, number_kind, truths_kind, texts_kind, comparable_kinds, null_fits, number_fits, truth_fits, kind_fits, Holds, first_true, second_true, or_true, null_left, null_right, known_both}

-- ---- numbers

pub ranged_holds : (c : ColTy) (n : ℤ) → Lift Holds (Some c) (ranged c.ty n)
ranged_holds c n = elim (has_38_digits n && in_range c.ty n) as (λ b. (has_38_digits n && in_range c.ty n) ≡ b → Lift Holds (Some c) (cond b (Some (Num n)) None)) [
  | true ↦ λ e. (number_fits c.ty n (second_true (has_38_digits n) (in_range c.ty n) e), or_true c.nullable)
  | false ↦ λ e. tt
] refl

pub minus_holds : (c : ColTy) (v : Value) → Holds c v → Lift Holds (number_col c) (minus_of c.ty v)
minus_holds c v h = lift_if Holds (is_number c.ty) c (minus_of c.ty v) (λ i. go v h (number_kind c.ty i))
  where
    go : (v : Value) → Holds c v → kind c.ty ≡ 1 → Lift Holds (Some c) (minus_of c.ty v)
    go Null h k = h
    go (Num n) h k = ranged_holds c (neg_ℤ n)
    go (Truth b) h k = absurd (let e : kind c.ty ≡ 0 = kind_fits c.ty (Truth b) h.0 refl in cc)
    go (Text bytes) h k = absurd (let e : kind c.ty ≡ 2 = kind_fits c.ty (Text bytes) h.0 refl in cc)

ranged_both : (c : ColTy) (f : ℤ → ℤ → ℤ) (o p : Option ℤ) → Lift Holds (Some c) (both_of (λ m n. ranged c.ty (f m n)) o p)
ranged_both c f None p = tt
ranged_both c f (Some m) None = tt
ranged_both c f (Some m) (Some n) = ranged_holds c (f m n)

numbers_hold : (op : ArithOp) (s u : Ty) (nullable : Bool) (a b : ℤ) → Lift Holds (Some (col (arith_ty op s u) nullable)) (numbers_arith op s u a b)
numbers_hold Add s u nullable a b = ranged_both (col (arith_ty Add s u) nullable) ◌+ℤ◌ (rescale a (scale s) (max (scale s) (scale u))) (rescale b (scale u) (max (scale s) (scale u)))
numbers_hold Sub s u nullable a b = ranged_both (col (arith_ty Sub s u) nullable) ◌-ℤ◌ (rescale a (scale s) (max (scale s) (scale u))) (rescale b (scale u) (max (scale s) (scale u)))
numbers_hold Mul s u nullable a b = ranged_holds (col (arith_ty Mul s u) nullable) (a *ℤ b)

pub arith_holds : (op : ArithOp) (c d : ColTy) (v w : Value) → Holds c v → Holds d w → Lift Holds (arith_col op c d) (arith_of op c.ty d.ty v w)
arith_holds op c d v w h k = lift_if Holds (can_arith op c.ty d.ty) made (arith_of op c.ty d.ty v w)
    (λ i. go v w h k (number_kind c.ty (first_true (is_number c.ty) _ i)) (number_kind d.ty (first_true (is_number d.ty) _ (second_true (is_number c.ty) _ i))))
  where
    made : ColTy
    made = col (arith_ty op c.ty d.ty) (c.nullable || d.nullable)

    go : (v w : Value) → Holds c v → Holds d w → kind c.ty ≡ 1 → kind d.ty ≡ 1 → Lift Holds (Some (col (arith_ty op c.ty d.ty) (c.nullable || d.nullable))) (arith_of op c.ty d.ty v w)
    go Null w h k m n = (null_fits (arith_ty op c.ty d.ty), null_left c.nullable d.nullable h.1)
    go (Num a) Null h k m n = (null_fits (arith_ty op c.ty d.ty), null_right c.nullable d.nullable k.1)
    go (Num a) (Num b) h k m n = numbers_hold op c.ty d.ty (c.nullable || d.nullable) a b
    go (Num a) (Truth b) h k m n = absurd (let e : kind d.ty ≡ 0 = kind_fits d.ty (Truth b) k.0 refl in cc)
    go (Num a) (Text b) h k m n = absurd (let e : kind d.ty ≡ 2 = kind_fits d.ty (Text b) k.0 refl in cc)
    go (Truth a) w h k m n = absurd (let e : kind c.ty ≡ 0 = kind_fits c.ty (Truth a) h.0 refl in cc)
    go (Text a) w h k m n = absurd (let e : kind c.ty ≡ 2 = kind_fits c.ty (Text a) h.0 refl in cc)

-- ---- comparison

compare_truth : (op : CompareOp) (s u : Ty) (v w : Value) → value_fits Truths (compare_of op s u v w) ≡ true
compare_truth op s u Null Null = refl
compare_truth op s u Null (Truth b) = refl
compare_truth op s u Null (Num b) = refl
compare_truth op s u Null (Text b) = refl
compare_truth op s u (Truth a) Null = refl
compare_truth op s u (Truth a) (Truth b) = refl
compare_truth op s u (Truth a) (Num b) = refl
compare_truth op s u (Truth a) (Text b) = refl
compare_truth op s u (Num a) Null = refl
compare_truth op s u (Num a) (Truth b) = refl
compare_truth op s u (Num a) (Num b) = refl
compare_truth op s u (Num a) (Text b) = refl
compare_truth op s u (Text a) Null = refl
compare_truth op s u (Text a) (Truth b) = refl
compare_truth op s u (Text a) (Num b) = refl
compare_truth op s u (Text a) (Text b) = refl

compare_known : (op : CompareOp) (s u : Ty) (v w : Value) → kind_of v ≡ kind_of w → not (is_null v) ≡ true → not (is_null w) ≡ true → not (is_null (compare_of op s u v w)) ≡ true
compare_known op s t Null Null same h k = absurd (cc)
compare_known op s t Null (Truth b) same h k = absurd (cc)
compare_known op s t Null (Num b) same h k = absurd (cc)
compare_known op s t Null (Text b) same h k = absurd (cc)
compare_known op s t (Truth a) Null same h k = absurd (cc)
compare_known op s t (Truth a) (Truth b) same h k = refl
compare_known op s t (Truth a) (Num b) same h k = absurd (cc)
compare_known op s t (Truth a) (Text b) same h k = absurd (cc)
compare_known op s t (Num a) Null same h k = absurd (cc)
compare_known op s t (Num a) (Truth b) same h k = absurd (cc)
compare_known op s t (Num a) (Num b) same h k = refl
compare_known op s t (Num a) (Text b) same h k = absurd (cc)
compare_known op s t (Text a) Null same h k = absurd (cc)
compare_known op s t (Text a) (Truth b) same h k = absurd (cc)
compare_known op s t (Text a) (Num b) same h k = absurd (cc)
compare_known op s t (Text a) (Text b) same h k = refl

pub compare_holds : (op : CompareOp) (c d : ColTy) (v w : Value) → Holds c v → Holds d w → Lift Holds (compare_col c d) (Some (compare_of op c.ty d.ty v w))
compare_holds op c d v w h k = lift_if Holds (comparable c.ty d.ty) (col Truths (c.nullable || d.nullable)) (Some (compare_of op c.ty d.ty v w)) (λ i. (
  compare_truth op c.ty d.ty v w,
  known_both c.nullable d.nullable (not (is_null v)) (not (is_null w)) (not (is_null (compare_of op c.ty d.ty v w))) h.1 k.1
      (λ p q. compare_known op c.ty d.ty v w (sym (kind_fits c.ty v h.0 p) ∙ comparable_kinds c.ty d.ty i ∙ kind_fits d.ty w k.0 q) p q),
))

pub null_if_holds : (c d : ColTy) (v w : Value) → Holds c v → Holds d w → Lift Holds (null_if_col c d) (Some (null_if_of c.ty d.ty v w))
null_if_holds c d v w h k = lift_if Holds (comparable c.ty d.ty) (col c.ty true) (Some (null_if_of c.ty d.ty v w)) (λ i.
    elim (is_true (compare_of Eq c.ty d.ty v w)) as (λ b. Holds (col c.ty true) (cond b Null v)) [ true ↦ (null_fits c.ty, refl) | false ↦ (h.0, refl) ])

-- ---- truth values

and_truth : (v w : Value) → value_fits Truths (and_of v w) ≡ true
and_truth Null Null = refl
and_truth Null (Truth true) = refl
and_truth Null (Truth false) = refl
and_truth Null (Num b) = refl
and_truth Null (Text b) = refl
and_truth (Truth true) Null = refl
and_truth (Truth true) (Truth true) = refl
and_truth (Truth true) (Truth false) = refl
and_truth (Truth true) (Num b) = refl
and_truth (Truth true) (Text b) = refl
and_truth (Truth false) Null = refl
and_truth (Truth false) (Truth true) = refl
and_truth (Truth false) (Truth false) = refl
and_truth (Truth false) (Num b) = refl
and_truth (Truth false) (Text b) = refl
and_truth (Num a) Null = refl
and_truth (Num a) (Truth true) = refl
and_truth (Num a) (Truth false) = refl
and_truth (Num a) (Num b) = refl
and_truth (Num a) (Text b) = refl
and_truth (Text a) Null = refl
and_truth (Text a) (Truth true) = refl
and_truth (Text a) (Truth false) = refl
and_truth (Text a) (Num b) = refl
and_truth (Text a) (Text b) = refl

and_known : (v w : Value) → kind_of v ≡ 0 → kind_of w ≡ 0 → not (is_null (and_of v w)) ≡ true
and_known Null Null h k = absurd (cc)
and_known Null (Truth true) h k = absurd (cc)
and_known Null (Truth false) h k = absurd (cc)
and_known Null (Num b) h k = absurd (cc)
and_known Null (Text b) h k = absurd (cc)
and_known (Truth true) Null h k = absurd (cc)
and_known (Truth true) (Truth true) h k = refl
and_known (Truth true) (Truth false) h k = refl
and_known (Truth true) (Num b) h k = absurd (cc)
and_known (Truth true) (Text b) h k = absurd (cc)
and_known (Truth false) Null h k = absurd (cc)
and_known (Truth false) (Truth true) h k = refl
and_known (Truth false) (Truth false) h k = refl
and_known (Truth false) (Num b) h k = absurd (cc)
and_known (Truth false) (Text b) h k = absurd (cc)
and_known (Num a) Null h k = absurd (cc)
and_known (Num a) (Truth true) h k = absurd (cc)
and_known (Num a) (Truth false) h k = absurd (cc)
and_known (Num a) (Num b) h k = absurd (cc)
and_known (Num a) (Text b) h k = absurd (cc)
and_known (Text a) Null h k = absurd (cc)
and_known (Text a) (Truth true) h k = absurd (cc)
and_known (Text a) (Truth false) h k = absurd (cc)
and_known (Text a) (Num b) h k = absurd (cc)
and_known (Text a) (Text b) h k = absurd (cc)

or_truth : (v w : Value) → value_fits Truths (or_of v w) ≡ true
or_truth Null Null = refl
or_truth Null (Truth true) = refl
or_truth Null (Truth false) = refl
or_truth Null (Num b) = refl
or_truth Null (Text b) = refl
or_truth (Truth true) Null = refl
or_truth (Truth true) (Truth true) = refl
or_truth (Truth true) (Truth false) = refl
or_truth (Truth true) (Num b) = refl
or_truth (Truth true) (Text b) = refl
or_truth (Truth false) Null = refl
or_truth (Truth false) (Truth true) = refl
or_truth (Truth false) (Truth false) = refl
or_truth (Truth false) (Num b) = refl
or_truth (Truth false) (Text b) = refl
or_truth (Num a) Null = refl
or_truth (Num a) (Truth true) = refl
or_truth (Num a) (Truth false) = refl
or_truth (Num a) (Num b) = refl
or_truth (Num a) (Text b) = refl
or_truth (Text a) Null = refl
or_truth (Text a) (Truth true) = refl
or_truth (Text a) (Truth false) = refl
or_truth (Text a) (Num b) = refl
or_truth (Text a) (Text b) = refl

or_known : (v w : Value) → kind_of v ≡ 0 → kind_of w ≡ 0 → not (is_null (or_of v w)) ≡ true
or_known Null Null h k = absurd (cc)
or_known Null (Truth true) h k = absurd (cc)
or_known Null (Truth false) h k = absurd (cc)
or_known Null (Num b) h k = absurd (cc)
or_known Null (Text b) h k = absurd (cc)
or_known (Truth true) Null h k = absurd (cc)
or_known (Truth true) (Truth true) h k = refl
or_known (Truth true) (Truth false) h k = refl
or_known (Truth true) (Num b) h k = absurd (cc)
or_known (Truth true) (Text b) h k = absurd (cc)
or_known (Truth false) Null h k = absurd (cc)
or_known (Truth false) (Truth true) h k = refl
or_known (Truth false) (Truth false) h k = refl
or_known (Truth false) (Num b) h k = absurd (cc)
or_known (Truth false) (Text b) h k = absurd (cc)
or_known (Num a) Null h k = absurd (cc)
or_known (Num a) (Truth true) h k = absurd (cc)
or_known (Num a) (Truth false) h k = absurd (cc)
or_known (Num a) (Num b) h k = absurd (cc)
or_known (Num a) (Text b) h k = absurd (cc)
or_known (Text a) Null h k = absurd (cc)
or_known (Text a) (Truth true) h k = absurd (cc)
or_known (Text a) (Truth false) h k = absurd (cc)
or_known (Text a) (Num b) h k = absurd (cc)
or_known (Text a) (Text b) h k = absurd (cc)

logic_holds : (f : Value → Value → Value) → ((v w : Value) → value_fits Truths (f v w) ≡ true) → ((v w : Value) → kind_of v ≡ 0 → kind_of w ≡ 0 → not (is_null (f v w)) ≡ true) → (c : ColTy) (v : Value) (d : ColTy) (w : Value) → Holds c v → Holds d w → Lift Holds (logic_col c d) (Some (f v w))
logic_holds f truth known c v d w h k = lift_if Holds (is_truths c.ty && is_truths d.ty) (col Truths (c.nullable || d.nullable)) (Some (f v w)) (λ i. (
  truth v w,
  known_both c.nullable d.nullable (not (is_null v)) (not (is_null w)) (not (is_null (f v w))) h.1 k.1
      (λ p q. known v w (sym (kind_fits c.ty v h.0 p) ∙ truths_kind c.ty (first_true (is_truths c.ty) (is_truths d.ty) i)) (sym (kind_fits d.ty w k.0 q) ∙ truths_kind d.ty (second_true (is_truths c.ty) (is_truths d.ty) i))),
))

pub and_holds : (c : ColTy) (v : Value) (d : ColTy) (w : Value) → Holds c v → Holds d w → Lift Holds (logic_col c d) (Some (and_of v w))
and_holds = logic_holds and_of and_truth and_known

pub or_holds : (c : ColTy) (v : Value) (d : ColTy) (w : Value) → Holds c v → Holds d w → Lift Holds (logic_col c d) (Some (or_of v w))
or_holds = logic_holds or_of or_truth or_known

pub not_holds : (c : ColTy) (v : Value) → Holds c v → Lift Holds (truth_col c) (Some (not_of v))
not_holds c v h = lift_if Holds (is_truths c.ty) c (Some (not_of v)) (λ i. go v h (truths_kind c.ty i))
  where
    go : (v : Value) → Holds c v → kind c.ty ≡ 0 → Holds c (not_of v)
    go Null h k = h
    go (Truth b) h k = (truth_fits c.ty (not b) k, or_true c.nullable)
    go (Num n) h k = absurd (let e : kind c.ty ≡ 1 = kind_fits c.ty (Num n) h.0 refl in cc)
    go (Text bytes) h k = absurd (let e : kind c.ty ≡ 2 = kind_fits c.ty (Text bytes) h.0 refl in cc)

pub null_test_holds : (c : ColTy) (v : Value) → Holds c v → Lift Holds (null_test_col c) (Some (Truth (t.is_null v)))
null_test_holds c v h = (refl, refl)

-- ---- IN

-- an item with the type that it says of itself
abbrev pub HoldsItem : ColTy → (Ty × Value) → Type 0
HoldsItem c item = (c.ty ≡ item.0) × Holds c item.1

in_list_step : (c : ColTy) (v : Value) → Holds c v → (a : ColTy) (u : Value) (d : ColTy) (item : Ty × Value) → Holds a u → HoldsItem d item → Lift Holds (both_of logic_col (Some a) (compare_col c d)) (Some (or_of u (compare_of Eq c.ty item.0 v item.1)))
in_list_step c v h a u d item i j = subst (λ ty. Lift Holds (both_of logic_col (Some a) (compare_col c d)) (Some (or_of u (compare_of Eq c.ty ty v item.1)))) j.0
    (lift_both Holds Holds Holds logic_col (λ x y. Some (or_of x y)) or_holds (Some a) (Some u) (compare_col c d) (Some (compare_of Eq c.ty d.ty v item.1)) i (compare_holds Eq c d v item.1 h j.1))

pub in_list_holds : (os : List (Option ColTy)) (items : List (Option (Ty × Value))) → LiftAll HoldsItem os items → (c : ColTy) (v : Value) → Holds c v → Lift Holds (in_list_col c os) (in_list_of c.ty v items)
in_list_holds [] items l c v h = tt
in_list_holds (o ∷ os) items l c v h = lift_gather Holds HoldsItem (λ (a d : ColTy). both_of logic_col (Some a) (compare_col c d)) (λ a w. Some (or_of a (compare_of Eq c.ty w.0 v w.1))) (in_list_step c v h) (o ∷ os) items l (Some (col Truths false)) (Some (Truth false)) (refl, refl)

-- ---- texts

pub concat_holds : (c d : ColTy) (v w : Value) → Holds c v → Holds d w → Lift Holds (texts_col Texts c d) (concat_of v w)
concat_holds c d v w h k = lift_if Holds (is_texts c.ty && is_texts d.ty) (col Texts (c.nullable || d.nullable)) (concat_of v w) (λ i. go v w h k (texts_kind c.ty (first_true (is_texts c.ty) (is_texts d.ty) i)) (texts_kind d.ty (second_true (is_texts c.ty) (is_texts d.ty) i)))
  where
    go : (v w : Value) → Holds c v → Holds d w → kind c.ty ≡ 2 → kind d.ty ≡ 2 → Lift Holds (Some (col Texts (c.nullable || d.nullable))) (concat_of v w)
    go Null w h k m n = (refl, null_left c.nullable d.nullable h.1)
    go (Text a) Null h k m n = (refl, null_right c.nullable d.nullable k.1)
    go (Text a) (Text b) h k m n = elim (nat_lt longest_field (length a + length b)) as (λ l. Lift Holds (Some (col Texts (c.nullable || d.nullable))) (cond l None (Some (Text (a ++ b))))) [ true ↦ tt | false ↦ (refl, or_true (c.nullable || d.nullable)) ]
    go (Text a) (Truth b) h k m n = absurd (let e : kind d.ty ≡ 0 = kind_fits d.ty (Truth b) k.0 refl in cc)
    go (Text a) (Num b) h k m n = absurd (let e : kind d.ty ≡ 1 = kind_fits d.ty (Num b) k.0 refl in cc)
    go (Truth a) w h k m n = absurd (let e : kind c.ty ≡ 0 = kind_fits c.ty (Truth a) h.0 refl in cc)
    go (Num a) w h k m n = absurd (let e : kind c.ty ≡ 1 = kind_fits c.ty (Num a) h.0 refl in cc)

pub like_holds : (c d : ColTy) (v w : Value) → Holds c v → Holds d w → Lift Holds (texts_col Truths c d) (Some (like_of v w))
like_holds c d v w h k = lift_if Holds (is_texts c.ty && is_texts d.ty) (col Truths (c.nullable || d.nullable)) (Some (like_of v w)) (λ i. go v w h k (texts_kind c.ty (first_true (is_texts c.ty) (is_texts d.ty) i)) (texts_kind d.ty (second_true (is_texts c.ty) (is_texts d.ty) i)))
  where
    go : (v w : Value) → Holds c v → Holds d w → kind c.ty ≡ 2 → kind d.ty ≡ 2 → Holds (col Truths (c.nullable || d.nullable)) (like_of v w)
    go Null w h k m n = (refl, null_left c.nullable d.nullable h.1)
    go (Text a) Null h k m n = (refl, null_right c.nullable d.nullable k.1)
    go (Text a) (Text b) h k m n = (refl, or_true (c.nullable || d.nullable))
    go (Text a) (Truth b) h k m n = absurd (let e : kind d.ty ≡ 0 = kind_fits d.ty (Truth b) k.0 refl in cc)
    go (Text a) (Num b) h k m n = absurd (let e : kind d.ty ≡ 1 = kind_fits d.ty (Num b) k.0 refl in cc)
    go (Truth a) w h k m n = absurd (let e : kind c.ty ≡ 0 = kind_fits c.ty (Truth a) h.0 refl in cc)
    go (Num a) w h k m n = absurd (let e : kind c.ty ≡ 1 = kind_fits c.ty (Num a) h.0 refl in cc)

pub char_length_holds : (c : ColTy) (v : Value) → Holds c v → Lift Holds (char_length_col c) (char_length_of v)
char_length_holds c v h = lift_if Holds (is_texts c.ty) (col Int c.nullable) (char_length_of v) (λ i. go v h (texts_kind c.ty i))
  where
    go : (v : Value) → Holds c v → kind c.ty ≡ 2 → Lift Holds (Some (col Int c.nullable)) (char_length_of v)
    go Null h k = (refl, h.1)
    go (Text bytes) h k = ranged_holds (col Int c.nullable) (pos (length (chars bytes)))
    go (Truth b) h k = absurd (let e : kind c.ty ≡ 0 = kind_fits c.ty (Truth b) h.0 refl in cc)
    go (Num n) h k = absurd (let e : kind c.ty ≡ 1 = kind_fits c.ty (Num n) h.0 refl in cc)

-- ---- CAST

cast_number_holds : (from to : Ty) (nullable : Bool) (n : ℤ) → (is_number to || is_texts to) ≡ true → Lift Holds (Some (col to nullable)) (cast_number from to n)
cast_number_holds from Truths nullable n e = absurd (cc)
cast_number_holds from Int nullable n e = ranged_holds (col Int nullable) (truncated n (scale from))
cast_number_holds from BigInt nullable n e = ranged_holds (col BigInt nullable) (truncated n (scale from))
cast_number_holds from (Decimal p s) nullable n e = go (rescale n (scale from) (scale (Decimal p s)))
  where
    go : (o : Option ℤ) → Lift Holds (Some (col (Decimal p s) nullable)) (option_and_then (ranged (Decimal p s)) o)
    go None = tt
    go (Some m) = ranged_holds (col (Decimal p s) nullable) m
cast_number_holds from Texts nullable n e = (refl, or_true nullable)

cast_truth_holds : (to : Ty) (nullable b : Bool) → (is_truths to || is_texts to) ≡ true → Holds (col to nullable) (cast_truth to b)
cast_truth_holds Truths nullable b e = (refl, or_true nullable)
cast_truth_holds Int nullable b e = absurd (cc)
cast_truth_holds BigInt nullable b e = absurd (cc)
cast_truth_holds (Decimal p s) nullable b e = absurd (cc)
cast_truth_holds Texts nullable b e = (refl, or_true nullable)

cast_text_holds : (to : Ty) (nullable : Bool) (bytes : List ℕ) → is_texts to ≡ true → Holds (col to nullable) (cast_text to bytes)
cast_text_holds Truths nullable bytes e = absurd (cc)
cast_text_holds Int nullable bytes e = absurd (cc)
cast_text_holds BigInt nullable bytes e = absurd (cc)
cast_text_holds (Decimal p s) nullable bytes e = absurd (cc)
cast_text_holds Texts nullable bytes e = (refl, or_true nullable)

-- what a type may be cast to, by its kind
from_number : (from to : Ty) → kind from ≡ 1 → can_cast from to ≡ true → (is_number to || is_texts to) ≡ true
from_number from Truths k e = absurd (go from k e)
  where
    go : (from : Ty) → kind from ≡ 1 → can_cast from Truths ≡ true → ⊥
    go Truths k e = cc
    go Int k e = cc
    go BigInt k e = cc
    go (Decimal p s) k e = cc
    go Texts k e = cc
from_number from Int k e = refl
from_number from BigInt k e = refl
from_number from (Decimal p s) k e = refl
from_number from Texts k e = refl

or_false : (b : Bool) → (b || false) ≡ true → b ≡ true
or_false true e = refl
or_false false e = e

from_truth : (from to : Ty) → kind from ≡ 0 → can_cast from to ≡ true → (is_truths to || is_texts to) ≡ true
from_truth Truths to k e = or_false (is_truths to || is_texts to) e
from_truth Int to k e = absurd (cc)
from_truth BigInt to k e = absurd (cc)
from_truth (Decimal p s) to k e = absurd (cc)
from_truth Texts to k e = absurd (cc)

from_text : (from to : Ty) → kind from ≡ 2 → can_cast from to ≡ true → is_texts to ≡ true
from_text Texts to k e = e
from_text Truths to k e = absurd (cc)
from_text Int to k e = absurd (cc)
from_text BigInt to k e = absurd (cc)
from_text (Decimal p s) to k e = absurd (cc)

pub cast_holds : (to : Ty) (c : ColTy) (v : Value) → Holds c v → Lift Holds (cast_col to c) (cast_of c.ty to v)
cast_holds to c v h = lift_if Holds (is_type to && can_cast c.ty to) (col to c.nullable) (cast_of c.ty to v) (λ i. go v h (second_true (is_type to) (can_cast c.ty to) i))
  where
    go : (v : Value) → Holds c v → can_cast c.ty to ≡ true → Lift Holds (Some (col to c.nullable)) (cast_of c.ty to v)
    go Null h e = (null_fits to, h.1)
    go (Num n) h e = cast_number_holds c.ty to c.nullable n (from_number c.ty to (kind_fits c.ty (Num n) h.0 refl) e)
    go (Truth b) h e = cast_truth_holds to c.nullable b (from_truth c.ty to (kind_fits c.ty (Truth b) h.0 refl) e)
    go (Text bytes) h e = cast_text_holds to c.nullable bytes (from_text c.ty to (kind_fits c.ty (Text bytes) h.0 refl) e)
