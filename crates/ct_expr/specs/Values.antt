-- The values of expressions, line by line of the table of expressions: functions on the meanings of operands. A meaning
-- is a value, or None where it is out of range. A form that is lazy looks only at the operands that are evaluated.
use Rattle.std.specs.Prelude.{ℕ, ◌+◌, ◌-◌, ◌/◌, ◌^◌, ◌==◌, max, nat_lt, ℤ, pos, neg_ℤ, ◌+ℤ◌, ◌-ℤ◌, ◌*ℤ◌, unsigned_abs, Bool, true, false, ◌&&◌, ◌||◌, not, cond, List, [], ◌∷◌, ◌++◌, length, codes, Option, Some, None, option_map, option_and_then}
use Rattle.std.specs.List.{list_any}
use Rattle.std.specs.Int.{is_negative}
use Rattle.std.specs.Str.{chars}
use Rattle.std.specs.Ordering.{int_cmp}
use Rattle.std.specs.declared.cmp.Ordering.{Ordering}
use Rattle.std.specs.declared.cmp.Ordering.TheVariants.{Less, Equal, Greater}
use Rattle.ct_value.specs.declared.value.CompareOp.{CompareOp}
use Rattle.ct_value.specs.declared.value.CompareOp.TheVariants.{Eq, Ne, Lt, Le, Gt, Ge}
use Rattle.ct_value.specs.declared.value.Value.{Value}
use Rattle.ct_value.specs.declared.value.Value.TheVariants.{Null, Bool as Truth, Num, Text}
use Rattle.ct_value.specs.declared.ty.Ty.{Ty}
use Rattle.ct_value.specs.declared.ty.Ty.TheVariants.{Bool as Truths, Int, BigInt, Decimal, Text as Texts}
use Rattle.ct_value.specs.Order.{value_cmp}
use Rattle.ct_field.specs.Numbers.{in_range, has_38_digits, rescale, signed}
use Rattle.ct_field.specs.Fields.{number_text, longest_field}
use Rattle.ct_expr.specs.declared.expr.ArithOp.{ArithOp}
use Rattle.ct_expr.specs.declared.expr.ArithOp.TheVariants.{Add, Sub, Mul}
use Rattle.ct_expr.specs.Types.{scale, arith_ty, both_of, gather, is_null}

-- ---- truth values

-- FALSE where one is FALSE, TRUE where both are TRUE, else NULL
abbrev pub and_of : Value → Value → Value
and_of (Truth false) w = Truth false
and_of v (Truth false) = Truth false
and_of (Truth true) (Truth true) = Truth true
and_of v w = Null

-- TRUE where one is TRUE, FALSE where both are FALSE, else NULL
abbrev pub or_of : Value → Value → Value
or_of (Truth true) w = Truth true
or_of v (Truth true) = Truth true
or_of (Truth false) (Truth false) = Truth false
or_of v w = Null

abbrev pub not_of : Value → Value
not_of (Truth b) = Truth (not b)
not_of v = Null

abbrev pub is_true : Value → Bool
is_true (Truth true) = true
is_true v = false

-- AND of all of them, every one evaluated
abbrev pub conjunction : List (Option Value) → Option Value
conjunction vs = gather (λ v w. Some (and_of v w)) (Some (Truth true)) vs

-- OR of all of them, every one evaluated
abbrev pub disjunction : List (Option Value) → Option Value
disjunction vs = gather (λ v w. Some (or_of v w)) (Some (Truth false)) vs

abbrev pub negation : Option Value → Option Value
negation v = option_map not_of v

abbrev pub null_test : Option Value → Option Value
null_test v = option_map (λ w. Truth (is_null w)) v

-- ---- numbers

-- a number of at most 38 digits that is one of the type
abbrev pub ranged : Ty → ℤ → Option Value
ranged ty n = cond (has_38_digits n && in_range ty n) (Some (Num n)) None

abbrev pub minus_of : Ty → Value → Option Value
minus_of ty (Num n) = ranged ty (neg_ℤ n)
minus_of ty v = Some Null

abbrev pub minus : Ty → Option Value → Option Value
minus ty v = option_and_then (minus_of ty) v

-- both at the larger scale, where they have at most 38 digits there
abbrev pub at_larger_scale : (ℤ → ℤ → ℤ) → ArithOp → Ty → Ty → ℤ → ℤ → Option Value
at_larger_scale f op s t a b = both_of (λ m n. ranged (arith_ty op s t) (f m n))
    (rescale a (scale s) (max (scale s) (scale t))) (rescale b (scale t) (max (scale s) (scale t)))

abbrev pub numbers_arith : ArithOp → Ty → Ty → ℤ → ℤ → Option Value
numbers_arith Add s t a b = at_larger_scale ◌+ℤ◌ Add s t a b
numbers_arith Sub s t a b = at_larger_scale ◌-ℤ◌ Sub s t a b
numbers_arith Mul s t a b = ranged (arith_ty Mul s t) (a *ℤ b)

-- NULL beside NULL, and nothing is rescaled beside it
abbrev pub arith_of : ArithOp → Ty → Ty → Value → Value → Option Value
arith_of op s t (Num a) (Num b) = numbers_arith op s t a b
arith_of op s t v w = Some Null

abbrev pub arithmetic : ArithOp → Ty → Ty → Option Value → Option Value → Option Value
arithmetic op s t v w = both_of (arith_of op s t) v w

-- ---- comparison

abbrev pub holds : CompareOp → Ordering → Bool
holds Eq Equal = true
holds Ne Less = true
holds Ne Greater = true
holds Lt Less = true
holds Le Less = true
holds Le Equal = true
holds Gt Greater = true
holds Ge Greater = true
holds Ge Equal = true
holds _ _ = false

-- by value, whatever their scales
abbrev pub number_cmp : ℕ → ℕ → ℤ → ℤ → Ordering
number_cmp s t a b = int_cmp (a *ℤ pos (10 ^ (t - s))) (b *ℤ pos (10 ^ (s - t)))

-- two numbers by value, two texts by bytes, two truth values; NULL beside NULL
abbrev pub compare_of : CompareOp → Ty → Ty → Value → Value → Value
compare_of op s t (Num a) (Num b) = Truth (holds op (number_cmp (scale s) (scale t) a b))
compare_of op s t (Text a) (Text b) = Truth (holds op (value_cmp (Text a) (Text b)))
compare_of op s t (Truth a) (Truth b) = Truth (holds op (value_cmp (Truth a) (Truth b)))
compare_of op s t v w = Null

abbrev pub comparison : CompareOp → Ty → Ty → Option Value → Option Value → Option Value
comparison op s t v w = both_of (λ a b. Some (compare_of op s t a b)) v w

-- OR of the equalities of a value with the items, each with its type
abbrev pub in_list_of : Ty → Value → List (Option (Ty × Value)) → Option Value
in_list_of s v ws = gather (λ a w. Some (or_of a (compare_of Eq s w.0 v w.1))) (Some (Truth false)) ws

abbrev pub in_list : Ty → Option Value → List (Option (Ty × Value)) → Option Value
in_list s v ws = option_and_then (λ a. in_list_of s a ws) v

-- NULL where they are equal, else the first
abbrev pub null_if_of : Ty → Ty → Value → Value → Value
null_if_of s t v w = cond (is_true (compare_of Eq s t v w)) Null v

abbrev pub null_if : Ty → Ty → Option Value → Option Value → Option Value
null_if s t v w = both_of (λ a b. Some (null_if_of s t a b)) v w

-- ---- lazy forms

-- the first that isn't NULL; those behind it aren't looked at
abbrev pub first_known : List (Option Value) → Option Value
first_known [] = Some Null
first_known (None ∷ vs) = None
first_known (Some v ∷ vs) = cond (is_null v) (first_known vs) (Some v)

-- the result of the first condition that is TRUE; nothing behind that condition, and no other result, is looked at
abbrev pub first_chosen : List (Option Value × Option Value) → Option Value → Option Value
first_chosen [] otherwise = otherwise
first_chosen (w ∷ ws) otherwise = option_and_then (λ c. cond (is_true c) w.1 (first_chosen ws otherwise)) w.0

-- ---- texts

-- one text behind the other, up to 65,536 bytes
abbrev pub concat_of : Value → Value → Option Value
concat_of (Text a) (Text b) = cond (nat_lt longest_field (length a + length b)) None (Some (Text (a ++ b)))
concat_of v w = Some Null

abbrev pub concatenation : Option Value → Option Value → Option Value
concatenation v w = both_of concat_of v w

-- the number of characters, which is an INT
abbrev pub char_length_of : Value → Option Value
char_length_of (Text t) = ranged Int (pos (length (chars t)))
char_length_of v = Some Null

abbrev pub char_length : Option Value → Option Value
char_length v = option_and_then char_length_of v

-- what is left of a list behind each of its fronts
abbrev pub rests : {A : Type 0} → List A → List (List A)
rests [] = [] ∷ []
rests (x ∷ xs) = (x ∷ xs) ∷ rests xs

-- an underscore or the character itself, and then the rest
abbrev pub one_like : ℕ → (List ℕ → Bool) → List ℕ → Bool
one_like p rest [] = false
one_like p rest (c ∷ cs) = ((p == 95) || (p == c)) && rest cs

-- whether characters can be cut in pieces that match the pattern's: a percent sign matches any characters, so that some
-- rest behind it matches the rest of the pattern, an underscore matches one character, and any other character itself
abbrev pub is_like : List ℕ → List ℕ → Bool
is_like [] [] = true
is_like [] (c ∷ cs) = false
is_like (p ∷ ps) cs = cond (p == 37) (list_any (is_like ps) (rests cs)) (one_like p (is_like ps) cs)

abbrev pub like_of : Value → Value → Value
like_of (Text t) (Text p) = Truth (is_like (chars p) (chars t))
like_of v w = Null

abbrev pub likeness : Option Value → Option Value → Option Value
likeness v w = both_of (λ a b. Some (like_of a b)) v w

-- ---- CAST

-- toward zero
abbrev pub truncated : ℤ → ℕ → ℤ
truncated n k = signed (is_negative n) (unsigned_abs n / 10 ^ k)

abbrev pub cast_number : Ty → Ty → ℤ → Option Value
cast_number from Truths n = Some Null
cast_number from Int n = ranged Int (truncated n (scale from))
cast_number from BigInt n = ranged BigInt (truncated n (scale from))
cast_number from (Decimal p s) n = option_and_then (ranged (Decimal p s)) (rescale n (scale from) (scale (Decimal p s)))
cast_number from Texts n = Some (Text (number_text (scale from) n))

abbrev pub truth_text : Bool → List ℕ
truth_text true = codes "TRUE"
truth_text false = codes "FALSE"

abbrev pub cast_truth : Ty → Bool → Value
cast_truth Truths b = Truth b
cast_truth Texts b = Text (truth_text b)
cast_truth ty b = Null

abbrev pub cast_text : Ty → List ℕ → Value
cast_text Texts t = Text t
cast_text ty t = Null

-- a number to a decimal rounded half away from zero, to a whole number truncated, a number or a truth value to its field text
abbrev pub cast_of : Ty → Ty → Value → Option Value
cast_of from to Null = Some Null
cast_of from to (Num n) = cast_number from to n
cast_of from to (Truth b) = Some (cast_truth to b)
cast_of from to (Text t) = Some (cast_text to t)

abbrev pub conversion : Ty → Ty → Option Value → Option Value
conversion from to v = option_and_then (cast_of from to) v
