-- Kinds of types and of values: truth values, numbers, texts. A value that isn't NULL is of its type's kind.
use Rattle.std.proofs.Common.{◌≡◌, ℕ, ℤ, Bool, true, false, not, ◌&&◌, ◌||◌, refl}
use Rattle.ct_value.specs.declared.ty.Ty.{Ty}
use Rattle.ct_value.specs.declared.ty.Ty.TheVariants.{Bool as Truths, Int, BigInt, Decimal, Text as Texts}
use Rattle.ct_value.specs.declared.ty.ColTy.{ColTy}
use Rattle.ct_value.specs.declared.value.Value.{Value}
use Rattle.ct_value.specs.declared.value.Value.TheVariants.{Null, Bool as Truth, Num, Text}
use Rattle.ct_field.specs.Numbers.{in_range}
use Rattle.ct_field.specs.Typed.{value_fits, is_null, col_fits}
use Rattle.ct_expr.specs.Types as t
use Rattle.ct_expr.specs.Types.{is_number, is_truths, is_texts, comparable}

pub both_true : (a b : Bool) → a ≡ true → b ≡ true → (a && b) ≡ true
both_true true b p q = q
both_true false b p q = p

pub first_true : (a b : Bool) → (a && b) ≡ true → a ≡ true
first_true true b e = refl
first_true false b e = e

pub second_true : (a b : Bool) → (a && b) ≡ true → b ≡ true
second_true true b e = e
second_true false b e = absurd (cc)

-- ---- kinds

abbrev pub kind : Ty → ℕ
kind Truths = 0
kind Int = 1
kind BigInt = 1
kind (Decimal p s) = 1
kind Texts = 2

abbrev pub kind_of : Value → ℕ
kind_of Null = 3
kind_of (Truth b) = 0
kind_of (Num n) = 1
kind_of (Text bytes) = 2

pub number_kind : (ty : Ty) → is_number ty ≡ true → kind ty ≡ 1
number_kind Truths e = absurd (cc)
number_kind Int e = refl
number_kind BigInt e = refl
number_kind (Decimal p s) e = refl
number_kind Texts e = absurd (cc)

pub truths_kind : (ty : Ty) → is_truths ty ≡ true → kind ty ≡ 0
truths_kind Truths e = refl
truths_kind Int e = absurd (cc)
truths_kind BigInt e = absurd (cc)
truths_kind (Decimal p s) e = absurd (cc)
truths_kind Texts e = absurd (cc)

pub texts_kind : (ty : Ty) → is_texts ty ≡ true → kind ty ≡ 2
texts_kind Truths e = absurd (cc)
texts_kind Int e = absurd (cc)
texts_kind BigInt e = absurd (cc)
texts_kind (Decimal p s) e = absurd (cc)
texts_kind Texts e = refl

pub comparable_kinds : (s u : Ty) → comparable s u ≡ true → kind s ≡ kind u
comparable_kinds Truths Truths e = refl
comparable_kinds Texts Texts e = refl
comparable_kinds Truths Texts e = absurd (cc)
comparable_kinds Texts Truths e = absurd (cc)
comparable_kinds Truths Int e = absurd (cc)
comparable_kinds Truths BigInt e = absurd (cc)
comparable_kinds Truths (Decimal q r) e = absurd (cc)
comparable_kinds Texts Int e = absurd (cc)
comparable_kinds Texts BigInt e = absurd (cc)
comparable_kinds Texts (Decimal q r) e = absurd (cc)
comparable_kinds Int Truths e = absurd (cc)
comparable_kinds Int Texts e = absurd (cc)
comparable_kinds Int Int e = refl
comparable_kinds Int BigInt e = refl
comparable_kinds Int (Decimal q r) e = refl
comparable_kinds BigInt Truths e = absurd (cc)
comparable_kinds BigInt Texts e = absurd (cc)
comparable_kinds BigInt Int e = refl
comparable_kinds BigInt BigInt e = refl
comparable_kinds BigInt (Decimal q r) e = refl
comparable_kinds (Decimal p s) Truths e = absurd (cc)
comparable_kinds (Decimal p s) Texts e = absurd (cc)
comparable_kinds (Decimal p s) Int e = refl
comparable_kinds (Decimal p s) BigInt e = refl
comparable_kinds (Decimal p s) (Decimal q r) e = refl

-- ---- values of types

pub null_fits : (ty : Ty) → value_fits ty Null ≡ true
null_fits Truths = refl
null_fits Int = refl
null_fits BigInt = refl
null_fits (Decimal p s) = refl
null_fits Texts = refl

pub number_fits : (ty : Ty) (n : ℤ) → in_range ty n ≡ true → value_fits ty (Num n) ≡ true
number_fits Truths n e = e
number_fits Int n e = e
number_fits BigInt n e = e
number_fits (Decimal p s) n e = e
number_fits Texts n e = e

pub truth_fits : (ty : Ty) (b : Bool) → kind ty ≡ 0 → value_fits ty (Truth b) ≡ true
truth_fits Truths b e = refl
truth_fits Int b e = absurd (cc)
truth_fits BigInt b e = absurd (cc)
truth_fits (Decimal p s) b e = absurd (cc)
truth_fits Texts b e = absurd (cc)

pub kind_fits : (ty : Ty) (v : Value) → value_fits ty v ≡ true → not (is_null v) ≡ true → kind ty ≡ kind_of v
kind_fits ty Null h k = absurd (cc)
kind_fits Truths (Truth b) h k = refl
kind_fits Int (Truth b) h k = absurd (cc)
kind_fits BigInt (Truth b) h k = absurd (cc)
kind_fits (Decimal p s) (Truth b) h k = absurd (cc)
kind_fits Texts (Truth b) h k = absurd (cc)
kind_fits Truths (Num n) h k = absurd (cc)
kind_fits Int (Num n) h k = refl
kind_fits BigInt (Num n) h k = refl
kind_fits (Decimal p s) (Num n) h k = refl
kind_fits Texts (Num n) h k = absurd (cc)
kind_fits Truths (Text bytes) h k = absurd (cc)
kind_fits Int (Text bytes) h k = absurd (cc)
kind_fits BigInt (Text bytes) h k = absurd (cc)
kind_fits (Decimal p s) (Text bytes) h k = absurd (cc)
kind_fits Texts (Text bytes) h k = refl

-- ---- values of columns

-- the value is of the column's type, and NULL only where it may stand
abbrev pub Holds : ColTy → Value → Type 0
Holds c v = (value_fits c.ty v ≡ true) × ((c.nullable || not (is_null v)) ≡ true)

pub holds_fits : (c : ColTy) (v : Value) → Holds c v → col_fits c v ≡ true
holds_fits c v h = both_true (value_fits c.ty v) (c.nullable || not (is_null v)) h.0 h.1

pub fits_holds : (c : ColTy) (v : Value) → col_fits c v ≡ true → Holds c v
fits_holds c v h = (first_true (value_fits c.ty v) (c.nullable || not (is_null v)) h, second_true (value_fits c.ty v) (c.nullable || not (is_null v)) h)

pub or_true : (a : Bool) → (a || true) ≡ true
or_true true = refl
or_true false = refl

-- NULL of one of two operands
pub null_left : (a b : Bool) → (a || false) ≡ true → ((a || b) || false) ≡ true
null_left true b e = refl
null_left false b e = absurd (cc)

pub null_right : (a b : Bool) → (b || false) ≡ true → ((a || b) || false) ≡ true
null_right true b e = refl
null_right false b e = e

-- what is known of both operands is known of the result
pub known_both : (a b n m r : Bool) → (a || n) ≡ true → (b || m) ≡ true → (n ≡ true → m ≡ true → r ≡ true) → ((a || b) || r) ≡ true
known_both true b n m r p q f = refl
known_both false true n m r p q f = refl
known_both false false n m r p q f = f p q

pub known_one : (a n r : Bool) → (a || n) ≡ true → (n ≡ true → r ≡ true) → (a || r) ≡ true
known_one true n r p f = refl
known_one false n r p f = f p

-- ---- the same words of the table of expressions

pub same_null : (v : Value) → t.is_null v ≡ is_null v
same_null Null = refl
same_null (Truth b) = refl
same_null (Num n) = refl
same_null (Text bytes) = refl

pub same_fits : (ty : Ty) (v : Value) → t.value_fits ty v ≡ value_fits ty v
same_fits Truths Null = refl
same_fits Truths (Truth b) = refl
same_fits Truths (Num n) = refl
same_fits Truths (Text bytes) = refl
same_fits Int Null = refl
same_fits Int (Truth b) = refl
same_fits Int (Num n) = refl
same_fits Int (Text bytes) = refl
same_fits BigInt Null = refl
same_fits BigInt (Truth b) = refl
same_fits BigInt (Num n) = refl
same_fits BigInt (Text bytes) = refl
same_fits (Decimal p s) Null = refl
same_fits (Decimal p s) (Truth b) = refl
same_fits (Decimal p s) (Num n) = refl
same_fits (Decimal p s) (Text bytes) = refl
same_fits Texts Null = refl
same_fits Texts (Truth b) = refl
same_fits Texts (Num n) = refl
same_fits Texts (Text bytes) = refl
