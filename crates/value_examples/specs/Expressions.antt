-- Worked examples of fields and of expressions. The values are those of the tables of types, fields and expressions.
use Rattle.std.specs.Prelude.{ℕ, ℤ, pos, negsuc, Bool, true, false, List, [], ◌∷◌, Option, Some, None, codes}
use Rattle.ct_value.specs.declared.ty.Ty.{Ty}
use Rattle.ct_value.specs.declared.ty.Ty.TheVariants.{Bool as Truths, Int, BigInt, Decimal, Text as Texts}
use Rattle.ct_value.specs.declared.value.Value.{Value}
use Rattle.ct_value.specs.declared.value.Value.TheVariants.{Null, Bool as Truth, Num, Text}
use Rattle.ct_value.specs.declared.value.CompareOp.TheVariants.{Eq, Ne, Lt, Le, Gt, Ge}
use Rattle.ct_expr.specs.declared.expr.ArithOp.TheVariants.{Add, Sub, Mul}
use Rattle.ct_expr.specs.Expr.{Expr, Column, Literal, Neg, Arith, Compare, And, Or, Not, IsNull, InList, Case, Coalesce, NullIf, Cast, Concat, CharLength, Like, exprs, whens, no_expr, some_expr}

-- a field of a type, the value that it spells, and the one text in which that is written
pub record Spelling : Type 0 where
  pub ty : Ty
  pub field : List ℕ
  pub value : Value
  pub written : List ℕ

-- a field that spells no value of the type
pub record Misspelling : Type 0 where
  pub ty : Ty
  pub field : List ℕ

-- a number of one scale at another, where it has at most 38 digits there
pub record Rescaled : Type 0 where
  pub num : ℤ
  pub from : ℕ
  pub to : ℕ
  pub there : Option ℤ

-- an expression over no columns, its type, whether NULL may come, and its value, if it is in range
pub record Evaluated : Type 0 where
  pub expr : Expr
  pub ty : Ty
  pub nullable : Bool
  pub value : Option Value

abbrev spelling : Ty → List ℕ → Value → List ℕ → Spelling
spelling ty field value written = record { ty = ty; field = field; value = value; written = written }

abbrev misspelling : Ty → List ℕ → Misspelling
misspelling ty field = record { ty = ty; field = field }

abbrev rescaled : ℤ → ℕ → ℕ → Option ℤ → Rescaled
rescaled num from to there = record { num = num; from = from; to = to; there = there }

abbrev evaluated : Expr → Ty → Bool → Option Value → Evaluated
evaluated expr ty nullable value = record { expr = expr; ty = ty; nullable = nullable; value = value }

abbrev pub spellings : List Spelling
spellings =
    spelling Int (codes "\\N") Null (codes "\\N") ∷ spelling Truths (codes "\\N") Null (codes "\\N") ∷
    spelling Texts (codes "\\N") Null (codes "\\N") ∷ spelling Truths (codes "TRUE") (Truth true) (codes "TRUE") ∷
    spelling Truths (codes "true") (Truth true) (codes "TRUE") ∷ spelling Truths (codes "FALSE") (Truth false) (codes "FALSE") ∷
    spelling Truths (codes "false") (Truth false) (codes "FALSE") ∷ spelling Int (codes "0") (Num (pos 0)) (codes "0") ∷
    spelling Int (codes "-0") (Num (pos 0)) (codes "0") ∷ spelling Int (codes "+7") (Num (pos 7)) (codes "7") ∷
    spelling Int (codes "-007") (Num (negsuc 6)) (codes "-7") ∷
    spelling Int (codes "2147483647") (Num (pos 2147483647)) (codes "2147483647") ∷
    spelling Int (codes "-2147483648") (Num (negsuc 2147483647)) (codes "-2147483648") ∷
    spelling BigInt (codes "9223372036854775807") (Num (pos 9223372036854775807)) (codes "9223372036854775807") ∷
    spelling BigInt (codes "-9223372036854775808") (Num (negsuc 9223372036854775807)) (codes "-9223372036854775808") ∷
    spelling (Decimal 10 2) (codes "12.50") (Num (pos 1250)) (codes "12.50") ∷
    spelling (Decimal 10 2) (codes "12.5") (Num (pos 1250)) (codes "12.50") ∷
    spelling (Decimal 10 2) (codes "12") (Num (pos 1200)) (codes "12.00") ∷
    spelling (Decimal 10 2) (codes "+0.05") (Num (pos 5)) (codes "0.05") ∷
    spelling (Decimal 10 2) (codes "-0.05") (Num (negsuc 4)) (codes "-0.05") ∷
    spelling (Decimal 10 2) (codes "-0.00") (Num (pos 0)) (codes "0.00") ∷
    spelling (Decimal 10 2) (codes "0099999999.99") (Num (pos 9999999999)) (codes "99999999.99") ∷
    spelling (Decimal 38 0) (codes "99999999999999999999999999999999999999") (Num (pos 99999999999999999999999999999999999999)) (codes "99999999999999999999999999999999999999") ∷
    spelling (Decimal 38 0) (codes "-99999999999999999999999999999999999999") (Num (negsuc 99999999999999999999999999999999999998)) (codes "-99999999999999999999999999999999999999") ∷
    spelling (Decimal 38 38) (codes "0.1") (Num (pos 10000000000000000000000000000000000000)) (codes "0.10000000000000000000000000000000000000") ∷
    spelling (Decimal 38 38) (codes "-0.99999999999999999999999999999999999999") (Num (negsuc 99999999999999999999999999999999999998)) (codes "-0.99999999999999999999999999999999999999") ∷
    spelling Texts [] (Text []) [] ∷ spelling Texts (codes " a,b ") (Text (codes " a,b ")) (codes " a,b ") ∷
    spelling Texts (codes "\\\\N") (Text (codes "\\N")) (codes "\\\\N") ∷ spelling Texts (codes "\\\\") (Text (codes "\\")) (codes "\\\\") ∷
    spelling Texts (codes "a\\N") (Text (codes "a\\N")) (codes "a\\N") ∷
    spelling Texts (codes "TRUE") (Text (codes "TRUE")) (codes "TRUE") ∷
    spelling Texts (195 ∷ 169 ∷ []) (Text (195 ∷ 169 ∷ [])) (195 ∷ 169 ∷ []) ∷ []

abbrev pub misspellings : List Misspelling
misspellings =
    misspelling Truths [] ∷ misspelling Truths (codes "True") ∷ misspelling Truths (codes "1") ∷ misspelling Truths (codes " TRUE") ∷
    misspelling Int [] ∷ misspelling Int (codes "-") ∷ misspelling Int (codes "+") ∷ misspelling Int (codes "--1") ∷
    misspelling Int (codes "+-1") ∷ misspelling Int (codes " 1") ∷ misspelling Int (codes "1 ") ∷ misspelling Int (codes "1.0") ∷
    misspelling Int (codes "1e3") ∷ misspelling Int (codes "\\n") ∷ misspelling Int (codes "2147483648") ∷
    misspelling Int (codes "-2147483649") ∷ misspelling BigInt (codes "9223372036854775808") ∷
    misspelling BigInt (codes "-9223372036854775809") ∷ misspelling BigInt (codes "340282366920938463463374607431768211457") ∷
    misspelling (Decimal 10 2) (codes "1.") ∷ misspelling (Decimal 10 2) (codes ".5") ∷ misspelling (Decimal 10 2) (codes "1.234") ∷
    misspelling (Decimal 10 2) (codes "1.2.3") ∷ misspelling (Decimal 10 2) (codes "1.-5") ∷
    misspelling (Decimal 10 2) (codes "100000000.00") ∷ misspelling (Decimal 38 0) (codes "100000000000000000000000000000000000000") ∷
    misspelling (Decimal 38 0) (codes "1.0") ∷ misspelling (Decimal 38 38) (codes "1") ∷ misspelling Texts (codes "\\") ∷
    misspelling Texts (codes "\\x") ∷ misspelling Texts (codes "\\N ") ∷
    misspelling Texts (255 ∷ []) ∷ []

abbrev pub rescalings : List Rescaled
rescalings =
    rescaled (pos 5) 0 0 (Some (pos 5)) ∷ rescaled (negsuc 4) 0 2 (Some (negsuc 499)) ∷
    rescaled (pos 99999999999999999999999999999999999999) 0 0 (Some (pos 99999999999999999999999999999999999999)) ∷
    rescaled (pos 100000000000000000000000000000000000000) 0 0 None ∷ rescaled (pos 99999999999999999999999999999999999999) 0 1 None ∷
    rescaled (negsuc 99999999999999999999999999999999999998) 1 2 None ∷
    rescaled (pos 9) 0 37 (Some (pos 90000000000000000000000000000000000000)) ∷ rescaled (pos 10) 0 37 None ∷
    rescaled (pos 170141183460469231731687303715884105727) 0 38 None ∷ rescaled (pos 0) 0 38 (Some (pos 0)) ∷
    rescaled (pos 25) 1 0 (Some (pos 3)) ∷ rescaled (negsuc 24) 1 0 (Some (negsuc 2)) ∷ rescaled (pos 24) 1 0 (Some (pos 2)) ∷
    rescaled (negsuc 148) 2 0 (Some (negsuc 0)) ∷ rescaled (pos 99999999999999999999999999999999999999) 38 0 (Some (pos 1)) ∷
    rescaled (negsuc 170141183460469231731687303715884105727) 38 0 (Some (negsuc 1)) ∷ []

-- arithmetic, comparison, NULLIF, `||` and LIKE
abbrev pub pairs : List Evaluated
pairs =
    evaluated (Arith Add (Literal (Num (pos 2)) Int) (Literal (Num (pos 3)) Int)) Int false (Some (Num (pos 5))) ∷
    evaluated (Arith Add (Literal (Num (pos 2147483647)) Int) (Literal (Num (pos 1)) Int)) Int false None ∷
    evaluated (Arith Add (Literal (Num (pos 2147483647)) Int) (Literal (Num (pos 1)) BigInt)) BigInt false (Some (Num (pos 2147483648))) ∷
    evaluated (Arith Sub (Literal (Num (negsuc 2147483647)) Int) (Literal (Num (pos 1)) Int)) Int false None ∷
    evaluated (Arith Add (Literal (Num (pos 9223372036854775807)) BigInt) (Literal (Num (pos 1)) Int)) BigInt false None ∷
    evaluated (Arith Sub (Literal (Num (negsuc 9223372036854775806)) BigInt) (Literal (Num (pos 1)) Int)) BigInt false (Some (Num (negsuc 9223372036854775807))) ∷
    evaluated (Arith Mul (Literal (Num (pos 65536)) Int) (Literal (Num (pos 32768)) Int)) Int false None ∷
    evaluated (Arith Mul (Literal (Num (pos 9223372036854775807)) BigInt) (Literal (Num (pos 9223372036854775807)) BigInt)) BigInt false None ∷
    evaluated (Arith Add (Literal Null Int) (Literal (Num (pos 9223372036854775807)) BigInt)) BigInt true (Some Null) ∷
    evaluated (Arith Add (Literal (Num (pos 125)) (Decimal 10 2)) (Literal (Num (pos 5)) (Decimal 10 1))) (Decimal 38 2) false (Some (Num (pos 175))) ∷
    evaluated (Arith Sub (Literal (Num (pos 1)) Int) (Literal (Num (pos 5)) (Decimal 10 1))) (Decimal 38 1) false (Some (Num (pos 5))) ∷
    evaluated (Arith Mul (Literal (Num (pos 125)) (Decimal 10 2)) (Literal (Num (pos 5)) (Decimal 10 1))) (Decimal 38 3) false (Some (Num (pos 625))) ∷
    evaluated (Arith Add (Literal (Num (pos 99999999999999999999999999999999999999)) (Decimal 38 0)) (Literal (Num (pos 1)) Int)) (Decimal 38 0) false None ∷
    evaluated (Arith Sub (Literal (Num (pos 99999999999999999999999999999999999999)) (Decimal 38 0)) (Literal (Num (pos 1)) Int)) (Decimal 38 0) false (Some (Num (pos 99999999999999999999999999999999999998))) ∷
    evaluated (Arith Add (Literal (Num (pos 99999999999999999999999999999999999999)) (Decimal 38 0)) (Literal (Num (pos 99999999999999999999999999999999999999)) (Decimal 38 0))) (Decimal 38 0) false None ∷
    evaluated (Arith Mul (Literal (Num (pos 99999999999999999999999999999999999999)) (Decimal 38 0)) (Literal (Num (pos 99999999999999999999999999999999999999)) (Decimal 38 0))) (Decimal 38 0) false None ∷
    evaluated (Arith Add (Literal (Num (pos 1)) Int) (Literal (Num (pos 0)) (Decimal 38 38))) (Decimal 38 38) false None ∷
    evaluated (Arith Add (Literal (Num (pos 0)) Int) (Literal (Num (pos 99999999999999999999999999999999999999)) (Decimal 38 38))) (Decimal 38 38) false (Some (Num (pos 99999999999999999999999999999999999999))) ∷
    evaluated (Arith Mul (Literal (Num (pos 99999999999999999999999999999999999999)) (Decimal 38 38)) (Literal (Num (negsuc 0)) Int)) (Decimal 38 38) false (Some (Num (negsuc 99999999999999999999999999999999999998))) ∷
    evaluated (Compare Eq (Literal (Num (pos 1)) Int) (Literal (Num (pos 100)) (Decimal 10 2))) Truths false (Some (Truth true)) ∷
    evaluated (Compare Lt (Literal (Num (pos 15)) (Decimal 10 1)) (Literal (Num (pos 151)) (Decimal 10 2))) Truths false (Some (Truth true)) ∷
    evaluated (Compare Gt (Literal (Num (pos 99999999999999999999999999999999999999)) (Decimal 38 0)) (Literal (Num (pos 99999999999999999999999999999999999999)) (Decimal 38 38))) Truths false (Some (Truth true)) ∷
    evaluated (Compare Ge (Literal (Num (negsuc 99999999999999999999999999999999999998)) (Decimal 38 38)) (Literal (Num (negsuc 99999999999999999999999999999999999998)) (Decimal 38 0))) Truths false (Some (Truth true)) ∷
    evaluated (Compare Le (Literal (Num (pos 2)) Int) (Literal (Num (pos 2)) BigInt)) Truths false (Some (Truth true)) ∷
    evaluated (Compare Ne (Literal (Text (codes "a")) Texts) (Literal (Text (codes "a")) Texts)) Truths false (Some (Truth false)) ∷
    evaluated (Compare Lt (Literal (Text (codes "Z")) Texts) (Literal (Text (codes "a")) Texts)) Truths false (Some (Truth true)) ∷
    evaluated (Compare Lt (Literal (Truth false) Truths) (Literal (Truth true) Truths)) Truths false (Some (Truth true)) ∷
    evaluated (Compare Eq (Literal Null Int) (Literal Null Int)) Truths true (Some Null) ∷
    evaluated (NullIf (Literal (Num (pos 1)) Int) (Literal (Num (pos 100)) (Decimal 10 2))) Int true (Some Null) ∷
    evaluated (NullIf (Literal (Num (pos 1)) Int) (Literal Null Int)) Int true (Some (Num (pos 1))) ∷
    evaluated (NullIf (Literal (Text (codes "a")) Texts) (Literal (Text (codes "b")) Texts)) Texts true (Some (Text (codes "a"))) ∷
    evaluated (Concat (Literal (Text (codes "a")) Texts) (Literal (Text (195 ∷ 169 ∷ [])) Texts)) Texts false (Some (Text (97 ∷ 195 ∷ 169 ∷ []))) ∷
    evaluated (Concat (Literal (Text (codes "a")) Texts) (Literal Null Texts)) Texts true (Some Null) ∷
    evaluated (Like (Literal (Text []) Texts) (Literal (Text []) Texts)) Truths false (Some (Truth true)) ∷
    evaluated (Like (Literal (Text []) Texts) (Literal (Text (codes "%")) Texts)) Truths false (Some (Truth true)) ∷
    evaluated (Like (Literal (Text []) Texts) (Literal (Text (codes "_")) Texts)) Truths false (Some (Truth false)) ∷
    evaluated (Like (Literal (Text (codes "abc")) Texts) (Literal (Text (codes "a%_")) Texts)) Truths false (Some (Truth true)) ∷
    evaluated (Like (Literal (Text (codes "a")) Texts) (Literal (Text (codes "a%_")) Texts)) Truths false (Some (Truth false)) ∷
    evaluated (Like (Literal (Text (codes "abab")) Texts) (Literal (Text (codes "%ab")) Texts)) Truths false (Some (Truth true)) ∷
    evaluated (Like (Literal (Text (codes "ab")) Texts) (Literal (Text (codes "_%_%")) Texts)) Truths false (Some (Truth true)) ∷
    evaluated (Like (Literal (Text (195 ∷ 169 ∷ 226 ∷ 130 ∷ 172 ∷ [])) Texts) (Literal (Text (codes "__")) Texts)) Truths false (Some (Truth true)) ∷
    evaluated (Like (Literal (Text (195 ∷ 169 ∷ [])) Texts) (Literal (Text (codes "__")) Texts)) Truths false (Some (Truth false)) ∷
    evaluated (Like (Literal (Text (195 ∷ 169 ∷ 120 ∷ [])) Texts) (Literal (Text (codes "%_x")) Texts)) Truths false (Some (Truth true)) ∷
    evaluated (Like (Literal (Text (codes "A")) Texts) (Literal (Text (codes "a")) Texts)) Truths false (Some (Truth false)) ∷
    evaluated (Like (Literal (Text (codes "\\")) Texts) (Literal (Text (codes "\\%")) Texts)) Truths false (Some (Truth true)) ∷
    evaluated (Like (Literal (Text (codes "a")) Texts) (Literal Null Texts)) Truths true (Some Null) ∷ []

abbrev pub casts : List Evaluated
casts =
    evaluated (Cast (Literal (Num (pos 25)) (Decimal 10 1)) (Decimal 3 0)) (Decimal 3 0) false (Some (Num (pos 3))) ∷
    evaluated (Cast (Literal (Num (negsuc 24)) (Decimal 10 1)) (Decimal 3 0)) (Decimal 3 0) false (Some (Num (negsuc 2))) ∷
    evaluated (Cast (Literal (Num (negsuc 24)) (Decimal 10 1)) Int) Int false (Some (Num (negsuc 1))) ∷
    evaluated (Cast (Literal (Num (pos 29)) (Decimal 10 1)) BigInt) BigInt false (Some (Num (pos 2))) ∷
    evaluated (Cast (Literal (Num (pos 9995)) (Decimal 10 1)) (Decimal 3 0)) (Decimal 3 0) false None ∷
    evaluated (Cast (Literal (Num (pos 99999999999999999999999999999999999999)) (Decimal 38 0)) BigInt) BigInt false None ∷
    evaluated (Cast (Literal (Num (pos 2147483648)) BigInt) Int) Int false None ∷
    evaluated (Cast (Literal (Num (pos 7)) Int) (Decimal 10 2)) (Decimal 10 2) false (Some (Num (pos 700))) ∷
    evaluated (Cast (Literal (Num (pos 1)) Int) (Decimal 38 38)) (Decimal 38 38) false None ∷
    evaluated (Cast (Literal (Num (pos 7)) Int) Int) Int false (Some (Num (pos 7))) ∷
    evaluated (Cast (Literal (Num (negsuc 4)) (Decimal 10 2)) Texts) Texts false (Some (Text (codes "-0.05"))) ∷
    evaluated (Cast (Literal (Num (pos 0)) Int) Texts) Texts false (Some (Text (codes "0"))) ∷
    evaluated (Cast (Literal (Num (negsuc 99999999999999999999999999999999999998)) (Decimal 38 38)) Texts) Texts false (Some (Text (codes "-0.99999999999999999999999999999999999999"))) ∷
    evaluated (Cast (Literal (Truth true) Truths) Texts) Texts false (Some (Text (codes "TRUE"))) ∷
    evaluated (Cast (Literal (Truth false) Truths) Truths) Truths false (Some (Truth false)) ∷
    evaluated (Cast (Literal (Text (codes "\\N")) Texts) Texts) Texts false (Some (Text (codes "\\N"))) ∷
    evaluated (Cast (Literal Null Texts) Texts) Texts true (Some Null) ∷
    evaluated (Cast (Literal Null Int) (Decimal 38 38)) (Decimal 38 38) true (Some Null) ∷ []

-- an INT that is out of range
abbrev beyond : Expr
beyond = Arith Add (Literal (Num (pos 2147483647)) Int) (Literal (Num (pos 1)) Int)

-- AND, OR and NOT in three values; all operands are evaluated
abbrev pub logic : List Evaluated
logic =
    evaluated (And (exprs (Literal (Truth true) Truths ∷ Literal (Truth true) Truths ∷ []))) Truths false (Some (Truth true)) ∷
    evaluated (Or (exprs (Literal (Truth true) Truths ∷ Literal (Truth true) Truths ∷ []))) Truths false (Some (Truth true)) ∷
    evaluated (And (exprs (Literal (Truth true) Truths ∷ Literal (Truth false) Truths ∷ []))) Truths false (Some (Truth false)) ∷
    evaluated (Or (exprs (Literal (Truth true) Truths ∷ Literal (Truth false) Truths ∷ []))) Truths false (Some (Truth true)) ∷
    evaluated (And (exprs (Literal (Truth true) Truths ∷ Literal Null Truths ∷ []))) Truths true (Some Null) ∷
    evaluated (Or (exprs (Literal (Truth true) Truths ∷ Literal Null Truths ∷ []))) Truths true (Some (Truth true)) ∷
    evaluated (And (exprs (Literal (Truth false) Truths ∷ Literal (Truth true) Truths ∷ []))) Truths false (Some (Truth false)) ∷
    evaluated (Or (exprs (Literal (Truth false) Truths ∷ Literal (Truth true) Truths ∷ []))) Truths false (Some (Truth true)) ∷
    evaluated (And (exprs (Literal (Truth false) Truths ∷ Literal (Truth false) Truths ∷ []))) Truths false (Some (Truth false)) ∷
    evaluated (Or (exprs (Literal (Truth false) Truths ∷ Literal (Truth false) Truths ∷ []))) Truths false (Some (Truth false)) ∷
    evaluated (And (exprs (Literal (Truth false) Truths ∷ Literal Null Truths ∷ []))) Truths true (Some (Truth false)) ∷
    evaluated (Or (exprs (Literal (Truth false) Truths ∷ Literal Null Truths ∷ []))) Truths true (Some Null) ∷
    evaluated (And (exprs (Literal Null Truths ∷ Literal (Truth true) Truths ∷ []))) Truths true (Some Null) ∷
    evaluated (Or (exprs (Literal Null Truths ∷ Literal (Truth true) Truths ∷ []))) Truths true (Some (Truth true)) ∷
    evaluated (And (exprs (Literal Null Truths ∷ Literal (Truth false) Truths ∷ []))) Truths true (Some (Truth false)) ∷
    evaluated (Or (exprs (Literal Null Truths ∷ Literal (Truth false) Truths ∷ []))) Truths true (Some Null) ∷
    evaluated (And (exprs (Literal Null Truths ∷ Literal Null Truths ∷ []))) Truths true (Some Null) ∷
    evaluated (Or (exprs (Literal Null Truths ∷ Literal Null Truths ∷ []))) Truths true (Some Null) ∷
    evaluated (Not (Literal (Truth true) Truths)) Truths false (Some (Truth false)) ∷
    evaluated (Not (Literal (Truth false) Truths)) Truths false (Some (Truth true)) ∷
    evaluated (Not (Literal Null Truths)) Truths true (Some Null) ∷
    evaluated (IsNull (Literal Null Truths)) Truths false (Some (Truth true)) ∷
    evaluated (IsNull (Literal (Num (pos 0)) Int)) Truths false (Some (Truth false)) ∷
    evaluated (And (exprs (Literal (Truth false) Truths ∷ IsNull beyond ∷ []))) Truths false None ∷
    evaluated (Or (exprs (Literal (Truth true) Truths ∷ IsNull beyond ∷ []))) Truths false None ∷ []

-- CASE and COALESCE look no further
abbrev pub lazy : List Evaluated
lazy =
    evaluated (Case (whens ((Literal (Truth true) Truths, (Literal (Num (pos 1)) Int)) ∷ (Literal (Truth true) Truths, beyond) ∷ [])) no_expr) Int true (Some (Num (pos 1))) ∷
    evaluated (Case (whens ((Literal Null Truths, (Literal (Num (pos 1)) Int)) ∷ (Literal (Truth true) Truths, beyond) ∷ [])) no_expr) Int true None ∷
    evaluated (Case (whens ((Literal Null Truths, beyond) ∷ [])) (some_expr (Literal (Num (pos 2)) BigInt))) BigInt false (Some (Num (pos 2))) ∷
    evaluated (Case (whens ((Literal (Truth false) Truths, beyond) ∷ [])) no_expr) Int true (Some Null) ∷
    evaluated (Case (whens ((IsNull beyond, (Literal (Num (pos 1)) Int)) ∷ [])) no_expr) Int true None ∷
    evaluated (Coalesce (exprs (Literal Null Int ∷ (Literal (Num (pos 5)) Int) ∷ beyond ∷ []))) Int false (Some (Num (pos 5))) ∷
    evaluated (Coalesce (exprs (Literal Null Int ∷ beyond ∷ []))) Int false None ∷
    evaluated (Coalesce (exprs (Literal Null Int ∷ Literal Null BigInt ∷ []))) BigInt true (Some Null) ∷ []

-- IN, unary minus and CHAR_LENGTH
abbrev pub others : List Evaluated
others =
    evaluated (InList (Literal (Num (pos 2)) Int) (exprs (Literal Null (Decimal 10 2) ∷ Literal (Num (pos 200)) (Decimal 10 2) ∷ []))) Truths true (Some (Truth true)) ∷
    evaluated (InList (Literal (Num (pos 3)) Int) (exprs (Literal Null (Decimal 10 2) ∷ Literal (Num (pos 200)) (Decimal 10 2) ∷ []))) Truths true (Some Null) ∷
    evaluated (InList (Literal (Num (pos 3)) Int) (exprs (Literal (Num (pos 200)) (Decimal 10 2) ∷ []))) Truths false (Some (Truth false)) ∷
    evaluated (InList (Literal Null Int) (exprs (Literal (Num (pos 200)) (Decimal 10 2) ∷ []))) Truths true (Some Null) ∷
    evaluated (InList beyond (exprs (Literal (Num (pos 1)) Int ∷ []))) Truths false None ∷
    evaluated (Neg (Literal (Num (negsuc 6)) Int)) Int false (Some (Num (pos 7))) ∷
    evaluated (Neg (Literal (Num (negsuc 2147483647)) Int)) Int false None ∷
    evaluated (CharLength (Literal (Text (195 ∷ 169 ∷ 226 ∷ 130 ∷ 172 ∷ [])) Texts)) Int false (Some (Num (pos 2))) ∷
    evaluated (CharLength (Literal Null Texts)) Int true (Some Null) ∷ []

-- expressions without a type
abbrev pub untyped : List Expr
untyped =
    And (exprs []) ∷ Coalesce (exprs []) ∷ Case (whens []) no_expr ∷ InList (Literal Null Int) (exprs []) ∷ Column 0 Int ∷
    Literal (Truth true) Int ∷ Literal (Num (pos 2147483648)) Int ∷ Literal Null (Decimal 39 0) ∷ Literal Null (Decimal 0 0) ∷
    Literal Null (Decimal 5 6) ∷ Neg (Literal (Truth true) Truths) ∷
    Arith Mul (Literal Null (Decimal 38 20)) (Literal Null (Decimal 38 19)) ∷ Arith Add (Literal Null Texts) (Literal Null Int) ∷
    Compare Eq (Literal Null Texts) (Literal Null Int) ∷ Not (Literal (Num (pos 1)) Int) ∷
    Coalesce (exprs (Literal Null (Decimal 9 2) ∷ Literal Null (Decimal 9 3) ∷ [])) ∷ Cast (Literal (Truth true) Truths) Int ∷
    Cast (Literal Null Texts) Int ∷ Concat (Literal Null Texts) (Literal Null Int) ∷ Like (Literal Null Int) (Literal Null Texts) ∷
    CharLength (Literal Null Int) ∷
    NullIf (Literal Null Int) (Literal Null Truths) ∷ []
