-- Expressions as they are written, over the columns of t, with their types and their values at two rows.
use Rattle.std.specs.Prelude.{pos, negsuc, true, false, List, [], ◌∷◌, Option, Some, None, codes}
use Rattle.ct_value.specs.declared.row.Row.{Row}
use Rattle.ct_value.specs.declared.ty.Ty.{Ty}
use Rattle.ct_value.specs.declared.ty.Ty.TheVariants.{Bool as Truths, Int, BigInt, Decimal, Text as Texts}
use Rattle.ct_value.specs.declared.value.Value.{Value}
use Rattle.ct_value.specs.declared.value.Value.TheVariants.{Null, Bool as Truth, Num, Text as Words}
use Rattle.sql_syntax.specs.Tree.{Text}
use Rattle.query_examples.specs.Checks.{Valued}

abbrev must : Text → Ty → Option Value → Valued
must text ty value = record { text = text; ty = ty; nullable = false; value = value }

abbrev may : Text → Ty → Option Value → Valued
may text ty value = record { text = text; ty = ty; nullable = true; value = value }

abbrev yes : Option Value
yes = Some (Truth true)

abbrev no : Option Value
no = Some (Truth false)

-- 7, 3, 'ab', 1.25, TRUE, the largest BIGINT
abbrev pub row : Row
row = Num (pos 7) ∷ Num (pos 3) ∷ Words (codes "ab") ∷ Num (pos 125) ∷ Truth true ∷ Num (pos 9223372036854775807) ∷ []

abbrev pub values : List Valued
values =
    -- literals
    must (codes "2147483647") Int (Some (Num (pos 2147483647))) ∷ must (codes "2147483648") BigInt (Some (Num (pos 2147483648))) ∷
    must (codes "9223372036854775808") (Decimal 19 0) (Some (Num (pos 9223372036854775808))) ∷
    must (codes "-9223372036854775808") (Decimal 19 0) (Some (Num (negsuc 9223372036854775807))) ∷
    must (codes "0001") Int (Some (Num (pos 1))) ∷ must (codes "1.50") (Decimal 3 2) (Some (Num (pos 150))) ∷
    must (codes "0.05") (Decimal 2 2) (Some (Num (pos 5))) ∷ must (codes "00.0") (Decimal 1 1) (Some (Num (pos 0))) ∷
    must (codes "'it''s'") Texts (Some (Words (codes "it's"))) ∷ must (codes "tRuE") Truths yes ∷
    -- names
    may (codes "a") Int (Some (Num (pos 7))) ∷ must (codes "(t.b)") Int (Some (Num (pos 3))) ∷
    -- sums and products
    may (codes "a + b - 2") Int (Some (Num (pos 8))) ∷ may (codes "b - a - 2") Int (Some (Num (negsuc 5))) ∷
    may (codes "-a") Int (Some (Num (negsuc 6))) ∷ may (codes "+d") (Decimal 5 2) (Some (Num (pos 125))) ∷
    must (codes "g + 1") BigInt None ∷ must (codes "b + 2147483647") Int None ∷
    must (codes "b + 2147483648") BigInt (Some (Num (pos 2147483651))) ∷ may (codes "d * 0.5") (Decimal 38 3) (Some (Num (pos 625))) ∷
    may (codes "a * b * d") (Decimal 38 2) (Some (Num (pos 2625))) ∷ may (codes "d + 1") (Decimal 38 2) (Some (Num (pos 225))) ∷
    may (codes "s || 'c' || s") Texts (Some (Words (codes "abcab"))) ∷
    -- tests
    may (codes "a > d") Truths yes ∷ may (codes "1.250 = d") Truths yes ∷ may (codes "a != 7 OR s < 'b'") Truths yes ∷
    may (codes "a = 7 AND NOT f") Truths no ∷ may (codes "a BETWEEN b AND 7") Truths yes ∷ may (codes "a NOT BETWEEN b AND 6") Truths yes ∷
    may (codes "a IN (1, 7.0, g)") Truths yes ∷ may (codes "a NOT IN (1, b)") Truths yes ∷
    may (codes "a IN (1, CAST(NULL AS INT))") Truths (Some Null) ∷ may (codes "s LIKE '_b'") Truths yes ∷
    may (codes "s NOT LIKE 'b%'") Truths yes ∷ must (codes "a IS NULL") Truths no ∷ must (codes "a IS NOT NULL") Truths yes ∷
    -- CASE, COALESCE and NULLIF look only at what they need
    must (codes "CASE WHEN f THEN b ELSE g + 1 END") BigInt (Some (Num (pos 3))) ∷
    may (codes "CASE WHEN a = 1 THEN NULL WHEN b = 3 THEN 'x' ELSE (NULL) END") Texts (Some (Words (codes "x"))) ∷
    may (codes "CASE WHEN a = 1 THEN b END") Int (Some Null) ∷ must (codes "COALESCE(a, b)") Int (Some (Num (pos 7))) ∷
    must (codes "coalesce(g, g + 1)") BigInt (Some (Num (pos 9223372036854775807))) ∷ may (codes "NULLIF(b, 3)") Int (Some Null) ∷
    may (codes "CHAR_LENGTH(s)") Int (Some (Num (pos 2))) ∷
    -- casts
    may (codes "CAST(d AS INT)") Int (Some (Num (pos 1))) ∷ must (codes "CAST(2.5 AS DECIMAL(3, 0))") (Decimal 3 0) (Some (Num (pos 3))) ∷
    must (codes "CAST(-2.5 AS INTEGER)") Int (Some (Num (negsuc 1))) ∷ must (codes "CAST(g AS INT)") Int None ∷
    may (codes "CAST(f AS STRING)") Texts (Some (Words (codes "TRUE"))) ∷
    may (codes "CAST(NULL AS BIGINT)") BigInt (Some Null) ∷ []

-- NULL, 3, NULL, NULL, NULL, 0
abbrev pub null_row : Row
null_row = Null ∷ Num (pos 3) ∷ Null ∷ Null ∷ Null ∷ Num (pos 0) ∷ []

abbrev pub null_values : List Valued
null_values =
    may (codes "a + b") Int (Some Null) ∷ may (codes "d * 99999999999999999999999999999999999999") (Decimal 38 2) (Some Null) ∷
    may (codes "-a") Int (Some Null) ∷ may (codes "s || 'x'") Texts (Some Null) ∷ may (codes "a = a") Truths (Some Null) ∷
    may (codes "a <> 1") Truths (Some Null) ∷ may (codes "f AND b = 4") Truths no ∷ may (codes "f AND b = 3") Truths (Some Null) ∷
    may (codes "f OR b = 3") Truths yes ∷ may (codes "NOT f") Truths (Some Null) ∷ may (codes "b BETWEEN 4 AND a") Truths no ∷
    may (codes "b IN (1, a)") Truths (Some Null) ∷ may (codes "b IN (3, a)") Truths yes ∷ may (codes "b NOT IN (1, a)") Truths (Some Null) ∷
    may (codes "s LIKE '%'") Truths (Some Null) ∷ must (codes "a IS NULL") Truths yes ∷
    must (codes "CASE WHEN f THEN 1 ELSE 2 END") Int (Some (Num (pos 2))) ∷ must (codes "COALESCE(a, b, 1)") Int (Some (Num (pos 3))) ∷
    may (codes "COALESCE(d, d)") (Decimal 5 2) (Some Null) ∷ may (codes "NULLIF(b, a)") Int (Some (Num (pos 3))) ∷
    may (codes "CAST(a AS STRING)") Texts (Some Null) ∷ []
