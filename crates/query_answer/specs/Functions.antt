-- What the names of functions mean, read in any case of letters.
use Rattle.std.specs.Prelude.{Bool, true, false, List, [], ◌∷◌, if◌then◌else◌, codes}
use Rattle.std.specs.Str.{str_eq_ignore_ascii_case}
use Rattle.rel_algebra.specs.declared.agg.AggCall.TheVariants.{Count, Sum, Min, Max, Avg}
use Rattle.sql_syntax.specs.Tree.{Text}
use Rattle.query_answer.specs.declared.function.Function.{Function}
use Rattle.query_answer.specs.declared.function.Function.TheVariants.{Aggregate, Coalesce, NullIf, CharLength, RowNumber, Changing, Unknown}

abbrev pub functions : List (Text × Function)
functions =
    (codes "COUNT", Aggregate Count) ∷
    (codes "SUM", Aggregate Sum) ∷
    (codes "MIN", Aggregate Min) ∷
    (codes "MAX", Aggregate Max) ∷
    (codes "AVG", Aggregate Avg) ∷
    (codes "COALESCE", Coalesce) ∷
    (codes "NULLIF", NullIf) ∷
    (codes "CHAR_LENGTH", CharLength) ∷
    (codes "ROW_NUMBER", RowNumber) ∷
    (codes "RAND", Changing) ∷
    (codes "RAND_INTEGER", Changing) ∷
    (codes "UUID", Changing) ∷
    (codes "NOW", Changing) ∷
    (codes "CURRENT_TIMESTAMP", Changing) ∷
    (codes "CURRENT_DATE", Changing) ∷
    (codes "CURRENT_TIME", Changing) ∷
    (codes "LOCALTIME", Changing) ∷
    (codes "LOCALTIMESTAMP", Changing) ∷
    (codes "PROCTIME", Changing) ∷ []

abbrev pub function_in : List (Text × Function) → Text → Function
function_in [] name = Unknown
function_in (f ∷ fs) name = if str_eq_ignore_ascii_case f.0 name then f.1 else function_in fs name

unfoldable pub function_of : Text → Function
function_of = function_in functions

abbrev pub is_changing : Function → Bool
is_changing Changing = true
is_changing _ = false
