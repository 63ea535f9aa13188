-- Top-N: queries with a rank, what they are bound to and answer, and where a rank is refused.
use Rattle.std.specs.Prelude.{ℕ, true, false, Bool, List, [], ◌∷◌, ◌++◌, Option, Some, None, codes}
use Rattle.ct_value.specs.declared.codes.ScriptCode.{ScriptCode}
use Rattle.ct_value.specs.declared.codes.ScriptCode.TheVariants.{UnknownColumn, AmbiguousColumn, Nondeterministic, NotGrouped, RankUnbounded, SinkShape, TooManyColumns, TypeMismatch, Unsupported}
use Rattle.ct_value.specs.declared.ty.Ty.TheVariants.{Int, BigInt, Text as Texts}
use Rattle.ct_value.specs.declared.value.CompareOp.TheVariants.{Eq, Gt, Le, Lt}
use Rattle.ct_value.specs.declared.value.Value.TheVariants.{Null, Text as Words}
use Rattle.ct_expr.specs.Expr.{Column, Literal, Compare, And, exprs}
use Rattle.rel_algebra.specs.declared.agg.AggCall.TheVariants.{CountAll}
use Rattle.rel_algebra.specs.declared.sort.SortCol.{SortCol}
use Rattle.rel_algebra.specs.Rel.{Rel, Scan, Filter, Project, Group, Semi, Rank}
use Rattle.sql_syntax.specs.Tree.{Text}
use Rattle.query_examples.specs.Answered.{Answered, over_both, n, w}
use Rattle.query_examples.specs.Bound.{a, b, agg, int, pair}
use Rattle.query_examples.specs.Refused.{times}

abbrev by : ℕ → Bool → SortCol
by col desc = record { col = col; desc = desc }

abbrev rank : Rel → List ℕ → List SortCol → ℕ → Bool → Rel
rank input partition order bound ranked = Rank input partition order bound ranked

abbrev pub trees : List (Text × Rel)
trees =
    -- the rank is the column behind those of the sources
    (codes "SELECT rn, b FROM (SELECT b, ROW_NUMBER() OVER (PARTITION BY a ORDER BY b DESC, (t.g)) AS rn FROM t) WHERE rn <= 2", Project (Project (rank (Scan 0) (0 ∷ []) (by 1 true ∷ by 5 false ∷ []) 2 true) (b ∷ Column 6 BigInt ∷ [])) (Column 1 BigInt ∷ Column 0 Int ∷ [])) ∷
    (codes "SELECT * FROM (SELECT *, (ROW_NUMBER() OVER (ORDER BY b)) rn FROM t) WHERE (rn) = (1)", rank (Scan 0) [] (by 1 false ∷ []) 1 true) ∷
    -- it is left out where nothing looks at it
    (codes "SELECT a, x FROM (SELECT row_number() OVER (PARTITION BY x, x ORDER BY a) AS n, * FROM u) AS q WHERE (q.n < 11)", rank (Scan 1) (1 ∷ 1 ∷ []) (by 0 false ∷ []) 10 false) ∷
    (codes "SELECT a FROM (SELECT a, x, ROW_NUMBER() OVER (ORDER BY a) AS n FROM u) WHERE x = 'y' AND (a > 1 AND n <= 7) AND a > 2", Project (Filter (rank (Scan 1) [] (by 0 false ∷ []) 7 false) (And (exprs (Compare Eq (Column 1 Texts) (Literal (Words (codes "y")) Texts) ∷ Compare Gt a (int 1) ∷ Compare Gt a (int 2) ∷ [])))) (a ∷ [])) ∷
    (codes "SELECT COUNT(*) FROM (SELECT ROW_NUMBER() OVER (ORDER BY b) AS rn FROM t) WHERE rn < 4", Group (Project (rank (Scan 0) [] (by 1 false ∷ []) 3 false) []) 0 (agg CountAll None None ∷ [])) ∷
    -- the first bound counts, and a second one is a condition as any other
    (codes "SELECT x FROM (SELECT *, ROW_NUMBER() OVER (ORDER BY a) AS n FROM u) WHERE n <= 3 AND n < 2", Project (Filter (rank (Scan 1) [] (by 0 false ∷ []) 3 true) (Compare Lt (Column 2 BigInt) (int 2))) (Column 1 Texts ∷ [])) ∷
    (codes "SELECT x FROM (SELECT *, ROW_NUMBER() OVER (ORDER BY a) AS n FROM u) WHERE n <= 0 AND n <= 10000 AND 5 > n", Project (Filter (rank (Scan 1) [] (by 0 false ∷ []) 10000 true) (And (exprs (Compare Le (Column 2 BigInt) (int 0) ∷ Compare Gt (int 5) (Column 2 BigInt) ∷ [])))) (Column 1 Texts ∷ [])) ∷
    -- a name in the WHERE of an EXISTS looks at it, unless a column there has the name
    (codes "SELECT x FROM (SELECT *, ROW_NUMBER() OVER (ORDER BY a) AS n FROM u) AS q WHERE n <= 3 AND EXISTS (SELECT 1 FROM t WHERE b = q.n)", Project (Semi (rank (Scan 1) [] (by 0 false ∷ []) 3 true) (Scan 0) false (pair 2 1 ∷ []) None) (Column 1 Texts ∷ [])) ∷
    (codes "SELECT x FROM (SELECT *, ROW_NUMBER() OVER (ORDER BY a) AS b FROM u) WHERE b <= 3 AND EXISTS (SELECT 1 FROM t WHERE b = 1)", Project (Semi (rank (Scan 1) [] (by 0 false ∷ []) 3 false) (Filter (Scan 0) (Compare Eq b (int 1))) false [] None) (Column 1 Texts ∷ [])) ∷
    (codes "SELECT x FROM (SELECT *, ROW_NUMBER() OVER (ORDER BY a) AS b FROM u) WHERE b <= 3 AND 3 IN (SELECT b FROM t)", Project (Semi (rank (Scan 1) [] (by 0 false ∷ []) 3 false) (Project (Scan 0) (b ∷ [])) false [] (Some (Compare Eq (int 3) (Column 2 Int)))) (Column 1 Texts ∷ [])) ∷
    (codes "SELECT x FROM (SELECT *, ROW_NUMBER() OVER (ORDER BY a) AS n FROM u) AS q WHERE n <= 3 AND EXISTS (SELECT 1 FROM t WHERE t.b = 1)", Project (Semi (rank (Scan 1) [] (by 0 false ∷ []) 3 false) (Filter (Scan 0) (Compare Eq b (int 1))) false [] None) (Column 1 Texts ∷ [])) ∷ []

abbrev pub rows : List Answered
rows =
    -- each copy of a row has a rank of its own; NULL is lowest, and DESC turns that round
    over_both (codes "SELECT a, b, rn FROM (SELECT a, b, ROW_NUMBER() OVER (PARTITION BY a ORDER BY b DESC) AS rn FROM t) WHERE rn <= 1") (Some ((Null ∷ n 40 ∷ n 1 ∷ []) ∷ (n 1 ∷ n 20 ∷ n 1 ∷ []) ∷ (n 2 ∷ n 30 ∷ n 1 ∷ []) ∷ [])) ∷
    over_both (codes "SELECT b, rn FROM (SELECT b, ROW_NUMBER() OVER (ORDER BY a) AS rn FROM t) WHERE rn <= 3") (Some ((n 10 ∷ n 3 ∷ []) ∷ (n 40 ∷ n 1 ∷ []) ∷ (n 40 ∷ n 2 ∷ []) ∷ [])) ∷
    over_both (codes "SELECT b FROM (SELECT b, ROW_NUMBER() OVER (ORDER BY a DESC, b) AS rn FROM t) AS q WHERE q.rn < 3") (Some ((n 10 ∷ []) ∷ (n 30 ∷ []) ∷ [])) ∷
    -- the WHERE within comes before the rank, the other conjuncts outside behind it
    over_both (codes "SELECT b, rn FROM (SELECT b, ROW_NUMBER() OVER (ORDER BY b) AS rn FROM t WHERE a IS NOT NULL) WHERE b > 10 AND rn <= 3") (Some ((n 20 ∷ n 2 ∷ []) ∷ (n 30 ∷ n 3 ∷ []) ∷ [])) ∷
    -- the list is evaluated on the first rows alone
    over_both (codes "SELECT c FROM (SELECT b + 2147483627 AS c, ROW_NUMBER() OVER (ORDER BY b) AS rn FROM t) WHERE rn <= 2") (Some ((n 2147483637 ∷ []) ∷ (n 2147483647 ∷ []) ∷ [])) ∷
    over_both (codes "SELECT c FROM (SELECT b + 2147483627 AS c, ROW_NUMBER() OVER (ORDER BY b) AS rn FROM t) WHERE rn <= 3") None ∷
    -- one within another, and within an EXISTS
    over_both (codes "SELECT b FROM (SELECT b, ROW_NUMBER() OVER (ORDER BY b DESC) AS m FROM (SELECT a, b, ROW_NUMBER() OVER (PARTITION BY a ORDER BY b) AS rn FROM t) WHERE rn = 1) WHERE m <= 2") (Some ((n 30 ∷ []) ∷ (n 40 ∷ []) ∷ [])) ∷
    over_both (codes "SELECT x FROM u WHERE EXISTS (SELECT 1 FROM (SELECT a AS k, ROW_NUMBER() OVER (ORDER BY b) AS rn FROM t) AS q WHERE rn <= 2 AND q.k = u.a)") (Some ((w (codes "x") ∷ []) ∷ [])) ∷
    over_both (codes "SELECT COUNT(*) FROM (SELECT ROW_NUMBER() OVER (ORDER BY b) AS rn FROM t) WHERE rn < 4") (Some ((n 3 ∷ []) ∷ [])) ∷ []

-- a query over a list with a rank and what stands behind it
abbrev outside : Text → Text
outside rest = codes "SELECT a FROM (SELECT a, ROW_NUMBER() OVER (ORDER BY a) AS rn FROM t) AS q" ++ rest

abbrev pub refused : List (Text × ScriptCode)
refused =
    -- S12: no bound
    (outside [], RankUnbounded) ∷ (outside (codes " WHERE rn <= 0"), RankUnbounded) ∷
    (outside (codes " WHERE rn <= 10001"), RankUnbounded) ∷ (outside (codes " WHERE rn < 1"), RankUnbounded) ∷
    (outside (codes " WHERE rn = 2"), RankUnbounded) ∷ (outside (codes " WHERE rn <= 2.0"), RankUnbounded) ∷
    (outside (codes " WHERE 2 >= rn"), RankUnbounded) ∷ (outside (codes " WHERE rn <= a"), RankUnbounded) ∷
    (outside (codes " WHERE t.rn <= 2"), RankUnbounded) ∷ (outside (codes " WHERE rn <= 2 OR rn <= 1"), RankUnbounded) ∷
    (outside (codes " WHERE NOT rn > 2"), RankUnbounded) ∷ (outside (codes " JOIN u ON TRUE WHERE rn <= 2"), RankUnbounded) ∷
    (codes "SELECT a, ROW_NUMBER() OVER (ORDER BY a) AS rn FROM t", RankUnbounded) ∷
    (codes "SELECT a FROM (SELECT a, ROW_NUMBER() OVER (ORDER BY a) AS rn FROM t UNION ALL SELECT a, g FROM t) WHERE rn <= 2", RankUnbounded) ∷
    (codes "SELECT a FROM u WHERE a IN (SELECT ROW_NUMBER() OVER (ORDER BY a) AS rn FROM t)", RankUnbounded) ∷
    (codes "SELECT a FROM u WHERE EXISTS (SELECT ROW_NUMBER() OVER (ORDER BY a) AS rn FROM t)", RankUnbounded) ∷
    -- S18: no list with one rank that has a name
    (codes "SELECT ROW_NUMBER() OVER (ORDER BY a) FROM t", Unsupported) ∷
    (codes "SELECT ROW_NUMBER() OVER (ORDER BY a) + 1 AS rn FROM t", Unsupported) ∷
    (codes "SELECT ROW_NUMBER() OVER (ORDER BY a) AS rn, nosuch, ROW_NUMBER() OVER (ORDER BY b) AS m FROM t", Unsupported) ∷
    (codes "SELECT DISTINCT ROW_NUMBER() OVER (ORDER BY a) AS rn FROM t", Unsupported) ∷
    (codes "SELECT ROW_NUMBER() OVER (ORDER BY a) AS rn FROM t GROUP BY a", Unsupported) ∷
    (codes "SELECT COUNT(*), ROW_NUMBER() OVER (ORDER BY g) AS rn FROM t GROUP BY g", Unsupported) ∷
    (codes "SELECT ROW_NUMBER(*) OVER (ORDER BY a) AS rn FROM t", Unsupported) ∷
    (codes "SELECT ROW_NUMBER() FILTER (WHERE f) OVER (ORDER BY a) AS rn FROM t", Unsupported) ∷
    (codes "SELECT COUNT(*) OVER (ORDER BY a) AS n FROM t", Unsupported) ∷
    (codes "SELECT a FROM t WHERE ROW_NUMBER() OVER (ORDER BY a) <= 2", Unsupported) ∷
    (codes "SELECT a FROM (SELECT a, ROW_NUMBER() OVER (ORDER BY a) AS rn FROM t LIMIT 3) WHERE rn <= 2", RankUnbounded) ∷
    -- S18, S4 and S5: PARTITION BY and ORDER BY are walked at the rank's place, and take plain columns
    (codes "SELECT ROW_NUMBER() OVER (ORDER BY a + 1) AS rn, RAND() FROM t", Unsupported) ∷
    (codes "SELECT nosuch, ROW_NUMBER() OVER (ORDER BY a + 1) AS rn FROM t", UnknownColumn) ∷
    (codes "SELECT ROW_NUMBER() OVER (PARTITION BY nosuch ORDER BY a + 1) AS rn FROM t", UnknownColumn) ∷
    (codes "SELECT ROW_NUMBER() OVER (PARTITION BY a, 1 ORDER BY nosuch) AS rn FROM t", UnknownColumn) ∷
    (codes "SELECT ROW_NUMBER() OVER (ORDER BY nosuch) FROM t", UnknownColumn) ∷
    (codes "SELECT a, ROW_NUMBER() OVER (ORDER BY SUM(b)) FROM t", NotGrouped) ∷
    (codes "SELECT COUNT(*), ROW_NUMBER() OVER (ORDER BY a) AS rn FROM t", NotGrouped) ∷
    (codes "SELECT ROW_NUMBER() OVER (ORDER BY b, (u.b)) AS rn FROM t JOIN u ON TRUE", UnknownColumn) ∷
    (codes "SELECT ROW_NUMBER() OVER (ORDER BY a) AS rn FROM t JOIN u ON TRUE", AmbiguousColumn) ∷
    (codes "SELECT ROW_NUMBER() OVER (ORDER BY NOW) AS rn FROM t", Nondeterministic) ∷
    (codes "SELECT ROW_NUMBER() OVER (ORDER BY a) AS rn, RAND() FROM t", Nondeterministic) ∷
    (codes "SELECT " ++ times 10 (codes "*, ") ++ codes "a, a, a, a, ROW_NUMBER() OVER (ORDER BY a) AS rn FROM t", TooManyColumns) ∷
    -- the other conjuncts as in any WHERE
    (outside (codes " WHERE rn <= 2 AND nosuch = 1"), UnknownColumn) ∷
    (outside (codes " WHERE (rn <= 2 AND a) AND nosuch = 1"), TypeMismatch) ∷
    (outside (codes " WHERE rn <= 2 AND SUM(a) = 1"), NotGrouped) ∷ []

-- over lists with a rank in an INSERT
abbrev pub inserted : List (Text × Option ScriptCode)
inserted =
    (codes "INSERT INTO o SELECT rn, s FROM (SELECT s, ROW_NUMBER() OVER (ORDER BY a) AS rn FROM t) WHERE rn <= 2;", None) ∷
    -- a rank without a bound is refused behind all else
    (codes "INSERT INTO o SELECT rn, s FROM (SELECT s, ROW_NUMBER() OVER (ORDER BY a) AS rn FROM t);", Some RankUnbounded) ∷
    (codes "INSERT INTO o SELECT nosuch, s FROM (SELECT s, ROW_NUMBER() OVER (ORDER BY a) AS rn FROM t);", Some UnknownColumn) ∷
    (codes "INSERT INTO o SELECT rn FROM (SELECT s, ROW_NUMBER() OVER (ORDER BY a) AS rn FROM t);", Some SinkShape) ∷
    (codes "INSERT INTO o SELECT rn, w FROM (SELECT w, ROW_NUMBER() OVER (ORDER BY n) AS rn FROM o);", Some SinkShape) ∷
    (codes "INSERT INTO o SELECT g, s FROM t WHERE EXISTS (SELECT ROW_NUMBER() OVER (ORDER BY a) AS rn FROM t) AND nosuch = 1;", Some UnknownColumn) ∷
    -- a name that two items have is no bound
    (codes "INSERT INTO o SELECT g, s FROM (SELECT g, s, a AS rn, ROW_NUMBER() OVER (ORDER BY a) AS rn FROM t) WHERE rn <= 2;", Some AmbiguousColumn) ∷ []
