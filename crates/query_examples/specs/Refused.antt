-- Queries that are refused, each with the first refusal of its walk, and queries beside them that are accepted.
use Rattle.std.specs.Prelude.{ℕ, zero, suc, List, [], ◌∷◌, ◌++◌, codes}
use Rattle.ct_value.specs.declared.codes.ScriptCode.{ScriptCode}
use Rattle.ct_value.specs.declared.codes.ScriptCode.TheVariants.{UnknownTable, UnknownColumn, TypeMismatch, NotGrouped, Nondeterministic, Unsupported, TooManyColumns}
use Rattle.sql_syntax.specs.Tree.{Text}

-- S3
abbrev pub unknown_tables : List Text
unknown_tables =
    codes "SELECT a FROM nosuch" ∷ codes "SELECT a FROM T" ∷ codes "SELECT a FROM (SELECT a FROM nosuch) AS x" ∷
    codes "SELECT RAND() FROM nosuch" ∷ codes "SELECT a FROM t UNION ALL SELECT a FROM nosuch" ∷
    codes "SELECT a FROM t WHERE EXISTS (SELECT 1 FROM nosuch)" ∷ codes "SELECT a FROM t WHERE a IN (SELECT a FROM nosuch)" ∷ []

-- S4
abbrev pub unknown_columns : List Text
unknown_columns =
    codes "SELECT nosuch FROM t" ∷ codes "SELECT A FROM t" ∷ codes "SELECT u.a FROM t" ∷ codes "SELECT t.a FROM t AS x" ∷
    codes "SELECT x FROM t AS x" ∷ codes "SELECT u.* FROM t" ∷ codes "SELECT t.* FROM t AS x" ∷ codes "SELECT x.* FROM (SELECT a FROM t)" ∷
    codes "SELECT t.a FROM (SELECT a FROM t)" ∷ codes "SELECT b FROM (SELECT a FROM t) AS x" ∷
    codes "SELECT a FROM (SELECT a + 1 FROM t) AS x" ∷ codes "SELECT a FROM t WHERE nosuch = 1" ∷ codes "SELECT a FROM t GROUP BY nosuch" ∷
    codes "SELECT a FROM t GROUP BY a HAVING nosuch = 1" ∷ codes "SELECT SUM(nosuch) FROM t" ∷
    -- an aggregate's operands are walked before the aggregate
    codes "SELECT a FROM t WHERE SUM(nosuch) = 1" ∷ codes "SELECT COUNT(*) FILTER (WHERE nosuch) FROM t" ∷ codes "SELECT `NOW` FROM t" ∷
    codes "SELECT t.NOW FROM t" ∷
    -- columns outside are in reach in the WHERE of an EXISTS's subquery alone, one level up
    codes "SELECT b FROM t WHERE EXISTS (SELECT b FROM u)" ∷ codes "SELECT b FROM t WHERE EXISTS (SELECT 1 FROM u JOIN o ON n = b)" ∷
    codes "SELECT b FROM t WHERE EXISTS (SELECT 1 FROM u WHERE EXISTS (SELECT 1 FROM o WHERE w = s))" ∷
    codes "SELECT b FROM t WHERE EXISTS (SELECT 1 FROM (SELECT b FROM u) AS x)" ∷
    codes "SELECT b FROM t WHERE a IN (SELECT a FROM u WHERE b = 1)" ∷
    codes "SELECT b FROM t WHERE EXISTS (SELECT 1 FROM u WHERE t.x = 1)" ∷ []

-- S5
abbrev pub ambiguous : List Text
ambiguous =
    codes "SELECT a FROM (SELECT a, b AS a FROM t)" ∷ codes "SELECT a FROM t JOIN u ON b = 1" ∷ codes "SELECT b FROM t JOIN u ON a = 1" ∷
    codes "SELECT t.b FROM t JOIN u AS t ON RAND() = 1" ∷ codes "SELECT x.a FROM (SELECT a, b a FROM t) AS x" ∷
    codes "SELECT COUNT(*) FROM (SELECT a, a FROM t) GROUP BY a" ∷ codes "SELECT b FROM t WHERE EXISTS (SELECT 1 FROM u JOIN u ON TRUE)" ∷
    codes "SELECT x FROM u WHERE EXISTS (SELECT 1 FROM t JOIN u AS v ON TRUE WHERE a = 1)" ∷ []

-- S7
abbrev pub mismatched : List Text
mismatched =
    codes "SELECT a FROM t EXCEPT SELECT x FROM u" ∷ codes "SELECT a FROM t INTERSECT ALL SELECT a, x FROM u" ∷
    codes "SELECT a + s FROM t" ∷ codes "SELECT a * f FROM t" ∷ codes "SELECT a || s FROM t" ∷ codes "SELECT -s FROM t" ∷
    codes "SELECT +f FROM t" ∷ codes "SELECT a = s FROM t" ∷ codes "SELECT a < f FROM t" ∷ codes "SELECT a AND f FROM t" ∷
    codes "SELECT f OR a FROM t" ∷ codes "SELECT NOT a FROM t" ∷ codes "SELECT a BETWEEN s AND 3 FROM t" ∷
    codes "SELECT a IN (1, s) FROM t" ∷ codes "SELECT a LIKE s FROM t" ∷ codes "SELECT CHAR_LENGTH(a) FROM t" ∷
    codes "SELECT CHAR_LENGTH(s, s) FROM t" ∷ codes "SELECT CHAR_LENGTH() FROM t" ∷ codes "SELECT NULLIF(a) FROM t" ∷
    codes "SELECT NULLIF(a, s) FROM t" ∷ codes "SELECT COALESCE() FROM t" ∷ codes "SELECT COALESCE(*) FROM t" ∷
    codes "SELECT COALESCE(a, d) FROM t" ∷ codes "SELECT CASE WHEN a THEN 1 END FROM t" ∷
    codes "SELECT CASE WHEN f THEN 1 ELSE s END FROM t" ∷ codes "SELECT CAST(s AS INT) FROM t" ∷ codes "SELECT CAST(f AS INT) FROM t" ∷
    -- the literal NULL has no type but beside a typed result, and in CAST
    codes "SELECT NULL FROM t" ∷ codes "SELECT a = NULL FROM t" ∷ codes "SELECT NULL IS NULL FROM t" ∷
    codes "SELECT COALESCE(NULL, 1) FROM t" ∷ codes "SELECT CASE WHEN f THEN NULL END FROM t" ∷
    codes "SELECT CASE WHEN f THEN NULL ELSE (NULL) END FROM t" ∷
    -- conditions
    codes "SELECT a FROM t WHERE a" ∷ codes "SELECT a FROM t WHERE f AND a" ∷ codes "SELECT b FROM t JOIN u ON b" ∷
    codes "SELECT b FROM t JOIN u ON t.a = x" ∷ codes "SELECT a FROM t GROUP BY a HAVING a" ∷
    -- aggregates
    codes "SELECT SUM(*) FROM t" ∷ codes "SELECT COUNT() FROM t" ∷ codes "SELECT COUNT(DISTINCT a, b) FROM t" ∷
    codes "SELECT MIN(a, b) FROM t" ∷ codes "SELECT SUM(s) FROM t" ∷ codes "SELECT AVG(f) FROM t" ∷
    codes "SELECT COUNT(*) FILTER (WHERE a) FROM t" ∷
    -- UNION ALL
    codes "SELECT a FROM t UNION ALL SELECT s FROM t" ∷ codes "SELECT a FROM t UNION ALL SELECT a, b FROM t" ∷
    codes "SELECT d FROM t UNION ALL SELECT a FROM t" ∷
    -- subqueries
    codes "SELECT b FROM t WHERE s IN (SELECT a FROM u)" ∷ codes "SELECT b FROM t WHERE NULL IN (SELECT a FROM u)" ∷
    codes "SELECT b FROM t WHERE EXISTS (SELECT 1 FROM u) AND b" ∷ codes "SELECT b FROM t WHERE EXISTS (SELECT 1 FROM u WHERE b)" ∷
    codes "SELECT b FROM t WHERE EXISTS (SELECT 1 FROM u WHERE u.a)" ∷ []

-- S8
abbrev pub ungrouped : List Text
ungrouped =
    codes "SELECT b FROM t GROUP BY a" ∷ codes "SELECT * FROM t GROUP BY a" ∷ codes "SELECT a, COUNT(*) FROM t" ∷
    codes "SELECT a FROM t HAVING COUNT(*) = 0" ∷ codes "SELECT a FROM t GROUP BY a HAVING b = 1" ∷
    codes "SELECT a FROM t WHERE COUNT(*) = 0" ∷ codes "SELECT COUNT(*) FROM t GROUP BY COUNT(*)" ∷ codes "SELECT SUM(COUNT(*)) FROM t" ∷
    codes "SELECT SUM(a) FILTER (WHERE COUNT(*) = 0) FROM t" ∷
    -- a number is its text, and a chain is one node
    codes "SELECT a + 01 FROM t GROUP BY a + 1" ∷ codes "SELECT a + b + 1 FROM t GROUP BY a + b" ∷
    codes "SELECT b + a FROM t GROUP BY a + b" ∷ codes "SELECT a <= b FROM t GROUP BY a < b" ∷
    codes "SELECT b FROM t WHERE EXISTS (SELECT 1 FROM u WHERE COUNT(*) = b)" ∷
    codes "SELECT b FROM t WHERE COUNT(*) IN (SELECT a FROM u)" ∷ []

-- S9
abbrev pub nondeterministic : List Text
nondeterministic =
    codes "SELECT RAND() FROM t" ∷ codes "SELECT uuid() FROM t" ∷ codes "SELECT Now FROM t" ∷
    codes "SELECT a FROM t WHERE CURRENT_DATE = s" ∷ codes "SELECT a FROM t GROUP BY a HAVING PROCTIME() = a" ∷
    codes "SELECT SUM(RAND_INTEGER(10)) FROM t" ∷ codes "SELECT NOW FROM (SELECT a AS now FROM t)" ∷
    codes "SELECT b FROM t WHERE EXISTS (SELECT 1 FROM u WHERE CURRENT_DATE = x)" ∷ []

-- S18
abbrev pub unsupported : List Text
unsupported =
    codes "SELECT a / b FROM t" ∷ codes "SELECT a % b FROM t" ∷ codes "SELECT a * b / a FROM t" ∷ codes "SELECT FOO(a) FROM t" ∷
    codes "SELECT MAX(DISTINCT a) FROM t" ∷ codes "SELECT SUM(DISTINCT s) FROM t" ∷ codes "SELECT COALESCE(DISTINCT a) FROM t" ∷
    codes "SELECT COALESCE(a) FILTER (WHERE f) FROM t" ∷ codes "SELECT SUM(a) OVER (ORDER BY a) FROM t" ∷
    codes "SELECT ROW_NUMBER() FROM t" ∷ codes "SELECT CAST(a AS BLOB) FROM t" ∷ codes "SELECT CAST(a AS DECIMAL(39)) FROM t" ∷
    codes "SELECT CAST(NULL AS INT(3)) FROM t" ∷ codes "SELECT 100000000000000000000000000000000000000 FROM t" ∷
    codes "SELECT 0.000000000000000000000000000000000000000 FROM t" ∷ codes "SELECT (SELECT a FROM t) FROM t" ∷
    codes "SELECT EXISTS (SELECT a FROM t) FROM t" ∷ codes "SELECT a IN (SELECT a FROM t) FROM t" ∷ codes "SELECT a FROM t ORDER BY a" ∷
    codes "SELECT a FROM t LIMIT 1" ∷ codes "SELECT a FROM (SELECT a FROM t ORDER BY a)" ∷
    -- subqueries that are no conjuncts of a WHERE, or have another form
    codes "SELECT a FROM t WHERE b = (SELECT a FROM u)" ∷ codes "SELECT a FROM t WHERE f OR EXISTS (SELECT 1 FROM u)" ∷
    codes "SELECT a FROM t WHERE NOT (NOT EXISTS (SELECT 1 FROM u))" ∷ codes "SELECT a FROM t WHERE a NOT IN (SELECT a FROM u)" ∷
    codes "SELECT a FROM t WHERE NOT (a IN (SELECT a FROM u))" ∷ codes "SELECT t.a FROM t JOIN u ON EXISTS (SELECT 1 FROM u)" ∷
    codes "SELECT a FROM t GROUP BY a HAVING EXISTS (SELECT 1 FROM u)" ∷ codes "SELECT a FROM t WHERE EXISTS (SELECT DISTINCT a FROM u)" ∷
    codes "SELECT a FROM t WHERE EXISTS (SELECT a FROM u EXCEPT SELECT a FROM u)" ∷ codes "SELECT a FROM t WHERE EXISTS (SELECT a FROM u INTERSECT ALL SELECT a FROM u)" ∷
    codes "SELECT a FROM t WHERE EXISTS (SELECT COUNT(*) FROM u)" ∷ codes "SELECT a FROM t WHERE EXISTS (SELECT a FROM u GROUP BY a)" ∷
    codes "SELECT a FROM t WHERE EXISTS (SELECT a FROM u HAVING TRUE)" ∷
    codes "SELECT a FROM t WHERE EXISTS (SELECT a FROM u UNION ALL SELECT a FROM u)" ∷
    codes "SELECT a FROM t WHERE EXISTS (SELECT a FROM u ORDER BY a)" ∷ codes "SELECT a FROM t WHERE EXISTS (SELECT a FROM u LIMIT 1)" ∷
    codes "SELECT a FROM t WHERE a IN (SELECT a, x FROM u)" ∷
    codes "SELECT a FROM t WHERE EXISTS (SELECT 1 FROM u WHERE t.a IN (SELECT n FROM o))" ∷ []

-- which of several refusals counts: the first that is met on the walk
abbrev pub walks : List (Text × ScriptCode)
walks =
    -- operands before the operator, from the left
    (codes "SELECT nosuch / 2 FROM t", UnknownColumn) ∷ (codes "SELECT a / nosuch FROM t", UnknownColumn) ∷
    (codes "SELECT FOO(nosuch) FROM t", UnknownColumn) ∷ (codes "SELECT RAND(nosuch) FROM t", UnknownColumn) ∷
    (codes "SELECT a + s + RAND() FROM t", TypeMismatch) ∷ (codes "SELECT a + RAND() + s FROM t", Nondeterministic) ∷
    (codes "SELECT a * s / 2 FROM t", TypeMismatch) ∷
    -- all operands of AND, OR, IN, COALESCE and CASE, and then the node
    (codes "SELECT a FROM t WHERE a AND nosuch", UnknownColumn) ∷ (codes "SELECT a FROM t WHERE (a AND f) AND nosuch", TypeMismatch) ∷
    (codes "SELECT a IN (s, nosuch) FROM t", UnknownColumn) ∷ (codes "SELECT COALESCE(a, s, RAND()) FROM t", Nondeterministic) ∷
    (codes "SELECT CASE WHEN a THEN 1 ELSE nosuch END FROM t", UnknownColumn) ∷
    -- sources, WHERE, GROUP BY, HAVING, select list
    (codes "SELECT RAND() FROM (SELECT nosuch FROM t)", UnknownColumn) ∷
    (codes "SELECT RAND() FROM t JOIN nosuch ON nosuch = 1", UnknownTable) ∷
    (codes "SELECT RAND() FROM t JOIN u ON nosuch = 1 JOIN nosuch ON TRUE", UnknownColumn) ∷
    (codes "SELECT RAND() FROM t JOIN u ON COUNT(*) = 1 WHERE nosuch = 1", NotGrouped) ∷
    (codes "SELECT RAND() FROM t WHERE nosuch = 1", UnknownColumn) ∷ (codes "SELECT RAND() FROM t GROUP BY nosuch", UnknownColumn) ∷
    (codes "SELECT RAND() FROM t WHERE COUNT(*) = 1 GROUP BY nosuch", NotGrouped) ∷
    (codes "SELECT nosuch FROM t GROUP BY s HAVING s", TypeMismatch) ∷ (codes "SELECT nosuch, RAND() FROM t", UnknownColumn) ∷
    (codes "SELECT u.*, RAND() FROM t", UnknownColumn) ∷
    -- at one place
    (codes "SELECT SUM(DISTINCT s, a) FROM t", Unsupported) ∷ (codes "SELECT a FROM t WHERE MAX(DISTINCT a) = 1", Unsupported) ∷
    (codes "SELECT a FROM t WHERE SUM(s) = 1", NotGrouped) ∷
    -- selects of a UNION ALL as pairs, and what stands behind them last
    (codes "SELECT a FROM t UNION ALL SELECT s FROM t UNION ALL SELECT RAND() FROM t", TypeMismatch) ∷
    (codes "SELECT a FROM t UNION ALL SELECT RAND() FROM t ORDER BY a", Nondeterministic) ∷
    -- a subquery of another form where it stands, and one of that form in the order of its clauses
    (codes "SELECT nosuch FROM t WHERE f AND EXISTS (SELECT DISTINCT nosuch FROM nosuch) AND RAND() = 1", Unsupported) ∷
    (codes "SELECT nosuch FROM t WHERE EXISTS (SELECT RAND() FROM u WHERE x = 1 AND nosuch = 1)", TypeMismatch) ∷
    (codes "SELECT a FROM t WHERE EXISTS (SELECT RAND() FROM u WHERE nosuch = 1)", UnknownColumn) ∷
    (codes "SELECT a FROM t WHERE EXISTS (SELECT RAND() FROM u WHERE a) AND nosuch", TypeMismatch) ∷
    (codes "SELECT a FROM t WHERE a AND EXISTS (SELECT RAND() FROM u)", Nondeterministic) ∷
    (codes "SELECT a FROM t WHERE nosuch IN (SELECT RAND() FROM u)", UnknownColumn) ∷
    (codes "SELECT a FROM t WHERE s IN (SELECT RAND() FROM u)", Nondeterministic) ∷
    (codes "SELECT a FROM t WHERE s IN (SELECT a, nosuch FROM u)", UnknownColumn) ∷ []

-- ---- long chains, and many columns

abbrev pub times : ℕ → Text → Text
times zero text = []
times (suc n) text = text ++ times n text

-- a chain of one operand more than this number
abbrev chain : ℕ → Text → Text → Text
chain n first more = codes "SELECT " ++ first ++ times n more ++ codes " FROM t"

abbrev pub long_chains : List (Text × ScriptCode)
long_chains =
    (chain 512 (codes "nosuch") (codes "+a"), Unsupported) ∷ (chain 511 (codes "nosuch") (codes "+a"), UnknownColumn) ∷
    (chain 512 (codes "nosuch") (codes "*a"), Unsupported) ∷
    (chain 511 (codes "s") (codes "||s") ++ codes " WHERE nosuch", UnknownColumn) ∷ []

-- S24: t has 6 columns
abbrev pub wide : List (Text × ScriptCode)
wide =
    (codes "SELECT b, " ++ times 10 (codes "*, ") ++ codes "a, a, s, d FROM t", TooManyColumns) ∷
    (codes "SELECT b, " ++ times 10 (codes "*, ") ++ codes "a, a, s, nosuch FROM t", UnknownColumn) ∷ []

-- ---- accepted

abbrev pub accepted : List Text
accepted =
    (codes "SELECT b, " ++ times 10 (codes "*, ") ++ codes "a, a, s FROM t") ∷ chain 511 (codes "a") (codes "+a") ∷
    codes "SELECT t.a, x FROM (SELECT a, s AS x FROM t) AS t" ∷ codes "SELECT t.*, * FROM t" ∷
    -- a star stands for columns by their places
    codes "SELECT * FROM (SELECT a, b AS a FROM t)" ∷ codes "SELECT x.* FROM (SELECT a + 1, a + 1 FROM t) AS x" ∷
    -- a column may have the name of a function
    codes "SELECT NOW FROM (SELECT a AS NOW FROM t)" ∷
    codes "SELECT CASE WHEN f THEN NULL ELSE 1 END, CAST((NULL) AS DECIMAL(5, 2)) FROM t" ∷ codes "SELECT * FROM u GROUP BY x, a" ∷
    -- equal once names are resolved: parentheses, sources, the case of functions, what types mean
    codes "SELECT a + 1 FROM t GROUP BY (t.a) + 1" ∷ codes "SELECT (a + b) + 1 FROM t GROUP BY a + b" ∷
    codes "SELECT CAST(a AS DECIMAL), coalesce(a, b) FROM t GROUP BY COALESCE(t.a, b), CAST(a AS NUMERIC(10, 0))" ∷
    codes "SELECT 1 + COUNT(*) FROM t GROUP BY a HAVING a IS NOT NULL AND MAX(b) > a" ∷ codes "SELECT 1 FROM t HAVING TRUE" ∷
    codes "SELECT COUNT(DISTINCT a), SUM(b) FILTER (WHERE f) FROM t" ∷
    codes "SELECT b FROM t UNION ALL SELECT g FROM t UNION ALL SELECT a FROM u" ∷ []
