-- Texts that have no tree.
use Rattle.std.specs.Prelude.{ℕ, List, ◌++◌, codes, [], ◌∷◌}
use Rattle.sql_syntax.specs.Tree.{items}
use Rattle.text_examples.specs.Words.{a, name, the}

-- scripts with a bad place in their first statement
abbrev pub bad_places : List (List ℕ)
bad_places =
    -- bytes that begin nothing
    codes "#" ∷ (codes "SET 'a' = " ++ (34 ∷ codes "b" ++ (34 ∷ codes ";"))) ∷ (codes "SET 'a' = 'b' " ++ (12 ∷ codes ";")) ∷
    (codes "SET 'a' = 'b'" ++ (194 ∷ 160 ∷ codes ";")) ∷ (codes "INSERT INTO " ++ (195 ∷ 169 ∷ codes " SELECT a FROM t;")) ∷
    codes "INSERT INTO o SELECT a ! = b FROM t;" ∷ codes "INSERT INTO o SELECT a | | b FROM t;" ∷
    codes "INSERT INTO o SELECT a & b FROM t;" ∷ codes "INSERT INTO o SELECT [a] FROM t;" ∷
    -- what isn't closed
    codes "'" ∷ codes "SET 'a' = 'b;" ∷ codes "SET 'a' = 'b'';" ∷ codes "INSERT INTO `o SELECT a FROM t;" ∷
    codes "INSERT INTO `o`` SELECT a FROM t;" ∷ codes "/*" ∷ codes "/* SET 'a' = 'b';" ∷ codes "/*/ SET 'a' = 'b';" ∷
    codes "SET 'a' = /* 'b'; *" ∷
    -- a name without a character
    codes "INSERT INTO `` SELECT a FROM t;" ∷
    -- numbers with letters
    codes "INSERT INTO o SELECT 1a FROM t;" ∷ codes "INSERT INTO o SELECT 1_ FROM t;" ∷ codes "INSERT INTO o SELECT 1e5 FROM t;" ∷
    codes "INSERT INTO o SELECT 1.5x FROM t;" ∷ codes "INSERT INTO o SELECT a.1b FROM t;" ∷ []

-- items without a tree
abbrev pub bad_items : List (List ℕ)
bad_items =
    -- literals and names
    [] ∷ codes "1." ∷ codes "1.x" ∷ codes ".5" ∷ codes "1.5.2" ∷ codes "1 .5" ∷ codes "'a' 'b'" ∷ codes "a 'b'" ∷ codes "select" ∷
    codes "end" ∷ codes "a." ∷ codes "a.b.c" ∷ codes "a.1" ∷ codes "a.from" ∷ codes "t.f(a)" ∷
    -- parentheses
    codes "()" ∷
    codes "(a" ∷
    codes "a)" ∷
    codes "(a, b)" ∷ codes "(a b)" ∷
    -- operators
    codes "a +" ∷ codes "* 2" ∷ codes "a * * b" ∷ codes "- - a" ∷ codes "+-a" ∷ codes "NOT NOT a" ∷ codes "a AND" ∷ codes "OR a" ∷
    codes "a = b = c" ∷ codes "a < > b" ∷ codes "a = NOT b" ∷ codes "a == b" ∷ codes "a NOT b" ∷ codes "a IS b" ∷
    codes "a IS NULL IS NULL" ∷ codes "a BETWEEN 1" ∷ codes "a BETWEEN 1 OR 2" ∷ codes "a BETWEEN b = c AND d" ∷ codes "a IN ()" ∷
    codes "a IN 1" ∷ codes "a IN (1,)" ∷ codes "a IN (b c)" ∷ codes "a LIKE" ∷ codes "a NOT IS NULL" ∷ codes "EXISTS a" ∷
    codes "EXISTS (a)" ∷
    -- CASE and CAST
    codes "CASE END" ∷ codes "CASE ELSE 1 END" ∷ codes "CASE a WHEN 1 THEN 2 END" ∷ codes "CASE WHEN a THEN 1" ∷ codes "CASE WHEN a END" ∷
    codes "CAST(a, INT)" ∷ codes "CAST(a AS INT(1, 2, 3))" ∷ codes "CAST(a AS DECIMAL())" ∷
    -- calls
    codes "f(" ∷
    codes "f(a,)" ∷ codes "f(*, a)" ∷ codes "f(DISTINCT)" ∷ codes "f(a) FILTER (b)" ∷ codes "f(a) OVER ()" ∷
    codes "f(a) OVER (PARTITION BY b)" ∷ codes "f(a) OVER (ORDER BY b) FILTER (WHERE c)" ∷ []

-- queries without a tree
abbrev pub bad_queries : List (List ℕ)
bad_queries =
    [] ∷ codes "SELECT" ∷ codes "SELECT FROM t" ∷ codes "SELECT a" ∷ codes "SELECT a, FROM t" ∷ codes "SELECT ALL a FROM t" ∷
    codes "SELECT a AS FROM t" ∷ codes "SELECT a b c FROM t" ∷ codes "SELECT a AS 'b' FROM t" ∷ codes "SELECT * AS a FROM t" ∷
    codes "SELECT *.t FROM t" ∷ codes "SELECT t.* a FROM t" ∷ codes "SELECT a FROM" ∷ codes "SELECT a FROM t, u" ∷
    codes "SELECT a FROM t.u" ∷ codes "SELECT a FROM (t)" ∷ codes "SELECT a FROM t AS" ∷ codes "SELECT a FROM t x y" ∷
    codes "SELECT a FROM SELECT b FROM u" ∷ codes "SELECT a FROM t JOIN u" ∷ codes "SELECT a FROM t LEFT u ON b" ∷
    codes "SELECT a FROM t OUTER JOIN u ON b" ∷ codes "SELECT a FROM t INNER OUTER JOIN u ON b" ∷
    codes "SELECT a FROM t FULL INNER JOIN u ON b" ∷ codes "SELECT a FROM t JOIN u ON b ON c" ∷ codes "SELECT a FROM t WHERE" ∷
    codes "SELECT a FROM t WHERE b WHERE c" ∷ codes "SELECT a FROM t GROUP a" ∷ codes "SELECT a FROM t GROUP BY" ∷
    codes "SELECT a FROM t GROUP BY (a, b)" ∷ codes "SELECT a FROM t GROUP BY a WHERE b" ∷ codes "SELECT a FROM t HAVING b GROUP BY a" ∷
    codes "SELECT a FROM t UNION SELECT b FROM u" ∷ codes "SELECT a FROM t UNION ALL (SELECT b FROM u)" ∷
    codes "SELECT a FROM t INTERSECT b" ∷ codes "SELECT a FROM t INTERSECT ALL" ∷ codes "SELECT a FROM t EXCEPT (SELECT b FROM u)" ∷
    codes "SELECT a FROM t EXCEPT ALL ALL SELECT b FROM u" ∷ codes "SELECT a FROM t LIMIT 1 EXCEPT SELECT b FROM u" ∷
    codes "SELECT intersect FROM t" ∷ codes "SELECT a FROM except" ∷
    codes "SELECT a FROM t ORDER BY b UNION ALL SELECT c FROM u" ∷ codes "SELECT a FROM t ORDER b" ∷
    codes "SELECT a FROM t ORDER BY b DESC ASC" ∷ codes "SELECT a FROM t LIMIT b" ∷ codes "SELECT a FROM t LIMIT 1, 2" ∷
    codes "SELECT a FROM t LIMIT 1 ORDER BY b" ∷ codes "(SELECT a FROM t)" ∷ []

-- scripts of which the first statement has no tree
abbrev pub bad_statements : List (List ℕ)
bad_statements =
    codes ";" ∷ codes "SET 'a' = 'b'" ∷ codes "a;" ∷ codes "SELECT a FROM t;" ∷ codes "SET a = 'b';" ∷ codes "SET 'a' = b;" ∷
    codes "SET 'a' = 1;" ∷ codes "SET 'a' 'b';" ∷ codes "SET 'a' = 'b' 'c';" ∷ codes "SET 'a' = 'b', 'c' = 'd';" ∷
    codes "INSERT o SELECT a FROM t;" ∷ codes "INSERT INTO SELECT a FROM t;" ∷ codes "INSERT INTO 'o' SELECT a FROM t;" ∷
    codes "INSERT INTO table SELECT a FROM t;" ∷ codes "INSERT INTO o (a) SELECT a FROM t;" ∷ codes "INSERT INTO o p SELECT a FROM t;" ∷
    codes "INSERT INTO o SELECT a FROM t SET 'a' = 'b';" ∷ codes "CREATE t (a INT);" ∷ codes "CREATE TABLE (a INT);" ∷
    codes "CREATE TABLE t;" ∷ codes "CREATE TABLE t ();" ∷ codes "CREATE TABLE t (a);" ∷ codes "CREATE TABLE t (a INT,);" ∷
    codes "CREATE TABLE t (a INT b INT);" ∷ codes "CREATE TABLE t (a INT(b));" ∷ codes "CREATE TABLE t (a INT NULL);" ∷
    codes "CREATE TABLE t (a INT NOT NULL NOT NULL);" ∷ codes "CREATE TABLE t (a INT PRIMARY KEY);" ∷
    codes "CREATE TABLE t (a INT PRIMARY KEY ENFORCED);" ∷ codes "CREATE TABLE t (a INT PRIMARY KEY NOT ENFORCED NOT NULL);" ∷
    codes "CREATE TABLE t (PRIMARY KEY a NOT ENFORCED);" ∷ codes "CREATE TABLE t (PRIMARY KEY () NOT ENFORCED);" ∷
    codes "CREATE TABLE t (PRIMARY KEY (a));" ∷ codes "CREATE TABLE t (a INT) WITH ();" ∷ codes "CREATE TABLE t (a INT) WITH ('a' = b);" ∷
    codes "CREATE TABLE t (a INT) WITH ('a' = 'b') WITH ('c' = 'd');" ∷ []
