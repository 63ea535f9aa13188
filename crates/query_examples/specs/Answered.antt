-- Queries with the rows of t and u, and the rows of their answers in order, or out of range.
use Rattle.std.specs.Prelude.{◌≡◌, ℕ, pos, true, false, List, [], ◌∷◌, map, Option, Some, None, option_map, Ok, Err, codes}
use Rattle.ct_value.specs.Bag.{items, bag_of}
use Rattle.ct_value.specs.declared.row.Row.{Row}
use Rattle.ct_value.specs.declared.value.Value.{Value}
use Rattle.ct_value.specs.declared.value.Value.TheVariants.{Null, Bool as Truth, Num, Text as Words}
use Rattle.sql_syntax.specs.Tree.{Query, Text}
use Rattle.query_answer.specs.Answer.{TableRows, answer}
use Rattle.binding.specs.Checked.{Checked}
use Rattle.query_laws.specs.Statement.{filled}
use Rattle.query_examples.specs.Checks.{query_text}
use Rattle.query_examples.specs.Tables.{t, u, o}

pub record Answered : Type 0 where
  pub text : Text
  pub of_t : List Row
  pub of_u : List Row
  pub rows : Option (List Row)

-- the tables with these rows; o has none
abbrev pub tables_for : Answered → List TableRows
tables_for e = filled t (bag_of e.of_t) ∷ filled u (bag_of e.of_u) ∷ filled o (bag_of []) ∷ []

-- the rows of a query's answer, in order
abbrev pub rows_told : Answered → Checked Query → Checked (Option (List Row))
rows_told e (Ok query) = Ok (option_map items (answer (tables_for e) query).rows)
rows_told e (Err code) = Err code

-- each text has the answer beside it
abbrev pub HaveAnswers : List Answered → Type 0
HaveAnswers table = map (λ e. rows_told e (query_text e.text)) table ≡ map (λ e. Ok e.rows) table

abbrev pub n : ℕ → Value
n k = Num (pos k)

abbrev pub w : Text → Value
w word = Words word

-- a, b, s, d, f, g
abbrev t_rows : List Row
t_rows =
    (n 1 ∷ n 10 ∷ w (codes "x") ∷ n 150 ∷ Truth true ∷ n 1 ∷ []) ∷ (n 1 ∷ n 20 ∷ w (codes "x") ∷ n 101 ∷ Truth false ∷ n 2 ∷ []) ∷
    (n 2 ∷ n 30 ∷ Null ∷ Null ∷ Null ∷ n 3 ∷ []) ∷ (Null ∷ n 40 ∷ w (codes "y") ∷ n 100 ∷ Truth true ∷ n 4 ∷ []) ∷
    (Null ∷ n 40 ∷ w (codes "y") ∷ n 100 ∷ Truth true ∷ n 4 ∷ []) ∷ []

abbrev u_rows : List Row
u_rows = (n 1 ∷ w (codes "x") ∷ []) ∷ (n 3 ∷ w (codes "z") ∷ []) ∷ []

abbrev pub over_both : Text → Option (List Row) → Answered
over_both text rows = record { text = text; of_t = t_rows; of_u = u_rows; rows = rows }

abbrev over_none : Text → Option (List Row) → Answered
over_none text rows = record { text = text; of_t = []; of_u = []; rows = rows }

abbrev pub answered : List Answered
answered =
    -- each copy of a row by itself; a condition that is NULL keeps nothing
    over_both (codes "SELECT b, a FROM t WHERE f AND b > 5") (Some ((n 10 ∷ n 1 ∷ []) ∷ (n 40 ∷ Null ∷ []) ∷ (n 40 ∷ Null ∷ []) ∷ [])) ∷
    over_both (codes "SELECT b FROM t WHERE NOT f") (Some ((n 20 ∷ []) ∷ [])) ∷
    -- every conjunct is evaluated on every row
    over_both (codes "SELECT b FROM t WHERE b < 0 AND b + 2147483647 > 0") None ∷
    -- NULLs are one group
    over_both (codes "SELECT a, COUNT(*), SUM(b) FROM t GROUP BY a") (Some ((Null ∷ n 2 ∷ n 80 ∷ []) ∷ (n 1 ∷ n 2 ∷ n 30 ∷ []) ∷ (n 2 ∷ n 1 ∷ n 30 ∷ []) ∷ [])) ∷
    over_both (codes "SELECT s, COUNT(a), COUNT(DISTINCT b), SUM(b) FILTER (WHERE f) FROM t GROUP BY s") (Some ((Null ∷ n 1 ∷ n 1 ∷ Null ∷ []) ∷ (w (codes "x") ∷ n 2 ∷ n 2 ∷ n 10 ∷ []) ∷ (w (codes "y") ∷ n 0 ∷ n 1 ∷ n 80 ∷ []) ∷ [])) ∷
    -- a grouped expression gives the group's value of it
    over_both (codes "SELECT b * 2, MAX(g) FROM t GROUP BY b * 2 HAVING b * 2 > 20 AND COUNT(*) = 1") (Some ((n 40 ∷ n 2 ∷ []) ∷ (n 60 ∷ n 3 ∷ []) ∷ [])) ∷
    over_both (codes "SELECT MIN(s), MAX(s), AVG(b), AVG(d) FROM t") (Some ((w (codes "x") ∷ w (codes "y") ∷ n 28 ∷ n 1127500 ∷ []) ∷ [])) ∷
    -- all rows are one group, also where there are none
    over_none (codes "SELECT COUNT(*), SUM(a), 1 FROM t") (Some ((n 0 ∷ Null ∷ n 1 ∷ []) ∷ [])) ∷
    over_none (codes "SELECT COUNT(*) FROM t GROUP BY a") (Some []) ∷ over_none (codes "SELECT 1 FROM t HAVING COUNT(*) > 0") (Some []) ∷
    -- arguments are evaluated on every row, and calls in every group, also where nothing looks at them
    over_both (codes "SELECT COUNT(b + 2147483647) FILTER (WHERE FALSE) FROM t") None ∷
    over_both (codes "SELECT CASE WHEN TRUE THEN 1 ELSE SUM(2147483647) END FROM t") None ∷
    over_both (codes "SELECT SUM(2147483647) FROM t GROUP BY b HAVING COUNT(*) = 1") None ∷
    -- joins: NULL equals nothing, and what has no match is padded
    over_both (codes "SELECT t.a, t.b, x FROM t JOIN u ON t.a = u.a") (Some ((n 1 ∷ n 10 ∷ w (codes "x") ∷ []) ∷ (n 1 ∷ n 20 ∷ w (codes "x") ∷ []) ∷ [])) ∷
    over_both (codes "SELECT b, x FROM t LEFT JOIN u ON t.a = u.a AND b > 10") (Some ((n 10 ∷ Null ∷ []) ∷ (n 20 ∷ w (codes "x") ∷ []) ∷ (n 30 ∷ Null ∷ []) ∷ (n 40 ∷ Null ∷ []) ∷ (n 40 ∷ Null ∷ []) ∷ [])) ∷
    over_both (codes "SELECT b, x FROM t RIGHT JOIN u ON t.a = u.a") (Some ((Null ∷ w (codes "z") ∷ []) ∷ (n 10 ∷ w (codes "x") ∷ []) ∷ (n 20 ∷ w (codes "x") ∷ []) ∷ [])) ∷
    over_both (codes "SELECT COUNT(*) FROM t FULL JOIN u ON t.a = u.a") (Some ((n 6 ∷ []) ∷ [])) ∷
    -- the rest is evaluated only on rows that agree on the pairs
    over_both (codes "SELECT x FROM t JOIN u ON t.a = u.a AND b + 2147483620 > 0") (Some ((w (codes "x") ∷ []) ∷ (w (codes "x") ∷ []) ∷ [])) ∷
    over_both (codes "SELECT x FROM t JOIN u ON t.a > u.a AND b + 2147483620 > 0") None ∷
    -- EXISTS, NOT EXISTS and IN: NULL equals nothing here either
    over_both (codes "SELECT b FROM t WHERE EXISTS (SELECT 1 FROM u WHERE u.a = t.a)") (Some ((n 10 ∷ []) ∷ (n 20 ∷ []) ∷ [])) ∷
    over_both (codes "SELECT b FROM t WHERE NOT EXISTS (SELECT 1 FROM u WHERE u.a = t.a)") (Some ((n 30 ∷ []) ∷ (n 40 ∷ []) ∷ (n 40 ∷ []) ∷ [])) ∷
    over_both (codes "SELECT b FROM t WHERE (NOT ((EXISTS (SELECT * FROM u WHERE x = s))))") (Some ((n 30 ∷ []) ∷ (n 40 ∷ []) ∷ (n 40 ∷ []) ∷ [])) ∷
    over_both (codes "SELECT b FROM t WHERE a IN (SELECT a FROM u)") (Some ((n 10 ∷ []) ∷ (n 20 ∷ []) ∷ [])) ∷
    over_both (codes "SELECT b FROM t WHERE g IN (SELECT a FROM u)") (Some ((n 10 ∷ []) ∷ (n 30 ∷ []) ∷ [])) ∷
    over_both (codes "SELECT b FROM t WHERE d IN (SELECT a FROM u)") (Some ((n 40 ∷ []) ∷ (n 40 ∷ []) ∷ [])) ∷
    -- a subquery's own columns hide those outside
    over_both (codes "SELECT b FROM t WHERE EXISTS (SELECT 1 FROM u WHERE a = 3)") (Some ((n 10 ∷ []) ∷ (n 20 ∷ []) ∷ (n 30 ∷ []) ∷ (n 40 ∷ []) ∷ (n 40 ∷ []) ∷ [])) ∷
    over_both (codes "SELECT b FROM t WHERE NOT EXISTS (SELECT 1 FROM u AS t WHERE t.a = 1 AND t.b = 20)") (Some ((n 10 ∷ []) ∷ (n 30 ∷ []) ∷ (n 40 ∷ []) ∷ (n 40 ∷ []) ∷ [])) ∷
    -- one within another
    over_both (codes "SELECT x FROM u WHERE EXISTS (SELECT 1 FROM t WHERE t.a = u.a AND EXISTS (SELECT 1 FROM u AS v WHERE v.x = t.s))") (Some ((w (codes "x") ∷ []) ∷ [])) ∷
    -- what looks outside is evaluated as in an ON; what doesn't, once, also where there are no rows outside; the select list never
    over_both (codes "SELECT b FROM t WHERE EXISTS (SELECT 1 FROM u WHERE u.a = t.a AND b + 2147483620 > 0)") (Some ((n 10 ∷ []) ∷ (n 20 ∷ []) ∷ [])) ∷
    over_both (codes "SELECT b FROM t WHERE EXISTS (SELECT 1 FROM u WHERE u.a > t.a AND b + 2147483620 > 0)") None ∷
    record { text = codes "SELECT b FROM t WHERE EXISTS (SELECT 1 FROM u WHERE a + 2147483647 > 0)"; of_t = []; of_u = u_rows; rows = None } ∷
    over_both (codes "SELECT x FROM u WHERE EXISTS (SELECT b + 2147483647 FROM t)") (Some ((w (codes "x") ∷ []) ∷ (w (codes "z") ∷ []) ∷ [])) ∷
    -- the other conjuncts come first, and then the subqueries in their order, each on the rows that are left
    over_both (codes "SELECT b FROM t WHERE b + 2147483617 IN (SELECT a FROM u)") None ∷
    over_both (codes "SELECT b FROM t WHERE b + 2147483617 IN (SELECT a FROM u) AND b < 40") (Some []) ∷
    over_both (codes "SELECT b FROM t WHERE a IN (SELECT a FROM u) AND b + 2147483620 IN (SELECT a FROM u)") (Some []) ∷
    over_both (codes "SELECT b FROM t WHERE b + 2147483620 IN (SELECT a FROM u) AND a IN (SELECT a FROM u)") None ∷
    -- DISTINCT and UNION ALL
    over_both (codes "SELECT DISTINCT a FROM t") (Some ((Null ∷ []) ∷ (n 1 ∷ []) ∷ (n 2 ∷ []) ∷ [])) ∷
    over_both (codes "SELECT a FROM u UNION ALL SELECT g FROM t WHERE a = 1 UNION ALL SELECT a FROM u") (Some ((n 1 ∷ []) ∷ (n 1 ∷ []) ∷ (n 1 ∷ []) ∷ (n 2 ∷ []) ∷ (n 3 ∷ []) ∷ (n 3 ∷ []) ∷ [])) ∷
    over_both (codes "SELECT c, COUNT(*) FROM (SELECT a AS k, COUNT(*) AS c FROM t GROUP BY a) AS x GROUP BY c") (Some ((n 1 ∷ n 1 ∷ []) ∷ (n 2 ∷ n 2 ∷ []) ∷ [])) ∷
    -- INTERSECT and EXCEPT: each row once, or with ALL each copy; NULL counts as equal to NULL
    over_both (codes "SELECT a FROM t EXCEPT SELECT a FROM u") (Some ((Null ∷ []) ∷ (n 2 ∷ []) ∷ [])) ∷
    over_both (codes "SELECT a FROM t EXCEPT ALL SELECT a FROM u") (Some ((Null ∷ []) ∷ (Null ∷ []) ∷ (n 1 ∷ []) ∷ (n 2 ∷ []) ∷ [])) ∷
    over_both (codes "SELECT a FROM t INTERSECT SELECT a FROM t WHERE b > 15") (Some ((Null ∷ []) ∷ (n 1 ∷ []) ∷ (n 2 ∷ []) ∷ [])) ∷
    over_both (codes "SELECT a FROM t INTERSECT ALL SELECT a FROM t WHERE b > 15") (Some ((Null ∷ []) ∷ (Null ∷ []) ∷ (n 1 ∷ []) ∷ (n 2 ∷ []) ∷ [])) ∷
    over_both (codes "SELECT a FROM u UNION ALL SELECT a FROM u EXCEPT ALL SELECT a FROM t UNION ALL SELECT g FROM t INTERSECT SELECT a FROM u") (Some ((n 1 ∷ []) ∷ (n 3 ∷ []) ∷ (n 3 ∷ []) ∷ (n 3 ∷ []) ∷ [])) ∷ []
