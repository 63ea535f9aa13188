-- Queries over t (0), u (1) and o (2), and the trees that they are bound to.
use Rattle.std.specs.Prelude.{ℕ, pos, true, false, List, [], ◌∷◌, Option, Some, None, codes}
use Rattle.ct_value.specs.declared.ty.ColTy.{ColTy}
use Rattle.ct_value.specs.declared.ty.Ty.{Ty}
use Rattle.ct_value.specs.declared.ty.Ty.TheVariants.{Bool as Truths, Int, BigInt, Decimal, Text as Texts}
use Rattle.ct_value.specs.declared.value.CompareOp.TheVariants.{Eq, Gt, Ge, Le}
use Rattle.ct_value.specs.declared.value.Value.TheVariants.{Null, Bool as Truth, Num}
use Rattle.ct_expr.specs.declared.expr.ArithOp.TheVariants.{Add, Sub}
use Rattle.ct_expr.specs.Expr.{Expr, Column, Literal, Arith, Compare, And, Or, Not, Case, exprs, whens, some_expr}
use Rattle.rel_algebra.specs.declared.agg.Agg.{Agg}
use Rattle.rel_algebra.specs.declared.agg.AggCall.{AggCall}
use Rattle.rel_algebra.specs.declared.agg.AggCall.TheVariants.{CountAll, Count, CountDistinct, Sum, Max}
use Rattle.rel_algebra.specs.declared.join.JoinKind.TheVariants.{Inner, Left, Right}
use Rattle.rel_algebra.specs.declared.join.Pair.{Pair}
use Rattle.rel_algebra.specs.Rel.{Rel, Scan, Filter, Project, Union, Group, Join, Semi, SetOp, rels}
use Rattle.sql_syntax.specs.Tree.{Text}

abbrev pub a : Expr
a = Column 0 Int

abbrev pub b : Expr
b = Column 1 Int

abbrev f : Expr
f = Column 4 Truths

abbrev pub int : ℕ → Expr
int n = Literal (Num (pos n)) Int

abbrev pub agg : AggCall → Option ℕ → Option ℕ → Agg
agg call arg filter = record { call = call; arg = arg; filter = filter }

abbrev pub pair : ℕ → ℕ → Pair
pair left right = record { left = left; right = right }

abbrev pub bound : List (Text × Rel)
bound =
    -- a Project of the input's columns in place is left out
    (codes "SELECT * FROM u", Scan 1) ∷ (codes "SELECT x.a, x FROM u AS x", Scan 1) ∷ (codes "SELECT a FROM u", Project (Scan 1) (a ∷ [])) ∷
    (codes "SELECT x, a FROM u", Project (Scan 1) (Column 1 Texts ∷ a ∷ [])) ∷
    (codes "SELECT * FROM (SELECT a, b FROM t)", Project (Scan 0) (a ∷ b ∷ [])) ∷
    (codes "SELECT b, a FROM (SELECT b AS a, a AS b FROM t)", Project (Project (Scan 0) (b ∷ a ∷ [])) (b ∷ a ∷ [])) ∷
    -- key pairs of ON, columns of either side written first, and the rest
    (codes "SELECT t.b, u.x FROM t JOIN u ON t.a = u.a", Project (Join (Scan 0) (Scan 1) Inner (pair 0 0 ∷ []) None) (b ∷ Column 7 Texts ∷ [])) ∷
    (codes "SELECT y.x FROM t LEFT JOIN u AS y ON (y.a = (b)) AND f AND s = x AND b > 1", Project (Join (Scan 0) (Scan 1) Left (pair 1 0 ∷ pair 2 1 ∷ []) (Some (And (exprs (f ∷ Compare Gt b (int 1) ∷ []))))) (Column 7 Texts ∷ [])) ∷
    (codes "SELECT u.* FROM u RIGHT JOIN t ON u.a = d OR f", Project (Join (Scan 1) (Scan 0) Right [] (Some (Or (exprs (Compare Eq a (Column 5 (Decimal 5 2)) ∷ Column 6 Truths ∷ []))))) (a ∷ Column 1 Texts ∷ [])) ∷
    -- WHERE is split at its ANDs; BETWEEN is one conjunct
    (codes "SELECT * FROM u WHERE (a = 1)", Filter (Scan 1) (Compare Eq a (int 1))) ∷
    (codes "SELECT * FROM t WHERE f AND (a = 1 AND NOT f)", Filter (Scan 0) (And (exprs (f ∷ Compare Eq a (int 1) ∷ Not f ∷ [])))) ∷
    (codes "SELECT * FROM u WHERE a BETWEEN 1 AND 2", Filter (Scan 1) (And (exprs (Compare Ge a (int 1) ∷ Compare Le a (int 2) ∷ [])))) ∷
    -- a subquery's conjuncts that look outside are the pairs and the rest of a Semi; the others stay inside
    (codes "SELECT * FROM u WHERE EXISTS (SELECT 1 FROM t WHERE t.a = u.a AND f AND t.b > u.a)", Semi (Scan 1) (Filter (Scan 0) f) false (pair 0 0 ∷ []) (Some (Compare Gt (Column 3 Int) a))) ∷
    (codes "SELECT * FROM u WHERE NOT EXISTS (SELECT * FROM t)", Semi (Scan 1) (Scan 0) true [] None) ∷
    (codes "SELECT * FROM u WHERE a IN (SELECT b FROM t) AND a > 1 AND NOT EXISTS (SELECT 1 FROM t WHERE s = x)", Semi (Semi (Filter (Scan 1) (Compare Gt a (int 1))) (Project (Scan 0) (b ∷ [])) false (pair 0 0 ∷ []) None) (Scan 0) true (pair 1 2 ∷ []) None) ∷
    (codes "SELECT * FROM u WHERE a + 1 IN (SELECT b FROM t)", Semi (Scan 1) (Project (Scan 0) (b ∷ [])) false [] (Some (Compare Eq (Arith Add a (int 1)) (Column 2 Int)))) ∷
    -- chains are pairs from the left
    (codes "SELECT a + b - a FROM t", Project (Scan 0) (Arith Sub (Arith Add a b) a ∷ [])) ∷
    -- a NULL is of the type of the other results
    (codes "SELECT CASE WHEN f THEN NULL ELSE g END FROM t", Project (Scan 0) (Case (whens ((f, Literal Null BigInt) ∷ [])) (some_expr (Column 5 BigInt)) ∷ [])) ∷
    -- grouping: the expressions, each argument, each condition
    (codes "SELECT a, COUNT(*) FROM t GROUP BY a", Group (Project (Scan 0) (a ∷ [])) 1 (agg CountAll None None ∷ [])) ∷
    (codes "SELECT COUNT(*) FROM t", Group (Project (Scan 0) []) 0 (agg CountAll None None ∷ [])) ∷
    (codes "SELECT COUNT(DISTINCT x) FROM u GROUP BY a", Project (Group (Scan 1) 1 (agg CountDistinct (Some 1) None ∷ [])) (Column 1 BigInt ∷ [])) ∷
    (codes "SELECT SUM(b) FILTER (WHERE f), s, COUNT(a) FROM t GROUP BY s HAVING MAX(g) FILTER (WHERE f) > 1", Project (Filter (Group (Project (Scan 0) (Column 2 Texts ∷ b ∷ a ∷ Column 5 BigInt ∷ f ∷ f ∷ [])) 1 (agg Sum (Some 1) (Some 4) ∷ agg Count (Some 2) None ∷ agg Max (Some 3) (Some 5) ∷ [])) (Compare Gt (Column 3 BigInt) (int 1))) (Column 1 Int ∷ Column 0 Texts ∷ Column 2 BigInt ∷ [])) ∷
    -- the first equal expression counts, and the outermost equal node
    (codes "SELECT a + 1, a FROM t GROUP BY a, a, a + 1", Project (Group (Project (Scan 0) (a ∷ a ∷ Arith Add a (int 1) ∷ [])) 3 []) (Column 2 Int ∷ a ∷ [])) ∷
    (codes "SELECT * FROM u GROUP BY x, a", Project (Group (Project (Scan 1) (Column 1 Texts ∷ a ∷ [])) 2 []) (b ∷ Column 0 Texts ∷ [])) ∷
    -- equal calls are columns of their own; HAVING alone is a group of all rows
    (codes "SELECT COUNT(*) + COUNT(*) FROM u", Project (Group (Project (Scan 1) []) 0 (agg CountAll None None ∷ agg CountAll None None ∷ [])) (Arith Add (Column 0 BigInt) (Column 1 BigInt) ∷ [])) ∷
    (codes "SELECT 1 FROM u HAVING TRUE", Project (Filter (Group (Project (Scan 1) []) 0 []) (Literal (Truth true) Truths)) (int 1 ∷ [])) ∷
    -- DISTINCT, and UNION ALL as one node
    (codes "SELECT DISTINCT a FROM u", Group (Project (Scan 1) (a ∷ [])) 1 []) ∷
    (codes "SELECT * FROM u UNION ALL SELECT a, s FROM t UNION ALL SELECT * FROM u", Union (rels (Scan 1 ∷ Project (Scan 0) (a ∷ Column 2 Texts ∷ []) ∷ Scan 1 ∷ []))) ∷
    -- INTERSECT binds tighter than UNION ALL and EXCEPT, which are read from the left; a run of UNION ALL without EXCEPT is one node
    (codes "SELECT a FROM t INTERSECT SELECT a FROM u", SetOp (Project (Scan 0) (a ∷ [])) (Project (Scan 1) (a ∷ [])) false false 1) ∷
    (codes "SELECT * FROM u EXCEPT SELECT * FROM u EXCEPT ALL SELECT a, s FROM t", SetOp (SetOp (Scan 1) (Scan 1) true false 2) (Project (Scan 0) (a ∷ Column 2 Texts ∷ [])) true true 2) ∷ (
      codes "SELECT * FROM u UNION ALL SELECT * FROM u EXCEPT SELECT * FROM u UNION ALL SELECT * FROM u INTERSECT ALL SELECT * FROM u",
      Union (rels (SetOp (Union (rels (Scan 1 ∷ Scan 1 ∷ []))) (Scan 1) true false 2 ∷ SetOp (Scan 1) (Scan 1) false true 2 ∷ [])),
    ) ∷ []

abbrev must : Ty → ColTy
must ty = record { ty = ty; nullable = false }

abbrev may : Ty → ColTy
may ty = record { ty = ty; nullable = true }

abbrev named : Text → Option Text
named word = Some word

-- the columns of queries, with the names that naming them from outside takes
abbrev pub columns : List (Text × List (Option Text × ColTy))
columns =
    (codes "SELECT a, (t.b), s AS x, d AS a, a + 1 FROM t", (named (codes "a"), may Int) ∷ (named (codes "b"), must Int) ∷ (named (codes "x"), may Texts) ∷ (named (codes "a"), may (Decimal 5 2)) ∷ (None, may Int) ∷ []) ∷
    (codes "SELECT u.*, x FROM (SELECT a + 1, x FROM u) AS u", (None, may Int) ∷ (named (codes "x"), must Texts) ∷ (named (codes "x"), must Texts) ∷ []) ∷
    -- counts are never NULL; other aggregates may be without GROUP BY and with a FILTER
    (codes "SELECT COUNT(*), COUNT(a), SUM(b), MIN(g), AVG(d) FROM t", (None, must BigInt) ∷ (None, must BigInt) ∷ (None, may Int) ∷ (None, may BigInt) ∷ (None, may (Decimal 38 6)) ∷ []) ∷
    (codes "SELECT a, SUM(b), SUM(a), SUM(d), MAX(b) FILTER (WHERE f) FROM t GROUP BY a", (named (codes "a"), may Int) ∷ (None, must Int) ∷ (None, may Int) ∷ (None, may (Decimal 38 2)) ∷ (None, may Int) ∷ []) ∷
    -- the names of the first select, and common types
    (codes "SELECT b AS n, x FROM (SELECT b, s AS x FROM t) UNION ALL SELECT g, x FROM (SELECT g, 'x' AS x FROM t)", (named (codes "n"), must BigInt) ∷ (named (codes "x"), may Texts) ∷ []) ∷
    -- the side whose rows may be missing
    (codes "SELECT t.b, u.x FROM t LEFT JOIN u ON t.a = u.a", (named (codes "b"), must Int) ∷ (named (codes "x"), may Texts) ∷ []) ∷
    (codes "SELECT t.b, u.x FROM t FULL JOIN u ON t.a = u.a", (named (codes "b"), may Int) ∷ (named (codes "x"), may Texts) ∷ []) ∷
    (codes "SELECT b FROM t UNION ALL SELECT a FROM u", (named (codes "b"), may Int) ∷ []) ∷
    -- NULL may stand in EXCEPT's columns where it may on the left, and in INTERSECT's where it may on both sides
    (codes "SELECT a, b AS x FROM t EXCEPT SELECT b, g FROM t", (named (codes "a"), may Int) ∷ (named (codes "x"), must BigInt) ∷ []) ∷
    (codes "SELECT a, b AS x, a AS y FROM t INTERSECT SELECT b, a, a FROM t", (named (codes "a"), must Int) ∷ (named (codes "x"), must Int) ∷ (named (codes "y"), may Int) ∷ []) ∷ []
