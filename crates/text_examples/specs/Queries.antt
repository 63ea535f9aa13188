-- Queries, and what each is read as.
use Rattle.std.specs.Prelude.{ℕ, true, false, List, Some, None, codes, [], ◌∷◌}
use Rattle.ct_value.specs.declared.value.CompareOp.TheVariants.{Eq, Le, Gt}
use Rattle.sql_syntax.specs.Tree.{Or, And, Exists, Compare, Sum, Number, Truth, Name, Call, Query, query_of, term_of, term_tail_of, select_tail_of, select_of, All, AllOf, One, Table, FromQuery, join_of, sort_of, sum_tail_of, Empty, Star, over_of, no_joins, no_sorts, no_trees, no_tree, some_tree, no_over, some_over, no_term_tails, select_tails, term_tails, items, joins, sort_list, trees, sum_tails}
use Rattle.sql_syntax.specs.declared.tree.JoinWord.TheVariants.{Inner, Left, Right, Full}
use Rattle.sql_syntax.specs.declared.tree.SetWord.TheVariants.{UnionAll, Except, ExceptAll}
use Rattle.sql_syntax.specs.declared.tree.SumWord.TheVariants.{Plus}
use Rattle.text_examples.specs.Words.{a, b, c, d, e, f, g, v, name, one, pick, the, table, union_of}

-- the text, and the query
abbrev pub read_queries : List (List ℕ × Query)
read_queries =
    -- items
    (codes "SELECT * FROM t", the (select_of false (items (All ∷ [])) (table (codes "t")) no_joins no_tree no_trees no_tree)) ∷
    (codes "SELECT t.*, a, u . * FROM t", the (select_of false (items (AllOf (codes "t") ∷ One a None ∷ AllOf (codes "u") ∷ [])) (table (codes "t")) no_joins no_tree no_trees no_tree)) ∷
    (codes "SELECT DISTINCT a FROM t", the (select_of true (items (One a None ∷ [])) (table (codes "t")) no_joins no_tree no_trees no_tree)) ∷
    (codes "select*from t", the (select_of false (items (All ∷ [])) (table (codes "t")) no_joins no_tree no_trees no_tree)) ∷
    (codes "SELECT count FROM value", the (select_of false (items (One (name (codes "count")) None ∷ [])) (Table (codes "value") None) no_joins no_tree no_trees no_tree)) ∷
    -- sources
    (codes "SELECT a FROM t AS x", the (select_of false (items (One a None ∷ [])) (Table (codes "t") (Some (codes "x"))) no_joins no_tree no_trees no_tree)) ∷
    (codes "SELECT a FROM t x", the (select_of false (items (One a None ∷ [])) (Table (codes "t") (Some (codes "x"))) no_joins no_tree no_trees no_tree)) ∷
    (codes "SELECT a FROM `t u` `x y`", the (select_of false (items (One a None ∷ [])) (Table (codes "t u") (Some (codes "x y"))) no_joins no_tree no_trees no_tree)) ∷
    (codes "SELECT a FROM (SELECT b FROM u)", the (select_of false (items (One a None ∷ [])) (FromQuery (the (pick b (table (codes "u")))) None) no_joins no_tree no_trees no_tree)) ∷
    (codes "SELECT a FROM (SELECT b FROM u) AS x", the (select_of false (items (One a None ∷ [])) (FromQuery (the (pick b (table (codes "u")))) (Some (codes "x"))) no_joins no_tree no_trees no_tree)) ∷
    (codes "SELECT a FROM (SELECT b FROM (SELECT c FROM v) y) x", the (select_of false (items (One a None ∷ [])) (FromQuery (the (select_of false (items (One b None ∷ [])) (FromQuery (the (pick c (table (codes "v")))) (Some (codes "y"))) no_joins no_tree no_trees no_tree)) (Some (codes "x"))) no_joins no_tree no_trees no_tree)) ∷
    (codes "SELECT a FROM (SELECT b FROM u UNION ALL SELECT c FROM v LIMIT 1)", the (select_of false (items (One a None ∷ [])) (FromQuery (union_of (pick b (table (codes "u"))) (pick c (table (codes "v")) ∷ []) no_sorts (Some (codes "1"))) None) no_joins no_tree no_trees no_tree)) ∷
    -- joins
    (codes "SELECT a FROM t JOIN u ON b", the (select_of false (items (One a None ∷ [])) (table (codes "t")) (joins (join_of Inner (table (codes "u")) b ∷ [])) no_tree no_trees no_tree)) ∷
    (codes "SELECT a FROM t INNER JOIN u ON b", the (select_of false (items (One a None ∷ [])) (table (codes "t")) (joins (join_of Inner (table (codes "u")) b ∷ [])) no_tree no_trees no_tree)) ∷
    (codes "SELECT a FROM t LEFT JOIN u ON b", the (select_of false (items (One a None ∷ [])) (table (codes "t")) (joins (join_of Left (table (codes "u")) b ∷ [])) no_tree no_trees no_tree)) ∷
    (codes "SELECT a FROM t LEFT OUTER JOIN u ON b", the (select_of false (items (One a None ∷ [])) (table (codes "t")) (joins (join_of Left (table (codes "u")) b ∷ [])) no_tree no_trees no_tree)) ∷
    (codes "SELECT a FROM t RIGHT JOIN u ON b", the (select_of false (items (One a None ∷ [])) (table (codes "t")) (joins (join_of Right (table (codes "u")) b ∷ [])) no_tree no_trees no_tree)) ∷
    (codes "SELECT a FROM t RIGHT OUTER JOIN u ON b", the (select_of false (items (One a None ∷ [])) (table (codes "t")) (joins (join_of Right (table (codes "u")) b ∷ [])) no_tree no_trees no_tree)) ∷
    (codes "SELECT a FROM t FULL JOIN u ON b", the (select_of false (items (One a None ∷ [])) (table (codes "t")) (joins (join_of Full (table (codes "u")) b ∷ [])) no_tree no_trees no_tree)) ∷
    (codes "SELECT a FROM t full outer join u ON b", the (select_of false (items (One a None ∷ [])) (table (codes "t")) (joins (join_of Full (table (codes "u")) b ∷ [])) no_tree no_trees no_tree)) ∷
    (codes "SELECT a FROM t AS x JOIN u AS y ON x.k = y.k AND b LEFT JOIN v ON TRUE", the (select_of false (items (One a None ∷ [])) (Table (codes "t") (Some (codes "x"))) (joins (join_of Inner (Table (codes "u") (Some (codes "y"))) (And (trees ((Compare Eq (Name (Some (codes "x")) (codes "k") false) (Name (Some (codes "y")) (codes "k") false)) ∷ b ∷ []))) ∷ join_of Left (table (codes "v")) (Truth true) ∷ [])) no_tree no_trees no_tree)) ∷
    (codes "SELECT a FROM t JOIN (SELECT b FROM u) AS y ON c", the (select_of false (items (One a None ∷ [])) (table (codes "t")) (joins (join_of Inner (FromQuery (the (pick b (table (codes "u")))) (Some (codes "y"))) c ∷ [])) no_tree no_trees no_tree)) ∷
    -- conditions and groups
    (codes "SELECT a FROM t WHERE b = 1 OR c", the (select_of false (items (One a None ∷ [])) (table (codes "t")) no_joins (some_tree (Or (trees ((Compare Eq b (Number (codes "1"))) ∷ c ∷ [])))) no_trees no_tree)) ∷
    (codes "SELECT a FROM t GROUP BY a", the (select_of false (items (One a None ∷ [])) (table (codes "t")) no_joins no_tree (trees (a ∷ [])) no_tree)) ∷
    (codes "SELECT a FROM t GROUP BY a, b + 1 HAVING COUNT(*) > 1", the (select_of false (items (One a None ∷ [])) (table (codes "t")) no_joins no_tree (trees (a ∷ (Sum b (sum_tails (sum_tail_of Plus (Number (codes "1")) ∷ []))) ∷ [])) (some_tree (Compare Gt (Call (codes "COUNT") Star no_tree no_over) (Number (codes "1")))))) ∷
    (codes "SELECT a FROM t HAVING b", the (select_of false (items (One a None ∷ [])) (table (codes "t")) no_joins no_tree no_trees (some_tree b))) ∷
    (codes "SELECT DISTINCT a b, c FROM t JOIN u ON d WHERE e GROUP BY f HAVING g", the (select_of true (items (One a (Some (codes "b")) ∷ One c None ∷ [])) (table (codes "t")) (joins (join_of Inner (table (codes "u")) d ∷ [])) (some_tree e) (trees (f ∷ [])) (some_tree g))) ∷
    (codes "SELECT a FROM t WHERE EXISTS (SELECT 1 FROM u WHERE u.k = t.k)", the (select_of false (items (One a None ∷ [])) (table (codes "t")) no_joins (some_tree (Exists (the (select_of false (items (One (Number (codes "1")) None ∷ [])) (table (codes "u")) no_joins (some_tree (Compare Eq (Name (Some (codes "u")) (codes "k") false) (Name (Some (codes "t")) (codes "k") false))) no_trees no_tree)))) no_trees no_tree)) ∷
    -- UNION ALL, order and limit
    (codes "SELECT a FROM t UNION ALL SELECT b FROM u", union_of (pick a (table (codes "t"))) (pick b (table (codes "u")) ∷ []) no_sorts None) ∷
    (codes "SELECT a FROM t WHERE b UNION ALL SELECT c FROM u GROUP BY d UNION ALL SELECT * FROM v", union_of (select_of false (items (One a None ∷ [])) (table (codes "t")) no_joins (some_tree b) no_trees no_tree) (select_of false (items (One c None ∷ [])) (table (codes "u")) no_joins no_tree (trees (d ∷ [])) no_tree ∷ select_of false (items (All ∷ [])) (table (codes "v")) no_joins no_tree no_trees no_tree ∷ []) no_sorts None) ∷
    (codes "SELECT a FROM t INTERSECT SELECT b FROM u", query_of (term_of (pick a (table (codes "t"))) (select_tails (select_tail_of false (pick b (table (codes "u"))) ∷ []))) no_term_tails no_sorts None) ∷
    (codes "SELECT a FROM t intersect all SELECT b FROM u INTERSECT SELECT c FROM v", query_of (term_of (pick a (table (codes "t"))) (select_tails (select_tail_of true (pick b (table (codes "u"))) ∷ select_tail_of false (pick c (table (codes "v"))) ∷ []))) no_term_tails no_sorts None) ∷
    (codes "SELECT a FROM t EXCEPT SELECT b FROM u EXCEPT ALL SELECT c FROM v", query_of (one (pick a (table (codes "t")))) (term_tails (term_tail_of Except (one (pick b (table (codes "u")))) ∷ term_tail_of ExceptAll (one (pick c (table (codes "v")))) ∷ [])) no_sorts None) ∷
    (codes "SELECT a FROM t UNION ALL SELECT b FROM u INTERSECT SELECT c FROM v", query_of (one (pick a (table (codes "t")))) (term_tails (term_tail_of UnionAll (term_of (pick b (table (codes "u"))) (select_tails (select_tail_of false (pick c (table (codes "v"))) ∷ []))) ∷ [])) no_sorts None) ∷
    (codes "SELECT a FROM t INTERSECT ALL SELECT b FROM u EXCEPT SELECT c FROM v LIMIT 1", query_of (term_of (pick a (table (codes "t"))) (select_tails (select_tail_of true (pick b (table (codes "u"))) ∷ []))) (term_tails (term_tail_of Except (one (pick c (table (codes "v")))) ∷ [])) no_sorts (Some (codes "1"))) ∷
    (codes "SELECT a FROM `intersect` `except`", the (pick a (Table (codes "intersect") (Some (codes "except"))))) ∷
    (codes "SELECT a FROM t ORDER BY b", union_of (pick a (table (codes "t"))) [] (sort_list (sort_of b false ∷ [])) None) ∷
    (codes "SELECT a FROM t ORDER BY b DESC, c asc, d + 1", union_of (pick a (table (codes "t"))) [] (sort_list (sort_of b true ∷ sort_of c false ∷ sort_of (Sum d (sum_tails (sum_tail_of Plus (Number (codes "1")) ∷ []))) false ∷ [])) None) ∷
    (codes "SELECT a FROM t LIMIT 10", union_of (pick a (table (codes "t"))) [] no_sorts (Some (codes "10"))) ∷
    (codes "SELECT a FROM t HAVING b ORDER BY c LIMIT 1.5", union_of (select_of false (items (One a None ∷ [])) (table (codes "t")) no_joins no_tree no_trees (some_tree b)) [] (sort_list (sort_of c false ∷ [])) (Some (codes "1.5"))) ∷
    (codes "SELECT a FROM t UNION ALL SELECT b FROM u ORDER BY c LIMIT 0", union_of (pick a (table (codes "t"))) (pick b (table (codes "u")) ∷ []) (sort_list (sort_of c false ∷ [])) (Some (codes "0"))) ∷
    (codes "SELECT rn FROM (SELECT a, ROW_NUMBER() OVER (PARTITION BY g ORDER BY v DESC, id) AS rn FROM t) WHERE rn <= 2", the (select_of false (items (One (name (codes "rn")) None ∷ [])) (FromQuery (the (select_of false (items (One a None ∷ One (Call (codes "ROW_NUMBER") Empty no_tree (some_over (over_of (trees (g ∷ [])) (sort_list (sort_of v true ∷ sort_of (name (codes "id")) false ∷ []))))) (Some (codes "rn")) ∷ [])) (table (codes "t")) no_joins no_tree no_trees no_tree)) None) no_joins (some_tree (Compare Le (name (codes "rn")) (Number (codes "2")))) no_trees no_tree)) ∷
    []
