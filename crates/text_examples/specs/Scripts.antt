-- Whole scripts: their statements, or the first one that is refused, with its number.
use Rattle.std.specs.Prelude.{ℕ, true, false, List, ◌++◌, None, codes, [], ◌∷◌}
use Rattle.sql_syntax.specs.Tree.{Sum, select_of, One, sum_tail_of, no_joins, no_trees, no_tree, items, sum_tails, Create, Set, Insert}
use Rattle.sql_syntax.specs.declared.tree.SumWord.TheVariants.{Minus}
use Rattle.sql_syntax.specs.declared.statement.Element.TheVariants.{Column, Key}
use Rattle.sql_grammar.specs.ReadsScripts.{Answer, answered, refused}
use Rattle.ct_value.specs.declared.codes.ScriptCode.TheVariants.{BadToken, Syntax}
use Rattle.text_examples.specs.Words.{a, c, name, pick, the, table}

-- the text, and what it is read as
abbrev pub read_scripts : List (List ℕ × Answer)
read_scripts =
    ([], answered []) ∷ ((codes " " ++ (9 ∷ 13 ∷ 10 ∷ [])), answered []) ∷ (codes "-- nothing", answered []) ∷
    (codes "SET 'a' = 'b';", answered (Set (codes "a") (codes "b") ∷ [])) ∷
    (codes "set'a'='b c';", answered (Set (codes "a") (codes "b c") ∷ [])) ∷
    (codes "SET 'table.exec.state.ttl' = '0 ms';", answered (Set (codes "table.exec.state.ttl") (codes "0 ms") ∷ [])) ∷
    (codes "SET 'a' = 'b'; SET 'c' = ';';", answered (Set (codes "a") (codes "b") ∷ Set (codes "c") (codes ";") ∷ [])) ∷
    -- comments
    ((codes "-- ; ' `" ++ (10 ∷ codes "SET 'a' = 'b'; -- the end" ++ (10 ∷ []))), answered (Set (codes "a") (codes "b") ∷ [])) ∷
    ((codes "SET 'a' = -- c" ++ (13 ∷ 10 ∷ codes "'b';--")), answered (Set (codes "a") (codes "b") ∷ [])) ∷
    ((codes "-- c" ++ (13 ∷ codes "SET 'a' = 'b';")), answered []) ∷
    (codes "SET/**/'a'/* ; ' */=/***/'b';", answered (Set (codes "a") (codes "b") ∷ [])) ∷
    (codes "/* a /* b */ SET 'a' = 'b';", answered (Set (codes "a") (codes "b") ∷ [])) ∷
    (codes "/* -- */ SET 'a' = 'b'; -- /*", answered (Set (codes "a") (codes "b") ∷ [])) ∷
    ((codes "/*" ++ (10 ∷ codes "*/SET '--' = '/*';")), answered (Set (codes "--") (codes "/*") ∷ [])) ∷
    ((codes "INSERT INTO o SELECT a--b" ++ (10 ∷ codes "-c FROM t;")), answered (Insert (codes "o") (the (select_of false (items (One (Sum a (sum_tails (sum_tail_of Minus c ∷ []))) None ∷ [])) (table (codes "t")) no_joins no_tree no_trees no_tree)) ∷ [])) ∷
    (codes "INSERT INTO o SELECT a/*b*/FROM t;", answered (Insert (codes "o") (the (pick a (table (codes "t")))) ∷ [])) ∷
    -- tables
    (codes "CREATE TABLE t (a INT);", answered (Create (codes "t") (Column (codes "a") (record { name = codes "INT"; numbers = [] }) false false ∷ []) [] ∷ [])) ∷
    (codes "create table `a b` (`c d` Dec(5), e NUMERIC(10, 2));", answered (Create (codes "a b") (Column (codes "c d") (record { name = codes "Dec"; numbers = (codes "5") ∷ [] }) false false ∷ Column (codes "e") (record { name = codes "NUMERIC"; numbers = (codes "10") ∷ (codes "2") ∷ [] }) false false ∷ []) [] ∷ [])) ∷
    (codes "CREATE TABLE t (a INT NOT NULL, b INT PRIMARY KEY NOT ENFORCED, c INT NOT NULL PRIMARY KEY NOT ENFORCED);", answered (Create (codes "t") (Column (codes "a") (record { name = codes "INT"; numbers = [] }) true false ∷ Column (codes "b") (record { name = codes "INT"; numbers = [] }) false true ∷ Column (codes "c") (record { name = codes "INT"; numbers = [] }) true true ∷ []) [] ∷ [])) ∷
    (codes "CREATE TABLE t (a INT, b INT, PRIMARY KEY (a) NOT ENFORCED);", answered (Create (codes "t") (Column (codes "a") (record { name = codes "INT"; numbers = [] }) false false ∷ Column (codes "b") (record { name = codes "INT"; numbers = [] }) false false ∷ Key ((codes "a") ∷ []) ∷ []) [] ∷ [])) ∷
    (codes "CREATE TABLE t (PRIMARY KEY (a, `b`) NOT ENFORCED, a INT);", answered (Create (codes "t") (Key ((codes "a") ∷ (codes "b") ∷ []) ∷ Column (codes "a") (record { name = codes "INT"; numbers = [] }) false false ∷ []) [] ∷ [])) ∷
    (codes "CREATE TABLE t (a INT) WITH ('changelog' = 'upsert');", answered (Create (codes "t") (Column (codes "a") (record { name = codes "INT"; numbers = [] }) false false ∷ []) (record { left = codes "changelog"; right = codes "upsert" } ∷ []) ∷ [])) ∷
    (codes "CREATE TABLE t (a my_type(1.5)) WITH ('a' = '', 'it''s' = 'c d');", answered (Create (codes "t") (Column (codes "a") (record { name = codes "my_type"; numbers = (codes "1.5") ∷ [] }) false false ∷ []) (record { left = codes "a"; right = [] } ∷ record { left = codes "it's"; right = codes "c d" } ∷ []) ∷ [])) ∷
    -- inserts
    (codes "INSERT INTO `o p` SELECT a FROM t;", answered (Insert (codes "o p") (the (pick a (table (codes "t")))) ∷ [])) ∷
    (codes "CREATE TABLE t (a INT);INSERT INTO o SELECT a FROM t;SET 'a' = 'b';", answered (Create (codes "t") (Column (codes "a") (record { name = codes "INT"; numbers = [] }) false false ∷ []) [] ∷ Insert (codes "o") (the (pick a (table (codes "t")))) ∷ Set (codes "a") (codes "b") ∷ [])) ∷
    -- the first statement that is refused counts
    (codes "SET 'a' = 'b'; SET; SET #;", refused Syntax 2) ∷ (codes "SET; SET 'a' = #;", refused Syntax 1) ∷
    (codes "SET 'a' = #; SET;", refused BadToken 1) ∷ (codes "SET 'a' = 'b'; SET 'c' = #; SET;", refused BadToken 2) ∷
    (codes "CREATE TABLE t (a INT);SET 'a' = 'b';INSERT INTO o SELECT a FROM t", refused Syntax 3) ∷
    (codes "CREATE TABLE t (a INT);SET 'a' = 'b';INSERT INTO o SELECT a FROM t;;", refused Syntax 4) ∷
    -- bytes within quotes are UTF-8, within comments any
    ((codes "SET 'a' = '" ++ (255 ∷ codes "';")), refused BadToken 1) ∷ ((codes "SET 'a' = '" ++ (195 ∷ codes "';")), refused BadToken 1) ∷
    ((codes "SET 'a' = 'b'; SET '" ++ (237 ∷ 160 ∷ 128 ∷ codes "' = 'c';")), refused BadToken 2) ∷
    ((codes "INSERT INTO `" ++ (255 ∷ codes "` SELECT a FROM t;")), refused BadToken 1) ∷
    ((codes "SET 'a' = 'b';" ++ (0 ∷ [])), refused BadToken 2) ∷
    ((codes "SET /* " ++ (255 ∷ codes " */ 'a' = 'b'; -- " ++ (195 ∷ []))), answered (Set (codes "a") (codes "b") ∷ [])) ∷
    ((codes "SET 'a' = '" ++ (195 ∷ 169 ∷ codes "';")), answered (Set (codes "a") (195 ∷ 169 ∷ []) ∷ [])) ∷ []
