-- Items of a select list, and what each is read as.
use Rattle.std.specs.Prelude.{ℕ, true, false, List, ◌++◌, Some, None, codes, [], ◌∷◌}
use Rattle.ct_value.specs.declared.value.CompareOp.TheVariants.{Eq, Ne, Lt, Le, Gt, Ge}
use Rattle.sql_syntax.specs.Tree.{Or, And, Not, Exists, Compare, IsNull, Between, InList, InQuery, Like, Sum, Product, Sign, Number, Str, Truth, Null, Name, Call, Cast, Paren, Sub, Case, Item, One, sort_of, sum_tail_of, product_tail_of, tree_when_of, Empty, Star, Values, over_of, no_tree, some_tree, no_over, some_over, items, sort_list, trees, sum_tails, product_tails, tree_whens}
use Rattle.sql_syntax.specs.declared.tree.SumWord.TheVariants.{Plus, Minus, Concat}
use Rattle.sql_syntax.specs.declared.tree.ProductWord.TheVariants.{Times, Divide, Modulo}
use Rattle.text_examples.specs.Words.{a, b, c, d, name, pick, the, table}

-- the text, and the item
abbrev pub read_items : List (List ℕ × Item)
read_items =
    -- literals and names
    (codes "1", One (Number (codes "1")) None) ∷
    (codes "007", One (Number (codes "007")) None) ∷
    (codes "1.50", One (Number (codes "1.50")) None) ∷
    (codes "12345678901234567890.0", One (Number (codes "12345678901234567890.0")) None) ∷
    (codes "''", One (Str []) None) ∷
    (codes "'a b'", One (Str (codes "a b")) None) ∷
    (codes "'it''s'", One (Str (codes "it's")) None) ∷
    (codes "''''", One (Str (codes "'")) None) ∷
    ((codes "'" ++ (195 ∷ 169 ∷ codes "`" ++ (34 ∷ codes "'"))), One (Str (195 ∷ 169 ∷ codes "`" ++ (34 ∷ []))) None) ∷
    (codes "TRUE", One (Truth true) None) ∷
    (codes "False", One (Truth false) None) ∷
    (codes "null", One Null None) ∷
    (codes "a", One a None) ∷
    (codes "_a1", One (name (codes "_a1")) None) ∷
    (codes "Int", One (name (codes "Int")) None) ∷
    (codes "t.a", One (Name (Some (codes "t")) (codes "a") false) None) ∷
    (codes "t . a", One (Name (Some (codes "t")) (codes "a") false) None) ∷
    (codes "`a`", One (Name None (codes "a") true) None) ∷
    (codes "`select`", One (Name None (codes "select") true) None) ∷
    (codes "`a b.c`", One (Name None (codes "a b.c") true) None) ∷
    (codes "`a``b`", One (Name None (codes "a`b") true) None) ∷
    (codes "````", One (Name None (codes "`") true) None) ∷
    (codes "t.`a`", One (Name (Some (codes "t")) (codes "a") true) None) ∷
    (codes "`t`.a", One (Name (Some (codes "t")) (codes "a") false) None) ∷
    -- parentheses
    (codes "(a)", One (Paren a) None) ∷
    (codes "((a))", One (Paren (Paren a)) None) ∷
    (codes "(SELECT b FROM u)", One (Sub (the (pick b (table (codes "u"))))) None) ∷
    (codes "((SELECT b FROM u))", One (Paren (Sub (the (pick b (table (codes "u")))))) None) ∷
    -- signs, products and sums
    (codes "-a", One (Sign true a) None) ∷
    (codes "+ 1", One (Sign false (Number (codes "1"))) None) ∷
    (codes "-(-a)", One (Sign true (Paren (Sign true a))) None) ∷
    (codes "a * b", One (Product a (product_tails (product_tail_of Times b ∷ []))) None) ∷
    (codes "a * b / c % d", One (Product a (product_tails (product_tail_of Times b ∷ product_tail_of Divide c ∷ product_tail_of Modulo d ∷ []))) None) ∷
    (codes "a*-b", One (Product a (product_tails (product_tail_of Times (Sign true b) ∷ []))) None) ∷
    (codes "-a*b", One (Product (Sign true a) (product_tails (product_tail_of Times b ∷ []))) None) ∷
    (codes "a + b", One (Sum a (sum_tails (sum_tail_of Plus b ∷ []))) None) ∷
    (codes "a + b - c || d", One (Sum a (sum_tails (sum_tail_of Plus b ∷ sum_tail_of Minus c ∷ sum_tail_of Concat d ∷ []))) None) ∷
    (codes "a+-b", One (Sum a (sum_tails (sum_tail_of Plus (Sign true b) ∷ []))) None) ∷
    (codes "a * b + c * d", One (Sum (Product a (product_tails (product_tail_of Times b ∷ []))) (sum_tails (sum_tail_of Plus (Product c (product_tails (product_tail_of Times d ∷ []))) ∷ []))) None) ∷
    (codes "a * (b + c)", One (Product a (product_tails (product_tail_of Times (Paren (Sum b (sum_tails (sum_tail_of Plus c ∷ [])))) ∷ []))) None) ∷
    (codes "(a + b) + c", One (Sum (Paren (Sum a (sum_tails (sum_tail_of Plus b ∷ [])))) (sum_tails (sum_tail_of Plus c ∷ []))) None) ∷
    (codes "'a'||'b'", One (Sum (Str (codes "a")) (sum_tails (sum_tail_of Concat (Str (codes "b")) ∷ []))) None) ∷
    -- comparisons
    (codes "a = b", One (Compare Eq a b) None) ∷
    (codes "a <> b", One (Compare Ne a b) None) ∷
    (codes "a!=b", One (Compare Ne a b) None) ∷
    (codes "a<b", One (Compare Lt a b) None) ∷
    (codes "a<=b", One (Compare Le a b) None) ∷
    (codes "a > b", One (Compare Gt a b) None) ∷
    (codes "a >= b", One (Compare Ge a b) None) ∷
    (codes "a + 1 < b * 2", One (Compare Lt (Sum a (sum_tails (sum_tail_of Plus (Number (codes "1")) ∷ []))) (Product b (product_tails (product_tail_of Times (Number (codes "2")) ∷ [])))) None) ∷
    (codes "(a = b) = c", One (Compare Eq (Paren (Compare Eq a b)) c) None) ∷
    (codes "a IS NULL", One (IsNull a false) None) ∷
    (codes "a is not null", One (IsNull a true) None) ∷
    (codes "a + 1 IS NULL", One (IsNull (Sum a (sum_tails (sum_tail_of Plus (Number (codes "1")) ∷ []))) false) None) ∷
    (codes "a BETWEEN 1 AND 2", One (Between a (Number (codes "1")) (Number (codes "2")) false) None) ∷
    (codes "a NOT BETWEEN b - 1 AND b + 1", One (Between a (Sum b (sum_tails (sum_tail_of Minus (Number (codes "1")) ∷ []))) (Sum b (sum_tails (sum_tail_of Plus (Number (codes "1")) ∷ []))) true) None) ∷
    (codes "a BETWEEN 1 AND 2 AND b", One (And (trees ((Between a (Number (codes "1")) (Number (codes "2")) false) ∷ b ∷ []))) None) ∷
    (codes "a IN (1)", One (InList a (trees ((Number (codes "1")) ∷ [])) false) None) ∷
    (codes "a NOT IN (1, b OR c)", One (InList a (trees ((Number (codes "1")) ∷ (Or (trees (b ∷ c ∷ []))) ∷ [])) true) None) ∷
    (codes "a IN (SELECT b FROM u)", One (InQuery a (the (pick b (table (codes "u")))) false) None) ∷
    (codes "a NOT IN (SELECT b FROM u)", One (InQuery a (the (pick b (table (codes "u")))) true) None) ∷
    (codes "a IN ((SELECT b FROM u))", One (InList a (trees ((Sub (the (pick b (table (codes "u"))))) ∷ [])) false) None) ∷
    (codes "a LIKE 'x%'", One (Like a (Str (codes "x%")) false) None) ∷
    (codes "a NOT LIKE b || '_'", One (Like a (Sum b (sum_tails (sum_tail_of Concat (Str (codes "_")) ∷ []))) true) None) ∷
    (codes "EXISTS (SELECT b FROM u)", One (Exists (the (pick b (table (codes "u"))))) None) ∷
    -- NOT, AND and OR
    (codes "NOT a", One (Not a) None) ∷
    (codes "NOT a = b", One (Not (Compare Eq a b)) None) ∷
    (codes "NOT (NOT a)", One (Not (Paren (Not a))) None) ∷
    (codes "not exists (select b from u)", One (Not (Exists (the (pick b (table (codes "u")))))) None) ∷
    (codes "a AND b", One (And (trees (a ∷ b ∷ []))) None) ∷
    (codes "a AND b AND c", One (And (trees (a ∷ b ∷ c ∷ []))) None) ∷
    (codes "a OR b OR c", One (Or (trees (a ∷ b ∷ c ∷ []))) None) ∷
    (codes "a OR b AND NOT c", One (Or (trees (a ∷ (And (trees (b ∷ (Not c) ∷ []))) ∷ []))) None) ∷
    (codes "a AND b OR c AND d", One (Or (trees ((And (trees (a ∷ b ∷ []))) ∷ (And (trees (c ∷ d ∷ []))) ∷ []))) None) ∷
    (codes "(a OR b) AND c", One (And (trees ((Paren (Or (trees (a ∷ b ∷ [])))) ∷ c ∷ []))) None) ∷
    (codes "(a OR b) OR c", One (Or (trees ((Paren (Or (trees (a ∷ b ∷ [])))) ∷ c ∷ []))) None) ∷
    -- CASE and CAST
    (codes "CASE WHEN a THEN 1 END", One (Case (tree_whens (tree_when_of a (Number (codes "1")) ∷ [])) no_tree) None) ∷
    (codes "CASE WHEN a THEN 1 ELSE 2 END", One (Case (tree_whens (tree_when_of a (Number (codes "1")) ∷ [])) (some_tree (Number (codes "2")))) None) ∷
    (codes "case when a = b then 1 when c then 2 end", One (Case (tree_whens (tree_when_of (Compare Eq a b) (Number (codes "1")) ∷ tree_when_of c (Number (codes "2")) ∷ [])) no_tree) None) ∷
    (codes "CASE WHEN a THEN 1 END + 2", One (Sum (Case (tree_whens (tree_when_of a (Number (codes "1")) ∷ [])) no_tree) (sum_tails (sum_tail_of Plus (Number (codes "2")) ∷ []))) None) ∷
    (codes "CAST(a AS INT)", One (Cast a (record { name = codes "INT"; numbers = [] })) None) ∷
    (codes "cast(a + 1 as Decimal(10, 2))", One (Cast (Sum a (sum_tails (sum_tail_of Plus (Number (codes "1")) ∷ []))) (record { name = codes "Decimal"; numbers = (codes "10") ∷ (codes "2") ∷ [] })) None) ∷
    (codes "CAST(NULL AS `my type`(3))", One (Cast Null (record { name = codes "my type"; numbers = (codes "3") ∷ [] })) None) ∷
    -- calls
    (codes "f()", One (Call (codes "f") Empty no_tree no_over) None) ∷
    (codes "COUNT(*)", One (Call (codes "COUNT") Star no_tree no_over) None) ∷
    (codes "f(a, b + 1)", One (Call (codes "f") (Values false (trees (a ∷ (Sum b (sum_tails (sum_tail_of Plus (Number (codes "1")) ∷ []))) ∷ []))) no_tree no_over) None) ∷
    (codes "COUNT(DISTINCT a)", One (Call (codes "COUNT") (Values true (trees (a ∷ []))) no_tree no_over) None) ∷
    (codes "f(distinct a, b)", One (Call (codes "f") (Values true (trees (a ∷ b ∷ []))) no_tree no_over) None) ∷
    (codes "`f g` (a)", One (Call (codes "f g") (Values false (trees (a ∷ []))) no_tree no_over) None) ∷
    (codes "f(g(a))", One (Call (codes "f") (Values false (trees ((Call (codes "g") (Values false (trees (a ∷ []))) no_tree no_over) ∷ []))) no_tree no_over) None) ∷
    (codes "SUM(a) FILTER (WHERE b > 0)", One (Call (codes "SUM") (Values false (trees (a ∷ []))) (some_tree (Compare Gt b (Number (codes "0")))) no_over) None) ∷
    (codes "f() OVER (ORDER BY a)", One (Call (codes "f") Empty no_tree (some_over (over_of (trees []) (sort_list (sort_of a false ∷ []))))) None) ∷
    (codes "f() OVER (PARTITION BY a, b ORDER BY c DESC, d + 1 ASC)", One (Call (codes "f") Empty no_tree (some_over (over_of (trees (a ∷ b ∷ [])) (sort_list (sort_of c true ∷ sort_of (Sum d (sum_tails (sum_tail_of Plus (Number (codes "1")) ∷ []))) false ∷ []))))) None) ∷
    (codes "f(*) FILTER (WHERE a) OVER (ORDER BY b)", One (Call (codes "f") Star (some_tree a) (some_over (over_of (trees []) (sort_list (sort_of b false ∷ []))))) None) ∷
    -- names of items
    (codes "a AS b", One a (Some (codes "b"))) ∷
    (codes "a b", One a (Some (codes "b"))) ∷
    (codes "1 a", One (Number (codes "1")) (Some (codes "a"))) ∷
    (codes "a + b `c d`", One (Sum a (sum_tails (sum_tail_of Plus b ∷ []))) (Some (codes "c d"))) ∷
    []
