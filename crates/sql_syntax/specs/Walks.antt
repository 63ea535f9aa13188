-- Walks over syntax trees: the parts of a tree, and what is made of a tree from the bottom up.
use Rattle.std.specs.Prelude.{ℕ, suc, ◌+◌, Bool, false, ◌||◌, List, [], ◌∷◌, ◌++◌}
use Rattle.sql_syntax.specs.Tree as t
use Rattle.sql_syntax.specs.Tree.{Tree}

-- ---- the parts of a tree: the trees right below it, in the order in which they are written; those of a query below it are the query's

abbrev pub listed : t.Trees → List Tree
listed t.no_trees = []
listed (t.tree_and x xs) = x ∷ listed xs

abbrev pub sum_parts : t.SumTails → List Tree
sum_parts t.no_sum_tails = []
sum_parts (t.sum_tail_and (t.sum_tail_of word x) xs) = x ∷ sum_parts xs

abbrev pub product_parts : t.ProductTails → List Tree
product_parts t.no_product_tails = []
product_parts (t.product_tail_and (t.product_tail_of word x) xs) = x ∷ product_parts xs

abbrev pub when_parts : t.TreeWhens → List Tree
when_parts t.no_tree_whens = []
when_parts (t.tree_when_and (t.tree_when_of c x) ws) = c ∷ x ∷ when_parts ws

abbrev pub sort_parts : t.SortList → List Tree
sort_parts t.no_sorts = []
sort_parts (t.sort_and (t.sort_of x descending) xs) = x ∷ sort_parts xs

abbrev pub optional_parts : t.OptionalTree → List Tree
optional_parts t.no_tree = []
optional_parts (t.some_tree x) = x ∷ []

abbrev pub args_parts : t.Args → List Tree
args_parts t.Empty = []
args_parts t.Star = []
args_parts (t.Values distinct xs) = listed xs

-- PARTITION BY, then ORDER BY
abbrev pub over_parts : t.OptionalOver → List Tree
over_parts t.no_over = []
over_parts (t.some_over (t.over_of partition order)) = listed partition ++ sort_parts order

unfoldable pub parts : Tree → List Tree
parts (t.Or xs) = listed xs
parts (t.And xs) = listed xs
parts (t.Not x) = x ∷ []
parts (t.Exists q) = []
parts (t.Compare op x y) = x ∷ y ∷ []
parts (t.IsNull x negated) = x ∷ []
parts (t.Between x low high negated) = x ∷ low ∷ high ∷ []
parts (t.InList x xs negated) = x ∷ listed xs
parts (t.InQuery x q negated) = x ∷ []
parts (t.Like x y negated) = x ∷ y ∷ []
parts (t.Sum x xs) = x ∷ sum_parts xs
parts (t.Product x xs) = x ∷ product_parts xs
parts (t.Sign minus x) = x ∷ []
parts (t.Number text) = []
parts (t.Str text) = []
parts (t.Truth truth) = []
parts t.Null = []
parts (t.Name of name quoted) = []
parts (t.Call name args filter over) = args_parts args ++ (optional_parts filter ++ over_parts over)
parts (t.Cast x ty) = x ∷ []
parts (t.Paren x) = x ∷ []
parts (t.Sub q) = []
parts (t.Case whens otherwise) = when_parts whens ++ optional_parts otherwise

-- ---- a fold: `node` makes something of a tree and of what its parts come to, joined by `join` in the order in which they are written

module _ (A : Type 0) (none : A) (join : A → A → A) (node : Tree → A → A) where
  abbrev mutual
    pub of_tree : Tree → A
    of_tree (t.Or xs) = node (t.Or xs) (of_trees xs)
    of_tree (t.And xs) = node (t.And xs) (of_trees xs)
    of_tree (t.Not x) = node (t.Not x) (of_tree x)
    of_tree (t.Exists q) = node (t.Exists q) none
    of_tree (t.Compare op x y) = node (t.Compare op x y) (join (of_tree x) (of_tree y))
    of_tree (t.IsNull x negated) = node (t.IsNull x negated) (of_tree x)
    of_tree (t.Between x low high negated) = node (t.Between x low high negated) (join (of_tree x) (join (of_tree low) (of_tree high)))
    of_tree (t.InList x xs negated) = node (t.InList x xs negated) (join (of_tree x) (of_trees xs))
    of_tree (t.InQuery x q negated) = node (t.InQuery x q negated) (of_tree x)
    of_tree (t.Like x y negated) = node (t.Like x y negated) (join (of_tree x) (of_tree y))
    of_tree (t.Sum x xs) = node (t.Sum x xs) (join (of_tree x) (of_sums xs))
    of_tree (t.Product x xs) = node (t.Product x xs) (join (of_tree x) (of_products xs))
    of_tree (t.Sign minus x) = node (t.Sign minus x) (of_tree x)
    of_tree (t.Number text) = node (t.Number text) none
    of_tree (t.Str text) = node (t.Str text) none
    of_tree (t.Truth truth) = node (t.Truth truth) none
    of_tree t.Null = node t.Null none
    of_tree (t.Name of name quoted) = node (t.Name of name quoted) none
    of_tree (t.Call name args filter over) = node (t.Call name args filter over) (join (of_args args) (join (of_optional filter) (of_over over)))
    of_tree (t.Cast x ty) = node (t.Cast x ty) (of_tree x)
    of_tree (t.Paren x) = node (t.Paren x) (of_tree x)
    of_tree (t.Sub q) = node (t.Sub q) none
    of_tree (t.Case whens otherwise) = node (t.Case whens otherwise) (join (of_whens whens) (of_optional otherwise))

    pub of_trees : t.Trees → A
    of_trees t.no_trees = none
    of_trees (t.tree_and x xs) = join (of_tree x) (of_trees xs)

    pub of_sums : t.SumTails → A
    of_sums t.no_sum_tails = none
    of_sums (t.sum_tail_and (t.sum_tail_of word x) xs) = join (of_tree x) (of_sums xs)

    pub of_products : t.ProductTails → A
    of_products t.no_product_tails = none
    of_products (t.product_tail_and (t.product_tail_of word x) xs) = join (of_tree x) (of_products xs)

    pub of_whens : t.TreeWhens → A
    of_whens t.no_tree_whens = none
    of_whens (t.tree_when_and (t.tree_when_of c x) ws) = join (of_tree c) (join (of_tree x) (of_whens ws))

    pub of_sorts : t.SortList → A
    of_sorts t.no_sorts = none
    of_sorts (t.sort_and (t.sort_of x descending) xs) = join (of_tree x) (of_sorts xs)

    pub of_optional : t.OptionalTree → A
    of_optional t.no_tree = none
    of_optional (t.some_tree x) = of_tree x

    pub of_args : t.Args → A
    of_args t.Empty = none
    of_args t.Star = none
    of_args (t.Values distinct xs) = of_trees xs

    pub of_over : t.OptionalOver → A
    of_over t.no_over = none
    of_over (t.some_over (t.over_of partition order)) = join (of_trees partition) (of_sorts order)

    pub of_items : t.Items → A
    of_items t.no_items = none
    of_items (t.item_and x xs) = join (of_item x) (of_items xs)

    pub of_item : t.Item → A
    of_item t.All = none
    of_item (t.AllOf source) = none
    of_item (t.One x name) = of_tree x

-- ---- whether a tree passes a test, or one below it outside of the queries there

module _ (test : Tree → Bool) where
  abbrev pub or_below : Tree → Bool → Bool
  or_below x below = test x || below

  abbrev pub some_part : Tree → Bool
  some_part = of_tree Bool false (λ a b. a || b) or_below

  -- one of these trees, or one below them
  abbrev pub some_part_of_trees : t.Trees → Bool
  some_part_of_trees = of_trees Bool false (λ a b. a || b) or_below

  abbrev pub some_part_of_optional : t.OptionalTree → Bool
  some_part_of_optional = of_optional Bool false (λ a b. a || b) or_below

  abbrev pub some_part_of_items : t.Items → Bool
  some_part_of_items = of_items Bool false (λ a b. a || b) or_below

-- how many trees stand in a tree outside of the queries there, itself among them
abbrev pub weight : Tree → ℕ
weight = of_tree ℕ 0 (λ a b. a + b) (λ x below. suc below)
