-- Short names for what stands often in the examples.
use Rattle.std.specs.Prelude.{ℕ, false, List, map, Option, None, codes, [], ◌∷◌}
use Rattle.sql_syntax.specs.declared.tree.SetWord.TheVariants.{UnionAll}
use Rattle.sql_syntax.specs.Tree.{Text, Tree, Name, Query, query_of, Term, term_of, term_tail_of, Select, select_of, One, Source, Table, SortList, no_joins, no_select_tails, no_sorts, no_term_tails, no_trees, no_tree, items, term_tails}

abbrev pub name : List ℕ → Tree
name word = Name None word false

abbrev pub a : Tree
a = name (codes "a")

abbrev pub b : Tree
b = name (codes "b")

abbrev pub c : Tree
c = name (codes "c")

abbrev pub d : Tree
d = name (codes "d")

abbrev pub e : Tree
e = name (codes "e")

abbrev pub f : Tree
f = name (codes "f")

abbrev pub g : Tree
g = name (codes "g")

abbrev pub v : Tree
v = name (codes "v")

-- a table of this name, without an alias
abbrev pub table : List ℕ → Source
table word = Table word None

-- SELECT one value FROM a source, and nothing else
abbrev pub pick : Tree → Source → Select
pick value source = select_of false (items (One value None ∷ [])) source no_joins no_tree no_trees no_tree

-- the term of one select
abbrev pub one : Select → Term
one select = term_of select no_select_tails

-- the query of one select, and nothing else
abbrev pub the : Select → Query
the select = query_of (one select) no_term_tails no_sorts None

-- selects with UNION ALL between them, their order, and their limit
abbrev pub union_of : Select → List Select → SortList → Option Text → Query
union_of first others order limit = query_of (one first) (term_tails (map (λ x. term_tail_of UnionAll (one x)) others)) order limit
