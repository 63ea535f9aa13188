-- What a `Parts` has still to come to.
use Rattle.std.specs.Prelude.{List, [], ◌∷◌, ◌++◌, option_map}
use Rattle.std.specs.Borrow.{Bor}
use Rattle.sql_syntax.specs.declared.parts.Few.{Few}
use Rattle.sql_syntax.specs.declared.parts.Few.TheVariants as l
use Rattle.sql_syntax.specs.declared.parts.Parts.{Parts}
use Rattle.sql_syntax.specs.declared.parts.Series.{Series}
use Rattle.sql_syntax.specs.declared.parts.Series.TheVariants as r
use Rattle.sql_syntax.specs.declared.tree.Tree as d
use Rattle.sql_syntax.specs.Tree.{Tree, optional_tree, product_tails, sort_list, sum_tails, tree_whens, trees}
use Rattle.sql_syntax.specs.View.{product_tails_view, sorts_view, sum_tails_view, trees_view, view, whens_view}
use Rattle.sql_syntax.specs.Walks.{listed, optional_parts, product_parts, sort_parts, sum_parts, when_parts}

-- a tree that is handed out
abbrev pub seen : Bor d.Tree → Tree
seen x = view x.now

abbrev pub few_left : Few → List Tree
few_left l.None = []
few_left (l.One x) = seen x ∷ []
few_left (l.Two x y) = seen x ∷ seen y ∷ []
few_left (l.Three x y z) = seen x ∷ seen y ∷ seen z ∷ []

abbrev pub series_left : Series → List Tree
series_left (r.Trees xs) = listed (trees (trees_view xs.now))
series_left (r.Sums xs) = sum_parts (sum_tails (sum_tails_view xs.now))
series_left (r.Products xs) = product_parts (product_tails (product_tails_view xs.now))
series_left (r.Whens xs) = when_parts (tree_whens (whens_view xs.now))

abbrev pub behind_left : Parts → List Tree
behind_left p = optional_parts (optional_tree (option_map seen p.last)) ++ (listed (trees (trees_view p.partition.now)) ++ sort_parts (sort_list (sorts_view p.order.now)))

unfoldable pub left : Parts → List Tree
left p = few_left p.few ++ (series_left p.series ++ behind_left p)
