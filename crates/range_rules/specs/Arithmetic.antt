-- Whether arithmetic stands in a script: a sum, a product, a sign, a CAST, SUM or AVG. Nothing else can leave a type's range.
use Rattle.std.specs.Prelude.{Bool, true, false, ◌||◌, List, [], ◌∷◌, codes}
use Rattle.std.specs.Str.{str_eq_ignore_ascii_case}
use Rattle.sql_syntax.specs.Tree as t

-- the aggregates whose sum can leave a type's range
abbrev pub is_sum_or_avg : t.Text → Bool
is_sum_or_avg name = str_eq_ignore_ascii_case name (codes "SUM") || str_eq_ignore_ascii_case name (codes "AVG")

unfoldable mutual
  pub in_query : t.Query → Bool
  in_query (t.query_of first rest order limit) = (in_term first || in_term_tails rest) || in_sorts order

  pub in_term : t.Term → Bool
  in_term (t.term_of x xs) = in_select x || in_select_tails xs

  pub in_term_tails : t.TermTails → Bool
  in_term_tails t.no_term_tails = false
  in_term_tails (t.term_tail_and (t.term_tail_of word x) xs) = in_term x || in_term_tails xs

  pub in_select_tails : t.SelectTails → Bool
  in_select_tails t.no_select_tails = false
  in_select_tails (t.select_tail_and (t.select_tail_of all x) xs) = in_select x || in_select_tails xs

  pub in_select : t.Select → Bool
  in_select (t.select_of distinct items from joins kept groups having) = in_items items || (in_source from || (in_joins joins || (in_optional kept || (in_trees groups || in_optional having))))

  pub in_item : t.Item → Bool
  in_item t.All = false
  in_item (t.AllOf table) = false
  in_item (t.One value name) = in_tree value

  pub in_source : t.Source → Bool
  in_source (t.Table name alias) = false
  in_source (t.FromQuery query alias) = in_query query

  pub in_join : t.JoinItem → Bool
  in_join (t.join_of word source on) = in_source source || in_tree on

  pub in_sort : t.Sort → Bool
  in_sort (t.sort_of value descending) = in_tree value

  pub in_tree : t.Tree → Bool
  in_tree (t.Or trees) = in_trees trees
  in_tree (t.And trees) = in_trees trees
  in_tree (t.Not value) = in_tree value
  in_tree (t.Exists query) = in_query query
  in_tree (t.Compare op left right) = in_tree left || in_tree right
  in_tree (t.IsNull value negated) = in_tree value
  in_tree (t.Between value low high negated) = in_tree value || (in_tree low || in_tree high)
  in_tree (t.InList value items negated) = in_tree value || in_trees items
  in_tree (t.InQuery value query negated) = in_tree value || in_query query
  in_tree (t.Like value pattern negated) = in_tree value || in_tree pattern
  in_tree (t.Sum first rest) = true
  in_tree (t.Product first rest) = true
  in_tree (t.Sign minus value) = true
  in_tree (t.Number text) = false
  in_tree (t.Str text) = false
  in_tree (t.Truth value) = false
  in_tree t.Null = false
  in_tree (t.Name of name quoted) = false
  in_tree (t.Call name args filter over) = is_sum_or_avg name || (in_args args || (in_optional filter || in_optional_over over))
  in_tree (t.Cast value ty) = true
  in_tree (t.Paren value) = in_tree value
  in_tree (t.Sub query) = in_query query
  in_tree (t.Case whens otherwise) = in_whens whens || in_optional otherwise

  pub in_when : t.TreeWhen → Bool
  in_when (t.tree_when_of cond result) = in_tree cond || in_tree result

  pub in_args : t.Args → Bool
  in_args t.Empty = false
  in_args t.Star = false
  in_args (t.Values distinct trees) = in_trees trees

  pub in_over : t.Over → Bool
  in_over (t.over_of partition order) = in_trees partition || in_sorts order

  pub in_items : t.Items → Bool
  in_items t.no_items = false
  in_items (t.item_and x xs) = in_item x || in_items xs

  pub in_joins : t.JoinItems → Bool
  in_joins t.no_joins = false
  in_joins (t.join_and x xs) = in_join x || in_joins xs

  pub in_sorts : t.SortList → Bool
  in_sorts t.no_sorts = false
  in_sorts (t.sort_and x xs) = in_sort x || in_sorts xs

  pub in_trees : t.Trees → Bool
  in_trees t.no_trees = false
  in_trees (t.tree_and x xs) = in_tree x || in_trees xs

  pub in_whens : t.TreeWhens → Bool
  in_whens t.no_tree_whens = false
  in_whens (t.tree_when_and x xs) = in_when x || in_whens xs

  pub in_optional : t.OptionalTree → Bool
  in_optional t.no_tree = false
  in_optional (t.some_tree x) = in_tree x

  pub in_optional_over : t.OptionalOver → Bool
  in_optional_over t.no_over = false
  in_optional_over (t.some_over x) = in_over x

abbrev pub in_statement : t.Statement → Bool
in_statement (t.Insert table query) = in_query query
in_statement (t.Create name elements options) = false
in_statement (t.Set key value) = false

-- in one of the script's statements
abbrev pub in_statements : List t.Statement → Bool
in_statements [] = false
in_statements (x ∷ xs) = in_statement x || in_statements xs
