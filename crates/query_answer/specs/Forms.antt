-- The form of a select and of a query.
use Rattle.std.specs.Prelude.{Bool, true, false, not, ◌&&◌, ◌||◌, ◌==◌, List, [], length, Option, None}
use Rattle.sql_syntax.specs.Tree as t
use Rattle.query_answer.specs.Calls.{Call, calls}
use Rattle.query_answer.specs.Shapes.{has_tree}

abbrev pub item_calls : t.Item → List Call
item_calls t.All = []
item_calls (t.AllOf source) = []
item_calls (t.One x name) = calls x

abbrev pub items_have_calls : t.Items → Bool
items_have_calls t.no_items = false
items_have_calls (t.item_and x xs) = not (length (item_calls x) == 0) || items_have_calls xs

abbrev pub has_groups : t.Trees → Bool
has_groups t.no_trees = false
has_groups (t.tree_and x xs) = true

-- a select without DISTINCT, aggregates, GROUP BY and HAVING
abbrev pub is_simple : t.Select → Bool
is_simple (t.select_of distinct items from joins condition groups having) = not (distinct || (items_have_calls items || (has_groups groups || has_tree having)))

-- no select stands behind the first of a term, and no term behind the first of a query
abbrev pub none_behind : t.SelectTails → t.TermTails → Bool
none_behind t.no_select_tails t.no_term_tails = true
none_behind _ _ = false

-- a query of one select
abbrev pub is_alone : t.Query → Bool
is_alone (t.query_of (t.term_of x xs) ts order limit) = none_behind xs ts

-- neither ORDER BY nor LIMIT stands on a query
abbrev pub is_plain : t.SortList → Option t.Text → Bool
is_plain t.no_sorts None = true
is_plain _ _ = false

-- a query that is one select
abbrev pub is_sole : t.Query → Bool
is_sole (t.query_of (t.term_of x xs) ts order limit) = none_behind xs ts && is_plain order limit

-- the select that a query begins with
abbrev pub first_select : t.Query → t.Select
first_select (t.query_of (t.term_of x xs) ts order limit) = x
