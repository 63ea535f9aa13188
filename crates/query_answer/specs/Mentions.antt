-- Whether a name that passes a test is written in a tree, and whether a conjunct names it. What a query names is its own, but for the
-- WHERE of an EXISTS.
use Rattle.std.specs.Prelude.{Bool, false, not, ◌&&◌, ◌||◌, List, Option}
use Rattle.std.specs.List.{list_any}
use Rattle.ct_catalog.specs.declared.table.TableDef.{TableDef}
use Rattle.sql_syntax.specs.Tree.{Tree, Text}
use Rattle.sql_syntax.specs.Tree as t
use Rattle.sql_syntax.specs.Walks.{of_item, or_below, some_part, some_part_of_items, some_part_of_optional, some_part_of_trees}
use Rattle.query_answer.specs.Forms.{first_select, is_alone}
use Rattle.query_answer.specs.SourceColumns.{of_source, sources_have}

-- a name that passes the test
abbrev pub is_such : (Option Text → Text → Bool) → Tree → Bool
is_such test (t.Name of name quoted) = test of name
is_such test _ = false

module _ (test : Option Text → Text → Bool) where
  abbrev pub in_tree : Tree → Bool
  in_tree = some_part (is_such test)

  abbrev pub in_trees : t.Trees → Bool
  in_trees = some_part_of_trees (is_such test)

  abbrev pub in_optional : t.OptionalTree → Bool
  in_optional = some_part_of_optional (is_such test)

  abbrev pub in_items : t.Items → Bool
  in_items = some_part_of_items (is_such test)

  abbrev pub in_item : t.Item → Bool
  in_item = of_item Bool false (λ a b. a || b) (or_below (is_such test))

-- such a name, where the sources of this FROM have no column of it
abbrev pub unless_own : List TableDef → t.Source → t.JoinItems → (Option Text → Text → Bool) → Option Text → Text → Bool
unless_own tables from joins test of name = not (sources_have tables (of_source of) name from joins) && test of name

-- in the WHERE of a select
abbrev pub in_where : List TableDef → (Option Text → Text → Bool) → t.Select → Bool
in_where tables test (t.select_of distinct items from joins condition groups having) = in_optional (unless_own tables from joins test) condition

-- in that of an EXISTS's subquery, which has one select
abbrev pub in_exists : List TableDef → (Option Text → Text → Bool) → t.Query → Bool
in_exists tables test q = is_alone q && in_where tables test (first_select q)

abbrev pub in_conjunct : List TableDef → (Option Text → Text → Bool) → Tree → Bool
in_conjunct tables test (t.Exists q) = in_exists tables test q
in_conjunct tables test (t.Not x) = in_conjunct tables test x
in_conjunct tables test (t.Paren x) = in_conjunct tables test x
in_conjunct tables test x = in_tree test x

-- in one of these conjuncts
abbrev pub in_conjuncts : List TableDef → (Option Text → Text → Bool) → List Tree → Bool
in_conjuncts tables test xs = list_any (in_conjunct tables test) xs
