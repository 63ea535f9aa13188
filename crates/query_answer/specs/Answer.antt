-- The answer of a query on its tree, with its names: clause by clause, each a function from bags, and from what its expressions are,
-- to a bag or out of range.
use Rattle.std.specs.Prelude.{ℕ, suc, Bool, true, false, cond, not, ◌==◌, List, [], ◌∷◌, ◌++◌, map, filter, flat_map, length, slice_get, Option, Some, None, option_map, option_and_then}
use Rattle.std.specs.Option.{unwrap_or}
use Rattle.std.specs.Str.{bytes_eq}
use Rattle.ct_value.specs.Bag.{none}
use Rattle.ct_value.specs.declared.ty.ColTy.{ColTy}
use Rattle.ct_value.specs.declared.ty.Ty.TheVariants.{Bool as Truths}
use Rattle.ct_value.specs.declared.value.CompareOp.TheVariants.{Eq}
use Rattle.ct_change.specs.Changelog.{Rows}
use Rattle.ct_expr.specs.Types.{col, both_of}
use Rattle.ct_catalog.specs.declared.table.TableDef.{TableDef}
use Rattle.rel_algebra.specs.Clauses.{Meaning, filter_rows, project_rows}
use Rattle.rel_algebra.specs.declared.join.JoinKind.{JoinKind}
use Rattle.rel_algebra.specs.declared.join.Pair.{Pair}
use Rattle.rel_algebra.specs.Joins.{Matching, matching, join_rows, semi_join}
use Rattle.rel_algebra.specs.Ranks.{rank_rows, rank_column}
use Rattle.rel_algebra.specs.Sets.{set_columns, set_form, set_kind, set_rows}
use Rattle.rel_algebra.specs.Sums.{distinct, plus}
use Rattle.rel_algebra.specs.Types.{common_columns}
use Rattle.sql_syntax.specs.declared.tree.SetWord.{SetWord}
use Rattle.sql_syntax.specs.declared.tree.SetWord.TheVariants.{UnionAll, Except, ExceptAll}
use Rattle.sql_syntax.specs.Tree.{Tree, Text}
use Rattle.sql_syntax.specs.Tree as t
use Rattle.query_answer.specs.declared.scope.Found.TheVariants.{Absent, At}
use Rattle.query_answer.specs.declared.scope.Found.{Found}
use Rattle.query_answer.specs.declared.scope.ScopeColumn.{ScopeColumn}
use Rattle.query_answer.specs.Calls.{Call, calls, call_at, arguments, filters}
use Rattle.query_answer.specs.Groups.{grouped_rows, called, key_at, meanings}
use Rattle.query_answer.specs.Joins.{kind_of, plain_column, pair_found, pairs_of, rest_of, join_scope}
use Rattle.query_answer.specs.Names.{Scope, Lookup, find, find_linked, named, column_at, is_called}
use Rattle.query_answer.specs.Outside.{looks_outside}
use Rattle.query_answer.specs.Ranks.{Ranked, Top, ranked_query, places, sorts, top_from, with_rank, without, is_looked_at, reads_rank}
use Rattle.query_answer.specs.Shapes.{shape, place_of, column_shape}
use Rattle.query_answer.specs.SourceColumns.{item_name}
use Rattle.query_answer.specs.Stands.{Leaf, stands, or_else}
use Rattle.query_answer.specs.Table.{Typed, nothing, compare, conjunction}

-- a declared table with its rows
pub record TableRows : Type 0 where
  pub table : TableDef
  pub rows : Rows

-- columns in reach, and the rows over them; None where something that is evaluated is out of range
pub record Reach : Type 0 where
  pub scope : Scope
  pub rows : Option Rows

-- of a query that isn't accepted nothing is said
abbrev pub no_reach : Reach
no_reach = record { scope = []; rows = None }

-- ---- FROM

abbrev pub find_table : List TableRows → Text → Option TableRows
find_table [] name = None
find_table (x ∷ xs) name = cond (bytes_eq name x.table.name) (Some x) (find_table xs name)

abbrev pub under : Option Text → Option Text → ColTy → ScopeColumn
under source name ty = record { source = source; name = name; ty = ty }

-- a table's columns are of its alias, or else of its name
abbrev pub table_scope : Option Text → TableDef → Scope
table_scope alias table = map (λ c. under (Some (unwrap_or alias table.name)) (Some c.name) c.ty) table.cols

abbrev pub read : Option Text → Option TableRows → Reach
read alias None = no_reach
read alias (Some x) = record { scope = table_scope alias x.table; rows = Some x.rows }

-- the columns of a query among the sources are of its alias, if it has one
abbrev pub renamed_scope : Option Text → Scope → Scope
renamed_scope alias scope = map (λ c. under alias c.name c.ty) scope

abbrev pub renamed : Option Text → Reach → Reach
renamed alias r = record { scope = renamed_scope alias r.scope; rows = r.rows }

-- ---- conditions

-- the top-level conjuncts
abbrev mutual
  pub conjuncts : Tree → List Tree
  conjuncts (t.And xs) = all_conjuncts xs
  conjuncts (t.Paren x) = conjuncts x
  conjuncts x = x ∷ []

  pub all_conjuncts : t.Trees → List Tree
  all_conjuncts t.no_trees = []
  all_conjuncts (t.tree_and x xs) = conjuncts x ++ all_conjuncts xs

abbrev pub conjuncts_if : t.OptionalTree → List Tree
conjuncts_if t.no_tree = []
conjuncts_if (t.some_tree x) = conjuncts x

-- a tree at each row, whose columns names stand for by this look-up
abbrev pub by : Lookup → Tree → Typed
by look x = stands (named look) x

-- a tree over the rows of the columns in reach
abbrev pub over : Scope → Tree → Typed
over scope x = by (find scope) x

-- the condition on the pairs of rows that agree
abbrev pub rest_meaning : Lookup → List Tree → Option Meaning
rest_meaning look [] = None
rest_meaning look (x ∷ xs) = Some (conjunction (map (by look) (x ∷ xs))).value

-- when a row of so many columns and one of another side match, by these conjuncts: each pair of rows is tested for the key pairs first,
-- and only on those that agree is the rest evaluated
abbrev pub match_by : ℕ → Lookup → List Tree → Matching
match_by width look cs = matching (pairs_of width look cs) (rest_meaning look (rest_of width look cs))

-- ---- joins

-- the next source of FROM, joined by the conjuncts of its ON
abbrev pub joined : JoinKind → Reach → Reach → Tree → Reach
joined kind left right on = record {
  scope = join_scope kind left.scope right.scope;
  rows = both_of (join_rows kind (length left.scope) (length right.scope) (match_by (length left.scope) (find (left.scope ++ right.scope)) (conjuncts on))) left.rows right.rows;
}

-- ---- WHERE

-- the subquery of an EXISTS: the rows of its sources that its own conjuncts keep, and the conjuncts that look outside
pub record Inside : Type 0 where
  pub reach : Reach
  pub linked : List Tree

-- a top-level conjunct: a condition on a row, EXISTS or with `true` NOT EXISTS, or IN over a query
pub data Part : Type 0 where
  Plain : Tree → Part
  Exists : Bool → Inside → Part
  Member : Tree → Reach → Part

-- the conjuncts without a subquery
abbrev pub plain_parts : List Part → List Tree
plain_parts [] = []
plain_parts (Plain x ∷ ps) = x ∷ plain_parts ps
plain_parts (Exists anti q ∷ ps) = plain_parts ps
plain_parts (Member x q ∷ ps) = plain_parts ps

-- the rows on which all of them are TRUE; every one is evaluated on every row
abbrev pub where_rows : Scope → List Tree → Rows → Option Rows
where_rows scope [] rows = Some rows
where_rows scope (x ∷ xs) rows = filter_rows (conjunction (map (over scope) (x ∷ xs))).value rows

-- when a row outside and one of an EXISTS's subquery match
abbrev pub inside_match : Scope → Inside → Matching
inside_match scope q = match_by (length scope) (find_linked scope q.reach.scope) q.linked

-- when a row and one of a query of one column match: the tree equals that column, which is a key pair or the rest, as in an ON
abbrev pub equal_by : Option Pair → Typed → Matching
equal_by None equal = matching [] (Some equal.value)
equal_by (Some pair) equal = matching (pair ∷ []) None

abbrev pub member_match : Scope → Tree → Scope → Matching
member_match scope x [] left right = Some false
member_match scope x (c ∷ cs) left right =
    let found = At (length scope) c.ty in
    equal_by (pair_found (length scope) (plain_column (find scope) x) found) (compare Eq (over scope x) (column_at found)) left right

-- the rows that a conjunct with a subquery keeps
abbrev pub met : Scope → Part → Option Rows → Option Rows
met scope (Plain x) rows = rows
met scope (Exists anti q) rows = both_of (semi_join anti (inside_match scope q)) rows q.reach.rows
met scope (Member x q) rows = both_of (semi_join false (member_match scope x q.scope)) rows q.rows

-- one after the other
abbrev pub all_met : Scope → List Part → Option Rows → Option Rows
all_met scope [] rows = rows
all_met scope (p ∷ ps) rows = all_met scope ps (met scope p rows)

-- the conjuncts without a subquery come first
abbrev pub filtered : List Part → Reach → Reach
filtered ps r = record { scope = r.scope; rows = all_met r.scope ps (option_and_then (where_rows r.scope (plain_parts ps)) r.rows) }

-- the conjuncts of a subquery that don't look outside
abbrev pub own_parts : Scope → List Part → List Part
own_parts scope [] = []
own_parts scope (Plain x ∷ ps) = cond (looks_outside scope x) (own_parts scope ps) (Plain x ∷ own_parts scope ps)
own_parts scope (Exists anti q ∷ ps) = Exists anti q ∷ own_parts scope ps
own_parts scope (Member x q ∷ ps) = Member x q ∷ own_parts scope ps

abbrev pub within : List Part → Reach → Inside
within ps r = record { reach = filtered (own_parts r.scope ps) r; linked = filter (looks_outside r.scope) (plain_parts ps) }

-- ---- the select list

-- what is listed: a column by its place, for a star, or what is written
pub data Listed : Type 0 where
  Placed : ℕ → Listed
  Written : Tree → Listed
  -- the star of a source that isn't there
  NoSource : Listed

-- with the name of the column that it makes
pub record Entry : Type 0 where
  pub listed : Listed
  pub name : Option Text

-- the columns from the n-th on
abbrev pub placed_from : ℕ → Scope → List Entry
placed_from n [] = []
placed_from n (c ∷ cs) = record { listed = Placed n; name = c.name } ∷ placed_from (suc n) cs

abbrev pub placed_of : Text → ℕ → Scope → List Entry
placed_of source n [] = []
placed_of source n (c ∷ cs) = cond (is_called source c.source) (record { listed = Placed n; name = c.name } ∷ placed_of source (suc n) cs) (placed_of source (suc n) cs)

abbrev pub or_no_source : List Entry → List Entry
or_no_source [] = record { listed = NoSource; name = None } ∷ []
or_no_source (e ∷ es) = e ∷ es

abbrev pub entries_of : Scope → t.Item → List Entry
entries_of scope t.All = placed_from 0 scope
entries_of scope (t.AllOf source) = or_no_source (placed_of source 0 scope)
entries_of scope (t.One x name) = record { listed = Written x; name = item_name x name } ∷ []

abbrev pub entries : Scope → t.Items → List Entry
entries scope t.no_items = []
entries scope (t.item_and x xs) = entries_of scope x ++ entries scope xs

-- the column at a place
abbrev pub found_at : ℕ → Option ScopeColumn → Found
found_at n None = Absent
found_at n (Some c) = At n c.ty

abbrev pub listed_over : Scope → Listed → Typed
listed_over scope (Placed n) = column_at (found_at n (slice_get scope n))
listed_over scope (Written x) = over scope x
listed_over scope NoSource = nothing

-- the column of an item; in a query that is accepted each has a type
abbrev pub some_column : Option ColTy → ColTy
some_column None = col Truths false
some_column (Some column) = column

-- the columns that entries make
abbrev pub headed : List Entry → List Typed → Scope
headed [] xs = []
headed (e ∷ es) [] = []
headed (e ∷ es) (x ∷ xs) = under None e.name (some_column x.column) ∷ headed es xs

abbrev pub plain_select : List Entry → Reach → Reach
plain_select es r =
    let xs = map (λ e. listed_over r.scope e.listed) es in
    record { scope = headed es xs; rows = option_and_then (project_rows (meanings xs)) r.rows }

-- ---- GROUP BY and HAVING

abbrev pub listed_calls : Listed → List Call
listed_calls (Placed n) = []
listed_calls (Written x) = calls x
listed_calls NoSource = []

abbrev pub having_calls : t.OptionalTree → List Call
having_calls t.no_tree = []
having_calls (t.some_tree x) = calls x

-- the calls of a select, as written: those of the items, and then those of HAVING
abbrev pub select_calls : List Entry → t.OptionalTree → List Call
select_calls es having = flat_map (λ e. listed_calls e.listed) es ++ having_calls having

-- a select is grouped where it has GROUP BY, HAVING or an aggregate among its items
abbrev pub is_grouped : List Entry → List Tree → t.OptionalTree → Bool
is_grouped es [] t.no_tree = not (length (select_calls es t.no_tree) == 0)
is_grouped es [] (t.some_tree x) = true
is_grouped es (x ∷ xs) having = true

module _ (scope : Scope) (groups : List Tree) (rows : Rows) where
  -- the GROUP BY expressions
  abbrev pub keys : List Typed
  keys = map (over scope) groups

  abbrev pub call_in : Call → Typed
  call_in c = called keys rows c.call (option_map (over scope) c.arg) (option_map (over scope) c.filter)

  -- what whole nodes stand for in a group of the rows: a call for its value, and any other node that is a GROUP BY expression for the
  -- group's value of the first such
  abbrev pub call_or_key : Option Call → Tree → Option Typed
  call_or_key (Some c) x = Some (call_in c)
  call_or_key None x = key_at keys (place_of (find scope) groups (shape (find scope) x))

  abbrev pub in_group : Leaf
  in_group x = call_or_key (call_at x) x

  abbrev pub listed_in : Listed → Typed
  listed_in (Placed n) = or_else (key_at keys (place_of (find scope) groups (column_shape n))) nothing
  listed_in (Written x) = stands in_group x
  listed_in NoSource = nothing

  abbrev pub having_in : t.OptionalTree → Option Meaning
  having_in t.no_tree = None
  having_in (t.some_tree x) = Some (stands in_group x).value

  -- GROUP BY, HAVING and the items over the rows
  abbrev pub grouped : List Entry → t.OptionalTree → Option Rows
  grouped es having =
      let cs = select_calls es having in
      grouped_rows (meanings keys)
      (meanings (map (over scope) (arguments cs ++ filters cs)))
      (meanings (map call_in cs))
      (having_in having)
      (meanings (map (λ e. listed_in e.listed) es)) rows

-- the columns don't depend on the rows
abbrev pub grouped_select : List Entry → List Tree → t.OptionalTree → Reach → Reach
grouped_select es groups having r = record {
  scope = headed es (map (λ e. listed_in r.scope groups none e.listed) es);
  rows = option_and_then (λ rows. grouped r.scope groups rows es having) r.rows;
}

-- ---- a select, and UNION ALL

-- DISTINCT
abbrev pub once : Bool → Reach → Reach
once true r = record { scope = r.scope; rows = option_map distinct r.rows }
once false r = r

abbrev pub selected : Bool → List Entry → List Tree → t.OptionalTree → Reach → Reach
selected distinct es groups having r =
    once distinct (cond (is_grouped es groups having) (grouped_select es groups having r) (plain_select es r))

abbrev pub listed_trees : t.Trees → List Tree
listed_trees t.no_trees = []
listed_trees (t.tree_and x xs) = x ∷ listed_trees xs

abbrev pub types : Scope → List ColTy
types scope = map (λ c. c.ty) scope

-- columns of these names and types, as long as both go
abbrev pub retyped : Scope → List ColTy → Scope
retyped [] tys = []
retyped (c ∷ cs) [] = []
retyped (c ∷ cs) (ty ∷ tys) = under c.source c.name ty ∷ retyped cs tys

-- the names are those of the first select; the types are common
abbrev pub union_scope : Scope → Scope → Scope
union_scope a b = retyped a (unwrap_or (common_columns (types a) (types b)) [])

abbrev pub union : Reach → Reach → Reach
union a b = record { scope = union_scope a.scope b.scope; rows = plus a.rows b.rows }

-- EXCEPT, or else INTERSECT, with ALL or without: the names are those of the left; NULL counts as equal to NULL
abbrev pub set_scope : Bool → Scope → Scope → Scope
set_scope except a b = retyped a (unwrap_or (set_columns (set_kind except) (types a) (types b)) [])

abbrev pub operated : Bool → Bool → Reach → Reach → Reach
operated except all a b = record { scope = set_scope except a.scope b.scope; rows = both_of (λ left right. Some (set_rows (set_form except all) left right)) a.rows b.rows }

-- what a word between two terms says
abbrev pub by_word : SetWord → Reach → Reach → Reach
by_word UnionAll a b = union a b
by_word Except a b = operated true false a b
by_word ExceptAll a b = operated true true a b

-- ---- Top-N

-- what is listed ahead of a rank or behind it, over the columns of the sources
abbrev pub told : Scope → t.Items → List Typed
told scope items = map (λ e. listed_over scope e.listed) (entries scope items)

-- the rank is the column behind those of the sources
abbrev pub rank_entry : Scope → Text → Entry
rank_entry scope name = record { listed = Placed (length scope); name = Some name }

-- what a list with a rank lists, with the rank where it is kept
abbrev pub ranked_entries : Bool → Scope → Ranked → List Entry
ranked_entries kept scope q = with_rank kept (entries scope q.ahead) (rank_entry scope q.name) (entries scope q.behind)

-- the first rows of each partition, so many, and the list over them
abbrev pub first_ranked : Ranked → ℕ → Bool → Reach → Reach
first_ranked q bound kept r =
    let xs = with_rank kept (told r.scope q.ahead) (column_at (At (length r.scope) rank_column)) (told r.scope q.behind) in
    record {
      scope = headed (ranked_entries kept r.scope q) xs;
      rows = option_and_then (project_rows (meanings xs)) (option_and_then (rank_rows (places (find r.scope) q.partition) (sorts (find r.scope) q.order) bound kept) r.rows);
    }

-- the names of the list, as they are found from outside
abbrev pub ranked_names : Option Text → Scope → Ranked → Scope
ranked_names alias scope q = map (λ e. under alias e.name rank_column) (ranked_entries true scope q)

-- the first conjunct outside that bounds the rank, over a query under this alias whose sources have these columns
abbrev pub top_of : Option Text → Scope → Ranked → List Tree → Option Top
top_of alias scope q cs = top_from 0 (find (ranked_names alias scope q)) (length (entries scope q.ahead)) cs

-- the rank is kept where the select outside looks at it besides its bound
abbrev pub is_kept : List TableDef → Option Text → Ranked → t.Select → ℕ → Bool
is_kept tables alias q (t.select_of distinct items from joins condition groups having) conjunct =
    is_looked_at tables (reads_rank alias q.name) items (without conjunct (conjuncts_if condition)) groups having

-- a query with a rank as the only source: its alias, its list, and the rows that its FROM and its WHERE give
pub record Alone : Type 0 where
  pub alias : Option Text
  pub list : Ranked
  pub reach : Reach

-- what a select reads: its sources side by side, or such a query
pub data Read : Type 0 where
  Joined : Reach → Read
  Only : Alone → Read

abbrev pub read_by : t.JoinItems → Option Alone → Reach → Read
read_by t.no_joins None r = Joined r
read_by t.no_joins (Some x) r = Only x
read_by (t.join_and j js) x r = Joined r

-- FROM with the conjuncts of WHERE that are left
pub record FromWhere : Type 0 where
  pub reach : Reach
  pub parts : List Part

abbrev pub alone_of : Option Text → Option Ranked → FromWhere → Option Alone
alone_of alias None f = None
alone_of alias (Some q) f = Some (record { alias = alias; list = q; reach = filtered f.parts f.reach })

-- the rank's bound is done with where the first rows are read; a rank without a bound isn't accepted
abbrev pub bounded : List TableDef → Alone → t.Select → Option Top → List Part → FromWhere
bounded tables x outer None ps = record { reach = no_reach; parts = ps }
bounded tables x outer (Some top) ps = record { reach = renamed x.alias (first_ranked x.list top.bound (is_kept tables x.alias x.list outer top.conjunct) x.reach); parts = without top.conjunct ps }

abbrev pub select_conjuncts : t.Select → List Tree
select_conjuncts (t.select_of distinct items from joins condition groups having) = conjuncts_if condition

abbrev pub from_where : List TableDef → t.Select → Read → List Part → FromWhere
from_where tables outer (Joined r) ps = record { reach = r; parts = ps }
from_where tables outer (Only x) ps = bounded tables x outer (top_of x.alias x.reach.scope x.list (select_conjuncts outer)) ps

-- the list of a select over the rows that FROM and WHERE give
abbrev pub select_over : t.Select → FromWhere → Reach
select_over (t.select_of distinct items from joins condition groups having) f =
    let r = filtered f.parts f.reach in
    selected distinct (entries r.scope items) (listed_trees groups) having r

-- ---- the tree

module _ (tables : List TableRows) where
  abbrev mutual
    -- the answer of a query: its columns with their names, and its rows
    pub answer : t.Query → Reach
    answer (t.query_of first rest order limit) = beside (answer_term first) rest

    -- terms are put together from the left
    pub beside : Reach → t.TermTails → Reach
    beside r t.no_term_tails = r
    beside r (t.term_tail_and (t.term_tail_of word x) xs) = beside (by_word word r (answer_term x)) xs

    -- the answer of a term, whose selects are intersected from the left
    pub answer_term : t.Term → Reach
    answer_term (t.term_of x xs) = intersected (select_over x (gathered x)) xs

    pub intersected : Reach → t.SelectTails → Reach
    intersected r t.no_select_tails = r
    intersected r (t.select_tail_and (t.select_tail_of all x) xs) = intersected (operated false all r (select_over x (gathered x))) xs

    -- what FROM and WHERE of a select give
    pub gathered : t.Select → FromWhere
    gathered (t.select_of distinct items from joins condition groups having) =
        from_where (map (λ x. x.table) tables) (t.select_of distinct items from joins condition groups having) (read_by joins (alone_in from) (from_joins (answer_source from) joins)) (where_parts condition)

    -- a query of one select, which has a rank
    pub alone_in : t.Source → Option Alone
    alone_in (t.FromQuery (t.query_of (t.term_of x xs) ts order limit) alias) = alone_of alias (ranked_query (t.query_of (t.term_of x xs) ts order limit)) (gathered x)
    alone_in _ = None

    pub answer_source : t.Source → Reach
    answer_source (t.Table name alias) = read alias (find_table tables name)
    answer_source (t.FromQuery q alias) = renamed alias (answer q)

    -- sources are joined from the left
    pub from_joins : Reach → t.JoinItems → Reach
    from_joins r t.no_joins = r
    from_joins r (t.join_and (t.join_of word source on) js) = from_joins (joined (kind_of word) r (answer_source source) on) js

    -- the conjuncts of a WHERE
    pub where_parts : t.OptionalTree → List Part
    where_parts t.no_tree = []
    where_parts (t.some_tree x) = parts x

    pub parts : Tree → List Part
    parts (t.And xs) = all_parts xs
    parts (t.Paren x) = parts x
    parts (t.Exists q) = Exists false (inside q) ∷ []
    parts (t.Not x) = denied (t.Not x) x ∷ []
    parts (t.InQuery x q false) = Member x (answer q) ∷ []
    parts x = Plain x ∷ []

    pub all_parts : t.Trees → List Part
    all_parts t.no_trees = []
    all_parts (t.tree_and x xs) = parts x ++ all_parts xs

    -- the whole conjunct, of which this is denied
    pub denied : Tree → Tree → Part
    denied whole (t.Paren x) = denied whole x
    denied whole (t.Exists q) = Exists true (inside q)
    denied whole _ = Plain whole

    -- its select list is not evaluated
    pub inside : t.Query → Inside
    inside (t.query_of (t.term_of x xs) ts order limit) = let f = gathered x in within f.parts f.reach

  abbrev pub answer_select : t.Select → Reach
  answer_select x = select_over x (gathered x)
