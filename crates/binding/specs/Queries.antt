-- Binding of a query: the first refusal of the walk, or the algebra with the columns in reach.
use Rattle.std.specs.Prelude.{ℕ, suc, ◌+◌, ◌-◌, ◌==◌, nat_lt, Bool, true, false, cond, ◌&&◌, List, [], ◌∷◌, ◌++◌, flat_map, length, slice_get, Option, Some, None, option_map, Ok, Err}
use Rattle.std.specs.List.{list_any, list_all}
use Rattle.std.specs.Str.{bytes_eq}
use Rattle.ct_value.specs.declared.ty.ColTy.{ColTy}
use Rattle.ct_value.specs.declared.value.CompareOp.TheVariants.{Eq}
use Rattle.ct_value.specs.declared.codes.ScriptCode.TheVariants.{UnknownTable, UnknownColumn, AmbiguousColumn, TypeMismatch, Unsupported, NotGrouped, TooManyColumns, RankUnbounded}
use Rattle.ct_expr.specs.Expr.{Expr}
use Rattle.ct_expr.specs.Expr as e
use Rattle.ct_expr.specs.Types.{is_truths}
use Rattle.ct_catalog.specs.declared.table.TableDef.{TableDef}
use Rattle.rel_algebra.specs.declared.agg.Agg.{Agg}
use Rattle.rel_algebra.specs.declared.join.JoinKind.{JoinKind}
use Rattle.rel_algebra.specs.declared.join.Pair.{Pair}
use Rattle.rel_algebra.specs.declared.sort.SortCol.{SortCol}
use Rattle.rel_algebra.specs.Ranks.{rank_column, rank_columns}
use Rattle.rel_algebra.specs.Rel.{Rel, Rels, no_rels, rel_and, rels}
use Rattle.rel_algebra.specs.Rel as r
use Rattle.rel_algebra.specs.declared.sets.SetKind.{SetKind}
use Rattle.rel_algebra.specs.declared.sets.SetKind.TheVariants.{Union}
use Rattle.rel_algebra.specs.Sets.{set_columns, set_kind}
use Rattle.rel_algebra.specs.Types.{is_boolean}
use Rattle.sql_syntax.specs.declared.tree.SetWord.{SetWord}
use Rattle.sql_syntax.specs.declared.tree.SetWord.TheVariants.{UnionAll, Except, ExceptAll}
use Rattle.sql_syntax.specs.Tree.{Tree, Text}
use Rattle.sql_syntax.specs.Tree as t
use Rattle.query_answer.specs.declared.scope.Found.{Found}
use Rattle.query_answer.specs.declared.scope.Found.TheVariants.{At}
use Rattle.query_answer.specs.Calls.{Call}
use Rattle.query_answer.specs.Forms.{is_plain, is_simple, is_sole}
use Rattle.query_answer.specs.Joins.{kind_of, plain_column, pair_found, pair_of, with_pair, pairs_of, rest_of, join_scope}
use Rattle.query_answer.specs.Names.{Scope, find, find_linked, is_called}
use Rattle.query_answer.specs.Outside.{looks_outside}
use Rattle.query_answer.specs.Ranks.{Ranked, Top, ranked_query, ranked_select, with_rank}
use Rattle.query_answer.specs.Shapes.{column_shape}
use Rattle.query_answer.specs.Answer.{conjuncts, under, table_scope, renamed_scope, Listed, Placed, Written, NoSource, Entry, entries, listed_calls, select_calls, is_grouped, listed_trees, types, retyped, ranked_entries, select_conjuncts, top_of, is_kept}
use Rattle.binding.specs.Checked.{Checked, ◌>>=◌, or_code, refused_if}
use Rattle.binding.specs.Nodes.{Bound, expr_list, operands, compare}
use Rattle.binding.specs.Expressions.{Leaf, bound, bound_by, bound_over, names, window_bound, each_bound, conditions, conjuncts_bound, column}
use Rattle.binding.specs.InGroups.{in_group, key_for, has_no_keys, calls_bound, bound_arguments, bound_filters}

-- the algebra, and the columns in reach over its rows
pub record Relation : Type 0 where
  pub rel : Rel
  pub scope : Scope

-- ---- FROM

-- a table with its number, counted from n
abbrev pub find_source : ℕ → List TableDef → Text → Option (ℕ × TableDef)
find_source n [] name = None
find_source n (x ∷ xs) name = cond (bytes_eq name x.name) (Some (n, x)) (find_source (suc n) xs name)

abbrev pub read : Option Text → Option (ℕ × TableDef) → Checked Relation
read alias None = Err UnknownTable
read alias (Some found) = Ok (record { rel = r.Scan found.0; scope = table_scope alias found.1 })

abbrev pub renamed : Option Text → Relation → Relation
renamed alias x = record { rel = x.rel; scope = renamed_scope alias x.scope }

-- ---- conditions

-- one condition is itself, several are their And
abbrev pub all_of : List Bound → Expr
all_of [] = e.And e.no_exprs
all_of (x ∷ []) = x.expr
all_of (x ∷ y ∷ xs) = e.And (operands (x ∷ y ∷ xs))

-- conditions, if there are any, as one
abbrev pub all_if : List Bound → Option Expr
all_if [] = None
all_if (x ∷ xs) = Some (all_of (x ∷ xs))

abbrev pub where_all : List Bound → Rel → Rel
where_all [] input = input
where_all (x ∷ xs) input = r.Filter input (all_of (x ∷ xs))

-- ---- joins

abbrev pub has_source : Scope → Option Text → Bool
has_source scope None = false
has_source scope (Some source) = list_any (λ c. is_called source c.source) scope

-- two sources have one name
abbrev pub share_source : Scope → Scope → Bool
share_source left right = list_any (λ c. has_source left c.source) right

-- the conditions that aren't key pairs, as one
abbrev pub rest_bound : Scope → List Tree → Checked (Option Expr)
rest_bound scope [] = Ok None
rest_bound scope (x ∷ xs) = each_bound scope (x ∷ xs) >>= conditions >>= λ ys. Ok (Some (all_of ys))

-- the condition of ON is refused as a whole, and what is accepted is split
abbrev pub on_bound : JoinKind → Relation → Relation → Tree → Checked Relation
on_bound kind x y on =
    let both = x.scope ++ y.scope in
    let width = length x.scope in
    let cs = conjuncts on in
    conjuncts_bound both on >>= conditions >>= λ all.
    rest_bound both (rest_of width (find both) cs) >>= λ rest.
    Ok (record { rel = r.Join x.rel y.rel kind (pairs_of width (find both) cs) rest; scope = join_scope kind x.scope y.scope })

abbrev pub joined : JoinKind → Relation → Relation → Tree → Checked Relation
joined kind x y on = refused_if (share_source x.scope y.scope) AmbiguousColumn (on_bound kind x y on)

-- ---- the select list

-- each item is the column at its place, and there are as many as the input has columns
abbrev pub is_column : ℕ → Expr → Bool
is_column n (e.Column m ty) = n == m
is_column n _ = false

abbrev pub is_in_place : ℕ → ℕ → List Expr → Bool
is_in_place n width [] = n == width
is_in_place n width (x ∷ xs) = is_column n x && is_in_place (suc n) width xs

-- a Project whose items are the input's columns in place is left out
abbrev pub projected : ℕ → List Bound → Rel → Rel
projected width xs input = cond (is_in_place 0 width (expr_list xs)) input (r.Project input (expr_list xs))

abbrev pub headed : List Entry → List Bound → Scope
headed [] xs = []
headed (e ∷ es) [] = []
headed (e ∷ es) (x ∷ xs) = under None e.name x.column ∷ headed es xs

-- what is listed, the n-th aggregate call being next
abbrev pub Lister : Type 0
Lister = ℕ → Listed → Checked Bound

abbrev pub in_turn : Lister → ℕ → List Entry → Checked (List Bound)
in_turn list n [] = Ok []
in_turn list n (e ∷ es) = list n e.listed >>= λ x. in_turn list (n + length (listed_calls e.listed)) es >>= λ xs. Ok (x ∷ xs)

-- at most 64 columns
abbrev pub few : List Bound → Checked (List Bound)
few xs = refused_if (nat_lt 64 (length xs)) TooManyColumns (Ok xs)

abbrev pub list_bound : Lister → List Entry → Checked (List Bound)
list_bound list es = in_turn list 0 es >>= few

abbrev pub plain_listed : Scope → Lister
plain_listed scope n (Placed m) = or_code UnknownColumn (option_map (λ c. column m c.ty) (slice_get scope m))
plain_listed scope n (Written x) = bound_over scope x
plain_listed scope n NoSource = Err UnknownColumn

abbrev pub plain_select : List Entry → Relation → Checked Relation
plain_select es x =
    list_bound (plain_listed x.scope) es >>= λ xs. Ok (record { rel = projected (length x.scope) xs x.rel; scope = headed es xs })

-- ---- GROUP BY and HAVING

abbrev pub group_listed : Scope → List Tree → List Bound → Lister
group_listed scope groups keys n (Placed m) = or_code NotGrouped (key_for scope groups keys (column_shape m))
group_listed scope groups keys n (Written x) = bound (in_group scope groups keys) n x
group_listed scope groups keys n NoSource = Err UnknownColumn

abbrev pub condition : Bound → Checked Bound
condition x = cond (is_boolean (Some x.column)) (Ok x) (Err TypeMismatch)

abbrev pub having_bound : Leaf → ℕ → t.OptionalTree → Checked (Option Bound)
having_bound leaf n t.no_tree = Ok None
having_bound leaf n (t.some_tree x) = bound leaf n x >>= condition >>= λ a. Ok (Some a)

abbrev pub filter_if : Option Bound → Rel → Rel
filter_if None input = input
filter_if (Some x) input = r.Filter input x.expr

-- the column at n, where there is something
abbrev pub place_if : ℕ → Option Tree → Option ℕ
place_if n None = None
place_if n (Some x) = Some n

abbrev pub next : ℕ → Option Tree → ℕ
next n None = n
next n (Some x) = suc n

-- the aggregates of calls, whose arguments are the columns from m on and whose FILTER conditions are those from n on
abbrev pub aggs_from : ℕ → ℕ → List Call → List Agg
aggs_from m n [] = []
aggs_from m n (c ∷ cs) = record { call = c.call; arg = place_if m c.arg; filter = place_if n c.filter } ∷ aggs_from (next m c.arg) (next n c.filter) cs

-- the GROUP BY expressions, then each argument, then each FILTER condition; grouped
abbrev pub group_rel : ℕ → List Bound → List Bound → List Bound → List Call → Rel → Rel
group_rel width keys args conditions cs input =
    r.Group (projected width (keys ++ (args ++ conditions)) input) (length keys) (aggs_from (length keys) (length keys + length args) cs)

-- the walk comes to HAVING before the items, whose calls are numbered first
abbrev pub grouped_select : List Entry → List Tree → t.OptionalTree → Relation → Checked Relation
grouped_select es groups having x =
    let cs = select_calls es having in
    each_bound x.scope groups >>= λ keys.
    having_bound (in_group x.scope groups keys) (length (flat_map (λ e. listed_calls e.listed) es)) having >>= λ h.
    list_bound (group_listed x.scope groups keys) es >>= λ xs.
    calls_bound x.scope (has_no_keys keys) cs >>= λ ys.
    Ok (record {
      rel = projected (length keys + length cs) xs (filter_if h (group_rel (length x.scope) keys (bound_arguments ys) (bound_filters ys) cs x.rel));
      scope = headed es xs;
    })

-- ---- WHERE

-- what a top-level conjunct is bound to
pub data Part : Type 0 where
  -- a condition on a row in reach
  Own : Bound → Part
  -- within a subquery: one on a row outside with a row of its own, and the key pair that it may be
  Linked : Option Pair → Bound → Part
  -- rows of a subquery are to match, or with `true` none of them
  Matched : Bool → Rel → List Pair → Option Expr → Part

-- the columns outside, which only the subquery of an EXISTS has
abbrev pub Outside : Type 0
Outside = Option Scope

abbrev pub own_part : Scope → Tree → Checked Part
own_part own x = bound_over own x >>= λ a. Ok (Own a)

abbrev pub linked_part : Scope → Scope → Tree → Checked Part
linked_part outside own x =
    bound_by (find_linked outside own) x >>= λ a. Ok (Linked (pair_of (length outside) (find_linked outside own) x) a)

abbrev pub within_part : Scope → Scope → Tree → Checked Part
within_part outside own x = cond (looks_outside own x) (linked_part outside own x) (own_part own x)

abbrev pub plain_part : Outside → Scope → Tree → Checked Part
plain_part None own x = own_part own x
plain_part (Some outside) own x = within_part outside own x

-- conditions are BOOLEAN
abbrev pub is_test : Part → Bool
is_test (Own a) = is_truths a.column.ty
is_test (Linked pair a) = is_truths a.column.ty
is_test (Matched anti right pairs rest) = true

abbrev pub tests : List Part → Checked (List Part)
tests ps = cond (list_all is_test ps) (Ok ps) (Err TypeMismatch)

abbrev pub owns : List Part → List Bound
owns [] = []
owns (Own a ∷ ps) = a ∷ owns ps
owns (Linked pair a ∷ ps) = owns ps
owns (Matched anti right pairs rest ∷ ps) = owns ps

abbrev pub links : List Part → List Pair
links [] = []
links (Own a ∷ ps) = links ps
links (Linked pair a ∷ ps) = with_pair pair (links ps)
links (Matched anti right pairs rest ∷ ps) = links ps

-- what is linked and no key pair
abbrev pub unless_link : Option Pair → Bound → List Bound → List Bound
unless_link None a others = a ∷ others
unless_link (Some pair) a others = others

abbrev pub rests : List Part → List Bound
rests [] = []
rests (Own a ∷ ps) = rests ps
rests (Linked pair a ∷ ps) = unless_link pair a (rests ps)
rests (Matched anti right pairs rest ∷ ps) = rests ps

-- each subquery in the order written
abbrev pub all_matched : List Part → Rel → Rel
all_matched [] input = input
all_matched (Own a ∷ ps) input = all_matched ps input
all_matched (Linked pair a ∷ ps) input = all_matched ps input
all_matched (Matched anti right pairs rest ∷ ps) input = all_matched ps (r.Semi input right anti pairs rest)

-- the rows in reach that all conjuncts keep, but for those that are linked
abbrev pub kept : List Part → Relation → Relation
kept ps x = record { rel = all_matched ps (where_all (owns ps) x.rel); scope = x.scope }

abbrev pub exists_part : Bool → List Part → Relation → Part
exists_part anti ps x = Matched anti (kept ps x).rel (links ps) (all_if (rests ps))

-- a query of one column is asked for its column; a tree that looks outside isn't
abbrev pub only_column : Scope → Checked ColTy
only_column (c ∷ []) = Ok c.ty
only_column _ = Err Unsupported

abbrev pub own_value : Part → Checked Bound
own_value (Own a) = Ok a
own_value _ = Err Unsupported

abbrev pub matched_by : Option Pair → Rel → Bound → Part
matched_by None right equal = Matched false right [] (Some equal.expr)
matched_by (Some pair) right equal = Matched false right (pair ∷ []) None

-- a tree equals the column of a query
abbrev pub member_part : Scope → Tree → Bound → Relation → Checked Part
member_part own x a q =
    only_column q.scope >>= λ ty. compare Eq a (column (length own) ty) >>= λ equal.
    Ok (matched_by (pair_found (length own) (plain_column (find own) x) (At (length own) ty)) q.rel equal)

-- a single one
abbrev pub alone : Part → Checked (List Part)
alone p = Ok (p ∷ [])

-- ---- a select

-- DISTINCT is a Group of all columns
abbrev pub once : Bool → Relation → Relation
once true x = record { rel = r.Group x.rel (length x.scope) []; scope = x.scope }
once false x = x

-- no text has a select that lists nothing
abbrev pub selected : Bool → List Entry → List Tree → t.OptionalTree → Relation → Checked Relation
selected distinct [] groups having x = Err Unsupported
selected distinct (e ∷ es) groups having x =
    cond (is_grouped (e ∷ es) groups having) (grouped_select (e ∷ es) groups having x) (plain_select (e ∷ es) x) >>= λ y. Ok (once distinct y)

-- ---- Top-N

-- PARTITION BY and ORDER BY take plain columns of the select's own sources, by their places
abbrev pub plain_place : Found → Checked ℕ
plain_place (At n ty) = Ok n
plain_place _ = Err Unsupported

abbrev pub places_bound : Scope → t.Trees → Checked (List ℕ)
places_bound scope t.no_trees = Ok []
places_bound scope (t.tree_and x xs) = plain_place (plain_column (find scope) x) >>= λ n. places_bound scope xs >>= λ ns. Ok (n ∷ ns)

abbrev pub sorts_bound : Scope → t.SortList → Checked (List SortCol)
sorts_bound scope t.no_sorts = Ok []
sorts_bound scope (t.sort_and (t.sort_of x desc) xs) = plain_place (plain_column (find scope) x) >>= λ n. sorts_bound scope xs >>= λ sorts. Ok (record { col = n; desc = desc } ∷ sorts)

-- a list with a rank, over the columns of the sources
pub record RankedList : Type 0 where
  pub list : Ranked
  pub input : Relation
  pub ahead : List Bound
  pub partition : List ℕ
  pub order : List SortCol
  pub behind : List Bound

-- the rank is the column behind those of the sources
abbrev pub rank_bound : Scope → Bound
rank_bound scope = column (length scope) rank_column

abbrev pub items_bound : Scope → t.Items → Checked (List Bound)
items_bound scope items = in_turn (plain_listed scope) 0 (entries scope items)

-- PARTITION BY and ORDER BY are walked at the rank's place in the list, as operands are, and then have to be plain columns
abbrev pub ranked_list : Ranked → Relation → Checked RankedList
ranked_list q x =
    items_bound x.scope q.ahead >>= λ xs.
    window_bound (names x.scope) 0 (t.some_over (t.over_of q.partition q.order)) >>= λ walked.
    places_bound x.scope q.partition >>= λ partition.
    sorts_bound x.scope q.order >>= λ order.
    items_bound x.scope q.behind >>= λ ys.
    few (with_rank true xs (rank_bound x.scope) ys) >>= λ all.
    Ok (record { list = q; input = x; ahead = xs; partition = partition; order = order; behind = ys })

-- the first rows of each partition, so many, and the list over them, with the rank where it is kept
abbrev pub first_ranked : ℕ → Bool → RankedList → Relation
first_ranked most kept x =
    let xs = with_rank kept x.ahead (rank_bound x.input.scope) x.behind in
    record {
      rel = projected (length (rank_columns kept (types x.input.scope))) xs (r.Rank x.input.rel x.partition x.order most kept);
      scope = headed (ranked_entries kept x.input.scope x.list) xs;
    }

-- a rank without a bound: it is refused, unless ranks are free; then it counts as one that keeps no rows
abbrev pub unbounded : Bool → RankedList → Checked Relation
unbounded true x = Ok (first_ranked 0 true x)
unbounded false x = Err RankUnbounded

-- a query with a rank as the only source, under its alias
pub record Alone : Type 0 where
  pub alias : Option Text
  pub list : RankedList

-- what a select reads: its sources side by side, or such a query
pub data Read : Type 0 where
  Joined : Relation → Read
  Only : Alone → Read

abbrev pub joined_read : Checked Relation → Checked Read
joined_read x = x >>= λ y. Ok (Joined y)

abbrev pub read_by : t.JoinItems → Option (Checked Alone) → Checked Relation → Checked Read
read_by t.no_joins None x = joined_read x
read_by t.no_joins (Some a) x = a >>= λ y. Ok (Only y)
read_by (t.join_and j js) a x = joined_read x

-- the columns in reach, and which conjunct of the WHERE is spent on them
pub record Framed : Type 0 where
  pub relation : Relation
  pub spent : Option ℕ

abbrev pub bounded : Bool → List TableDef → t.Select → Alone → Option Top → Checked Framed
bounded free sources outer x None = unbounded free x.list >>= λ y. Ok (record { relation = renamed x.alias y; spent = None })
bounded free sources outer x (Some top) =
    Ok (record { relation = renamed x.alias (first_ranked top.bound (is_kept sources x.alias x.list.list outer top.conjunct) x.list); spent = Some top.conjunct })

abbrev pub framed : Bool → List TableDef → t.Select → Read → Checked Framed
framed free sources outer (Joined x) = Ok (record { relation = x; spent = None })
framed free sources outer (Only x) = bounded free sources outer x (top_of x.alias x.list.input.scope x.list.list (select_conjuncts outer))

-- FROM with the conjuncts of WHERE that are left
pub record FromWhere : Type 0 where
  pub relation : Relation
  pub parts : List Part

abbrev pub alone_of : Option Text → Checked FromWhere → Ranked → Checked Alone
alone_of alias f q = f >>= λ f. ranked_list q (kept f.parts f.relation) >>= λ x. Ok (record { alias = alias; list = x })

-- the list of a select over the rows that FROM and WHERE give
abbrev pub listed_by : Bool → Option Ranked → t.Select → Relation → Checked Relation
listed_by free None (t.select_of distinct items from joins condition groups having) x = selected distinct (entries x.scope items) (listed_trees groups) having x
listed_by free (Some q) select x = ranked_list q x >>= unbounded free

abbrev pub select_over : Bool → t.Select → FromWhere → Checked Relation
select_over free select f = listed_by free (ranked_select select) select (kept f.parts f.relation)

-- that of an EXISTS's subquery, of which nothing is made
abbrev pub list_inside : Bool → Option Ranked → t.Select → Relation → Checked (List Bound)
list_inside free None (t.select_of distinct items from joins condition groups having) x = list_bound (plain_listed x.scope) (entries x.scope items)
list_inside free (Some q) select x = ranked_list q x >>= unbounded free >>= λ y. Ok []

abbrev pub exists_over : Bool → Bool → t.Select → FromWhere → Checked Part
exists_over free anti select f = list_inside free (ranked_select select) select f.relation >>= λ listed. Ok (exists_part anti f.parts f.relation)

-- ---- UNION ALL

-- the columns of both; the names are those of the first
abbrev pub united_by : SetKind → Scope → Scope → Checked Scope
united_by kind a b = or_code TypeMismatch (option_map (retyped a) (set_columns kind (types a) (types b)))

abbrev pub united : Scope → Scope → Checked Scope
united = united_by Union

abbrev pub union_of : Rel → Rels → Rel
union_of x no_rels = x
union_of x (rel_and y ys) = r.Union (rel_and x (rel_and y ys))

-- a run of UNION ALL: what stands before its first word, the terms behind, and the columns that are common to all
pub record Run : Type 0 where
  pub first : Rel
  pub others : List Rel
  pub scope : Scope

-- a term, or all that stands before a run
abbrev pub begun : Relation → Run
begun x = record { first = x.rel; others = []; scope = x.scope }

-- the run is one Union, where it has two inputs or more
abbrev pub closed : Run → Relation
closed run = record { rel = union_of run.first (rels run.others); scope = run.scope }

abbrev pub with_term : Run → Relation → Checked Run
with_term run x = united run.scope x.scope >>= λ both. Ok (record { first = run.first; others = run.others ++ x.rel ∷ []; scope = both })

-- ---- INTERSECT and EXCEPT

abbrev pub operated : Bool → Bool → Relation → Relation → Checked Relation
operated except all a b = united_by (set_kind except) a.scope b.scope >>= λ both. Ok (record { rel = r.SetOp a.rel b.rel except all (length a.scope); scope = both })

-- EXCEPT ends a run: what it leaves of all before it begins the next
abbrev pub by_word : SetWord → Run → Relation → Checked Run
by_word UnionAll run x = with_term run x
by_word Except run x = operated true false (closed run) x >>= λ y. Ok (begun y)
by_word ExceptAll run x = operated true true (closed run) x >>= λ y. Ok (begun y)

-- over these tables, of which the query names some; where ranks are free, one needs no bound
module _ (free : Bool) (sources : List TableDef) where
  abbrev mutual
    pub query_bound : t.Query → Checked Relation
    query_bound (t.query_of first rest order limit) =
        term_bound first >>= λ x. beside_bound rest (begun x) >>= λ run. cond (is_plain order limit) (Ok (closed run)) (Err Unsupported)

    -- terms are put together from the left
    pub beside_bound : t.TermTails → Run → Checked Run
    beside_bound t.no_term_tails run = Ok run
    beside_bound (t.term_tail_and (t.term_tail_of word x) xs) run = term_bound x >>= λ y. by_word word run y >>= beside_bound xs

    -- selects are intersected from the left
    pub term_bound : t.Term → Checked Relation
    term_bound (t.term_of x xs) = gathered_bound None x >>= select_over free x >>= intersected_bound xs

    pub intersected_bound : t.SelectTails → Relation → Checked Relation
    intersected_bound t.no_select_tails a = Ok a
    intersected_bound (t.select_tail_and (t.select_tail_of all x) xs) a =
        gathered_bound None x >>= select_over free x >>= λ b. operated false all a b >>= intersected_bound xs

    -- FROM and WHERE of a select
    pub gathered_bound : Outside → t.Select → Checked FromWhere
    gathered_bound outside (t.select_of distinct items from joins condition groups having) =
        read_by joins (alone_bound from) (source_bound from >>= joins_bound joins) >>= framed free sources (t.select_of distinct items from joins condition groups having) >>= λ f.
        where_bound f.spent outside f.relation.scope condition >>= λ ps. Ok (record { relation = f.relation; parts = ps })

    -- a query of one select, which has a rank
    pub alone_bound : t.Source → Option (Checked Alone)
    alone_bound (t.FromQuery (t.query_of (t.term_of x xs) ts order limit) alias) =
        option_map (alone_of alias (gathered_bound None x)) (ranked_query (t.query_of (t.term_of x xs) ts order limit))
    alone_bound _ = None

    pub source_bound : t.Source → Checked Relation
    source_bound (t.Table name alias) = read alias (find_source 0 sources name)
    source_bound (t.FromQuery q alias) = query_bound q >>= λ x. Ok (renamed alias x)

    -- sources and their ON from the left
    pub joins_bound : t.JoinItems → Relation → Checked Relation
    joins_bound t.no_joins x = Ok x
    joins_bound (t.join_and (t.join_of word source on) js) x = source_bound source >>= λ y. joined (kind_of word) x y on >>= joins_bound js

    -- the conjuncts of a WHERE, but for one that may be spent: the operands of an AND are walked first, and then have to be BOOLEAN
    pub where_bound : Option ℕ → Outside → Scope → t.OptionalTree → Checked (List Part)
    where_bound spent outside own t.no_tree = Ok []
    where_bound None outside own (t.some_tree x) = parts_bound outside own x >>= tests
    where_bound (Some n) outside own (t.some_tree x) = parts_but n outside own x >>= tests

    pub parts_bound : Outside → Scope → Tree → Checked (List Part)
    parts_bound outside own (t.And xs) = all_parts_bound outside own xs >>= tests
    parts_bound outside own (t.Paren x) = parts_bound outside own x
    parts_bound outside own (t.Exists q) = exists_bound false own q >>= alone
    parts_bound outside own (t.Not x) = denied_bound outside own (t.Not x) x >>= alone
    parts_bound outside own (t.InQuery x q false) =
        plain_part outside own x >>= own_value >>= λ a. query_bound q >>= member_part own x a >>= alone
    parts_bound outside own x = plain_part outside own x >>= alone

    pub all_parts_bound : Outside → Scope → t.Trees → Checked (List Part)
    all_parts_bound outside own t.no_trees = Ok []
    all_parts_bound outside own (t.tree_and x xs) = parts_bound outside own x >>= λ ps. all_parts_bound outside own xs >>= λ qs. Ok (ps ++ qs)

    -- all but the n-th
    pub parts_but : ℕ → Outside → Scope → Tree → Checked (List Part)
    parts_but n outside own (t.And xs) = all_parts_but n outside own xs >>= tests
    parts_but n outside own (t.Paren x) = parts_but n outside own x
    parts_but n outside own x = Ok []

    pub all_parts_but : ℕ → Outside → Scope → t.Trees → Checked (List Part)
    all_parts_but n outside own t.no_trees = Ok []
    all_parts_but n outside own (t.tree_and x xs) =
        cond (nat_lt n (length (conjuncts x)))
        (parts_but n outside own x >>= λ ps. all_parts_bound outside own xs >>= λ qs. Ok (ps ++ qs))
        (parts_bound outside own x >>= λ ps. all_parts_but (n - length (conjuncts x)) outside own xs >>= λ qs. Ok (ps ++ qs))

    -- the whole conjunct, of which this is denied
    pub denied_bound : Outside → Scope → Tree → Tree → Checked Part
    denied_bound outside own whole (t.Paren x) = denied_bound outside own whole x
    denied_bound outside own whole (t.Exists q) = exists_bound true own q
    denied_bound outside own whole _ = plain_part outside own whole

    -- a query of another form is refused where it stands
    pub exists_bound : Bool → Scope → t.Query → Checked Part
    exists_bound anti outside (t.query_of (t.term_of x xs) ts order limit) =
        cond (is_simple x && is_sole (t.query_of (t.term_of x xs) ts order limit)) (gathered_bound (Some outside) x >>= exists_over free anti x) (Err Unsupported)

  abbrev pub select_bound : t.Select → Checked Relation
  select_bound x = gathered_bound None x >>= select_over free x

  abbrev pub inside_bound : Bool → Scope → t.Select → Checked Part
  inside_bound anti outside x = gathered_bound (Some outside) x >>= exists_over free anti x
