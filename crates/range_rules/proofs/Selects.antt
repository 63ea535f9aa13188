-- A select without arithmetic is bound to a tree that calculates nothing, over a tree that calculates nothing: clause by clause.
use Rattle.std.proofs.Common.{◌≡◌, ℕ, suc, ◌+◌, Bool, true, false, ◌&&◌, ◌||◌, List, [], ◌∷◌, ◌++◌, length, Option, Some, None, cond, Ok, IfOk, refl, option_map, slice_get}
use Rattle.std.specs.Prelude.{flat_map, nat_lt}
use Rattle.std.specs.List.{list_all}
use Rattle.ct_value.specs.declared.codes.ScriptCode.TheVariants.{AmbiguousColumn, UnknownColumn, TypeMismatch, NotGrouped, TooManyColumns}
use Rattle.ct_value.specs.declared.value.CompareOp.TheVariants.{Eq}
use Rattle.ct_catalog.specs.declared.table.TableDef.{TableDef}
use Rattle.rel_algebra.specs.declared.join.JoinKind.{JoinKind}
use Rattle.rel_algebra.specs.declared.join.Pair.{Pair}
use Rattle.rel_algebra.specs.Ranks.{rank_columns}
use Rattle.rel_algebra.specs.Rel.{Rel}
use Rattle.rel_algebra.specs.Rel as r
use Rattle.rel_algebra.specs.Types.{is_boolean}
use Rattle.sql_syntax.specs.Tree.{Tree, Text}
use Rattle.sql_syntax.specs.Tree as t
use Rattle.query_answer.specs.declared.scope.ScopeColumn.{ScopeColumn}
use Rattle.query_answer.specs.Answer.{conjuncts, Listed, Placed, Written, NoSource, Entry, placed_from, placed_of, or_no_source, entries_of, entries, listed_calls, having_calls, select_calls, is_grouped, listed_trees, types, select_conjuncts, top_of, is_kept}
use Rattle.query_answer.specs.Calls.{Call}
use Rattle.query_answer.specs.declared.scope.Found.TheVariants.{At}
use Rattle.query_answer.specs.Joins.{plain_column, pair_found, pair_of, rest_of, unless_pair}
use Rattle.query_answer.specs.Names.{Scope, Lookup, find, find_linked, is_called}
use Rattle.query_answer.specs.Outside.{looks_outside}
use Rattle.query_answer.specs.Forms.{is_simple}
use Rattle.query_answer.specs.Ranks.{Ranked, Top, written_name, has_rank, named_rank, ranked_from, ranked_items, item_over, ranked_select, with_rank}
use Rattle.query_answer.specs.Shapes.{column_shape, place_of}
use Rattle.range_rules.specs.Arithmetic.{in_tree, in_trees, in_optional, in_item, in_items, in_select, in_source, in_joins}
use Rattle.range_rules.specs.Tame.{is_tame, rest_is_tame, is_tame_rel}
use Rattle.binding.specs.Checked.{Checked, ◌>>=◌, or_code}
use Rattle.binding.specs.Expressions.{Leaf, bound, bound_by, bound_over, each_bound, conditions, conjuncts_bound, column, names, window_bound}
use Rattle.binding.specs.InGroups.{in_group, key_for, has_no_keys, calls_bound, bound_arguments, bound_filters}
use Rattle.binding.specs.Nodes.{Bound, expr_list, compare}
use Rattle.binding.specs.Queries.{Relation, Part, Own, Linked, Matched, Outside, own_part, linked_part, plain_part, is_test, tests, owns, rests, all_if, where_all, all_matched, kept, exists_part, own_value, only_column, matched_by, member_part, alone, read, all_of, share_source, rest_bound, on_bound, joined, is_in_place, projected, Lister, in_turn, few, list_bound, plain_listed, plain_select, group_listed, condition, having_bound, filter_if, group_rel, grouped_select, once, selected, RankedList, rank_bound, items_bound, places_bound, sorts_bound, ranked_list, first_ranked, unbounded, Alone, Read, Joined, Only, read_by, Framed, bounded, framed, FromWhere, alone_of, listed_by, select_over, list_inside, exists_over}
use Rattle.range_rules.proofs.Bound.{IsFree, AllFree, tame_append, bound_tame, by_tame, over_tame, each_tame, conditions_tame, conjuncts_free}
use Rattle.range_rules.proofs.Calls.{AreCounts, counts_append, calls_count, aggs_count}
use Rattle.range_rules.proofs.Checked.{bind, then, tested, tested_else, neither}
use Rattle.range_rules.proofs.InGroups.{key_tame, in_group_tame, TameCalls, calls_tame, arguments_tame, filters_tame}
use Rattle.range_rules.proofs.Nodes.{Tame, AllTame, MayBe, operands_tame, compare_tame}

abbrev pub TameRel : Relation → Type 0
TameRel x = is_tame_rel x.rel ≡ true

-- ---- FROM and WHERE

pub read_tame : (alias : Option Text) (found : Option (ℕ × TableDef)) → IfOk (read alias found) TameRel
read_tame alias None = tt
read_tame alias (Some x) = refl

all_of_tame : (xs : List Bound) → AllTame xs → is_tame (all_of xs) ≡ true
all_of_tame [] h = refl
all_of_tame (x ∷ []) h = h.0
all_of_tame (x ∷ y ∷ xs) h = operands_tame (x ∷ y ∷ xs) h

-- ---- WHERE

abbrev pub TamePart : Part → Type 0
TamePart (Own a) = Tame a
TamePart (Linked pair a) = Tame a
TamePart (Matched anti right pairs rest) = (is_tame_rel right ≡ true) × (rest_is_tame rest ≡ true)

abbrev pub TameParts : List Part → Type 0
TameParts [] = Unit {0}
TameParts (p ∷ ps) = TamePart p × TameParts ps

pub parts_append : (ps qs : List Part) → TameParts ps → TameParts qs → TameParts (ps ++ qs)
parts_append [] qs h k = k
parts_append (p ∷ ps) qs h k = (h.0, parts_append ps qs h.1 k)

own_tame : (own : Scope) (x : Tree) → IsFree x → IfOk (own_part own x) TamePart
own_tame own x f = bind (bound_over own x) _ Tame TamePart (over_tame own x f) (λ a h. h)

pub plain_part_tame : (outside : Outside) (own : Scope) (x : Tree) → IsFree x → IfOk (plain_part outside own x) TamePart
plain_part_tame None own x f = own_tame own x f
plain_part_tame (Some outside) own x f = go (looks_outside own x)
  where
    go : (b : Bool) → IfOk (cond b (linked_part outside own x) (own_part own x)) TamePart
    go true = bind (bound_by (find_linked outside own) x) _ Tame TamePart (by_tame (find_linked outside own) x f) (λ a h. h)
    go false = own_tame own x f

pub tests_tame : (ps : List Part) → TameParts ps → IfOk (tests ps) TameParts
tests_tame ps h = tested_else (list_all is_test ps) (Ok ps) TypeMismatch TameParts h

owns_tame : (ps : List Part) → TameParts ps → AllTame (owns ps)
owns_tame [] h = tt
owns_tame (Own a ∷ ps) h = (h.0, owns_tame ps h.1)
owns_tame (Linked pair a ∷ ps) h = owns_tame ps h.1
owns_tame (Matched anti right pairs rest ∷ ps) h = owns_tame ps h.1

rests_tame : (ps : List Part) → TameParts ps → AllTame (rests ps)
rests_tame [] h = tt
rests_tame (Own a ∷ ps) h = rests_tame ps h.1
rests_tame (Linked None a ∷ ps) h = (h.0, rests_tame ps h.1)
rests_tame (Linked (Some pair) a ∷ ps) h = rests_tame ps h.1
rests_tame (Matched anti right pairs rest ∷ ps) h = rests_tame ps h.1

all_if_tame : (xs : List Bound) → AllTame xs → rest_is_tame (all_if xs) ≡ true
all_if_tame [] h = refl
all_if_tame (x ∷ xs) h = all_of_tame (x ∷ xs) h

where_tame : (xs : List Bound) (input : Rel) → AllTame xs → is_tame_rel input ≡ true → is_tame_rel (where_all xs input) ≡ true
where_tame [] input h k = k
where_tame (x ∷ xs) input h k = λ i. k i && all_of_tame (x ∷ xs) h i

matched_tame : (ps : List Part) (input : Rel) → TameParts ps → is_tame_rel input ≡ true → is_tame_rel (all_matched ps input) ≡ true
matched_tame [] input h k = k
matched_tame (Own a ∷ ps) input h k = matched_tame ps input h.1 k
matched_tame (Linked pair a ∷ ps) input h k = matched_tame ps input h.1 k
matched_tame (Matched anti right pairs rest ∷ ps) input h k = matched_tame ps (r.Semi input right anti pairs rest) h.1 (λ i. k i && (h.0.0 i && h.0.1 i))

pub kept_tame : (ps : List Part) (x : Relation) → TameParts ps → TameRel x → TameRel (kept ps x)
kept_tame ps x h k = matched_tame ps (where_all (owns ps) x.rel) h (where_tame (owns ps) x.rel (owns_tame ps h) k)

pub exists_tame : (anti : Bool) (ps : List Part) (x : Relation) → TameParts ps → TameRel x → TamePart (exists_part anti ps x)
exists_tame anti ps x h k = (kept_tame ps x h k, all_if_tame (rests ps) (rests_tame ps h))

pub value_tame : (p : Part) → TamePart p → IfOk (own_value p) Tame
value_tame (Own a) h = h
value_tame (Linked pair a) h = tt
value_tame (Matched anti right pairs rest) h = tt

pub member_tame : (own : Scope) (x : Tree) (a : Bound) (q : Relation) → Tame a → TameRel q → IfOk (member_part own x a q) TamePart
member_tame own x a q h k = then (only_column q.scope) _ TamePart (λ ty.
    bind (compare Eq a (column (length own) ty)) _ Tame TamePart (compare_tame Eq a (column (length own) ty) h refl) (λ equal l.
    go equal l (pair_found (length own) (plain_column (find own) x) (At (length own) ty))))
  where
    go : (equal : Bound) → Tame equal → (o : Option Pair) → TamePart (matched_by o q.rel equal)
    go equal l None = (k, l)
    go equal l (Some pair) = (k, refl)

pub alone_tame : (p : Part) → TamePart p → IfOk (alone p) TameParts
alone_tame p h = (h, tt)

-- ---- joins

rest_free : (width : ℕ) (look : Lookup) (xs : List Tree) → AllFree xs → AllFree (rest_of width look xs)
rest_free width look [] f = tt
rest_free width look (x ∷ xs) f = go (pair_of width look x) (rest_free width look xs f.1)
  where
    go : (o : Option Pair) → AllFree (rest_of width look xs) → AllFree (unless_pair o x (rest_of width look xs))
    go None h = (f.0, h)
    go (Some pair) h = h

rest_tame : (scope : Scope) (xs : List Tree) → AllFree xs → IfOk (rest_bound scope xs) (λ o. rest_is_tame o ≡ true)
rest_tame scope [] f = refl
rest_tame scope (x ∷ xs) f =
    bind (each_bound scope (x ∷ xs) >>= conditions) _ AllTame _
    (bind (each_bound scope (x ∷ xs)) conditions AllTame AllTame (each_tame scope (x ∷ xs) f) conditions_tame)
    (λ ys p. all_of_tame ys p)

on_tame : (kind : JoinKind) (x y : Relation) (on : Tree) → IsFree on → TameRel x → TameRel y → IfOk (on_bound kind x y on) TameRel
on_tame kind x y on f h k =
    let both = x.scope ++ y.scope in
    let width = length x.scope in
    let cs = conjuncts on in
    then (conjuncts_bound both on >>= conditions) _ TameRel (λ all.
    bind (rest_bound both (rest_of width (find both) cs)) _ (λ o. rest_is_tame o ≡ true) TameRel (rest_tame both (rest_of width (find both) cs) (rest_free width (find both) cs (conjuncts_free on f)))
    (λ rest p i. h i && (k i && p i)))

pub joined_tame : (kind : JoinKind) (x y : Relation) (on : Tree) → IsFree on → TameRel x → TameRel y → IfOk (joined kind x y on) TameRel
joined_tame kind x y on f h k = tested (share_source x.scope y.scope) AmbiguousColumn (on_bound kind x y on) TameRel (on_tame kind x y on f h k)

-- ---- what is listed

abbrev FreeListed : Listed → Type 0
FreeListed (Placed n) = Unit {0}
FreeListed (Written x) = IsFree x
FreeListed NoSource = Unit {0}

abbrev pub FreeEntries : List Entry → Type 0
FreeEntries [] = Unit {0}
FreeEntries (e ∷ es) = FreeListed e.listed × FreeEntries es

entries_append : (es ds : List Entry) → FreeEntries es → FreeEntries ds → FreeEntries (es ++ ds)
entries_append [] ds h k = k
entries_append (e ∷ es) ds h k = (h.0, entries_append es ds h.1 k)

placed_free : (n : ℕ) (scope : Scope) → FreeEntries (placed_from n scope)
placed_free n [] = tt
placed_free n (c ∷ cs) = (tt, placed_free (suc n) cs)

source_free : (source : Text) (n : ℕ) (scope : Scope) → FreeEntries (placed_of source n scope)
source_free source n [] = tt
source_free source n (c ∷ cs) = go (is_called source c.source) (source_free source (suc n) cs)
  where
    go : (b : Bool) → FreeEntries (placed_of source (suc n) cs) → FreeEntries (cond b (record { listed = Placed n; name = c.name } ∷ placed_of source (suc n) cs) (placed_of source (suc n) cs))
    go true h = (tt, h)
    go false h = h

or_no_source_free : (es : List Entry) → FreeEntries es → FreeEntries (or_no_source es)
or_no_source_free [] h = (tt, tt)
or_no_source_free (e ∷ es) h = h

item_free : (scope : Scope) (x : t.Item) → in_item x ≡ false → FreeEntries (entries_of scope x)
unfolding in_item
item_free scope t.All f = placed_free 0 scope
item_free scope (t.AllOf source) f = or_no_source_free (placed_of source 0 scope) (source_free source 0 scope)
item_free scope (t.One x name) f = (f, tt)

pub entries_free : (scope : Scope) (xs : t.Items) → in_items xs ≡ false → FreeEntries (entries scope xs)
unfolding in_items
entries_free scope t.no_items f = tt
entries_free scope (t.item_and x xs) f =
    let g = neither (in_item x) (in_items xs) f in
    entries_append (entries_of scope x) (entries scope xs) (item_free scope x g.0) (entries_free scope xs g.1)

abbrev TameLister : Lister → Type 0
TameLister list = (n : ℕ) (l : Listed) → FreeListed l → IfOk (list n l) Tame

in_turn_tame : (list : Lister) → TameLister list → (n : ℕ) (es : List Entry) → FreeEntries es → IfOk (in_turn list n es) AllTame
in_turn_tame list h n [] f = tt
in_turn_tame list h n (e ∷ es) f =
    bind (list n e.listed) _ Tame _ (h n e.listed f.0) (λ x p.
    bind (in_turn list (n + length (listed_calls e.listed)) es) _ AllTame _ (in_turn_tame list h (n + length (listed_calls e.listed)) es f.1) (λ xs q.
    (p, q)))

pub list_tame : (list : Lister) → TameLister list → (es : List Entry) → FreeEntries es → IfOk (list_bound list es) AllTame
list_tame list h es f = bind (in_turn list 0 es) few AllTame AllTame (in_turn_tame list h 0 es f) (λ xs p. tested (nat_lt 64 (length xs)) TooManyColumns (Ok xs) AllTame p)

exprs_tame : (xs : List Bound) → AllTame xs → list_all is_tame (expr_list xs) ≡ true
exprs_tame [] h = refl
exprs_tame (x ∷ xs) h = λ i. h.0 i && exprs_tame xs h.1 i

projected_tame : (width : ℕ) (xs : List Bound) (input : Rel) → AllTame xs → is_tame_rel input ≡ true → is_tame_rel (projected width xs input) ≡ true
projected_tame width xs input h k = go (is_in_place 0 width (expr_list xs))
  where
    go : (b : Bool) → is_tame_rel (cond b input (r.Project input (expr_list xs))) ≡ true
    go true = k
    go false = λ i. k i && exprs_tame xs h i

-- ---- a select without groups

plain_listed_tame : (scope : Scope) → TameLister (plain_listed scope)
plain_listed_tame scope n (Placed m) f = go (slice_get scope m)
  where
    go : (o : Option ScopeColumn) → IfOk (or_code UnknownColumn (option_map (λ c. column m c.ty) o)) Tame
    go None = tt
    go (Some c) = refl
plain_listed_tame scope n (Written x) f = over_tame scope x f
plain_listed_tame scope n NoSource f = tt

plain_tame : (es : List Entry) (x : Relation) → FreeEntries es → TameRel x → IfOk (plain_select es x) TameRel
plain_tame es x f h =
    bind (list_bound (plain_listed x.scope) es) _ AllTame TameRel (list_tame (plain_listed x.scope) (plain_listed_tame x.scope) es f)
    (λ xs p. projected_tame (length x.scope) xs x.rel p h)

-- ---- GROUP BY and HAVING

group_listed_tame : (scope : Scope) (groups : List Tree) (keys : List Bound) → TameLister (group_listed scope groups keys)
group_listed_tame scope groups keys n (Placed m) f = go (key_for scope groups keys (column_shape m)) (key_tame keys (place_of (find scope) groups (column_shape m)))
  where
    go : (o : Option Bound) → MayBe o → IfOk (or_code NotGrouped o) Tame
    go None h = tt
    go (Some y) h = h
group_listed_tame scope groups keys n (Written x) f = bound_tame (in_group scope groups keys) (in_group_tame scope groups keys) x n f
group_listed_tame scope groups keys n NoSource f = tt

having_tame : (leaf : Leaf) → ((n : ℕ) (x : Tree) → IfOk (leaf n x) MayBe) → (n : ℕ) (o : t.OptionalTree) → in_optional o ≡ false → IfOk (having_bound leaf n o) MayBe
unfolding in_optional
having_tame leaf h n t.no_tree f = tt
having_tame leaf h n (t.some_tree x) f =
    bind (bound leaf n x >>= condition) _ Tame MayBe
    (bind (bound leaf n x) condition Tame Tame (bound_tame leaf h x n f) (λ y p. tested_else (is_boolean (Some y.column)) (Ok y) TypeMismatch Tame p))
    (λ y p. p)

filter_tame : (o : Option Bound) (input : Rel) → MayBe o → is_tame_rel input ≡ true → is_tame_rel (filter_if o input) ≡ true
filter_tame None input h k = k
filter_tame (Some x) input h k = λ i. k i && h i

listed_count : (l : Listed) → FreeListed l → AreCounts (listed_calls l)
listed_count (Placed n) f = tt
listed_count (Written x) f = calls_count x f
listed_count NoSource f = tt

entries_count : (es : List Entry) → FreeEntries es → AreCounts (flat_map (λ e. listed_calls e.listed) es)
entries_count [] f = tt
entries_count (e ∷ es) f = counts_append (listed_calls e.listed) (flat_map (λ e. listed_calls e.listed) es) (listed_count e.listed f.0) (entries_count es f.1)

having_count : (o : t.OptionalTree) → in_optional o ≡ false → AreCounts (having_calls o)
unfolding in_optional
having_count t.no_tree f = tt
having_count (t.some_tree x) f = calls_count x f

select_count : (es : List Entry) (having : t.OptionalTree) → FreeEntries es → in_optional having ≡ false → AreCounts (select_calls es having)
select_count es having f g = counts_append (flat_map (λ e. listed_calls e.listed) es) (having_calls having) (entries_count es f) (having_count having g)

group_tame : (width : ℕ) (keys args filters : List Bound) (cs : List Call) (input : Rel) → AllTame keys → AllTame args → AllTame filters → AreCounts cs → is_tame_rel input ≡ true
    → is_tame_rel (group_rel width keys args filters cs input) ≡ true
group_tame width keys args filters cs input f g h k l =
    λ i. projected_tame width (keys ++ (args ++ filters)) input (tame_append keys (args ++ filters) f (tame_append args filters g h)) l i && aggs_count (length keys) (length keys + length args) cs k i

grouped_tame : (es : List Entry) (groups : List Tree) (having : t.OptionalTree) (x : Relation) → FreeEntries es → AllFree groups → in_optional having ≡ false → TameRel x → IfOk (grouped_select es groups having x) TameRel
grouped_tame es groups having x f g k h =
    let cs = select_calls es having in
    let n = length (flat_map (λ e. listed_calls e.listed) es) in
    bind (each_bound x.scope groups) _ AllTame TameRel (each_tame x.scope groups g) (λ keys p.
    bind (having_bound (in_group x.scope groups keys) n having) _ MayBe TameRel (having_tame (in_group x.scope groups keys) (in_group_tame x.scope groups keys) n having k) (λ o q.
    bind (list_bound (group_listed x.scope groups keys) es) _ AllTame TameRel (list_tame (group_listed x.scope groups keys) (group_listed_tame x.scope groups keys) es f) (λ xs l.
    bind (calls_bound x.scope (has_no_keys keys) cs) _ TameCalls TameRel (calls_tame x.scope (has_no_keys keys) cs (select_count es having f k)) (λ ys m.
    let group = group_rel (length x.scope) keys (bound_arguments ys) (bound_filters ys) cs x.rel in
    projected_tame (length keys + length cs) xs (filter_if o group) l
    (filter_tame o group q (group_tame (length x.scope) keys (bound_arguments ys) (bound_filters ys) cs x.rel p (arguments_tame ys m) (filters_tame ys m) (select_count es having f k) h))))))

-- ---- a select

once_tame : (distinct : Bool) (x : Relation) → TameRel x → TameRel (once distinct x)
once_tame true x h = λ i. h i && true
once_tame false x h = h

trees_free : (xs : t.Trees) → in_trees xs ≡ false → AllFree (listed_trees xs)
unfolding in_trees
trees_free t.no_trees f = tt
trees_free (t.tree_and x xs) f = let g = neither (in_tree x) (in_trees xs) f in (g.0, trees_free xs g.1)

pub selected_tame : (distinct : Bool) (es : List Entry) (groups : t.Trees) (having : t.OptionalTree) (x : Relation) → FreeEntries es → in_trees groups ≡ false → in_optional having ≡ false → TameRel x
    → IfOk (selected distinct es (listed_trees groups) having x) TameRel
selected_tame distinct [] groups having x f g k h = tt
selected_tame distinct (e ∷ es) groups having x f g k h = go (is_grouped (e ∷ es) (listed_trees groups) having)
  where
    go : (b : Bool) → IfOk (cond b (grouped_select (e ∷ es) (listed_trees groups) having x) (plain_select (e ∷ es) x) >>= λ y. Ok (once distinct y)) TameRel
    go true = bind (grouped_select (e ∷ es) (listed_trees groups) having x) _ TameRel TameRel (grouped_tame (e ∷ es) (listed_trees groups) having x f (trees_free groups g) k h) (λ y p. once_tame distinct y p)
    go false = bind (plain_select (e ∷ es) x) _ TameRel TameRel (plain_tame (e ∷ es) x f h) (λ y p. once_tame distinct y p)

-- ---- Top-N

-- the items beside the rank
abbrev pub FreeRanked : Option Ranked → Type 0
FreeRanked None = Unit {0}
FreeRanked (Some q) = (in_items q.ahead ≡ false) × (in_items q.behind ≡ false)

behind_free : (name : Option Text) (over : t.Over) (xs : t.Items) → in_items xs ≡ false → FreeRanked (named_rank name over xs)
unfolding in_items
behind_free None over xs f = tt
behind_free (Some name) (t.over_of partition order) xs f = (refl, f)

from_free : (o : t.OptionalOver) (x : t.Item) (xs : t.Items) (others : Option Ranked) → in_item x ≡ false → in_items xs ≡ false → FreeRanked others → FreeRanked (ranked_from o x xs others)
unfolding in_items
from_free t.no_over x xs None f g h = tt
from_free t.no_over x xs (Some q) f g h = (λ i. f i || h.0 i, h.1)
from_free (t.some_over over) x xs others f g h = go (has_rank xs)
  where
    go : (b : Bool) → FreeRanked (cond b None (named_rank (written_name x) over xs))
    go true = tt
    go false = behind_free (written_name x) over xs g

items_free : (xs : t.Items) → in_items xs ≡ false → FreeRanked (ranked_items xs)
unfolding in_items
items_free t.no_items f = tt
items_free (t.item_and x xs) f =
    let g = neither (in_item x) (in_items xs) f in
    from_free (item_over x) x xs (ranked_items xs) g.0 g.1 (items_free xs g.1)

pub ranked_free : (x : t.Select) → in_select x ≡ false → FreeRanked (ranked_select x)
unfolding in_select
ranked_free (t.select_of distinct items from joins condition groups having) f = go (is_simple (t.select_of distinct items from joins condition groups having)) (items_free items (neither (in_items items) _ f).0)
  where
    go : (b : Bool) → FreeRanked (ranked_items items) → FreeRanked (cond b (ranked_items items) None)
    go true h = h
    go false h = tt

abbrev pub TameList : RankedList → Type 0
TameList x = AllTame x.ahead × (AllTame x.behind × TameRel x.input)

items_tame : (scope : Scope) (xs : t.Items) → in_items xs ≡ false → IfOk (items_bound scope xs) AllTame
items_tame scope xs f = in_turn_tame (plain_listed scope) (plain_listed_tame scope) 0 (entries scope xs) (entries_free scope xs f)

pub ranked_list_tame : (q : Ranked) (x : Relation) → FreeRanked (Some q) → TameRel x → IfOk (ranked_list q x) TameList
ranked_list_tame q x f h =
    bind (items_bound x.scope q.ahead) _ AllTame TameList (items_tame x.scope q.ahead f.0) (λ xs k.
    then (window_bound (names x.scope) 0 (t.some_over (t.over_of q.partition q.order))) _ TameList (λ walked.
    then (places_bound x.scope q.partition) _ TameList (λ partition.
    then (sorts_bound x.scope q.order) _ TameList (λ order.
    bind (items_bound x.scope q.behind) _ AllTame TameList (items_tame x.scope q.behind f.1) (λ ys l.
    then (few (with_rank true xs (rank_bound x.scope) ys)) _ TameList (λ all.
    (k, (l, h))))))))

with_rank_tame : (kept : Bool) (xs : List Bound) (x : Bound) (ys : List Bound) → AllTame xs → Tame x → AllTame ys → AllTame (with_rank kept xs x ys)
with_rank_tame true xs x ys h k l = tame_append xs (x ∷ ys) h (k, l)
with_rank_tame false xs x ys h k l = tame_append xs ys h l

pub first_tame : (most : ℕ) (kept : Bool) (x : RankedList) → TameList x → TameRel (first_ranked most kept x)
first_tame most kept x h =
    projected_tame (length (rank_columns kept (types x.input.scope))) (with_rank kept x.ahead (rank_bound x.input.scope) x.behind) (r.Rank x.input.rel x.partition x.order most kept)
    (with_rank_tame kept x.ahead (rank_bound x.input.scope) x.behind h.0 refl h.1.0) (λ i. h.1.1 i && true)

unbounded_tame : (free : Bool) (x : RankedList) → TameList x → IfOk (unbounded free x) TameRel
unbounded_tame true x h = first_tame 0 true x h
unbounded_tame false x h = tt

abbrev pub TameAlone : Alone → Type 0
TameAlone x = TameList x.list

abbrev pub TameRead : Read → Type 0
TameRead (Joined x) = TameRel x
TameRead (Only x) = TameAlone x

abbrev TameFramed : Framed → Type 0
TameFramed f = TameRel f.relation

abbrev pub TameFrom : FromWhere → Type 0
TameFrom f = TameRel f.relation × TameParts f.parts

abbrev pub IfTame : Option (Checked Alone) → Type 0
IfTame None = Unit {0}
IfTame (Some o) = IfOk o TameAlone

pub read_by_tame : (joins : t.JoinItems) (o : Option (Checked Alone)) (x : Checked Relation) → IfTame o → IfOk x TameRel → IfOk (read_by joins o x) TameRead
read_by_tame t.no_joins None x h k = bind x _ TameRel TameRead k (λ y l. l)
read_by_tame t.no_joins (Some o) x h k = bind o _ TameAlone TameRead h (λ y l. l)
read_by_tame (t.join_and j js) o x h k = bind x _ TameRel TameRead k (λ y l. l)

pub framed_tame : (free : Bool) (sources : List TableDef) (outer : t.Select) (y : Read) → TameRead y → IfOk (framed free sources outer y) TameFramed
framed_tame free sources outer (Joined x) h = h
framed_tame free sources outer (Only x) h = go (top_of x.alias x.list.input.scope x.list.list (select_conjuncts outer))
  where
    go : (o : Option Top) → IfOk (bounded free sources outer x o) TameFramed
    go None = bind (unbounded free x.list) _ TameRel TameFramed (unbounded_tame free x.list h) (λ y l. l)
    go (Some top) = first_tame top.bound (is_kept sources x.alias x.list.list outer top.conjunct) x.list h

pub alone_tame_if : (alias : Option Text) (f : Checked FromWhere) (o : Option Ranked) → FreeRanked o → IfOk f TameFrom → IfTame (option_map (alone_of alias f) o)
alone_tame_if alias f None h k = tt
alone_tame_if alias f (Some q) h k =
    bind f _ TameFrom TameAlone k (λ g l.
    bind (ranked_list q (kept g.parts g.relation)) _ TameList TameAlone (ranked_list_tame q (kept g.parts g.relation) h (kept_tame g.parts g.relation l.1 l.0)) (λ y m. m))

pub select_over_tame : (free : Bool) (x : t.Select) (f : FromWhere) → in_select x ≡ false → TameFrom f → IfOk (select_over free x f) TameRel
unfolding in_select
select_over_tame free (t.select_of distinct items from joins condition groups having) f e h = go (ranked_select (t.select_of distinct items from joins condition groups having)) (ranked_free (t.select_of distinct items from joins condition groups having) e)
  where
    go : (o : Option Ranked) → FreeRanked o → IfOk (listed_by free o (t.select_of distinct items from joins condition groups having) (kept f.parts f.relation)) TameRel
    go None k =
        let of_items = neither (in_items items) _ e in
        let of_from = neither (in_source from) _ of_items.1 in
        let of_joins = neither (in_joins joins) _ of_from.1 in
        let of_condition = neither (in_optional condition) _ of_joins.1 in
        let of_groups = neither (in_trees groups) (in_optional having) of_condition.1 in
        let y = kept f.parts f.relation in
        selected_tame distinct (entries y.scope items) groups having y (entries_free y.scope items of_items.0) of_groups.0 of_groups.1 (kept_tame f.parts f.relation h.1 h.0)
    go (Some q) k =
        let y = kept f.parts f.relation in
        bind (ranked_list q y) _ TameList TameRel (ranked_list_tame q y k (kept_tame f.parts f.relation h.1 h.0)) (λ z l. unbounded_tame free z l)

pub exists_over_tame : (free anti : Bool) (x : t.Select) (f : FromWhere) → TameFrom f → IfOk (exists_over free anti x f) TamePart
exists_over_tame free anti x f h = then (list_inside free (ranked_select x) x f.relation) _ TamePart (λ listed. exists_tame anti f.parts f.relation h.1 h.0)
