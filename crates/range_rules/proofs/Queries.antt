-- A query without arithmetic is bound to a tree that calculates nothing, and so is the query of an INSERT: one induction over queries.
use Rattle.std.proofs.Common.{◌≡◌, ℕ, ◌-◌, nat_lt, Bool, true, false, cond, ◌&&◌, ◌||◌, not, List, [], ◌∷◌, ◌++◌, length, Option, Some, None, Ok, IfOk, refl, find}
use Rattle.ct_value.specs.declared.codes.ScriptCode.TheVariants.{UnknownTable, SinkShape, Unsupported}
use Rattle.ct_catalog.specs.declared.table.TableDef.{TableDef}
use Rattle.rel_algebra.specs.Rel.{Rel, Rels, no_rels, rel_and, rels}
use Rattle.rel_algebra.specs.Rel as r
use Rattle.rel_algebra.specs.Sets.{set_kind}
use Rattle.sql_syntax.specs.declared.tree.SetWord.{SetWord}
use Rattle.sql_syntax.specs.declared.tree.SetWord.TheVariants.{UnionAll, Except, ExceptAll}
use Rattle.sql_syntax.specs.Tree.{Query, Text}
use Rattle.sql_syntax.specs.Tree as t
use Rattle.query_answer.specs.Answer.{conjuncts, types}
use Rattle.query_answer.specs.Forms.{is_plain, is_simple, is_sole}
use Rattle.query_answer.specs.Joins.{kind_of}
use Rattle.query_answer.specs.Names.{Scope}
use Rattle.query_answer.specs.Ranks.{ranked_query, ranked_select}
use Rattle.range_rules.specs.Arithmetic.{in_query, in_term, in_term_tails, in_select_tails, in_select, in_source, in_join, in_tree, in_trees, in_optional, in_items, in_joins, in_sorts}
use Rattle.range_rules.specs.Tame.{is_tame_rel, are_tame_rels}
use Rattle.binding.specs.Checked.{Checked, ◌>>=◌, or_code}
use Rattle.binding.specs.Inserts.{Inserted, insert_bound, into_sink, sunk, is_table, sources_for, scans}
use Rattle.rel_algebra.specs.GoesInto.{go_into}
use Rattle.ct_catalog.specs.Columns.{column_types}
use Rattle.binding.specs.Queries.{Relation, Run, Outside, Part, find_source, begun, closed, by_word, operated, joined, united, united_by, union_of, tests, own_value, plain_part, member_part, alone, read_by, framed, select_over, exists_over, query_bound, beside_bound, term_bound, intersected_bound, select_bound, gathered_bound, alone_bound, source_bound, joins_bound, where_bound, parts_bound, all_parts_bound, parts_but, all_parts_but, denied_bound, exists_bound, inside_bound}
use Rattle.range_rules.specs.Statement.{QueriesAreTame, InsertsAreTame}
use Rattle.range_rules.proofs.Checked.{bind, then, tested, tested_else, of_ok, neither, both}
use Rattle.range_rules.proofs.Nodes.{Tame}
use Rattle.range_rules.proofs.Selects.{TameRel, TamePart, TameParts, TameRead, TameFrom, IfTame, parts_append, plain_part_tame, tests_tame, value_tame, member_tame, alone_tame, read_tame, joined_tame, FreeRanked, ranked_free, read_by_tame, framed_tame, alone_tame_if, select_over_tame, exists_over_tame}

union_tame : (x : Rel) (ys : Rels) → is_tame_rel x ≡ true → are_tame_rels ys ≡ true → is_tame_rel (union_of x ys) ≡ true
union_tame x no_rels h k = h
union_tame x (rel_and y ys) h k = λ i. h i && k i

abbrev TameRun : Run → Type 0
TameRun run = (is_tame_rel run.first ≡ true) × (are_tame_rels (rels run.others) ≡ true)

more_tame : (os : List Rel) (x : Rel) → are_tame_rels (rels os) ≡ true → is_tame_rel x ≡ true → are_tame_rels (rels (os ++ x ∷ [])) ≡ true
more_tame [] x h k = λ i. k i && true
more_tame (o ∷ os) x h k = let p = both (is_tame_rel o) (are_tame_rels (rels os)) h in λ i. p.0 i && more_tame os x p.1 k i

operated_tame : (except all : Bool) (x y : Relation) → TameRel x → TameRel y → IfOk (operated except all x y) TameRel
operated_tame except all x y h k = then (united_by (set_kind except) x.scope y.scope) _ TameRel (λ both. let both_are : is_tame_rel (r.SetOp x.rel y.rel except all (length x.scope)) ≡ true = (λ i. h i && (k i && true)) in both_are)

excepted_tame : (all : Bool) (run : Run) (x : Relation) → TameRun run → TameRel x → IfOk (operated true all (closed run) x >>= λ y. Ok (begun y)) TameRun
excepted_tame all run x h k =
    bind (operated true all (closed run) x) (λ y. Ok (begun y)) TameRel TameRun (operated_tame true all (closed run) x (union_tame run.first (rels run.others) h.0 h.1) k) (λ y l. let made : TameRun (begun y) = (l, refl) in made)

word_tame : (word : SetWord) (run : Run) (x : Relation) → TameRun run → TameRel x → IfOk (by_word word run x) TameRun
word_tame UnionAll run x h k = then (united run.scope x.scope) _ TameRun (λ both. (h.0, more_tame run.others x.rel h.1 k))
word_tame Except run x h k = excepted_tame false run x h k
word_tame ExceptAll run x h k = excepted_tame true run x h k

either : (t : Bool) (r s : Checked (List Part)) → IfOk r TameParts → IfOk s TameParts → IfOk (cond t r s) TameParts
either true r s h k = h
either false r s h k = k

sole_free : (sole : Bool) (x : t.Select) → in_select x ≡ false → FreeRanked (cond sole (ranked_select x) None)
sole_free true x f = ranked_free x f
sole_free false x f = tt

module _ (free : Bool) (sources : List TableDef) where
  sources_tame : (from : t.Source) (joins : t.JoinItems) → IfOk (source_bound free sources from) TameRel → ((x : Relation) → TameRel x → IfOk (joins_bound free sources joins x) TameRel) → IfOk (source_bound free sources from >>= joins_bound free sources joins) TameRel
  sources_tame from joins h k = bind (source_bound free sources from) (joins_bound free sources joins) TameRel TameRel h k

  select_is : (x : t.Select) → in_select x ≡ false → IfOk (gathered_bound free sources None x) TameFrom → IfOk (select_bound free sources x) TameRel
  select_is x f h = bind (gathered_bound free sources None x) (select_over free x) TameFrom TameRel h (λ y k. select_over_tame free x y f k)

  mutual
    unfolding in_query in_term in_term_tails in_select_tails in_select in_source in_joins in_join in_optional in_tree in_trees

    pub query_tame : (q : Query) → in_query q ≡ false → IfOk (query_bound free sources q) TameRel
    query_tame (t.query_of first rest order limit) f =
        let g = neither (in_term first || in_term_tails rest) (in_sorts order) f in
        let k = neither (in_term first) (in_term_tails rest) g.0 in
        bind (term_bound free sources first) _ TameRel TameRel (term_tame first k.0) (λ x h.
        bind (beside_bound free sources rest (begun x)) _ TameRun TameRel (let made : TameRun (begun x) = (h, refl) in beside_tame rest (begun x) k.1 made) (λ run l.
        tested_else (is_plain order limit) (Ok (closed run)) Unsupported TameRel (union_tame run.first (rels run.others) l.0 l.1)))

    beside_tame : (xs : t.TermTails) (run : Run) → in_term_tails xs ≡ false → TameRun run → IfOk (beside_bound free sources xs run) TameRun
    beside_tame t.no_term_tails run f h = h
    beside_tame (t.term_tail_and (t.term_tail_of word x) xs) run f h =
        let g = neither (in_term x) (in_term_tails xs) f in
        bind (term_bound free sources x) _ TameRel TameRun (term_tame x g.0) (λ y k.
        bind (by_word word run y) (beside_bound free sources xs) TameRun TameRun (word_tame word run y h k) (λ next l. beside_tame xs next g.1 l))

    term_tame : (x : t.Term) → in_term x ≡ false → IfOk (term_bound free sources x) TameRel
    term_tame (t.term_of x xs) f =
        let g = neither (in_select x) (in_select_tails xs) f in
        bind (select_bound free sources x) (intersected_bound free sources xs) TameRel TameRel (select_is x g.0 (gathered_tame None x g.0)) (λ y h. intersected_tame xs y g.1 h)

    intersected_tame : (xs : t.SelectTails) (x : Relation) → in_select_tails xs ≡ false → TameRel x → IfOk (intersected_bound free sources xs x) TameRel
    intersected_tame t.no_select_tails x f h = h
    intersected_tame (t.select_tail_and (t.select_tail_of all y) ys) x f h =
        let g = neither (in_select y) (in_select_tails ys) f in
        bind (select_bound free sources y) _ TameRel TameRel (select_is y g.0 (gathered_tame None y g.0)) (λ z k.
        bind (operated false all x z) (intersected_bound free sources ys) TameRel TameRel (operated_tame false all x z h k) (λ u l. intersected_tame ys u g.1 l))

    gathered_tame : (outside : Outside) (x : t.Select) → in_select x ≡ false → IfOk (gathered_bound free sources outside x) TameFrom
    gathered_tame outside (t.select_of distinct items from joins condition groups having) f =
        let outer = t.select_of distinct items from joins condition groups having in
        let of_items = neither (in_items items) _ f in
        let of_from = neither (in_source from) _ of_items.1 in
        let of_joins = neither (in_joins joins) _ of_from.1 in
        let of_condition = neither (in_optional condition) _ of_joins.1 in
        let read = read_by joins (alone_bound free sources from) (source_bound free sources from >>= joins_bound free sources joins) in
        bind (read >>= framed free sources outer) _ (λ y. TameRel y.relation) TameFrom
        (bind read (framed free sources outer) TameRead (λ y. TameRel y.relation)
        (read_by_tame joins (alone_bound free sources from) (source_bound free sources from >>= joins_bound free sources joins) (alone_source_tame from of_from.0)
        (sources_tame from joins (source_tame from of_from.0) (λ x h. joins_tame joins x of_joins.0 h)))
        (λ y h. framed_tame free sources outer y h))
        (λ y h.
        bind (where_bound free sources y.spent outside y.relation.scope condition) _ TameParts TameFrom (where_parts_tame y.spent outside y.relation.scope condition of_condition.0) (λ ps w. (h, w)))

    alone_source_tame : (from : t.Source) → in_source from ≡ false → IfTame (alone_bound free sources from)
    alone_source_tame (t.Table name alias) f = tt
    alone_source_tame (t.FromQuery (t.query_of (t.term_of x xs) ts order limit) alias) f =
        let k = (neither (in_select x) (in_select_tails xs) (neither _ (in_term_tails ts) (neither _ (in_sorts order) f).0).0).0 in
        alone_tame_if alias (gathered_bound free sources None x) (ranked_query (t.query_of (t.term_of x xs) ts order limit)) (sole_free (is_sole (t.query_of (t.term_of x xs) ts order limit)) x k) (gathered_tame None x k)

    where_parts_tame : (spent : Option ℕ) (outside : Outside) (own : Scope) (c : t.OptionalTree) → in_optional c ≡ false → IfOk (where_bound free sources spent outside own c) TameParts
    where_parts_tame None outside own t.no_tree f = tt
    where_parts_tame (Some n) outside own t.no_tree f = tt
    where_parts_tame None outside own (t.some_tree x) f = bind (parts_bound free sources outside own x) tests TameParts TameParts (parts_tame outside own x f) tests_tame
    where_parts_tame (Some n) outside own (t.some_tree x) f = bind (parts_but free sources n outside own x) tests TameParts TameParts (but_tame n outside own x f) tests_tame

    but_tame : (n : ℕ) (outside : Outside) (own : Scope) (x : t.Tree) → in_tree x ≡ false → IfOk (parts_but free sources n outside own x) TameParts
    but_tame n outside own (t.And xs) f = bind (all_parts_but free sources n outside own xs) tests TameParts TameParts (all_but_tame n outside own xs f) tests_tame
    but_tame n outside own (t.Paren x) f = but_tame n outside own x f
    but_tame n outside own x f = tt

    all_but_tame : (n : ℕ) (outside : Outside) (own : Scope) (xs : t.Trees) → in_trees xs ≡ false → IfOk (all_parts_but free sources n outside own xs) TameParts
    all_but_tame n outside own t.no_trees f = tt
    all_but_tame n outside own (t.tree_and x xs) f =
        let g = neither (in_tree x) (in_trees xs) f in
        either (nat_lt n (length (conjuncts x)))
        (parts_but free sources n outside own x >>= λ ps. all_parts_bound free sources outside own xs >>= λ qs. Ok (ps ++ qs))
        (parts_bound free sources outside own x >>= λ ps. all_parts_but free sources (n - length (conjuncts x)) outside own xs >>= λ qs. Ok (ps ++ qs))
        (bind (parts_but free sources n outside own x) _ TameParts TameParts (but_tame n outside own x g.0) (λ ps h.
        bind (all_parts_bound free sources outside own xs) _ TameParts TameParts (all_parts_tame outside own xs g.1) (λ qs k.
        parts_append ps qs h k)))
        (bind (parts_bound free sources outside own x) _ TameParts TameParts (parts_tame outside own x g.0) (λ ps h.
        bind (all_parts_but free sources (n - length (conjuncts x)) outside own xs) _ TameParts TameParts (all_but_tame (n - length (conjuncts x)) outside own xs g.1) (λ qs k.
        parts_append ps qs h k)))

    parts_tame : (outside : Outside) (own : Scope) (x : t.Tree) → in_tree x ≡ false → IfOk (parts_bound free sources outside own x) TameParts
    parts_tame outside own (t.And xs) f = bind (all_parts_bound free sources outside own xs) tests TameParts TameParts (all_parts_tame outside own xs f) tests_tame
    parts_tame outside own (t.Paren x) f = parts_tame outside own x f
    parts_tame outside own (t.Exists q) f = bind (exists_bound free sources false own q) alone TamePart TameParts (exists_query_tame false own q f) alone_tame
    parts_tame outside own (t.Not x) f = bind (denied_bound free sources outside own (t.Not x) x) alone TamePart TameParts (denied_tame outside own (t.Not x) x f f) alone_tame
    parts_tame outside own (t.InQuery x q false) f =
        let g = neither (in_tree x) (in_query q) f in
        bind (plain_part outside own x >>= own_value) _ Tame TameParts (bind (plain_part outside own x) own_value TamePart Tame (plain_part_tame outside own x g.0) value_tame) (λ a h.
        bind (query_bound free sources q >>= member_part own x a) alone TamePart TameParts
        (bind (query_bound free sources q) (member_part own x a) TameRel TamePart (query_tame q g.1) (λ y k. member_tame own x a y h k)) alone_tame)
    parts_tame outside own x f = bind (plain_part outside own x) alone TamePart TameParts (plain_part_tame outside own x f) alone_tame

    all_parts_tame : (outside : Outside) (own : Scope) (xs : t.Trees) → in_trees xs ≡ false → IfOk (all_parts_bound free sources outside own xs) TameParts
    all_parts_tame outside own t.no_trees f = tt
    all_parts_tame outside own (t.tree_and x xs) f =
        let g = neither (in_tree x) (in_trees xs) f in
        bind (parts_bound free sources outside own x) _ TameParts TameParts (parts_tame outside own x g.0) (λ ps h.
        bind (all_parts_bound free sources outside own xs) _ TameParts TameParts (all_parts_tame outside own xs g.1) (λ qs k.
        parts_append ps qs h k))

    denied_tame : (outside : Outside) (own : Scope) (whole x : t.Tree) → in_tree whole ≡ false → in_tree x ≡ false → IfOk (denied_bound free sources outside own whole x) TamePart
    denied_tame outside own whole (t.Paren x) w f = denied_tame outside own whole x w f
    denied_tame outside own whole (t.Exists q) w f = exists_query_tame true own q f
    denied_tame outside own whole x w f = plain_part_tame outside own whole w

    exists_query_tame : (anti : Bool) (own : Scope) (q : Query) → in_query q ≡ false → IfOk (exists_bound free sources anti own q) TamePart
    exists_query_tame anti own (t.query_of (t.term_of x xs) ts order limit) f =
        let k = (neither (in_select x) (in_select_tails xs) (neither _ (in_term_tails ts) (neither _ (in_sorts order) f).0).0).0 in
        tested_else (is_simple x && is_sole (t.query_of (t.term_of x xs) ts order limit)) (inside_bound free sources anti own x) Unsupported TamePart
        (bind (gathered_bound free sources (Some own) x) (exists_over free anti x) TameFrom TamePart (gathered_tame (Some own) x k) (λ f h. exists_over_tame free anti x f h))

    source_tame : (from : t.Source) → in_source from ≡ false → IfOk (source_bound free sources from) TameRel
    source_tame (t.Table name alias) f = read_tame alias (find_source 0 sources name)
    source_tame (t.FromQuery q alias) f = bind (query_bound free sources q) _ TameRel TameRel (query_tame q f) (λ x h. h)

    joins_tame : (js : t.JoinItems) (x : Relation) → in_joins js ≡ false → TameRel x → IfOk (joins_bound free sources js x) TameRel
    joins_tame t.no_joins x f h = h
    joins_tame (t.join_and (t.join_of word source on) js) x f h =
        let g = neither _ (in_joins js) f in
        let k = neither (in_source source) (in_tree on) g.0 in
        bind (source_bound free sources source) _ TameRel TameRel (source_tame source k.0) (λ y l.
        bind (joined (kind_of word) x y on) (joins_bound free sources js) TameRel TameRel (joined_tame (kind_of word) x y on k.1 h l) (λ z m. joins_tame js z g.1 m))

abbrev TameInsert : Inserted → Type 0
TameInsert x = is_tame_rel x.query.rel ≡ true

sunk_tame : (free : Bool) (sources : List TableDef) (query : Query) (sink : TableDef) → in_query query ≡ false → IfOk (sunk free sources query sink) TameInsert
sunk_tame free sources query sink f =
    bind (query_bound free (sources ++ sink ∷ []) query) _ TameRel TameInsert (query_tame free (sources ++ sink ∷ []) query f) (λ x h.
    tested (scans (length sources) x.rel || not (go_into (types x.scope) (column_types sink))) SinkShape (Ok (record { query = x; sources = sources; sink = sink })) TameInsert h)

insert_tame : (tables : List TableDef) (name : Text) (query : Query) → in_query query ≡ false → IfOk (insert_bound tables name query) TameInsert
insert_tame tables name query f =
    let sources = sources_for tables name in
    then (or_code UnknownTable (find (is_table name) tables)) (into_sink sources query) TameInsert (λ sink.
    then (sunk true sources query sink) _ TameInsert (λ x. sunk_tame false sources query sink f))

pub queries_are_tame : QueriesAreTame
queries_are_tame free sources query bound e f = of_ok (query_bound free sources query) bound TameRel (query_tame free sources query f) e

pub inserts_are_tame : InsertsAreTame
inserts_are_tame tables name query bound e f = of_ok (insert_bound tables name query) bound TameInsert (insert_tame tables name query f) e
