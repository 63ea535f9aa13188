-- The walk in which each rank needs its bound, beside that in which ranks are free: it takes the same steps, up to a rank without a bound.
use Rattle.std.proofs.Common.{◌≡◌, ℕ, Bool, true, false, cond, List, [], ◌++◌, length, Option, Some, None, option_map, Ok, Err, refl, sym, ap, ◌∙◌, subst, ◌⊎◌, inl, inr}
use Rattle.std.specs.Prelude.{◌-◌, nat_lt, ◌&&◌}
use Rattle.ct_value.specs.declared.codes.ScriptCode.{ScriptCode}
use Rattle.ct_value.specs.declared.codes.ScriptCode.TheVariants.{RankUnbounded, Unsupported}
use Rattle.ct_catalog.specs.declared.table.TableDef.{TableDef}
use Rattle.sql_syntax.specs.Tree.{Query, Text, Tree}
use Rattle.sql_syntax.specs.Tree as t
use Rattle.query_answer.specs.Answer.{conjuncts, select_conjuncts, top_of}
use Rattle.query_answer.specs.Forms.{is_simple, is_sole}
use Rattle.query_answer.specs.Joins.{kind_of}
use Rattle.query_answer.specs.Names.{Scope}
use Rattle.query_answer.specs.Ranks.{Ranked, Top, ranked_query, ranked_select}
use Rattle.binding.specs.Checked.{Checked, ◌>>=◌}
use Rattle.binding.specs.Queries.{Alone, FromWhere, Joined, Only, Outside, RankedList, Read, Relation, Run, all_parts_bound, all_parts_but, alone, alone_bound, alone_of, begun, beside_bound, bounded, by_word, denied_bound, exists_bound, exists_over, exists_part, framed, gathered_bound, inside_bound, intersected_bound, joined, joins_bound, kept, list_inside, listed_by, member_part, operated, own_value, parts_bound, parts_but, plain_part, query_bound, ranked_list, read_by, select_bound, select_over, source_bound, term_bound, tests, unbounded, where_bound}
use Rattle.binder.specs.Bound.{columns_bound}

-- the second is the first, or is refused for a rank without a bound
abbrev pub Again : {A : Type 0} → Checked A → Checked A → Type 0
Again r s = (s ≡ r) ⊎ (s ≡ Err RankUnbounded)

same : {A : Type 0} (r : Checked A) → Again r r
same r = inl refl

then : {A B : Type 0} (r s : Checked A) (f g : A → Checked B) → Again r s → ((x : A) → Again (f x) (g x)) → Again (r >>= f) (s >>= g)
then (Ok x) s f g (inl e) h = subst (λ q. Again (f x) (q >>= g)) (sym e) (h x)
then (Err code) s f g (inl e) h = inl (ap (λ q. q >>= g) e)
then r s f g (inr e) h = inr (ap (λ q. q >>= g) e)

after : {A B : Type 0} (r s : Checked A) (f : A → Checked B) → Again r s → Again (r >>= f) (s >>= f)
after r s f h = then r s f f h (λ x. same (f x))

either : {A : Type 0} (test : Bool) (r s p q : Checked A) → Again r s → Again p q → Again (cond test r p) (cond test s q)
either true r s p q h k = h
either false r s p q h k = k

-- ---- lists with a rank

unbounded_again : (x : RankedList) → Again (unbounded true x) (unbounded false x)
unbounded_again x = inr refl

ranked_again : (q : Ranked) (x : Relation) → Again (ranked_list q x >>= unbounded true) (ranked_list q x >>= unbounded false)
ranked_again q x = then (ranked_list q x) (ranked_list q x) (unbounded true) (unbounded false) (same (ranked_list q x)) unbounded_again

bounded_again : (sources : List TableDef) (outer : t.Select) (x : Alone) (o : Option Top) → Again (bounded true sources outer x o) (bounded false sources outer x o)
bounded_again sources outer x None = inr refl
bounded_again sources outer x (Some top) = inl refl

framed_again : (sources : List TableDef) (outer : t.Select) (x : Read) → Again (framed true sources outer x) (framed false sources outer x)
framed_again sources outer (Joined x) = inl refl
framed_again sources outer (Only x) = bounded_again sources outer x (top_of x.alias x.list.input.scope x.list.list (select_conjuncts outer))

listed_again : (o : Option Ranked) (select : t.Select) (x : Relation) → Again (listed_by true o select x) (listed_by false o select x)
listed_again None (t.select_of distinct items from joins condition groups having) x = inl refl
listed_again (Some q) (t.select_of distinct items from joins condition groups having) x = ranked_again q x

inside_again : (o : Option Ranked) (select : t.Select) (x : Relation) → Again (list_inside true o select x) (list_inside false o select x)
inside_again None (t.select_of distinct items from joins condition groups having) x = inl refl
inside_again (Some q) (t.select_of distinct items from joins condition groups having) x =
    after (ranked_list q x >>= unbounded true) (ranked_list q x >>= unbounded false) (λ y. Ok []) (ranked_again q x)

exists_again : (anti : Bool) (select : t.Select) (f : FromWhere) → Again (exists_over true anti select f) (exists_over false anti select f)
exists_again anti select f =
    after (list_inside true (ranked_select select) select f.relation) (list_inside false (ranked_select select) select f.relation) (λ listed. Ok (exists_part anti f.parts f.relation)) (inside_again (ranked_select select) select f.relation)

-- ---- what a select reads

abbrev AgainIf : Option (Checked Alone) → Option (Checked Alone) → Type 0
AgainIf None None = Unit {0}
AgainIf None (Some s) = ⊥
AgainIf (Some r) None = ⊥
AgainIf (Some r) (Some s) = Again r s

read_again : (joins : t.JoinItems) (o p : Option (Checked Alone)) (r s : Checked Relation) → AgainIf o p → Again r s → Again (read_by joins o r) (read_by joins p s)
read_again t.no_joins None None r s h k = after r s (λ y. Ok (Joined y)) k
read_again t.no_joins None (Some b) r s h k = absurd h
read_again t.no_joins (Some a) None r s h k = absurd h
read_again t.no_joins (Some a) (Some b) r s h k = after a b (λ y. Ok (Only y)) h
read_again (t.join_and j js) o p r s h k = after r s (λ y. Ok (Joined y)) k

alone_is : (alias : Option Text) (r s : Checked FromWhere) → Again r s → (o : Option Ranked) → AgainIf (option_map (alone_of alias r) o) (option_map (alone_of alias s) o)
alone_is alias r s h None = tt
alone_is alias r s h (Some q) = after r s (λ f. ranked_list q (kept f.parts f.relation) >>= λ x. Ok (record { alias = alias; list = x })) h

-- ---- the tree

module _ (sources : List TableDef) where
  select_is : (x : t.Select) → Again (gathered_bound true sources None x) (gathered_bound false sources None x) → Again (select_bound true sources x) (select_bound false sources x)
  select_is x h =
      then (gathered_bound true sources None x) (gathered_bound false sources None x) (select_over true x) (select_over false x) h
      (λ f. listed_again (ranked_select x) x (kept f.parts f.relation))

  inside_is : (anti : Bool) (own : Scope) (x : t.Select) → Again (gathered_bound true sources (Some own) x) (gathered_bound false sources (Some own) x) → Again (inside_bound true sources anti own x) (inside_bound false sources anti own x)
  inside_is anti own x h =
      then (gathered_bound true sources (Some own) x) (gathered_bound false sources (Some own) x) (exists_over true anti x) (exists_over false anti x) h
      (λ f. exists_again anti x f)

  mutual
    pub query_again : (q : t.Query) → Again (query_bound true sources q) (query_bound false sources q)
    query_again (t.query_of first rest order limit) =
        then (term_bound true sources first) (term_bound false sources first) _ _ (term_again first) (λ x.
        after (beside_bound true sources rest (begun x)) (beside_bound false sources rest (begun x)) _ (beside_again rest (begun x)))

    beside_again : (xs : t.TermTails) (run : Run) → Again (beside_bound true sources xs run) (beside_bound false sources xs run)
    beside_again t.no_term_tails run = inl refl
    beside_again (t.term_tail_and (t.term_tail_of word x) xs) run =
        then (term_bound true sources x) (term_bound false sources x) _ _ (term_again x) (λ y.
        then (by_word word run y) (by_word word run y) (beside_bound true sources xs) (beside_bound false sources xs) (same (by_word word run y)) (beside_again xs))

    term_again : (x : t.Term) → Again (term_bound true sources x) (term_bound false sources x)
    term_again (t.term_of x xs) =
        then (select_bound true sources x) (select_bound false sources x) (intersected_bound true sources xs) (intersected_bound false sources xs) (select_is x (gathered_again None x)) (intersected_again xs)

    intersected_again : (xs : t.SelectTails) (a : Relation) → Again (intersected_bound true sources xs a) (intersected_bound false sources xs a)
    intersected_again t.no_select_tails a = inl refl
    intersected_again (t.select_tail_and (t.select_tail_of all x) xs) a =
        then (select_bound true sources x) (select_bound false sources x) _ _ (select_is x (gathered_again None x)) (λ b.
        then (operated false all a b) (operated false all a b) (intersected_bound true sources xs) (intersected_bound false sources xs) (same (operated false all a b)) (intersected_again xs))

    gathered_again : (outside : Outside) (x : t.Select) → Again (gathered_bound true sources outside x) (gathered_bound false sources outside x)
    gathered_again outside (t.select_of distinct items from joins condition groups having) =
        let outer = t.select_of distinct items from joins condition groups having in
        then (read_by joins (alone_bound true sources from) (source_bound true sources from >>= joins_bound true sources joins) >>= framed true sources outer)
        (read_by joins (alone_bound false sources from) (source_bound false sources from >>= joins_bound false sources joins) >>= framed false sources outer) _ _
        (then (read_by joins (alone_bound true sources from) (source_bound true sources from >>= joins_bound true sources joins))
        (read_by joins (alone_bound false sources from) (source_bound false sources from >>= joins_bound false sources joins)) (framed true sources outer) (framed false sources outer)
        (read_again joins (alone_bound true sources from) (alone_bound false sources from) (source_bound true sources from >>= joins_bound true sources joins) (source_bound false sources from >>= joins_bound false sources joins)
        (alone_again from)
        (then (source_bound true sources from) (source_bound false sources from) (joins_bound true sources joins) (joins_bound false sources joins) (source_again from) (joins_again joins)))
        (framed_again sources outer))
        (λ f. after (where_bound true sources f.spent outside f.relation.scope condition) (where_bound false sources f.spent outside f.relation.scope condition) _ (where_again f.spent outside f.relation.scope condition))

    alone_again : (from : t.Source) → AgainIf (alone_bound true sources from) (alone_bound false sources from)
    alone_again (t.Table name alias) = tt
    alone_again (t.FromQuery (t.query_of (t.term_of x xs) ts order limit) alias) =
        alone_is alias (gathered_bound true sources None x) (gathered_bound false sources None x) (gathered_again None x) (ranked_query (t.query_of (t.term_of x xs) ts order limit))

    source_again : (from : t.Source) → Again (source_bound true sources from) (source_bound false sources from)
    source_again (t.Table name alias) = inl refl
    source_again (t.FromQuery q alias) = after (query_bound true sources q) (query_bound false sources q) _ (query_again q)

    joins_again : (js : t.JoinItems) (x : Relation) → Again (joins_bound true sources js x) (joins_bound false sources js x)
    joins_again t.no_joins x = inl refl
    joins_again (t.join_and (t.join_of word source on) js) x =
        then (source_bound true sources source) (source_bound false sources source) _ _ (source_again source) (λ y.
        then (joined (kind_of word) x y on) (joined (kind_of word) x y on) (joins_bound true sources js) (joins_bound false sources js) (same (joined (kind_of word) x y on)) (joins_again js))

    where_again : (spent : Option ℕ) (outside : Outside) (own : Scope) (c : t.OptionalTree) → Again (where_bound true sources spent outside own c) (where_bound false sources spent outside own c)
    where_again None outside own t.no_tree = inl refl
    where_again (Some n) outside own t.no_tree = inl refl
    where_again None outside own (t.some_tree x) = after (parts_bound true sources outside own x) (parts_bound false sources outside own x) tests (parts_again outside own x)
    where_again (Some n) outside own (t.some_tree x) = after (parts_but true sources n outside own x) (parts_but false sources n outside own x) tests (but_again n outside own x)

    parts_again : (outside : Outside) (own : Scope) (x : Tree) → Again (parts_bound true sources outside own x) (parts_bound false sources outside own x)
    parts_again outside own (t.And xs) = after (all_parts_bound true sources outside own xs) (all_parts_bound false sources outside own xs) tests (all_again outside own xs)
    parts_again outside own (t.Paren x) = parts_again outside own x
    parts_again outside own (t.Exists q) = after (exists_bound true sources false own q) (exists_bound false sources false own q) alone (exists_query_again false own q)
    parts_again outside own (t.Not x) = after (denied_bound true sources outside own (t.Not x) x) (denied_bound false sources outside own (t.Not x) x) alone (denied_again outside own (t.Not x) x)
    parts_again outside own (t.InQuery x q false) =
        then (plain_part outside own x >>= own_value) (plain_part outside own x >>= own_value) _ _ (same (plain_part outside own x >>= own_value)) (λ a.
        after (query_bound true sources q >>= member_part own x a) (query_bound false sources q >>= member_part own x a) alone
        (after (query_bound true sources q) (query_bound false sources q) (member_part own x a) (query_again q)))
    parts_again outside own (t.InQuery x q true) = inl refl
    parts_again outside own _ = inl refl

    all_again : (outside : Outside) (own : Scope) (xs : t.Trees) → Again (all_parts_bound true sources outside own xs) (all_parts_bound false sources outside own xs)
    all_again outside own t.no_trees = inl refl
    all_again outside own (t.tree_and x xs) =
        then (parts_bound true sources outside own x) (parts_bound false sources outside own x) _ _ (parts_again outside own x) (λ ps.
        after (all_parts_bound true sources outside own xs) (all_parts_bound false sources outside own xs) _ (all_again outside own xs))

    but_again : (n : ℕ) (outside : Outside) (own : Scope) (x : Tree) → Again (parts_but true sources n outside own x) (parts_but false sources n outside own x)
    but_again n outside own (t.And xs) = after (all_parts_but true sources n outside own xs) (all_parts_but false sources n outside own xs) tests (all_but_again n outside own xs)
    but_again n outside own (t.Paren x) = but_again n outside own x
    but_again n outside own _ = inl refl

    all_but_again : (n : ℕ) (outside : Outside) (own : Scope) (xs : t.Trees) → Again (all_parts_but true sources n outside own xs) (all_parts_but false sources n outside own xs)
    all_but_again n outside own t.no_trees = inl refl
    all_but_again n outside own (t.tree_and x xs) =
        either (nat_lt n (length (conjuncts x))) _ _ _ _
        (then (parts_but true sources n outside own x) (parts_but false sources n outside own x) _ _ (but_again n outside own x) (λ ps.
        after (all_parts_bound true sources outside own xs) (all_parts_bound false sources outside own xs) (λ qs. Ok (ps ++ qs)) (all_again outside own xs)))
        (then (parts_bound true sources outside own x) (parts_bound false sources outside own x) _ _ (parts_again outside own x) (λ ps.
        after (all_parts_but true sources (n - length (conjuncts x)) outside own xs) (all_parts_but false sources (n - length (conjuncts x)) outside own xs) (λ qs. Ok (ps ++ qs)) (all_but_again (n - length (conjuncts x)) outside own xs)))

    denied_again : (outside : Outside) (own : Scope) (whole x : Tree) → Again (denied_bound true sources outside own whole x) (denied_bound false sources outside own whole x)
    denied_again outside own whole (t.Paren x) = denied_again outside own whole x
    denied_again outside own whole (t.Exists q) = exists_query_again true own q
    denied_again outside own whole _ = inl refl

    exists_query_again : (anti : Bool) (own : Scope) (q : t.Query) → Again (exists_bound true sources anti own q) (exists_bound false sources anti own q)
    exists_query_again anti own (t.query_of (t.term_of x xs) ts order limit) =
        either (is_simple x && is_sole (t.query_of (t.term_of x xs) ts order limit)) (inside_bound true sources anti own x) (inside_bound false sources anti own x) (Err Unsupported) (Err Unsupported)
        (inside_is anti own x (gathered_again (Some own) x)) (inl refl)

-- ---- a query whose names are bound

-- it is refused for a rank without a bound alone
pub only_unbounded : (tables : List TableDef) (q : Query) (columns : Scope) (code : ScriptCode) → columns_bound tables q ≡ Ok columns → query_bound false tables q ≡ Err code → query_bound false tables q ≡ Err RankUnbounded
only_unbounded tables q columns code h e = go (query_bound true tables q) (query_bound false tables q) (query_again tables q) h e
  where
    go : (r s : Checked Relation) → Again r s → (r >>= λ x. Ok x.scope) ≡ Ok columns → s ≡ Err code → s ≡ Err RankUnbounded
    go (Ok x) s (inl k) h e = absurd (let apart : Ok x ≡ Err code = sym k ∙ e in cc)
    go (Err other) s (inl k) h e = absurd (cc)
    go r s (inr k) h e = k

pub not_rewritten : (tables : List TableDef) (q : Query) → query_bound false tables q ≡ Err RankUnbounded → (query_bound false tables q >>= λ x. Ok x.rel) ≡ Err RankUnbounded
not_rewritten tables q e = ap (λ r. r >>= λ x. Ok x.rel) e

pub has_rel : (tables : List TableDef) (q : Query) (x : Relation) → query_bound false tables q ≡ Ok x → (query_bound false tables q >>= λ x. Ok x.rel) ≡ Ok x.rel
has_rel tables q x e = ap (λ r. r >>= λ x. Ok x.rel) e
