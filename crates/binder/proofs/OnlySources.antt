-- What a select reads, by the form of its sources.
use Rattle.std.proofs.Common.{◌≡◌, ◌==◌, Bool, true, false, List, [], ◌∷◌, length, cond, Option, Some, None, option_map, Ok, Err, refl, sym, ap, ◌∙◌, arith}
use Rattle.std.proofs.lemmas.Bool.Decides.{nat_tests}
use Rattle.ct_value.specs.declared.codes.ScriptCode.TheVariants.{RankUnbounded}
use Rattle.ct_catalog.specs.declared.table.TableDef.{TableDef}
use Rattle.sql_syntax.specs.declared.tree.Args.TheViews.{out-Query, out-Select, out-Term}
use Rattle.sql_syntax.specs.declared.tree.JoinItem.{JoinItem}
use Rattle.sql_syntax.specs.declared.tree.Query.{Query}
use Rattle.sql_syntax.specs.declared.tree.Select.{Select}
use Rattle.sql_syntax.specs.Tree.{Text}
use Rattle.sql_syntax.specs.Tree as t
use Rattle.sql_syntax.specs.View.{items_view, join_view, joins_view, query_view, select_view, source_view, trees_view, view}
use Rattle.sql_syntax.proofs.laws.Views.{query_parts, select}
use Rattle.query_answer.specs.Forms.{first_select}
use Rattle.query_answer.specs.Ranks.{Ranked, ranked_query, ranked_select, with_rank}
use Rattle.binding.specs.Checked.{Checked, ◌>>=◌}
use Rattle.binding.specs.Expressions.{names, window_bound}
use Rattle.binding.specs.Nodes.{Bound}
use Rattle.binding.specs.Queries.{Framed, FromWhere, Only, RankedList, Relation, alone_bound, alone_of, exists_over, exists_part, few, find_source, framed, gathered_bound, items_bound, joined_read, joins_bound, kept, list_inside, places_bound, query_bound, rank_bound, Part, ranked_list, read, read_by, renamed, sorts_bound, source_bound, unbounded}
use Rattle.binder.specs.Steps.{from_list, joined_framed, only_framed, plain_exists, ranked_exists, read_framed}

module _ (free : Bool) (sources : List TableDef) (outer : t.Select) where
  -- ---- side by side

  side : (r : Checked Relation) → (joined_read r >>= framed free sources outer) ≡ (r >>= λ x. Ok (record { relation = x; spent = None }))
  side (Ok x) = refl
  side (Err code) = refl

  itself : (r : Checked Relation) → (r >>= joins_bound free sources t.no_joins) ≡ r
  itself (Ok x) = refl
  itself (Err code) = refl

  only : (from : t.Source) → (read_by t.no_joins (alone_bound free sources from) (source_bound free sources from >>= joins_bound free sources t.no_joins) >>= framed free sources outer) ≡ only_framed free sources outer from
  only from = ap (λ r. read_by t.no_joins (alone_bound free sources from) r >>= framed free sources outer) (itself (source_bound free sources from))

  -- ---- an only source that has no rank

  plainly : (from : t.Source) → alone_bound free sources from ≡ None → only_framed free sources outer from ≡ (source_bound free sources from >>= λ x. Ok (record { relation = x; spent = None }))
  plainly from e = ap (λ o. read_by t.no_joins o (source_bound free sources from) >>= framed free sources outer) e ∙ side (source_bound free sources from)

  pub table : (name : Text) (alias : Option Text) → only_framed free sources outer (t.Table name alias) ≡ (read alias (find_source 0 sources name) >>= λ x. Ok (record { relation = x; spent = None }))
  table name alias = side (read alias (find_source 0 sources name))

  abbrev sided : Relation → Checked Framed
  sided x = Ok (record { relation = x; spent = None })

  abbrev named : Option Text → Relation → Checked Relation
  named alias x = Ok (renamed alias x)

  abbrev pub named_sided : Option Text → Relation → Checked Framed
  named_sided alias x = Ok (record { relation = renamed alias x; spent = None })

  aliased : (alias : Option Text) (r : Checked Relation) → (r >>= named alias >>= sided) ≡ (r >>= named_sided alias)
  aliased alias (Ok x) = refl
  aliased alias (Err code) = refl

  abbrev pub under : Option Text → Checked Relation → Checked Framed
  under alias r = r >>= named_sided alias

  of_query : (q : t.Query) (alias : Option Text) → alone_bound free sources (t.FromQuery q alias) ≡ None → only_framed free sources outer (t.FromQuery q alias) ≡ under alias (query_bound free sources q)
  of_query q alias e = plainly (t.FromQuery q alias) e ∙ aliased alias (query_bound free sources q)

  by_rank : (q : t.Query) (alias : Option Text) → alone_bound free sources (t.FromQuery q alias) ≡ option_map (alone_of alias (gathered_bound free sources None (first_select q))) (ranked_query q)
  by_rank (t.query_of (t.term_of x xs) ts order limit) alias = refl

  pub unranked : (q : t.Query) (alias : Option Text) → ranked_query q ≡ None → only_framed free sources outer (t.FromQuery q alias) ≡ under alias (query_bound free sources q)
  unranked q alias e = of_query q alias (by_rank q alias ∙ ap (option_map (alone_of alias (gathered_bound free sources None (first_select q)))) e)

  -- ---- one that has

  with_list : (alias : Option Text) (q : Ranked) (g : Checked FromWhere) → ((alone_of alias g q >>= λ y. Ok (Only y)) >>= framed free sources outer) ≡ (g >>= from_list free sources outer alias q)
  with_list alias q (Err code) = refl
  with_list alias q (Ok f) = go (ranked_list q (kept f.parts f.relation))
    where
      go : (r : Checked RankedList) → (((r >>= λ x. Ok (record { alias = alias; list = x })) >>= λ y. Ok (Only y)) >>= framed free sources outer) ≡ (r >>= λ x. framed free sources outer (Only (record { alias = alias; list = x })))
      go (Ok x) = refl
      go (Err code) = refl

  pub ranked : (x : Query) (alias : Option Text) (q : Ranked) → ranked_query (query_view x) ≡ Some q
      → only_framed free sources outer (t.FromQuery (query_view x) alias) ≡ (gathered_bound free sources None (select_view (out-Term (out-Query x).first).first) >>= from_list free sources outer alias q)
  ranked x alias q e =
      ap (λ o. read_by t.no_joins o (source_bound free sources (t.FromQuery (query_view x) alias)) >>= framed free sources outer)
      (by_rank (query_view x) alias ∙ ap (option_map (alone_of alias (gathered_bound free sources None (first_select (query_view x))))) e)
      ∙ with_list alias q (gathered_bound free sources None (first_select (query_view x)))
      ∙ ap (λ y. gathered_bound free sources None y >>= from_list free sources outer alias q) (ap first_select (query_parts x))

-- ---- by the joins of a select

some : {A : Type 0} (x : A) (xs : List A) → (length (x ∷ xs) == 0) ≡ true → ⊥
some x xs e = let f : (length (x ∷ xs) == 0) ≡ false = grind (arith, nat_tests) in cc

abbrev made : Select → t.Select
made x = t.select_of (out-Select x).distinct (t.items (items_view (out-Select x).items)) (source_view (out-Select x).from) (t.joins (joins_view (out-Select x).joins)) (t.optional_tree (option_map view (out-Select x).cond)) (t.trees (trees_view (out-Select x).groups)) (t.optional_tree (option_map view (out-Select x).having))

module _ (free : Bool) (sources : List TableDef) where
  of_read : (outer : t.Select) (from : t.Source) (js : List JoinItem) → (length js == 0) ≡ true
      → (read_by (t.joins (joins_view js)) (alone_bound free sources from) (source_bound free sources from >>= joins_bound free sources (t.joins (joins_view js))) >>= framed free sources outer) ≡ only_framed free sources outer from
  of_read outer from [] e = only free sources outer from
  of_read outer from (j ∷ js) e = absurd (some j js e)

  of_joins : (outer : t.Select) (from : t.Source) (js : List JoinItem) → (length js == 0) ≡ false
      → (read_by (t.joins (joins_view js)) (alone_bound free sources from) (source_bound free sources from >>= joins_bound free sources (t.joins (joins_view js))) >>= framed free sources outer)
      ≡ (source_bound free sources from >>= joins_bound free sources (t.joins (joins_view js)) >>= λ x. Ok (record { relation = x; spent = None }))
  of_joins outer from [] l = absurd (cc)
  of_joins outer from (j ∷ js) l = side free sources outer (source_bound free sources from >>= joins_bound free sources (t.join_and (join_view j) (t.joins (joins_view js))))

  pub read_only : (x : Select) → (length (out-Select x).joins == 0) ≡ true → read_framed free sources (select_view x) ≡ only_framed free sources (select_view x) (source_view (out-Select x).from)
  read_only x e =
      ap (read_framed free sources) (select x)
      ∙ (of_read (made x) (source_view (out-Select x).from) (out-Select x).joins e ∙ ap (λ o. only_framed free sources o (source_view (out-Select x).from)) (sym (select x)))

  pub read_joined : (x : Select) → (length (out-Select x).joins == 0) ≡ false → read_framed free sources (select_view x) ≡ joined_framed free sources (select_view x)
  read_joined x l =
      ap (read_framed free sources) (select x) ∙ (of_joins (made x) (source_view (out-Select x).from) (out-Select x).joins l ∙ ap (joined_framed free sources) (sym (select x)))

-- ---- the list of an EXISTS's subquery

module _ (free anti : Bool) (f : FromWhere) where
  abbrev nothing_listed : Relation → Checked (List Bound)
  nothing_listed y = Ok []

  abbrev whatever : List Bound → Checked Part
  whatever listed = Ok (exists_part anti f.parts f.relation)

  abbrev if_free : Bool → RankedList → Checked Part
  if_free free x = cond free (Ok (exists_part anti f.parts f.relation)) (Err RankUnbounded)

  pub exists_plain : (x : t.Select) → ranked_select x ≡ None → exists_over free anti x f ≡ plain_exists anti x f
  exists_plain (t.select_of distinct items from joins condition groups having) e = ap (λ o. list_inside free o (t.select_of distinct items from joins condition groups having) f.relation >>= λ listed. Ok (exists_part anti f.parts f.relation)) e

  pub exists_ranked : (x : t.Select) (q : Ranked) → ranked_select x ≡ Some q → exists_over free anti x f ≡ ranked_exists free anti q f
  exists_ranked x q e = ap (λ o. list_inside free o x f.relation >>= λ listed. Ok (exists_part anti f.parts f.relation)) e ∙ go free (ranked_list q f.relation)
    where
      go : (free : Bool) (r : Checked RankedList) → (r >>= unbounded free >>= nothing_listed >>= whatever) ≡ (r >>= if_free free)
      go true (Ok x) = refl
      go true (Err code) = refl
      go false (Ok x) = refl
      go false (Err code) = refl

after : {A B : Type 0} (r : Checked A) (f : A → Checked B) (y : B) (P : Type 0) → ((z : A) → f z ≡ Ok y → P) → (r >>= f) ≡ Ok y → P
after (Ok z) f y P k e = k z e
after (Err code) f y P k e = absurd (cc)

-- a list is over the rows that it was given
pub input_same : (q : Ranked) (x : Relation) (y : RankedList) → ranked_list q x ≡ Ok y → y.input ≡ x
input_same q x y =
    after (items_bound x.scope q.ahead) _ y (y.input ≡ x) (λ xs.
    after (window_bound (names x.scope) 0 (t.some_over (t.over_of q.partition q.order))) _ y (y.input ≡ x) (λ walked.
    after (places_bound x.scope q.partition) _ y (y.input ≡ x) (λ ns.
    after (sorts_bound x.scope q.order) _ y (y.input ≡ x) (λ ss.
    after (items_bound x.scope q.behind) _ y (y.input ≡ x) (λ ys.
    after (few (with_rank true xs (rank_bound x.scope) ys)) _ y (y.input ≡ x) (λ all e.
    let made : RankedList = record { list = q; input = x; ahead = xs; partition = ns; order = ss; behind = ys } in
    let same : made ≡ y = cc in
    ap (λ z. z.input) (sym same)))))))
