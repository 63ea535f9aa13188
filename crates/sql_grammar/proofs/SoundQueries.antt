-- What is read as a query, or as a part of one, is spelled by the tokens that were taken.
use Rattle.std.proofs.Common.{◌≡◌, Bool, true, false, List, [], ◌∷◌, ◌++◌, Option, Some, None, refl, sym, ap, ◌∙◌, append_assoc}
use Rattle.sql_tokens.specs.declared.token.Token.{Token}
use Rattle.sql_syntax.specs.declared.tree.JoinWord.{JoinWord}
use Rattle.sql_syntax.specs.declared.tree.JoinWord.TheVariants.{Inner, Left, Right, Full}
use Rattle.sql_syntax.specs.declared.tree.SetWord.TheVariants.{UnionAll}
use Rattle.sql_syntax.specs.Tree.{Text, Tree, query_of, Select, Item, One, Source, FromQuery, JoinItem, join_of, SelectTail, select_tail_of, select_tails, term_of, term_tail_of, term_tails, sort_list}
use Rattle.sql_grammar.specs.Words.{ALL, BY, DISTINCT, FROM, GROUP, HAVING, INTERSECT, JOIN, LIMIT, ON, ORDER, OUTER, SELECT, WHERE, DOT, TIMES, NUMBER, only, name_word, name_token, number_word, join_word, join_token, set_word, set_token}
use Rattle.sql_grammar.specs.Shapes.{Spelling, Word, WordOf, After, Seq2, Seq3, Maybe, Flag, OrNone, Many, Listed, Bracketed}
use Rattle.sql_grammar.specs.Spells
use Rattle.sql_grammar.specs.Nodes.{select_node, except_word}
use Rattle.sql_grammar.specs.Spells.{Inside, StarOf, AliasOf}
use Rattle.sql_grammar.specs.Reading.{word_at, after, flag, nothing, bracketed}
use Rattle.sql_grammar.specs.Reads
use Rattle.sql_grammar.specs.Reads.{Readers, alias_at}
use Rattle.sql_grammar.proofs.WordReading.{IfRead, only_is, name_is, number_is, join_is, set_is}
use Rattle.sql_grammar.proofs.SoundShapes.{Took, Sound, bind, at_word, word_sound, only_sound, after_sound, maybe_sound, flag_word_sound, or_none_sound, made_sound, repeated_sound, seq2_sound, seq3_sound, bracketed_sound, listed_sound}
use Rattle.sql_grammar.proofs.SoundExpressions.{alias_sound, trees_sound, trees_filled, order_by_sound, order_filled}

pub star_of_sound : Sound Reads.star_of_at StarOf
unfolding Reads.star_of_at
star_of_sound = seq3_sound (λ x d s. x.0) (word_at name_word) (word_at (only DOT)) (word_at (only TIMES)) (WordOf name_token) (Word DOT) (Word TIMES) StarOf
    (word_sound name_word name_token name_is) (only_sound DOT) (only_sound TIMES) (λ us x d s e. (x.1, e.6 ∙ (λ i. e.3 i ++ (e.4 i ++ e.5 i))))

module _ (p : Readers) (I : Inside) (h : Sound p.expr I.expr) (g : Sound p.query I.query) where
  value_item_sound : Sound (Reads.value_item_at p) (Spells.ItemOf I)
  unfolding Reads.value_item_at Spells.ItemOf
  value_item_sound = seq2_sound (λ x name. One x name) p.expr alias_at I.expr AliasOf (Spells.ItemOf I) h alias_sound (λ us x name s. s)

  item_sound : Sound (Reads.item_at p) (Spells.ItemOf I)
  unfolding Reads.item_at Spells.ItemOf
  item_sound ts = go (word_at (only TIMES) ts) (at_word (only TIMES) (λ w. TIMES) (only_is TIMES) ts)
    where
      others : (o : Option (Text × List Token)) → IfRead o (Took StarOf ts) → IfRead (Reads.star_of_or_value p ts o) (Took (Spells.ItemOf I) ts)
      others None one = value_item_sound ts
      others (Some x) one = record { taken = one.taken; is = one.is; spelled = one.spelled }

      go : (o : Option (Unit {0} × List Token)) → IfRead o (λ y. ts ≡ TIMES ∷ y.1) → IfRead (Reads.star_or_item p ts o) (Took (Spells.ItemOf I) ts)
      go None e = others (Reads.star_of_at ts) (star_of_sound ts)
      go (Some y) e = record { taken = TIMES ∷ []; is = e; spelled = refl }

  from_query_sound : Sound (Reads.from_query_at p) (Spells.SourceOf I)
  unfolding Reads.from_query_at Spells.SourceOf
  from_query_sound = seq2_sound (λ x alias. FromQuery x alias) (bracketed p.query) alias_at (Bracketed I.query) AliasOf (Spells.SourceOf I) (bracketed_sound p.query I.query g) alias_sound (λ us x alias s. s)

  source_sound : Sound (Reads.source_at p) (Spells.SourceOf I)
  unfolding Reads.source_at Reads.table_at Spells.SourceOf
  source_sound ts = go (word_at name_word ts) (at_word name_word name_token name_is ts)
    where
      go : (o : Option ((Text × Bool) × List Token)) → IfRead o (λ y. ts ≡ name_token y.0 ∷ y.1) → IfRead (Reads.table_or_query p ts o) (Took (Spells.SourceOf I) ts)
      go None e = from_query_sound ts
      go (Some y) e = bind (alias_at y.1) _ (Took AliasOf y.1) _ (alias_sound y.1) (λ x one. record {
        taken = name_token y.0 ∷ one.taken;
        is = e ∙ ap (λ a. name_token y.0 ∷ a) one.is;
        spelled = (name_token y.0 ∷ [], one.taken, (y.0.1, refl), one.spelled, refl);
      })

  on_sound : (kind : JoinWord) → Sound (λ ts. Reads.on_at p kind ts) (Spells.OnOf I kind)
  unfolding Reads.on_at Spells.OnOf
  on_sound kind = seq3_sound (λ source w on. join_of kind source on) (Reads.source_at p) (word_at (only ON)) p.expr (Spells.SourceOf I) (Word ON) I.expr (Spells.OnOf I kind)
      source_sound (only_sound ON) h (λ us source w on s. (source, on, s, refl))

  outer_sound : (kind : JoinWord) → Sound (λ ts. Reads.outer_at p kind ts) (Spells.OuterOf I kind)
  unfolding Reads.outer_at Spells.OuterOf
  outer_sound kind ts =
      bind (flag OUTER nothing ts) _ (Took (Flag (Word OUTER)) ts) _ (flag_word_sound OUTER ts) (λ x one.
      go x.0 x.1 one (after JOIN (λ us. Reads.on_at p kind us) x.1) (after_sound JOIN (λ us. Reads.on_at p kind us) (Spells.OnOf I kind) (on_sound kind) x.1))
    where
      go : (written : Bool) (us : List Token) → Took (Flag (Word OUTER)) ts (written, us) → (o : Option (JoinItem × List Token)) → IfRead o (Took (After JOIN (Spells.OnOf I kind)) us) → IfRead o (Took (Spells.OuterOf I kind) ts)
      go written us one None two = tt
      go written us one (Some y) two = record {
        taken = one.taken ++ two.taken;
        is = one.is ∙ ap (λ a. one.taken ++ a) two.is ∙ sym (append_assoc one.taken two.taken y.1);
        spelled = (written, (one.taken, two.taken, one.spelled, two.spelled, refl));
      }

  joined_sound : (w : Option JoinWord) → Sound (λ ts. Reads.joined_at p w ts) (Spells.JoinedOf I w)
  unfolding Reads.joined_at Spells.JoinedOf
  joined_sound None = on_sound Inner
  joined_sound (Some Inner) = after_sound JOIN (λ us. Reads.on_at p Inner us) (Spells.OnOf I Inner) (on_sound Inner)
  joined_sound (Some Left) = outer_sound Left
  joined_sound (Some Right) = outer_sound Right
  joined_sound (Some Full) = outer_sound Full

  chosen_sound : Sound (Reads.chosen_at p) (Spells.ChosenOf I)
  unfolding Reads.chosen_at Reads.items_at Spells.ChosenOf
  chosen_sound = seq2_sound (λ d xs. (d, xs)) (flag DISTINCT nothing) (Reads.items_at p) (Flag (Word DISTINCT)) (Listed (Spells.ItemOf I)) (Spells.ChosenOf I)
      (flag_word_sound DISTINCT) (listed_sound (Reads.item_at p) (Spells.ItemOf I) item_sound) (λ us d xs s. s)

  joins_sound : Sound (Reads.joins_at p) (Many (Spells.JoinOf I))
  unfolding Reads.joins_at Spells.JoinOf
  joins_sound = repeated_sound join_word join_token (λ w ts. Reads.joined_at p w ts) (λ w. Spells.JoinedOf I w) join_is joined_sound

  from_sound : Sound (Reads.from_at p) (Spells.FromOf I)
  unfolding Reads.from_at Spells.FromOf
  from_sound = seq3_sound (λ w source js. (source, js)) (word_at (only FROM)) (Reads.source_at p) (Reads.joins_at p) (Word FROM) (Spells.SourceOf I) (Many (Spells.JoinOf I)) (Spells.FromOf I)
      (only_sound FROM) source_sound joins_sound (λ us w source js s. (tt, s.1 ++ s.2, (s.1, s.2, s.4, s.5, refl), s.6 ∙ ap (λ a. a ++ (s.1 ++ s.2)) s.3))

  where_sound : Sound (Reads.where_at p) (Maybe (After WHERE I.expr))
  unfolding Reads.where_at
  where_sound = maybe_sound (only WHERE) (λ w. WHERE) (λ w. p.expr) (λ w. I.expr) (only_is WHERE) (λ w. h)

  group_sound : Sound (Reads.group_at p) (OrNone (Spells.GroupOf I))
  unfolding Reads.group_at Spells.GroupOf
  group_sound = or_none_sound GROUP (after BY (Reads.trees_at p)) (After BY (Spells.TreesOf I)) (λ us s. trees_filled p I h g s.1 s.2)
      (after_sound BY (Reads.trees_at p) (Spells.TreesOf I) (trees_sound p I h g))

  having_sound : Sound (Reads.having_at p) (Maybe (After HAVING I.expr))
  unfolding Reads.having_at
  having_sound = maybe_sound (only HAVING) (λ w. HAVING) (λ w. p.expr) (λ w. I.expr) (only_is HAVING) (λ w. h)

  filters_sound : Sound (Reads.filters_at p) (Spells.FiltersOf I)
  unfolding Reads.filters_at Spells.FiltersOf
  filters_sound = seq3_sound (λ cond groups having. (cond, groups, having)) (Reads.where_at p) (Reads.group_at p) (Reads.having_at p)
      (Maybe (After WHERE I.expr)) (OrNone (Spells.GroupOf I)) (Maybe (After HAVING I.expr)) (Spells.FiltersOf I) where_sound group_sound having_sound (λ us cond groups having s. s)

  -- behind SELECT
  SelectedOf : Spelling Select
  SelectedOf ts select =
      (chosen : Bool × List Item) × (from : Source × List JoinItem) × (filters : Option Tree × List Tree × Option Tree)
      × Seq3 (Spells.ChosenOf I) (Spells.FromOf I) (Spells.FiltersOf I) ts chosen from filters × (select ≡ select_node chosen from filters)

  selected_sound : Sound (Reads.selected_at p) SelectedOf
  unfolding Reads.selected_at SelectedOf
  selected_sound = seq3_sound (λ chosen from filters. select_node chosen from filters) (Reads.chosen_at p) (Reads.from_at p) (Reads.filters_at p)
      (Spells.ChosenOf I) (Spells.FromOf I) (Spells.FiltersOf I) SelectedOf chosen_sound from_sound filters_sound (λ us chosen from filters s. (chosen, from, filters, s, refl))

  -- behind INTERSECT
  BehindIntersect : Spelling SelectTail
  BehindIntersect ts tail = (all : Bool) × (select : Select) × Seq2 (Flag (Word ALL)) (Spells.SelectOf I) ts all select × (tail ≡ select_tail_of all select)

  select_sound : Sound (Reads.select_at p) (Spells.SelectOf I)
  unfolding Reads.select_at Spells.SelectOf SelectedOf
  select_sound = after_sound SELECT (Reads.selected_at p) SelectedOf selected_sound

  intersect_sound : Sound (Reads.intersect_at p) BehindIntersect
  unfolding Reads.intersect_at BehindIntersect
  intersect_sound = seq2_sound (λ all select. select_tail_of all select) (flag ALL nothing) (Reads.select_at p) (Flag (Word ALL)) (Spells.SelectOf I) BehindIntersect
      (flag_word_sound ALL) select_sound (λ us all select s. (all, select, s, refl))

  intersects_sound : Sound (Reads.intersects_at p) (Many (Spells.IntersectOf I))
  unfolding Reads.intersects_at Spells.IntersectOf BehindIntersect
  intersects_sound = repeated_sound (only INTERSECT) (λ w. INTERSECT) (λ w. Reads.intersect_at p) (λ w. BehindIntersect) (only_is INTERSECT) (λ w. intersect_sound)

  term_sound : Sound (Reads.term_at p) (Spells.TermOf I)
  unfolding Reads.term_at Spells.TermOf
  term_sound = seq2_sound (λ first rest. term_of first (select_tails rest)) (Reads.select_at p) (Reads.intersects_at p) (Spells.SelectOf I) (Many (Spells.IntersectOf I)) (Spells.TermOf I)
      select_sound intersects_sound (λ us first rest s. (first, rest, s, refl))

  beside_sound : (w : Bool) → Sound (λ ts. Reads.beside_at p w ts) (Spells.BesideOf I w)
  unfolding Reads.beside_at Reads.union_at Reads.except_at Spells.BesideOf
  beside_sound false = made_sound (term_tail_of UnionAll) (after ALL (Reads.term_at p)) (After ALL (Spells.TermOf I)) (after_sound ALL (Reads.term_at p) (Spells.TermOf I) term_sound)
  beside_sound true = seq2_sound (λ all term. term_tail_of (except_word all) term) (flag ALL nothing) (Reads.term_at p) (Flag (Word ALL)) (Spells.TermOf I) (Spells.BesideOf I true)
      (flag_word_sound ALL) term_sound (λ us all term s. (all, term, s, refl))

  term_tails_sound : Sound (Reads.term_tails_at p) (Many (Spells.TermTailOf I))
  unfolding Reads.term_tails_at Spells.TermTailOf
  term_tails_sound = repeated_sound set_word set_token (λ w ts. Reads.beside_at p w ts) (λ w. Spells.BesideOf I w) set_is beside_sound

  terms_sound : Sound (Reads.terms_at p) (Spells.TermsOf I)
  unfolding Reads.terms_at Spells.TermsOf
  terms_sound = seq2_sound (λ first rest. (first, rest)) (Reads.term_at p) (Reads.term_tails_at p) (Spells.TermOf I) (Many (Spells.TermTailOf I)) (Spells.TermsOf I)
      term_sound term_tails_sound (λ us first rest s. s)

  order_sound : Sound (Reads.order_at p) (OrNone (Spells.OrderOf I))
  unfolding Reads.order_at Spells.OrderOf
  order_sound = or_none_sound ORDER (Reads.order_by_at p) (After BY (Listed (Spells.SortOf I))) (order_filled p I h g) (order_by_sound p I h g)

  limit_sound : Sound Reads.limit_at (Maybe (After LIMIT (WordOf NUMBER)))
  unfolding Reads.limit_at
  limit_sound = maybe_sound (only LIMIT) (λ w. LIMIT) (λ w. word_at number_word) (λ w. WordOf NUMBER) (only_is LIMIT) (λ w. word_sound number_word NUMBER number_is)

  ending_sound : Sound (Reads.ending_at p) (Spells.EndingOf I)
  unfolding Reads.ending_at Spells.EndingOf
  ending_sound = seq2_sound (λ order limit. (order, limit)) (Reads.order_at p) Reads.limit_at (OrNone (Spells.OrderOf I)) (Maybe (After LIMIT (WordOf NUMBER))) (Spells.EndingOf I) order_sound limit_sound (λ us order limit s. s)

  pub query_sound : Sound (Reads.query_at p) (Spells.QueryOf I)
  unfolding Reads.query_at Spells.QueryOf
  query_sound = seq2_sound (λ terms ending. query_of terms.0 (term_tails terms.1) (sort_list ending.0) ending.1) (Reads.terms_at p) (Reads.ending_at p) (Spells.TermsOf I) (Spells.EndingOf I) (Spells.QueryOf I)
      terms_sound ending_sound (λ us terms ending s. (terms, ending, s, refl))
