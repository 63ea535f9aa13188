-- What tokens spell as a query, or as a part of one, is read, whatever follows that doesn't go on.
use Rattle.std.proofs.Common.{◌≡◌, ℕ, ◌<◌, ◌≤◌, Bool, true, false, List, ◌∷◌, ◌++◌, Option, Some, None, refl, sym, ap, ◌∙◌, subst, append_assoc, arith}
use Rattle.sql_tokens.specs.declared.token.Token.{Token}
use Rattle.sql_syntax.specs.declared.tree.JoinWord.{JoinWord}
use Rattle.sql_syntax.specs.declared.tree.JoinWord.TheVariants.{Inner, Left, Right, Full}
use Rattle.sql_syntax.specs.declared.tree.SetWord.TheVariants.{UnionAll}
use Rattle.sql_syntax.specs.Tree.{Text, Tree, query_of, All, AllOf, One, Table, FromQuery, Select, SelectTail, select_tail_of, select_tails, term_of, term_tail_of, term_tails, sort_list}
use Rattle.sql_grammar.specs.Words.{ALL, BY, DISTINCT, FROM, GROUP, HAVING, INTERSECT, JOIN, LIMIT, ON, ORDER, WHERE, OPEN, CLOSE, DOT, TIMES, NAME, NUMBER, only, name_word, number_word, join_word, join_token, set_word, set_token}
use Rattle.sql_grammar.specs.Shapes.{Spelling, Word, WordOf, After, Seq2, Seq3, Maybe, Flag, OrNone, Many, Listed, Bracketed}
use Rattle.sql_grammar.specs.Spells
use Rattle.sql_grammar.specs.Nodes.{select_node, except_word}
use Rattle.sql_grammar.specs.Spells.{Inside, StarOf, AliasOf}
use Rattle.sql_grammar.specs.Reading.{Reader, word_at, after, flag, nothing, seq2, bracketed}
use Rattle.sql_grammar.specs.Reads
use Rattle.sql_grammar.specs.Reads.{Readers, alias_at}
use Rattle.sql_grammar.proofs.WordReading.{IfRead, only_is, number_back, join_is, join_back, set_is, set_back}
use Rattle.sql_grammar.proofs.SoundShapes.{Took}
use Rattle.sql_grammar.proofs.SoundQueries.{star_of_sound}
use Rattle.sql_grammar.proofs.laws.Steps.{bind_is}
use Rattle.sql_grammar.proofs.CompleteShapes.{strength, Ends, Complete, Before, complete_lower, word_complete, made_complete, after_complete, led_before, maybe_after, maybe_before, flag_missing, or_none_complete, or_none_before, many_led_before, repeated_complete, seq2_reads, seq3_reads, listed_complete, bracketed_complete}
use Rattle.sql_grammar.proofs.laws.Steps.{fail_bind}
use Rattle.sql_grammar.proofs.CompleteExpressions.{Refuses, only_not, opened, alias_complete, alias_before, trees_complete, order_by_complete}

-- three parts, of which each ends where the next begins
seq3_before : {A B C : Type 0} (R : Spelling A) (S : Spelling B) (Q : Spelling C) (l m n k : ℕ) → Before R n k → Before S m n → Before Q l m
    → (us : List Token) (x : A) (y : B) (z : C) (rest : List Token) → Seq3 R S Q us x y z → Ends l rest → Ends k (us ++ rest)
seq3_before R S Q l m n k b c d us x y z rest (u1, u2, u3, one, two, three, e) end =
    subst (λ (a : List Token). Ends k a) (sym (ap (λ a. a ++ rest) e ∙ append_assoc u1 (u2 ++ u3) rest ∙ ap (λ a. u1 ++ a) (append_assoc u2 u3 rest)))
    (b u1 x (u2 ++ (u3 ++ rest)) one (c u2 y (u3 ++ rest) two (d u3 z rest three end)))

limit_complete : Complete Reads.limit_at (Maybe (After LIMIT (WordOf NUMBER))) 1
unfolding Reads.limit_at
limit_complete = maybe_after LIMIT (word_at number_word) (WordOf NUMBER) 1 refl (omega arith) (word_complete number_word NUMBER 1 number_back)

module _ (p : Readers) (I : Inside) (h : Complete p.expr I.expr 10) (g : Complete p.query I.query 1) (no : Refuses p) where
  expr_level : (l : ℕ) → l ≤ 10 → Complete p.expr I.expr l
  expr_level l le = complete_lower p.expr I.expr l 10 le h

  -- where an expression is read, no column list of a source stands
  no_star_of : (ts : List Token) (y : Tree × List Token) → p.expr ts ≡ Some y → Reads.star_of_at ts ≡ None
  no_star_of ts y e = go (Reads.star_of_at ts) (star_of_sound ts)
    where
      go : (o : Option (Text × List Token)) → IfRead o (Took StarOf ts) → o ≡ None
      go None k = refl
      go (Some x) k =
          let front : ts ≡ NAME x.0 k.spelled.0 ∷ DOT ∷ TIMES ∷ x.1 = k.is ∙ ap (λ a. a ++ x.1) k.spelled.1 in
          let clash : None ≡ Some y = sym (no.star_of x.0 k.spelled.0 x.1) ∙ ap p.expr (sym front) ∙ e in
          absurd (cc)

  value_item_complete : (us : List Token) (value : Tree) (name : Option Text) (rest : List Token) → Seq2 I.expr AliasOf us value name → Ends 9 rest → Reads.value_item_at p (us ++ rest) ≡ Some (One value name, rest)
  unfolding Reads.value_item_at
  value_item_complete us value name rest s end = seq2_reads (λ x name. One x name) p.expr alias_at I.expr AliasOf 9 10 h alias_complete (alias_before 10 (omega arith)) us value name rest s end

  item_complete : Complete (Reads.item_at p) (Spells.ItemOf I) 9
  unfolding Reads.item_at Spells.ItemOf Reads.star_of_at
  item_complete us All rest s end = ap (λ a. Reads.item_at p (a ++ rest)) s
  item_complete us (AllOf of) rest s end = ap (λ a. Reads.item_at p (a ++ rest)) s.1
  item_complete us (One value name) rest (u1, u2, one, two, e) end =
      let front : us ++ rest ≡ u1 ++ (u2 ++ rest) = ap (λ a. a ++ rest) e ∙ append_assoc u1 u2 rest in
      let r : p.expr (us ++ rest) ≡ Some (value, u2 ++ rest) = ap p.expr front ∙ h u1 value (u2 ++ rest) one (alias_before 10 (omega arith) u2 name rest two end) in
      ap (Reads.star_or_item p (us ++ rest)) (only_not TIMES p.expr no.star _ _ r) ∙ ap (Reads.star_of_or_value p (us ++ rest)) (no_star_of _ _ r)
      ∙ value_item_complete us value name rest (u1, u2, one, two, e) end

  items_complete : Complete (Reads.items_at p) (Listed (Spells.ItemOf I)) 8
  unfolding Reads.items_at
  items_complete = listed_complete (Reads.item_at p) (Spells.ItemOf I) item_complete

  distinct_no_items : (ts : List Token) → Reads.items_at p (DISTINCT ∷ ts) ≡ None
  unfolding Reads.items_at Reads.item_at Reads.star_of_at Reads.value_item_at
  distinct_no_items ts = fail_bind _ _ (fail_bind _ _ (no.distinct ts))

  chosen_complete : Complete (Reads.chosen_at p) (Spells.ChosenOf I) 8
  unfolding Reads.chosen_at Spells.ChosenOf
  chosen_complete us (false, xs) rest (u1, u2, one, two, e) end =
      let r = items_complete u2 xs rest two end in
      ap (λ a. Reads.chosen_at p (a ++ rest)) (e ∙ ap (λ a. a ++ u2) one)
      ∙ bind_is _ (flag_missing DISTINCT (u2 ++ rest) (only_not DISTINCT (Reads.items_at p) distinct_no_items (u2 ++ rest) (xs, rest) r)) (bind_is _ r refl)
  chosen_complete us (true, xs) rest (u1, u2, one, two, e) end =
      ap (λ a. Reads.chosen_at p (a ++ rest)) (e ∙ ap (λ a. a ++ u2) one) ∙ bind_is _ (items_complete u2 xs rest two end) refl

  source_complete : Complete (Reads.source_at p) (Spells.SourceOf I) 9
  unfolding Reads.source_at Reads.from_query_at Reads.table_at Spells.SourceOf
  source_complete us (Table name alias) rest (u1, u2, (quoted, one), two, e) end =
      ap (λ a. Reads.source_at p (a ++ rest)) (e ∙ ap (λ a. a ++ u2) one) ∙ bind_is _ (alias_complete u2 alias rest two end) refl
  source_complete us (FromQuery query alias) rest (u1, u2, one, two, e) end =
      let front : us ++ rest ≡ OPEN ∷ (one.1 ++ CLOSE ∷ (u2 ++ rest)) = ap (λ a. a ++ rest) e ∙ append_assoc u1 u2 rest ∙ opened I.query u1 (u2 ++ rest) query one in
      ap (Reads.table_or_query p (us ++ rest)) (ap (word_at name_word) front)
      ∙ seq2_reads (λ x alias. FromQuery x alias) (bracketed p.query) alias_at (Bracketed I.query) AliasOf 9 10 (bracketed_complete p.query I.query 10 1 (omega arith) g) alias_complete (alias_before 10 (omega arith))
      us query alias rest (u1, u2, one, two, e) end

  on_complete : (kind : JoinWord) → Complete (λ ts. Reads.on_at p kind ts) (Spells.OnOf I kind) 9
  unfolding Reads.on_at Spells.OnOf
  on_complete kind us join rest (source, on, (u1, u2, u3, one, two, three, e), made) end =
      ap (λ a. Reads.on_at p kind a) (ap (λ a. a ++ rest) (e ∙ ap (λ a. u1 ++ (a ++ u3)) two) ∙ append_assoc u1 (ON ∷ u3) rest)
      ∙ bind_is _ (source_complete u1 source (ON ∷ (u3 ++ rest)) one (omega arith))
      (bind_is _ (expr_level 9 (omega arith) u3 on rest three end) (ap (λ a. Some (a, rest)) (sym made)))

  outer_complete : (kind : JoinWord) → Complete (λ ts. Reads.outer_at p kind ts) (Spells.OuterOf I kind) 9
  unfolding Reads.outer_at Spells.OuterOf
  outer_complete kind us join rest (false, (u1, u2, one, (w, vs, two, e2), e)) end = ap (λ a. Reads.outer_at p kind (a ++ rest)) (e ∙ (λ i. one i ++ e2 i)) ∙ on_complete kind vs join rest two end
  outer_complete kind us join rest (true, (u1, u2, one, (w, vs, two, e2), e)) end = ap (λ a. Reads.outer_at p kind (a ++ rest)) (e ∙ (λ i. one i ++ e2 i)) ∙ on_complete kind vs join rest two end

  joined_complete : (w : Option JoinWord) → Complete (λ ts. Reads.joined_at p w ts) (Spells.JoinedOf I w) 9
  unfolding Reads.joined_at Spells.JoinedOf
  joined_complete None = on_complete Inner
  joined_complete (Some Inner) = after_complete JOIN (λ ts. Reads.on_at p Inner ts) (Spells.OnOf I Inner) 9 refl (on_complete Inner)
  joined_complete (Some Left) = outer_complete Left
  joined_complete (Some Right) = outer_complete Right
  joined_complete (Some Full) = outer_complete Full

  join_low : (w : Option JoinWord) → 8 ≤ strength (join_token w)
  join_low None = omega arith
  join_low (Some Inner) = omega arith
  join_low (Some Left) = omega arith
  join_low (Some Right) = omega arith
  join_low (Some Full) = omega arith

  join_high : (w : Option JoinWord) → strength (join_token w) < 9
  join_high None = omega arith
  join_high (Some Inner) = omega arith
  join_high (Some Left) = omega arith
  join_high (Some Right) = omega arith
  join_high (Some Full) = omega arith

  joins_complete : Complete (Reads.joins_at p) (Many (Spells.JoinOf I)) 8
  unfolding Reads.joins_at Spells.JoinOf
  joins_complete = repeated_complete join_word join_token (λ w ts. Reads.joined_at p w ts) (λ w. Spells.JoinedOf I w) 8 9 join_is join_back (omega arith) join_low join_high joined_complete

  joins_before : Before (Many (Spells.JoinOf I)) 8 9
  unfolding Spells.JoinOf
  joins_before = many_led_before join_token (λ w. Spells.JoinedOf I w) 8 9 (omega arith) join_high

  from_complete : Complete (Reads.from_at p) (Spells.FromOf I) 8
  unfolding Reads.from_at Spells.FromOf
  from_complete us (source, js) rest (w, vs, (u1, u2, one, two, e2), e) end =
      ap (Reads.from_at p) (ap (λ a. a ++ rest) (e ∙ ap (λ a. FROM ∷ a) e2) ∙ ap (λ a. FROM ∷ a) (append_assoc u1 u2 rest))
      ∙ bind_is _ (source_complete u1 source (u2 ++ rest) one (joins_before u2 js rest two end)) (bind_is _ (joins_complete u2 js rest two end) refl)

  where_complete : Complete (Reads.where_at p) (Maybe (After WHERE I.expr)) 7
  unfolding Reads.where_at
  where_complete = maybe_after WHERE p.expr I.expr 7 refl (omega arith) (expr_level 7 (omega arith))

  group_complete : Complete (Reads.group_at p) (OrNone (Spells.GroupOf I)) 6
  unfolding Reads.group_at Spells.GroupOf
  group_complete = or_none_complete GROUP (after BY (Reads.trees_at p)) (After BY (Spells.TreesOf I)) 6 refl (omega arith)
      (after_complete BY (Reads.trees_at p) (Spells.TreesOf I) 6 refl (complete_lower (Reads.trees_at p) (Spells.TreesOf I) 6 8 (omega arith) (trees_complete p I h g no)))

  having_complete : Complete (Reads.having_at p) (Maybe (After HAVING I.expr)) 5
  unfolding Reads.having_at
  having_complete = maybe_after HAVING p.expr I.expr 5 refl (omega arith) (expr_level 5 (omega arith))

  where_before : Before (Maybe (After WHERE I.expr)) 7 8
  where_before = maybe_before (After WHERE I.expr) 7 8 (omega arith) (led_before (λ w. WHERE) (λ w. I.expr) 7 8 (λ w. omega arith))

  group_before : Before (OrNone (Spells.GroupOf I)) 6 7
  unfolding Spells.GroupOf
  group_before = or_none_before (After GROUP (After BY (Spells.TreesOf I))) 6 7 (omega arith) (led_before (λ w. GROUP) (λ w. After BY (Spells.TreesOf I)) 6 7 (λ w. omega arith))

  having_before : Before (Maybe (After HAVING I.expr)) 5 6
  having_before = maybe_before (After HAVING I.expr) 5 6 (omega arith) (led_before (λ w. HAVING) (λ w. I.expr) 5 6 (λ w. omega arith))

  filters_complete : Complete (Reads.filters_at p) (Spells.FiltersOf I) 5
  unfolding Reads.filters_at Spells.FiltersOf
  filters_complete us (cond, groups, having) rest s end =
      seq3_reads (λ cond groups having. (cond, groups, having)) (Reads.where_at p) (Reads.group_at p) (Reads.having_at p) (Maybe (After WHERE I.expr)) (OrNone (Spells.GroupOf I)) (Maybe (After HAVING I.expr)) 5 6 7
      where_complete group_complete having_complete group_before having_before us cond groups having rest s end

  filters_before : Before (Spells.FiltersOf I) 5 8
  unfolding Spells.FiltersOf
  filters_before us (cond, groups, having) rest s end =
      seq3_before (Maybe (After WHERE I.expr)) (OrNone (Spells.GroupOf I)) (Maybe (After HAVING I.expr)) 5 6 7 8 where_before group_before having_before us cond groups having rest s end

  from_before : Before (Spells.FromOf I) 8 8
  unfolding Spells.FromOf
  from_before us x rest s end = subst (λ (a : List Token). Ends 8 (a ++ rest)) (sym s.3) (omega arith)

  select_complete : Complete (Reads.select_at p) (Spells.SelectOf I) 5
  unfolding Reads.select_at Reads.selected_at Spells.SelectOf
  select_complete us made_of rest (w, vs, (chosen, from, filters, s, made), e) end =
      ap (λ a. Reads.select_at p (a ++ rest)) e
      ∙ seq3_reads (λ chosen from filters. select_node chosen from filters) (Reads.chosen_at p) (Reads.from_at p) (Reads.filters_at p) (Spells.ChosenOf I) (Spells.FromOf I) (Spells.FiltersOf I) 5 8 8
      chosen_complete from_complete filters_complete from_before filters_before vs chosen from filters rest s end
      ∙ ap (λ a. Some (a, rest)) (sym made)

  -- [ ALL ] item, where no item begins with ALL
  all_reads : {A X : Type 0} (f : Bool → A → X) (q : Reader A) (S : Spelling A) (l : ℕ) → Complete q S l → ((ts : List Token) → q (ALL ∷ ts) ≡ None)
      → (us : List Token) (all : Bool) (x : A) (rest : List Token) → Seq2 (Flag (Word ALL)) S us all x → Ends l rest → seq2 f (flag ALL nothing) q (us ++ rest) ≡ Some (f all x, rest)
  all_reads f q S l c none us false x rest (u1, u2, one, two, e) end =
      let r = c u2 x rest two end in
      ap (λ a. seq2 f (flag ALL nothing) q (a ++ rest)) (e ∙ ap (λ a. a ++ u2) one)
      ∙ bind_is _ (flag_missing ALL (u2 ++ rest) (only_not ALL q none (u2 ++ rest) (x, rest) r)) (bind_is _ r refl)
  all_reads f q S l c none us true x rest (u1, u2, one, two, e) end =
      ap (λ a. seq2 f (flag ALL nothing) q (a ++ rest)) (e ∙ ap (λ a. a ++ u2) one) ∙ bind_is _ (c u2 x rest two end) refl

  -- behind INTERSECT
  BehindIntersect : Spelling SelectTail
  BehindIntersect ts tail = (all : Bool) × (select : Select) × Seq2 (Flag (Word ALL)) (Spells.SelectOf I) ts all select × (tail ≡ select_tail_of all select)

  all_no_select : (ts : List Token) → Reads.select_at p (ALL ∷ ts) ≡ None
  unfolding Reads.select_at
  all_no_select ts = refl

  all_no_term : (ts : List Token) → Reads.term_at p (ALL ∷ ts) ≡ None
  unfolding Reads.term_at
  all_no_term ts = fail_bind _ _ (all_no_select ts)

  intersect_complete : Complete (Reads.intersect_at p) BehindIntersect 5
  unfolding Reads.intersect_at BehindIntersect
  intersect_complete us tail rest (all, select, s, made) end =
      all_reads (λ all select. select_tail_of all select) (Reads.select_at p) (Spells.SelectOf I) 5 select_complete all_no_select us all select rest s end ∙ ap (λ a. Some (a, rest)) (sym made)

  intersects_complete : Complete (Reads.intersects_at p) (Many (Spells.IntersectOf I)) 4
  unfolding Reads.intersects_at Spells.IntersectOf BehindIntersect
  intersects_complete = repeated_complete (only INTERSECT) (λ w. INTERSECT) (λ w. Reads.intersect_at p) (λ w. BehindIntersect) 4 5 (only_is INTERSECT) (λ w. refl) (omega arith) (λ w. omega arith) (λ w. omega arith) (λ w. intersect_complete)

  intersects_before : Before (Many (Spells.IntersectOf I)) 4 5
  unfolding Spells.IntersectOf BehindIntersect
  intersects_before = many_led_before (λ w. INTERSECT) (λ w. BehindIntersect) 4 5 (omega arith) (λ w. omega arith)

  term_complete : Complete (Reads.term_at p) (Spells.TermOf I) 4
  unfolding Reads.term_at Spells.TermOf
  term_complete us term rest (first, tails, s, made) end =
      seq2_reads (λ first rest. term_of first (select_tails rest)) (Reads.select_at p) (Reads.intersects_at p) (Spells.SelectOf I) (Many (Spells.IntersectOf I)) 4 5
      select_complete intersects_complete intersects_before us first tails rest s end ∙ ap (λ a. Some (a, rest)) (sym made)

  beside_complete : (w : Bool) → Complete (λ ts. Reads.beside_at p w ts) (Spells.BesideOf I w) 4
  unfolding Reads.beside_at Reads.union_at Reads.except_at Spells.BesideOf
  beside_complete false us tail rest s end =
      made_complete (term_tail_of UnionAll) (after ALL (Reads.term_at p)) (After ALL (Spells.TermOf I)) 4 (after_complete ALL (Reads.term_at p) (Spells.TermOf I) 4 refl term_complete) us tail rest s end
  beside_complete true us tail rest (all, term, s, made) end =
      all_reads (λ all term. term_tail_of (except_word all) term) (Reads.term_at p) (Spells.TermOf I) 4 term_complete all_no_term us all term rest s end ∙ ap (λ a. Some (a, rest)) (sym made)

  set_low : (w : Bool) → 3 ≤ strength (set_token w)
  set_low false = omega arith
  set_low true = omega arith

  set_high : (w : Bool) → strength (set_token w) < 4
  set_high false = omega arith
  set_high true = omega arith

  term_tails_complete : Complete (Reads.term_tails_at p) (Many (Spells.TermTailOf I)) 3
  unfolding Reads.term_tails_at Spells.TermTailOf
  term_tails_complete = repeated_complete set_word set_token (λ w ts. Reads.beside_at p w ts) (λ w. Spells.BesideOf I w) 3 4 set_is set_back (omega arith) set_low set_high beside_complete

  term_tails_before : Before (Many (Spells.TermTailOf I)) 3 4
  unfolding Spells.TermTailOf
  term_tails_before = many_led_before set_token (λ w. Spells.BesideOf I w) 3 4 (omega arith) set_high

  terms_complete : Complete (Reads.terms_at p) (Spells.TermsOf I) 3
  unfolding Reads.terms_at Spells.TermsOf
  terms_complete us (first, tails) rest s end =
      seq2_reads (λ first rest. (first, rest)) (Reads.term_at p) (Reads.term_tails_at p) (Spells.TermOf I) (Many (Spells.TermTailOf I)) 3 4
      term_complete term_tails_complete term_tails_before us first tails rest s end

  order_complete : Complete (Reads.order_at p) (OrNone (Spells.OrderOf I)) 2
  unfolding Reads.order_at Spells.OrderOf
  order_complete = or_none_complete ORDER (Reads.order_by_at p) (After BY (Listed (Spells.SortOf I))) 2 refl (omega arith)
      (complete_lower (Reads.order_by_at p) (After BY (Listed (Spells.SortOf I))) 2 8 (omega arith) (order_by_complete p I h g no))

  order_before : Before (OrNone (Spells.OrderOf I)) 2 3
  unfolding Spells.OrderOf
  order_before = or_none_before (After ORDER (After BY (Listed (Spells.SortOf I)))) 2 3 (omega arith) (led_before (λ w. ORDER) (λ w. After BY (Listed (Spells.SortOf I))) 2 3 (λ w. omega arith))

  limit_before : Before (Maybe (After LIMIT (WordOf NUMBER))) 1 2
  limit_before = maybe_before (After LIMIT (WordOf NUMBER)) 1 2 (omega arith) (led_before (λ w. LIMIT) (λ w. WordOf NUMBER) 1 2 (λ w. omega arith))

  ending_complete : Complete (Reads.ending_at p) (Spells.EndingOf I) 1
  unfolding Reads.ending_at Spells.EndingOf
  ending_complete us (order, limit) rest s end =
      seq2_reads (λ order limit. (order, limit)) (Reads.order_at p) Reads.limit_at (OrNone (Spells.OrderOf I)) (Maybe (After LIMIT (WordOf NUMBER))) 1 2 order_complete limit_complete limit_before us order limit rest s end

  ending_before : Before (Spells.EndingOf I) 1 3
  unfolding Spells.EndingOf
  ending_before us (order, limit) rest (u1, u2, one, two, e) end =
      subst (λ (a : List Token). Ends 3 a) (sym (ap (λ a. a ++ rest) e ∙ append_assoc u1 u2 rest)) (order_before u1 order (u2 ++ rest) one (limit_before u2 limit rest two end))

  pub query_complete : Complete (Reads.query_at p) (Spells.QueryOf I) 1
  unfolding Reads.query_at Spells.QueryOf
  query_complete us query rest (terms, ending, s, made) end =
      seq2_reads (λ terms ending. query_of terms.0 (term_tails terms.1) (sort_list ending.0) ending.1) (Reads.terms_at p) (Reads.ending_at p) (Spells.TermsOf I) (Spells.EndingOf I) 1 3
      terms_complete ending_complete ending_before us terms ending rest s end
      ∙ ap (λ a. Some (a, rest)) (sym made)
