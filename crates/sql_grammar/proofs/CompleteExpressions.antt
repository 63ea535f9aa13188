-- What tokens spell as an expression, or as a part of one, is read, whatever follows that doesn't go on.
use Rattle.std.proofs.Common.{◌≡◌, ℕ, ◌<◌, ◌≤◌, Bool, true, false, List, [], ◌∷◌, ◌++◌, Option, Some, None, refl, sym, ap, ◌∙◌, subst, append_assoc, arith, inl, inr}
use Rattle.ct_value.specs.declared.value.CompareOp.{CompareOp}
use Rattle.ct_value.specs.declared.value.CompareOp.TheVariants.{Eq, Ne, Lt, Le, Gt, Ge}
use Rattle.sql_tokens.specs.declared.token.Token.{Token}
use Rattle.sql_syntax.specs.declared.tree.ProductWord.{ProductWord}
use Rattle.sql_syntax.specs.declared.tree.ProductWord.TheVariants.{Times, Divide, Modulo}
use Rattle.sql_syntax.specs.declared.tree.SumWord.{SumWord}
use Rattle.sql_syntax.specs.declared.tree.SumWord.TheVariants.{Plus, Minus, Concat}
use Rattle.sql_syntax.specs.Tree.{Text, Tree, Query, Args, Empty, Star, Values, sort_of, Number, Str, Truth, Null, Name, Call, Cast, Paren, Sub, Case, TreeWhen, tree_when_of, sum_tail_of, product_tail_of, over_of, trees, sort_list, optional_tree, optional_over, Between, InList, InQuery, Like}
use Rattle.sql_grammar.specs.Words.{AND, AS, BETWEEN, BY, CASE, DISTINCT, ELSE, END, EXISTS, FILTER, IN, LIKE, NOT, OR, ORDER, OVER, PARTITION, SELECT, THEN, WHEN, WHERE, OPEN, CLOSE, DOT, TIMES, NAME, only, name_word, name_token, sign_word, sign_token, product_word, product_token, sum_word, sum_token, compare_token, direction_word, direction_token}
use Rattle.sql_grammar.specs.Shapes.{Spelling, Word, WordOf, After, Seq3, Made, Maybe, Flag, OrNone, Series, Listed, Bracketed}
use Rattle.sql_grammar.specs.Spells
use Rattle.sql_grammar.specs.Nodes.{or_node, and_node, sum_node, product_node, is_desc}
use Rattle.sql_grammar.specs.Spells.{Inside, NameOf, NumbersOf, TypeOf, AliasOf, Rest, no_rest, compares, is_null, between, in_list, in_query, like, rest_node}
use Rattle.sql_grammar.specs.Reading
use Rattle.sql_grammar.specs.Reading.{Reader, ◌>>=◌, word_at, after, optional, optional_word, maybe_item, bracketed}
use Rattle.sql_grammar.specs.Reads
use Rattle.sql_grammar.specs.declared.words.NegatableWord.TheVariants as negatable
use Rattle.sql_grammar.specs.declared.words.RestWord.{RestWord}
use Rattle.sql_grammar.specs.declared.words.RestWord.TheVariants as word
use Rattle.sql_grammar.specs.Reads.{Readers, name_at, sizes_at, numbers_at, type_at, alias_at, rest_word}
use Rattle.sql_grammar.proofs.WordReading.{IfRead, IsWord, only_is, name_is, sign_is, product_is, sum_is, direction_is, rest_token, rest_is, sign_back, product_back, sum_back, direction_back, rest_back}
use Rattle.sql_grammar.proofs.SoundShapes.{at_word}
use Rattle.sql_grammar.proofs.laws.Steps.{bind_is, fail_bind}
use Rattle.sql_grammar.proofs.CompleteShapes.{strength, Ends, tighter, Complete, Before, complete_lower, word_reads, stops, only_stops, only_complete, word_before, only_before, made_complete, after_complete, led_before, optional_complete, maybe_after, maybe_before, flag_missing, or_none_complete, seq2_reads, seq3_reads, series_complete, listed_complete, bracketed_complete, chain_complete}

-- a word doesn't stand where something is read that doesn't begin with it
pub first_not : {W A : Type 0} (word : Token → Option W) (token : W → Token) (q : Reader A) → IsWord word token → ((w : W) (ts : List Token) → q (token w ∷ ts) ≡ None)
    → (ts : List Token) (y : A × List Token) → q ts ≡ Some y → word_at word ts ≡ None
first_not {W} word token q is no_word ts y e = go (word_at word ts) (at_word word token is ts)
  where
    go : (o : Option (W × List Token)) → IfRead o (λ x. ts ≡ token x.0 ∷ x.1) → o ≡ None
    go None k = refl
    go (Some x) k = let clash : None ≡ Some y = sym (no_word x.0 x.1) ∙ ap q (sym k) ∙ e in absurd (cc)

pub only_not : {A : Type 0} (t : Token) (q : Reader A) → ((ts : List Token) → q (t ∷ ts) ≡ None) → (ts : List Token) (y : A × List Token) → q ts ≡ Some y → word_at (only t) ts ≡ None
only_not t q no_word = first_not (only t) (λ w. t) q (only_is t) (λ w. no_word)

-- names, types, aliases
pub name_complete : (l : ℕ) → Complete name_at NameOf l
unfolding name_at
name_complete l us x rest s e = ap (λ a. name_at (a ++ rest)) s.1

pub name_before : (l m : ℕ) → 9 < m → Before NameOf l m
name_before l m h us x rest s e = subst (λ (a : List Token). Ends m (a ++ rest)) (sym s.1) h

pub numbers_complete : Complete numbers_at NumbersOf 13
unfolding numbers_at sizes_at
numbers_complete us [] rest s e = ap (λ a. numbers_at (a ++ rest)) s ∙ ap (Reading.list_item (λ w. sizes_at) rest) (only_stops OPEN 13 (omega arith) rest e)
numbers_complete us (a ∷ []) rest s e = ap (λ a. numbers_at (a ++ rest)) s
numbers_complete us (a ∷ b ∷ []) rest s e = ap (λ a. numbers_at (a ++ rest)) s
numbers_complete us (a ∷ b ∷ c ∷ xs) rest s e = absurd s

pub numbers_before : (m : ℕ) → 15 < m → Before NumbersOf 13 m
numbers_before m h us [] rest s e = subst (λ (a : List Token). Ends m (a ++ rest)) (sym s) (tighter 13 m rest (omega arith) e)
numbers_before m h us (a ∷ []) rest s e = subst (λ (a : List Token). Ends m (a ++ rest)) (sym s) h
numbers_before m h us (a ∷ b ∷ []) rest s e = subst (λ (a : List Token). Ends m (a ++ rest)) (sym s) h
numbers_before m h us (a ∷ b ∷ c ∷ xs) rest s e = absurd s

pub type_complete : Complete type_at TypeOf 13
unfolding type_at
type_complete us ty rest s e = seq2_reads (λ x ns. record { name = x; numbers = ns }) name_at numbers_at NameOf NumbersOf 13 16 (name_complete 16) numbers_complete (numbers_before 16 (omega arith)) us ty.name ty.numbers rest s e

pub alias_complete : Complete alias_at AliasOf 9
unfolding alias_at name_at
alias_complete us None rest s e =
    ap (λ a. alias_at (a ++ rest)) s ∙ ap (Reads.alias_behind rest) (only_stops AS 9 (omega arith) rest e)
    ∙ ap (maybe_item (λ x us. Some (x.0, us)) rest) (stops name_word name_token 9 name_is (λ w. omega arith) rest e)
alias_complete us (Some x) rest (false, (u1, u2, one, (quoted, two), e1)) e = ap (λ a. alias_at (a ++ rest)) (e1 ∙ (λ i. one i ++ two i))
alias_complete us (Some x) rest (true, (u1, u2, one, (quoted, two), e1)) e = ap (λ a. alias_at (a ++ rest)) (e1 ∙ (λ i. one i ++ two i))

pub alias_before : (m : ℕ) → 9 < m → Before AliasOf 9 m
alias_before m h us None rest s e = subst (λ (a : List Token). Ends m (a ++ rest)) (sym s) (tighter 9 m rest (omega arith) e)
alias_before m h us (Some x) rest (false, (u1, u2, one, (quoted, two), e1)) e = subst (λ (a : List Token). Ends m (a ++ rest)) (sym (e1 ∙ (λ i. one i ++ two i))) h
alias_before m h us (Some x) rest (true, (u1, u2, one, (quoted, two), e1)) e = subst (λ (a : List Token). Ends m (a ++ rest)) (sym (e1 ∙ (λ i. one i ++ two i))) h

-- where no expression begins, and where a query does
pub record Refuses (p : Readers) : Type 0 where
  pub star : (ts : List Token) → p.expr (TIMES ∷ ts) ≡ None
  pub close : (ts : List Token) → p.expr (CLOSE ∷ ts) ≡ None
  pub distinct : (ts : List Token) → p.expr (DISTINCT ∷ ts) ≡ None
  pub select : (ts : List Token) → p.expr (SELECT ∷ ts) ≡ None
  pub star_of : (x : Text) (quoted : Bool) (ts : List Token) → p.expr (NAME x quoted ∷ DOT ∷ TIMES ∷ ts) ≡ None
  pub no_select : (ts : List Token) → word_at (only SELECT) ts ≡ None → p.query ts ≡ None

-- up to a closing bracket
pub opened : {A : Type 0} (R : Spelling A) (us rest : List Token) (x : A) (s : Bracketed R us x) → us ++ rest ≡ OPEN ∷ (s.1 ++ CLOSE ∷ rest)
opened R us rest x (u1, u2, u3, one, two, three, e) = ap (λ a. a ++ rest) (e ∙ (λ i. one i ++ (u2 ++ three i))) ∙ ap (λ a. OPEN ∷ a) (append_assoc u2 (CLOSE ∷ []) rest)

abbrev closed : {A B : Type 0} → (A → B) → Reader A → Reader B
closed f q ts = q ts >>= λ x. word_at (only CLOSE) x.1 >>= λ c. Some (f x.0, c.1)

closed_reads : {A B : Type 0} (f : A → B) (q : Reader A) (R : Spelling A) (m : ℕ) → 0 < m → Complete q R m → (us rest : List Token) (x : A) → R us x → closed f q (us ++ CLOSE ∷ rest) ≡ Some (f x, rest)
closed_reads f q R m h c us rest x s = bind_is _ (c us x (CLOSE ∷ rest) s h) refl

module _ (p : Readers) (I : Inside) (h : Complete p.expr I.expr 10) (g : Complete p.query I.query 1) (no : Refuses p) where
  pub trees_complete : Complete (Reads.trees_at p) (Spells.TreesOf I) 8
  unfolding Reads.trees_at Spells.TreesOf
  trees_complete = listed_complete p.expr I.expr (complete_lower p.expr I.expr 9 10 (omega arith) h)

  trees_not : (t : Token) → ((ts : List Token) → p.expr (t ∷ ts) ≡ None) → (ts : List Token) (y : List Tree × List Token) → Reads.trees_at p ts ≡ Some y → word_at (only t) ts ≡ None
  unfolding Reads.trees_at
  trees_not t no_word = only_not t (Reads.trees_at p) (λ ts. fail_bind _ _ (no_word ts))

  sort_complete : Complete (Reads.sort_at p) (Spells.SortOf I) 9
  unfolding Reads.sort_at Spells.SortOf
  sort_complete us (sort_of value desc) rest (u1, u2, one, (written, two, made), e) end =
      seq2_reads (λ x d. sort_of x (is_desc d)) p.expr (optional direction_word) I.expr (Maybe (WordOf direction_token)) 9 10 h
      (optional_complete direction_word direction_token 9 direction_is direction_back direction_low) (maybe_before (WordOf direction_token) 9 10 (omega arith) (word_before direction_token 9 10 direction_high))
      us value written rest (u1, u2, one, two, e) end
      ∙ ap (λ b. Some (sort_of value b, rest)) (sym made)
    where
      direction_low : (w : Bool) → 9 ≤ strength (direction_token w)
      direction_low true = omega arith
      direction_low false = omega arith

      direction_high : (w : Bool) → strength (direction_token w) < 10
      direction_high true = omega arith
      direction_high false = omega arith

  pub order_by_complete : Complete (Reads.order_by_at p) (After BY (Listed (Spells.SortOf I))) 8
  unfolding Reads.order_by_at Reads.sorts_at
  order_by_complete = after_complete BY (Reads.sorts_at p) (Listed (Spells.SortOf I)) 8 refl (listed_complete (Reads.sort_at p) (Spells.SortOf I) sort_complete)

  args_complete : (us : List Token) (args : Args) (rest : List Token) → Spells.ArgsOf I us args → Reads.args_at p (us ++ CLOSE ∷ rest) ≡ Some (args, CLOSE ∷ rest)
  unfolding Reads.args_at Spells.ArgsOf
  args_complete us Empty rest s = ap (λ a. Reads.args_at p (a ++ CLOSE ∷ rest)) s
  args_complete us Star rest s = ap (λ a. Reads.args_at p (a ++ CLOSE ∷ rest)) s
  args_complete us (Values false values) rest (xs, (u1, u2, one, two, e), made) =
      let r : Reads.trees_at p (u2 ++ CLOSE ∷ rest) ≡ Some (xs, CLOSE ∷ rest) = trees_complete u2 xs (CLOSE ∷ rest) two (omega arith) in
      ap (λ a. Reads.args_at p (a ++ CLOSE ∷ rest)) (e ∙ ap (λ a. a ++ u2) one)
      ∙ ap (Reads.star_or_others p (u2 ++ CLOSE ∷ rest)) (trees_not TIMES no.star _ _ r)
      ∙ ap (Reads.closed_or_values p (u2 ++ CLOSE ∷ rest)) (trees_not CLOSE no.close _ _ r)
      ∙ bind_is _ (flag_missing DISTINCT (u2 ++ CLOSE ∷ rest) (trees_not DISTINCT no.distinct _ _ r)) (bind_is _ r (ap (λ v. Some (Values false v, CLOSE ∷ rest)) (sym made)))
  args_complete us (Values true values) rest (xs, (u1, u2, one, two, e), made) =
      ap (λ a. Reads.args_at p (a ++ CLOSE ∷ rest)) (e ∙ ap (λ a. a ++ u2) one)
      ∙ bind_is _ (trees_complete u2 xs (CLOSE ∷ rest) two (omega arith)) (ap (λ v. Some (Values true v, CLOSE ∷ rest)) (sym made))

  filter_complete : Complete (Reads.filter_at p) (Maybe (Spells.FilterOf I)) 16
  unfolding Reads.filter_at Reads.kept_at Spells.FilterOf
  filter_complete = maybe_after FILTER (bracketed (after WHERE p.expr)) (Bracketed (After WHERE I.expr)) 16 refl (omega arith)
      (bracketed_complete (after WHERE p.expr) (After WHERE I.expr) 16 10 (omega arith) (after_complete WHERE p.expr I.expr 10 refl h))

  partition_complete : Complete (Reads.partition_at p) (OrNone (Spells.PartitionOf I)) 3
  unfolding Reads.partition_at Spells.PartitionOf
  partition_complete = or_none_complete PARTITION (after BY (Reads.trees_at p)) (After BY (Spells.TreesOf I)) 3 refl (omega arith)
      (after_complete BY (Reads.trees_at p) (Spells.TreesOf I) 3 refl (complete_lower (Reads.trees_at p) (Spells.TreesOf I) 3 8 (omega arith) trees_complete))

  window_complete : Complete (Reads.window_at p) (Spells.WindowOf I) 1
  unfolding Reads.window_at Spells.WindowOf Spells.OrderOf
  window_complete us window rest (partition, order, (u1, u2, one, (w, u3, two, e2), e), made) end =
      seq3_reads (λ us w ss. over_of (trees us) (sort_list ss)) (Reads.partition_at p) (word_at (only ORDER)) (Reads.order_by_at p)
      (OrNone (Spells.PartitionOf I)) (Word ORDER) (After BY (Listed (Spells.SortOf I))) 1 16 3 partition_complete (only_complete ORDER 16 refl)
      (complete_lower (Reads.order_by_at p) (After BY (Listed (Spells.SortOf I))) 1 8 (omega arith) order_by_complete)
      (only_before ORDER 16 3 (omega arith)) (λ us x rest s f. subst (λ (a : List Token). Ends 16 (a ++ rest)) (sym s.3) (omega arith))
      us partition tt order rest (u1, ORDER ∷ [], u3, one, refl, two, e ∙ ap (λ a. u1 ++ a) e2) end
      ∙ ap (λ a. Some (a, rest)) (sym made)

  over_complete : Complete (Reads.over_at p) (Maybe (Spells.OverOf I)) 15
  unfolding Reads.over_at Spells.OverOf
  over_complete = maybe_after OVER (bracketed (Reads.window_at p)) (Bracketed (Spells.WindowOf I)) 15 refl (omega arith)
      (bracketed_complete (Reads.window_at p) (Spells.WindowOf I) 15 1 (omega arith) window_complete)

  over_before : Before (Maybe (Spells.OverOf I)) 15 16
  unfolding Spells.OverOf
  over_before = maybe_before (After OVER (Bracketed (Spells.WindowOf I))) 15 16 (omega arith) (led_before (λ w. OVER) (λ w. Bracketed (Spells.WindowOf I)) 15 16 (λ w. omega arith))

  cast_inner_complete : Complete (Reads.cast_inner_at p) (Spells.CastOf I) 1
  unfolding Reads.cast_inner_at Spells.CastOf
  cast_inner_complete us x rest s end =
      seq3_reads (λ x w ty. (x, ty)) p.expr (word_at (only AS)) type_at I.expr (Word AS) TypeOf 1 16 10 h (only_complete AS 16 refl) (complete_lower type_at TypeOf 1 13 (omega arith) type_complete)
      (only_before AS 16 10 (omega arith)) type_before us x.0 tt x.1 rest s end
    where
      type_before : Before TypeOf 1 16
      type_before us ty rest (u1, u2, (quoted, one), two, e) f = subst (λ (a : List Token). Ends 16 (a ++ rest)) (sym (e ∙ ap (λ a. a ++ u2) one)) (omega arith)

  -- behind WHEN
  ThenOf : Spelling TreeWhen
  ThenOf ts x = (cond : Tree) × (result : Tree) × Seq3 I.expr (Word THEN) I.expr ts cond tt result × (x ≡ tree_when_of cond result)

  expr_level : (l : ℕ) → l ≤ 10 → Complete p.expr I.expr l
  expr_level l le = complete_lower p.expr I.expr l 10 le h

  -- an operand behind a word of any strength
  when_complete : Complete (Reads.when_at p) ThenOf 10
  unfolding Reads.when_at ThenOf
  when_complete us x rest (cond, result, (u1, u2, u3, one, two, three, e), made) end =
      ap (Reads.when_at p) (ap (λ a. a ++ rest) (e ∙ ap (λ a. u1 ++ (a ++ u3)) two) ∙ append_assoc u1 (THEN ∷ u3) rest)
      ∙ bind_is _ (h u1 cond (THEN ∷ (u3 ++ rest)) one (omega arith)) (bind_is _ (h u3 result rest three end) (ap (λ a. Some (a, rest)) (sym made)))

  whens_complete : Complete (Reads.whens_at p) (Series (Spells.WhenOf I) (Spells.WhenOf I)) 2
  unfolding Reads.whens_at Spells.WhenOf ThenOf
  whens_complete = series_complete (after WHEN (Reads.when_at p)) (only WHEN) (λ w. WHEN) (λ w. Reads.when_at p) (After WHEN ThenOf) (λ w. ThenOf) 2 10
      (after_complete WHEN (Reads.when_at p) ThenOf 10 refl when_complete) (only_is WHEN) (λ w. refl) (omega arith) (λ w. omega arith) (λ w. omega arith) (λ w. when_complete)

  else_complete : Complete (Reads.else_at p) (Maybe (Spells.ElseOf I)) 1
  unfolding Reads.else_at Spells.ElseOf
  else_complete = maybe_after ELSE p.expr I.expr 1 refl (omega arith) (expr_level 1 (omega arith))

  else_before : Before (Maybe (Spells.ElseOf I)) 1 2
  unfolding Spells.ElseOf
  else_before = maybe_before (After ELSE I.expr) 1 2 (omega arith) (led_before (λ w. ELSE) (λ w. I.expr) 1 2 (λ w. omega arith))

  query_begins : (ts : List Token) (y : Query × List Token) → p.query ts ≡ Some y → (w : Unit {0} × List Token) × (word_at (only SELECT) ts ≡ Some w)
  query_begins ts y r = go (word_at (only SELECT) ts) refl
    where
      go : (o : Option (Unit {0} × List Token)) → word_at (only SELECT) ts ≡ o → (w : Unit {0} × List Token) × (word_at (only SELECT) ts ≡ Some w)
      go None e = let clash : None ≡ Some y = sym (no.no_select ts e) ∙ r in absurd (cc)
      go (Some w) e = (w, e)

  -- a name is plain before what is no point and no bracket
  plain_name : (x : Text) (quoted : Bool) (ts : List Token) → Ends 15 ts → Reads.named_at p x quoted ts ≡ Some (Name None x quoted, ts)
  unfolding Reads.named_at
  plain_name x quoted ts end = ap (Reads.column_or_others p x quoted ts) (only_stops DOT 15 (omega arith) ts end) ∙ ap (Reads.called_or_plain p x quoted ts) (only_stops OPEN 15 (omega arith) ts end)

  primary_complete : Complete (Reads.primary_at p) (Spells.PrimaryOf I) 15
  unfolding Reads.primary_at Reads.begun_at Spells.PrimaryOf Reads.named_at Reads.column_at Reads.call_at Reads.cast_at Reads.opened_at Reads.paren_at Reads.sub_at Reads.case_at
  primary_complete us (Number x) rest s end = ap (λ a. Reads.primary_at p (a ++ rest)) s
  primary_complete us (Str x) rest s end = ap (λ a. Reads.primary_at p (a ++ rest)) s
  primary_complete us (Truth true) rest s end = ap (λ a. Reads.primary_at p (a ++ rest)) s
  primary_complete us (Truth false) rest s end = ap (λ a. Reads.primary_at p (a ++ rest)) s
  primary_complete us Null rest s end = ap (λ a. Reads.primary_at p (a ++ rest)) s
  primary_complete us (Name None x quoted) rest s end = ap (λ a. Reads.primary_at p (a ++ rest)) s ∙ plain_name x quoted rest end
  primary_complete us (Name (Some of) x quoted) rest (of_quoted, s) end = ap (λ a. Reads.primary_at p (a ++ rest)) s
  primary_complete us (Call name args filter over) rest (kept, window, (u1, u2, u3, u4, (quoted, one), two, three, four, e), kept_is, window_is) end =
      let b : u2 ++ (u3 ++ (u4 ++ rest)) ≡ OPEN ∷ (two.1 ++ CLOSE ∷ (u3 ++ (u4 ++ rest))) = opened (Spells.ArgsOf I) u2 (u3 ++ (u4 ++ rest)) args two in
      let f : us ++ rest ≡ NAME name quoted ∷ OPEN ∷ (two.1 ++ CLOSE ∷ (u3 ++ (u4 ++ rest))) = ap (λ a. a ++ rest) (e ∙ ap (λ a. a ++ (u2 ++ (u3 ++ u4))) one) ∙ ap (λ a. NAME name quoted ∷ a) (simp append_assoc b) in
      ap (Reads.primary_at p) f
      ∙ bind_is _ (args_complete two.1 args (u3 ++ (u4 ++ rest)) two.4)
      (bind_is _ (filter_complete u3 kept (u4 ++ rest) three (over_before u4 window rest four end))
      (bind_is _ (over_complete u4 window rest four end) (ap (λ a. Some (Call name args a (optional_over window), rest)) (sym kept_is) ∙ ap (λ a. Some (Call name args filter a, rest)) (sym window_is))))
  primary_complete us (Cast value ty) rest (w, vs, s, e) end =
      ap (λ a. Reads.primary_at p (a ++ rest)) e ∙ bind_is _ (bracketed_complete (Reads.cast_inner_at p) (Spells.CastOf I) 15 1 (omega arith) cast_inner_complete vs (value, ty) rest s end) refl
  primary_complete us (Paren u) rest s end =
      let r : p.expr (s.1 ++ CLOSE ∷ rest) ≡ Some (u, CLOSE ∷ rest) = h s.1 u (CLOSE ∷ rest) s.4 (omega arith) in
      ap (Reads.primary_at p) (opened I.expr us rest u s) ∙ ap (Reads.query_or_expr p (s.1 ++ CLOSE ∷ rest)) (only_not SELECT p.expr no.select _ _ r) ∙ closed_reads Paren p.expr I.expr 10 (omega arith) h s.1 rest u s.4
  primary_complete us (Sub query) rest s end =
      let r : p.query (s.1 ++ CLOSE ∷ rest) ≡ Some (query, CLOSE ∷ rest) = g s.1 query (CLOSE ∷ rest) s.4 (omega arith) in
      ap (Reads.primary_at p) (opened I.query us rest query s) ∙ ap (Reads.query_or_expr p (s.1 ++ CLOSE ∷ rest)) (query_begins (s.1 ++ CLOSE ∷ rest) (query, CLOSE ∷ rest) r).1
      ∙ closed_reads Sub p.query I.query 1 (omega arith) g s.1 rest query s.4
  primary_complete us (Case whens otherwise) rest (ws, last, (u1, u2, u3, u4, one, two, three, four, e), ws_is, last_is) end =
      let front : us ++ rest ≡ CASE ∷ (u2 ++ (u3 ++ END ∷ rest)) =
      ap (λ a. a ++ rest) (e ∙ (λ i. one i ++ (u2 ++ (u3 ++ four i)))) ∙ ap (λ a. CASE ∷ a) (append_assoc u2 (u3 ++ END ∷ []) rest ∙ ap (λ a. u2 ++ a) (append_assoc u3 (END ∷ []) rest)) in
      ap (Reads.primary_at p) front
      ∙ bind_is _ (whens_complete u2 ws (u3 ++ END ∷ rest) two (else_before u3 last (END ∷ rest) three (omega arith)))
      (bind_is _ (else_complete u3 last (END ∷ rest) three (omega arith)) (ap (λ a. Some (Case a (optional_tree last), rest)) (sym ws_is) ∙ ap (λ a. Some (Case whens a, rest)) (sym last_is)))
  primary_complete us _ rest s end = absurd s

  -- what begins with a sign is no primary
  sign_no_primary : (minus : Bool) (ts : List Token) → Reads.primary_at p (sign_token minus ∷ ts) ≡ None
  unfolding Reads.primary_at
  sign_no_primary false ts = refl
  sign_no_primary true ts = refl

  sign_complete : Complete (Reads.sign_at p) (Spells.SignOf I) 15
  unfolding Reads.sign_at Spells.SignOf
  sign_complete us u rest (None, v, (u1, u2, one, two, e), made) end =
      let r = primary_complete u2 v rest two end in
      ap (λ a. Reads.sign_at p (a ++ rest)) (e ∙ ap (λ a. a ++ u2) one)
      ∙ bind_is _ (ap (optional_word (u2 ++ rest)) (first_not sign_word sign_token (Reads.primary_at p) sign_is sign_no_primary (u2 ++ rest) (v, rest) r)) (bind_is _ r (ap (λ a. Some (a, rest)) (sym made)))
  sign_complete us u rest (Some minus, v, (u1, u2, one, two, e), made) end =
      ap (λ a. Reads.sign_at p (a ++ rest)) (e ∙ ap (λ a. a ++ u2) one)
      ∙ bind_is _ (ap (optional_word (sign_token minus ∷ (u2 ++ rest))) (word_reads sign_word sign_token sign_back minus (u2 ++ rest)))
      (bind_is _ (primary_complete u2 v rest two end) (ap (λ a. Some (a, rest)) (sym made)))

  product_tail_complete : (w : ProductWord) → Complete (Reads.product_tail_at p w) (Made (product_tail_of w) (Spells.SignOf I)) 15
  unfolding Reads.product_tail_at
  product_tail_complete w = made_complete (product_tail_of w) (Reads.sign_at p) (Spells.SignOf I) 15 sign_complete

  product_complete : Complete (Reads.product_at p) (Spells.ProductOf I) 14
  unfolding Reads.product_at Spells.ProductOf
  product_complete = chain_complete product_node (Reads.sign_at p) product_word product_token (Reads.product_tail_at p) (Spells.SignOf I) (λ w. Made (product_tail_of w) (Spells.SignOf I)) 14 15
      sign_complete product_is product_back (omega arith) low high product_tail_complete
    where
      low : (w : ProductWord) → 14 ≤ strength (product_token w)
      low Times = omega arith
      low Divide = omega arith
      low Modulo = omega arith

      high : (w : ProductWord) → strength (product_token w) < 15
      high Times = omega arith
      high Divide = omega arith
      high Modulo = omega arith

  sum_tail_complete : (w : SumWord) → Complete (Reads.sum_tail_at p w) (Made (sum_tail_of w) (Spells.ProductOf I)) 14
  unfolding Reads.sum_tail_at
  sum_tail_complete w = made_complete (sum_tail_of w) (Reads.product_at p) (Spells.ProductOf I) 14 product_complete

  sum_complete : Complete (Reads.sum_at p) (Spells.SumOf I) 13
  unfolding Reads.sum_at Spells.SumOf
  sum_complete = chain_complete sum_node (Reads.product_at p) sum_word sum_token (Reads.sum_tail_at p) (Spells.ProductOf I) (λ w. Made (sum_tail_of w) (Spells.ProductOf I)) 13 14
      product_complete sum_is sum_back (omega arith) low high sum_tail_complete
    where
      low : (w : SumWord) → 13 ≤ strength (sum_token w)
      low Plus = omega arith
      low Minus = omega arith
      low Concat = omega arith

      high : (w : SumWord) → strength (sum_token w) < 14
      high Plus = omega arith
      high Minus = omega arith
      high Concat = omega arith

  sum_level : Complete (Reads.sum_at p) (Spells.SumOf I) 12
  sum_level = complete_lower (Reads.sum_at p) (Spells.SumOf I) 12 13 (omega arith) sum_complete

  between_complete : (u : Tree) (negated : Bool) (us : List Token) (low high : Tree) (rest : List Token) → Spells.RangeOf I us (low, high) → Ends 12 rest
      → Reads.between_at p u negated (us ++ rest) ≡ Some (Between u low high negated, rest)
  unfolding Reads.between_at Spells.RangeOf
  between_complete u negated us low high rest (u1, u2, u3, one, two, three, e) end =
      ap (Reads.between_at p u negated) (ap (λ a. a ++ rest) (e ∙ ap (λ a. u1 ++ (a ++ u3)) two) ∙ append_assoc u1 (AND ∷ u3) rest)
      ∙ bind_is _ (sum_complete u1 low (AND ∷ (u3 ++ rest)) one (omega arith)) (bind_is _ (sum_level u3 high rest three end) refl)

  in_list_complete : (u : Tree) (negated : Bool) (us : List Token) (xs : List Tree) (rest : List Token) → Bracketed (Spells.TreesOf I) us xs → Reads.in_at p u negated (us ++ rest) ≡ Some (InList u (trees xs) negated, rest)
  unfolding Reads.in_at Reads.in_list_at
  in_list_complete u negated us xs rest s =
      let r : Reads.trees_at p (s.1 ++ CLOSE ∷ rest) ≡ Some (xs, CLOSE ∷ rest) = trees_complete s.1 xs (CLOSE ∷ rest) s.4 (omega arith) in
      ap (Reads.in_at p u negated) (opened (Spells.TreesOf I) us rest xs s)
      ∙ ap (Reads.query_or_list p u negated (s.1 ++ CLOSE ∷ rest)) (trees_not SELECT no.select _ _ r)
      ∙ closed_reads (λ xs. InList u (trees xs) negated) (Reads.trees_at p) (Spells.TreesOf I) 8 (omega arith) trees_complete s.1 rest xs s.4

  in_query_complete : (u : Tree) (negated : Bool) (us : List Token) (query : Query) (rest : List Token) → Bracketed I.query us query → Reads.in_at p u negated (us ++ rest) ≡ Some (InQuery u query negated, rest)
  unfolding Reads.in_at Reads.in_query_at
  in_query_complete u negated us query rest s =
      let r : p.query (s.1 ++ CLOSE ∷ rest) ≡ Some (query, CLOSE ∷ rest) = g s.1 query (CLOSE ∷ rest) s.4 (omega arith) in
      ap (Reads.in_at p u negated) (opened I.query us rest query s)
      ∙ ap (Reads.query_or_list p u negated (s.1 ++ CLOSE ∷ rest)) (query_begins (s.1 ++ CLOSE ∷ rest) (query, CLOSE ∷ rest) r).1
      ∙ closed_reads (λ query. InQuery u query negated) p.query I.query 1 (omega arith) g s.1 rest query s.4

  like_complete : (u : Tree) (negated : Bool) (us : List Token) (pattern : Tree) (rest : List Token) → Spells.SumOf I us pattern → Ends 12 rest → Reads.like_at p u negated (us ++ rest) ≡ Some (Like u pattern negated, rest)
  unfolding Reads.like_at
  like_complete u negated us pattern rest s end = bind_is _ (sum_level us pattern rest s end) refl

  compare_low : (w : RestWord) → 12 ≤ strength (rest_token w)
  compare_low (word.Compare Eq) = omega arith
  compare_low (word.Compare Ne) = omega arith
  compare_low (word.Compare Lt) = omega arith
  compare_low (word.Compare Le) = omega arith
  compare_low (word.Compare Gt) = omega arith
  compare_low (word.Compare Ge) = omega arith
  compare_low word.Is = omega arith
  compare_low word.Not = omega arith
  compare_low (word.Negatable negatable.Between) = omega arith
  compare_low (word.Negatable negatable.In) = omega arith
  compare_low (word.Negatable negatable.Like) = omega arith

  -- NOT, if it is there, and a word before what stands behind them
  abbrev front : Bool → Token → List Token → List Token
  front false t ts = t ∷ ts
  front true t ts = NOT ∷ t ∷ ts

  negated_front : {A : Type 0} (negated : Bool) (t : Token) (R : Spelling A) (us rest : List Token) (x : A) (s : Seq3 (Flag (Word NOT)) (Word t) R us negated tt x) → us ++ rest ≡ front negated t (s.2 ++ rest)
  negated_front false t R us rest x (u1, u2, u3, one, two, three, e) = ap (λ a. a ++ rest) (e ∙ (λ i. one i ++ (two i ++ u3)))
  negated_front true t R us rest x (u1, u2, u3, one, two, three, e) = ap (λ a. a ++ rest) (e ∙ (λ i. one i ++ (two i ++ u3)))

  rest_complete : (u : Tree) (us : List Token) (r : Rest) (rest : List Token) → Spells.RestOf I us r → Ends 12 rest → Reads.rest_at p u (us ++ rest) ≡ Some (rest_node u r, rest)
  unfolding Reads.rest_at Reads.tested_at Reads.negatable_at Reads.compare_at Reads.is_null_at Spells.RestOf
  rest_complete u us no_rest rest s end = ap (λ a. Reads.rest_at p u (a ++ rest)) s ∙ ap (Reads.tested_or_plain p u rest) (stops rest_word rest_token 12 rest_is compare_low rest end)
  rest_complete u us (compares op v) rest (u1, u2, one, two, e) end =
      ap (λ a. Reads.rest_at p u (a ++ rest)) (e ∙ ap (λ a. a ++ u2) one)
      ∙ ap (Reads.tested_or_plain p u (compare_token op ∷ (u2 ++ rest))) (word_reads rest_word rest_token rest_back (word.Compare op) (u2 ++ rest)) ∙ bind_is _ (sum_level u2 v rest two end) refl
  rest_complete u us (is_null false) rest (u1, u2, u3, one, two, three, e) end = ap (λ a. Reads.rest_at p u (a ++ rest)) (e ∙ (λ i. one i ++ (two i ++ three i)))
  rest_complete u us (is_null true) rest (u1, u2, u3, one, two, three, e) end = ap (λ a. Reads.rest_at p u (a ++ rest)) (e ∙ (λ i. one i ++ (two i ++ three i)))
  rest_complete u us (between false low high) rest s end = ap (Reads.rest_at p u) (negated_front false BETWEEN (Spells.RangeOf I) us rest (low, high) s) ∙ between_complete u false s.2 low high rest s.5 end
  rest_complete u us (between true low high) rest s end = ap (Reads.rest_at p u) (negated_front true BETWEEN (Spells.RangeOf I) us rest (low, high) s) ∙ between_complete u true s.2 low high rest s.5 end
  rest_complete u us (in_list false xs) rest s end = ap (Reads.rest_at p u) (negated_front false IN (Bracketed (Spells.TreesOf I)) us rest xs s) ∙ in_list_complete u false s.2 xs rest s.5
  rest_complete u us (in_list true xs) rest s end = ap (Reads.rest_at p u) (negated_front true IN (Bracketed (Spells.TreesOf I)) us rest xs s) ∙ in_list_complete u true s.2 xs rest s.5
  rest_complete u us (in_query false query) rest s end = ap (Reads.rest_at p u) (negated_front false IN (Bracketed I.query) us rest query s) ∙ in_query_complete u false s.2 query rest s.5
  rest_complete u us (in_query true query) rest s end = ap (Reads.rest_at p u) (negated_front true IN (Bracketed I.query) us rest query s) ∙ in_query_complete u true s.2 query rest s.5
  rest_complete u us (like false pattern) rest s end = ap (Reads.rest_at p u) (negated_front false LIKE (Spells.SumOf I) us rest pattern s) ∙ like_complete u false s.2 pattern rest s.5 end
  rest_complete u us (like true pattern) rest s end = ap (Reads.rest_at p u) (negated_front true LIKE (Spells.SumOf I) us rest pattern s) ∙ like_complete u true s.2 pattern rest s.5 end

  compare_high : (op : CompareOp) (ts : List Token) → Ends 13 (compare_token op ∷ ts)
  compare_high Eq ts = omega arith
  compare_high Ne ts = omega arith
  compare_high Lt ts = omega arith
  compare_high Le ts = omega arith
  compare_high Gt ts = omega arith
  compare_high Ge ts = omega arith

  negated_before : {A : Type 0} (negated : Bool) (t : Token) (R : Spelling A) (us rest : List Token) (x : A) → strength t < 13 → Seq3 (Flag (Word NOT)) (Word t) R us negated tt x → Ends 13 (us ++ rest)
  negated_before false t R us rest x h s = subst (λ (a : List Token). Ends 13 a) (sym (negated_front false t R us rest x s)) h
  negated_before true t R us rest x h s = subst (λ (a : List Token). Ends 13 a) (sym (negated_front true t R us rest x s)) (omega arith)

  -- a sum ends where the rest of its test begins
  rest_before : Before (Spells.RestOf I) 12 13
  unfolding Spells.RestOf
  rest_before us no_rest rest s end = subst (λ (a : List Token). Ends 13 (a ++ rest)) (sym s) (tighter 12 13 rest (omega arith) end)
  rest_before us (compares op v) rest (u1, u2, one, two, e) end = subst (λ (a : List Token). Ends 13 (a ++ rest)) (sym (e ∙ ap (λ a. a ++ u2) one)) (compare_high op (u2 ++ rest))
  rest_before us (is_null negated) rest (u1, u2, u3, one, two, three, e) end = subst (λ (a : List Token). Ends 13 (a ++ rest)) (sym (e ∙ ap (λ a. a ++ (u2 ++ u3)) one)) (omega arith)
  rest_before us (between negated low high) rest s end = negated_before negated BETWEEN (Spells.RangeOf I) us rest (low, high) (omega arith) s
  rest_before us (in_list negated xs) rest s end = negated_before negated IN (Bracketed (Spells.TreesOf I)) us rest xs (omega arith) s
  rest_before us (in_query negated query) rest s end = negated_before negated IN (Bracketed I.query) us rest query (omega arith) s
  rest_before us (like negated pattern) rest s end = negated_before negated LIKE (Spells.SumOf I) us rest pattern (omega arith) s

  sum_test_reads : (us vs : List Token) (v : Tree) (r : Rest) (u : Tree) (rest : List Token) → Spells.SumOf I us v → Spells.RestOf I vs r → u ≡ rest_node v r → Ends 12 rest
      → Reads.sum_test_at p (us ++ (vs ++ rest)) ≡ Some (u, rest)
  unfolding Reads.sum_test_at
  sum_test_reads us vs v r u rest one two made end =
      bind_is _ (sum_complete us v (vs ++ rest) one (rest_before vs r rest two end)) (rest_complete v vs r rest two end ∙ ap (λ a. Some (a, rest)) (sym made))

  exists_no_sum : (ts : List Token) → Reads.sum_test_at p (EXISTS ∷ ts) ≡ None
  unfolding Reads.sum_test_at Reads.sum_at Reads.product_at Reads.sign_at Reads.primary_at
  exists_no_sum ts = refl

  test_complete : Complete (Reads.test_at p) (Spells.TestOf I) 12
  unfolding Reads.test_at Reads.exists_at Spells.TestOf
  test_complete us u rest (inl (query, (w, vs, s, e), made)) end =
      ap (λ a. Reads.test_at p (a ++ rest)) e ∙ bind_is _ (bracketed_complete p.query I.query 12 1 (omega arith) g vs query rest s end) (ap (λ a. Some (a, rest)) (sym made))
  test_complete us u rest (inr (v, r, (u1, u2, one, two, e), made)) end =
      let read : Reads.sum_test_at p (u1 ++ (u2 ++ rest)) ≡ Some (u, rest) = sum_test_reads u1 u2 v r u rest one two made end in
      ap (Reads.test_at p) (ap (λ a. a ++ rest) e ∙ append_assoc u1 u2 rest)
      ∙ ap (Reads.exists_or_sum p (u1 ++ (u2 ++ rest))) (only_not EXISTS (Reads.sum_test_at p) exists_no_sum (u1 ++ (u2 ++ rest)) (u, rest) read) ∙ read

  not_no_test : (ts : List Token) → Reads.test_at p (NOT ∷ ts) ≡ None
  unfolding Reads.test_at Reads.sum_test_at Reads.sum_at Reads.product_at Reads.sign_at Reads.primary_at
  not_no_test ts = refl

  neg_complete : Complete (Reads.neg_at p) (Spells.NegOf I) 12
  unfolding Reads.neg_at Spells.NegOf
  neg_complete us u rest (false, v, (u1, u2, one, two, e), made) end =
      let r = test_complete u2 v rest two end in
      ap (λ a. Reads.neg_at p (a ++ rest)) (e ∙ ap (λ a. a ++ u2) one)
      ∙ bind_is _ (flag_missing NOT (u2 ++ rest) (only_not NOT (Reads.test_at p) not_no_test (u2 ++ rest) (v, rest) r)) (bind_is _ r (ap (λ a. Some (a, rest)) (sym made)))
  neg_complete us u rest (true, v, (u1, u2, one, two, e), made) end =
      ap (λ a. Reads.neg_at p (a ++ rest)) (e ∙ ap (λ a. a ++ u2) one) ∙ bind_is _ (test_complete u2 v rest two end) (ap (λ a. Some (a, rest)) (sym made))

  conj_complete : Complete (Reads.conj_at p) (Spells.ConjOf I) 11
  unfolding Reads.conj_at Spells.ConjOf
  conj_complete = chain_complete and_node (Reads.neg_at p) (only AND) (λ w. AND) (λ w. Reads.neg_at p) (Spells.NegOf I) (λ w. Spells.NegOf I) 11 12
      neg_complete (only_is AND) (λ w. refl) (omega arith) (λ w. omega arith) (λ w. omega arith) (λ w. neg_complete)

  pub expr_complete : Complete (Reads.expr_at p) (Spells.ExprOf I) 10
  unfolding Reads.expr_at Spells.ExprOf
  expr_complete = chain_complete or_node (Reads.conj_at p) (only OR) (λ w. OR) (λ w. Reads.conj_at p) (Spells.ConjOf I) (λ w. Spells.ConjOf I) 10 11
      conj_complete (only_is OR) (λ w. refl) (omega arith) (λ w. omega arith) (λ w. omega arith) (λ w. conj_complete)
