-- What is read as an expression, or as a part of one, is spelled by the tokens that were taken.
use Rattle.std.proofs.Common.{◌≡◌, Bool, true, false, List, [], ◌∷◌, ◌++◌, Option, Some, None, refl, sym, ap, subst, ◌∙◌, append_assoc}
use Rattle.std.proofs.Common.{inl, inr}
use Rattle.ct_value.specs.declared.value.CompareOp.{CompareOp}
use Rattle.sql_tokens.specs.declared.token.Token.{Token}
use Rattle.sql_syntax.specs.declared.tree.ProductWord.{ProductWord}
use Rattle.sql_syntax.specs.declared.tree.SumWord.{SumWord}
use Rattle.sql_syntax.specs.Tree.{Text, TreeWhen, IsNull, Between, InList, InQuery, Tree, Values, tree_when_of, sort_of, sum_tail_of, product_tail_of, over_of, trees, sort_list, Call, Case, Sub, Paren, optional_tree, optional_over, tree_whens}
use Rattle.sql_grammar.specs.Words.{AND, AS, BETWEEN, BY, CASE, CAST, DISTINCT, ELSE, END, EXISTS, FILTER, IN, IS, LIKE, NOT, NULL, OR, ORDER, OVER, PARTITION, SELECT, THEN, WHEN, WHERE, OPEN, CLOSE, COMMA, DOT, TIMES, NAME, NUMBER, only, name_word, name_token, number_word, sign_word, sign_token, product_word, product_token, sum_word, sum_token, compare_token, direction_word, direction_token}
use Rattle.sql_grammar.specs.Shapes.{Spelling, Word, WordOf, Led, After, Seq2, Seq3, Made, Maybe, Flag, OrNone, Series, Listed, Bracketed}
use Rattle.sql_grammar.specs.Spells
use Rattle.sql_grammar.specs.Nodes.{or_node, and_node, sum_node, product_node, not_node, sign_node, is_desc}
use Rattle.sql_grammar.specs.Spells.{Inside, NameOf, NumbersOf, TypeOf, AliasOf, Rest, no_rest, compares, is_null, between, in_list, in_query, like, rest_node}
use Rattle.sql_grammar.specs.Reading.{Reader, ◌>>=◌, word_at, after, optional, maybe, flag, nothing, bracketed}
use Rattle.sql_grammar.specs.Reading
use Rattle.sql_grammar.specs.Reads
use Rattle.sql_grammar.specs.declared.words.PrimaryWord.{PrimaryWord}
use Rattle.sql_grammar.specs.declared.words.PrimaryWord.TheVariants as first
use Rattle.sql_grammar.specs.declared.words.NegatableWord.{NegatableWord}
use Rattle.sql_grammar.specs.declared.words.NegatableWord.TheVariants as negatable
use Rattle.sql_grammar.specs.declared.words.RestWord.{RestWord}
use Rattle.sql_grammar.specs.declared.words.RestWord.TheVariants as word
use Rattle.sql_grammar.specs.Reads.{Readers, name_at, one_or_two, sizes_at, numbers_at, type_at, alias_at, primary_word, negatable_word, rest_word}
use Rattle.sql_grammar.proofs.WordReading.{IfRead, only_is, name_is, number_is, sign_is, product_is, sum_is, direction_is, primary_token, primary_is, negatable_token, negatable_is, rest_token, rest_is}
use Rattle.sql_grammar.proofs.SoundShapes.{Took, Sound, bind, at_word, sound_map, word_sound, only_sound, made_sound, led_sound, after_sound, optional_sound, maybe_sound, flag_word_sound, or_none_sound, seq2_sound, seq3_sound, seq4_sound, bracketed_sound, series_sound, listed_sound, chain_sound}

-- names, types, aliases
pub name_sound : Sound name_at NameOf
unfolding name_at
name_sound ts = bind (word_at name_word ts) _ (Took (WordOf name_token) ts) _ (word_sound name_word name_token name_is ts) (λ x one. record {
  taken = one.taken;
  is = one.is;
  spelled = (x.0.1, one.spelled);
})

-- numbers behind their bracket
SizesOf : Spelling (List Text)
SizesOf ts xs = NumbersOf (OPEN ∷ ts) xs

second_sound : Sound (maybe (only COMMA) (λ w. word_at number_word)) (Maybe (After COMMA (WordOf NUMBER)))
second_sound = maybe_sound (only COMMA) (λ w. COMMA) (λ w. word_at number_word) (λ w. WordOf NUMBER) (only_is COMMA) (λ w. word_sound number_word NUMBER number_is)

sizes_sound : Sound sizes_at SizesOf
unfolding sizes_at SizesOf
sizes_sound = seq3_sound (λ a b c. one_or_two a b) (word_at number_word) (maybe (only COMMA) (λ w. word_at number_word)) (word_at (only CLOSE))
    (WordOf NUMBER) (Maybe (After COMMA (WordOf NUMBER))) (Word CLOSE) SizesOf (word_sound number_word NUMBER number_is) second_sound (only_sound CLOSE) spelled
  where
    spelled : (us : List Token) (a : Text) (b : Option Text) (c : Unit {0}) → Seq3 (WordOf NUMBER) (Maybe (After COMMA (WordOf NUMBER))) (Word CLOSE) us a b c → SizesOf us (one_or_two a b)
    spelled us a None c (u1, u2, u3, e1, e2, e3, e) = ap (λ x. OPEN ∷ x) (e ∙ (λ i. e1 i ++ (e2 i ++ e3 i)))
    spelled us a (Some b) c (u1, u2, u3, e1, (w, v, e2, e4), e3, e) = ap (λ x. OPEN ∷ x) (e ∙ (λ i. e1 i ++ (e4 i ++ e3 i)) ∙ ap (λ x. NUMBER a ∷ COMMA ∷ (x ++ CLOSE ∷ [])) e2)

pub numbers_sound : Sound numbers_at NumbersOf
unfolding numbers_at SizesOf
numbers_sound = sound_map numbers_at (OrNone (After OPEN SizesOf)) NumbersOf spelled (or_none_sound OPEN sizes_at SizesOf filled sizes_sound)
  where
    filled : (us : List Token) → SizesOf us [] → ⊥
    filled us e = absurd (cc)

    spelled : (us : List Token) (xs : List Text) → OrNone (After OPEN SizesOf) us xs → NumbersOf us xs
    spelled us [] e = e
    spelled us (x ∷ []) (w, vs, s, e) = e ∙ s
    spelled us (x ∷ y ∷ []) (w, vs, s, e) = e ∙ s
    spelled us (x ∷ y ∷ z ∷ xs) (w, vs, s, e) = s

pub type_sound : Sound type_at TypeOf
unfolding type_at
type_sound = seq2_sound (λ x ns. record { name = x; numbers = ns }) name_at numbers_at NameOf NumbersOf TypeOf name_sound numbers_sound (λ us x ns s. s)

pub alias_sound : Sound alias_at AliasOf
unfolding alias_at name_at
alias_sound ts = go (word_at (only AS) ts) (at_word (only AS) (λ w. AS) (only_is AS) ts)
  where
    plain : (o : Option ((Text × Bool) × List Token)) → IfRead o (λ x. ts ≡ name_token x.0 ∷ x.1) → IfRead (Reading.maybe_item (λ x us. Some (x.0, us)) ts o) (Took AliasOf ts)
    plain None g = record { taken = []; is = refl; spelled = refl }
    plain (Some x) g = record { taken = name_token x.0 ∷ []; is = g; spelled = (false, ([], name_token x.0 ∷ [], refl, (x.0.1, refl), refl)) }

    go : (o : Option (Unit {0} × List Token)) → IfRead o (λ x. ts ≡ AS ∷ x.1) → IfRead (Reads.alias_behind ts o) (Took AliasOf ts)
    go None g = plain (word_at name_word ts) (at_word name_word name_token name_is ts)
    go (Some w) g = bind (name_at w.1) _ (Took NameOf w.1) _ (name_sound w.1) (λ x one. record {
      taken = AS ∷ one.taken;
      is = g ∙ ap (λ a. AS ∷ a) one.is;
      spelled = (true, (AS ∷ [], one.taken, refl, one.spelled, refl));
    })

listed_filled : {A : Type 0} (R : Spelling A) (us : List Token) → Listed R us [] → ⊥
listed_filled R us h = h

module _ (p : Readers) (I : Inside) (h : Sound p.expr I.expr) (g : Sound p.query I.query) where
  pub trees_sound : Sound (Reads.trees_at p) (Spells.TreesOf I)
  unfolding Reads.trees_at Spells.TreesOf
  trees_sound = listed_sound p.expr I.expr h

  pub trees_filled : (us : List Token) → Spells.TreesOf I us [] → ⊥
  unfolding Spells.TreesOf
  trees_filled us s = s

  sort_sound : Sound (Reads.sort_at p) (Spells.SortOf I)
  unfolding Reads.sort_at Spells.SortOf
  sort_sound = seq2_sound (λ x d. sort_of x (is_desc d)) p.expr (optional direction_word) I.expr (Maybe (WordOf direction_token)) (Spells.SortOf I)
      h (optional_sound direction_word direction_token direction_is) (λ us x d s. (s.0, s.1, s.2, (d, s.3, refl), s.4))

  pub order_by_sound : Sound (Reads.order_by_at p) (After BY (Listed (Spells.SortOf I)))
  unfolding Reads.order_by_at Reads.sorts_at
  order_by_sound = after_sound BY (Reads.sorts_at p) (Listed (Spells.SortOf I)) (listed_sound (Reads.sort_at p) (Spells.SortOf I) sort_sound)

  pub order_filled : (us : List Token) → After BY (Listed (Spells.SortOf I)) us [] → ⊥
  order_filled us s = s.2

  args_sound : Sound (Reads.args_at p) (Spells.ArgsOf I)
  unfolding Reads.args_at Spells.ArgsOf
  args_sound ts = go (word_at (only TIMES) ts) (at_word (only TIMES) (λ w. TIMES) (only_is TIMES) ts)
    where
      others : (o : Option (Unit {0} × List Token)) → IfRead (Reads.closed_or_values p ts o) (Took (Spells.ArgsOf I) ts)
      others None = seq2_sound (λ d us. Values d (trees us)) (flag DISTINCT nothing) (Reads.trees_at p) (Flag (Word DISTINCT)) (Spells.TreesOf I) (Spells.ArgsOf I)
          (flag_word_sound DISTINCT) trees_sound (λ us d xs s. (xs, s, refl)) ts
      others (Some w) = record { taken = []; is = refl; spelled = refl }

      go : (o : Option (Unit {0} × List Token)) → IfRead o (λ x. ts ≡ TIMES ∷ x.1) → IfRead (Reads.star_or_others p ts o) (Took (Spells.ArgsOf I) ts)
      go None e = others (word_at (only CLOSE) ts)
      go (Some w) e = record { taken = TIMES ∷ []; is = e; spelled = refl }

  filter_sound : Sound (Reads.filter_at p) (Maybe (Spells.FilterOf I))
  unfolding Reads.filter_at Reads.kept_at Spells.FilterOf
  filter_sound = maybe_sound (only FILTER) (λ w. FILTER) (λ w. Reads.kept_at p) (λ w. Bracketed (After WHERE I.expr)) (only_is FILTER)
      (λ w. bracketed_sound (after WHERE p.expr) (After WHERE I.expr) (after_sound WHERE p.expr I.expr h))

  partition_sound : Sound (Reads.partition_at p) (OrNone (Spells.PartitionOf I))
  unfolding Reads.partition_at Spells.PartitionOf
  partition_sound = or_none_sound PARTITION (after BY (Reads.trees_at p)) (After BY (Spells.TreesOf I)) (λ us s. trees_filled s.1 s.2)
      (after_sound BY (Reads.trees_at p) (Spells.TreesOf I) trees_sound)

  window_sound : Sound (Reads.window_at p) (Spells.WindowOf I)
  unfolding Reads.window_at Spells.WindowOf Spells.OrderOf
  window_sound = seq3_sound (λ us w ss. over_of (trees us) (sort_list ss)) (Reads.partition_at p) (word_at (only ORDER)) (Reads.order_by_at p)
      (OrNone (Spells.PartitionOf I)) (Word ORDER) (After BY (Listed (Spells.SortOf I))) (Spells.WindowOf I) partition_sound (only_sound ORDER) order_by_sound
      (λ us xs w ss s. (xs, ss, (s.0, ORDER ∷ s.2, s.3, (tt, s.2, s.5, refl), s.6 ∙ ap (λ a. s.0 ++ (a ++ s.2)) s.4), refl))

  over_sound : Sound (Reads.over_at p) (Maybe (Spells.OverOf I))
  unfolding Reads.over_at Spells.OverOf
  over_sound = maybe_sound (only OVER) (λ w. OVER) (λ w. bracketed (Reads.window_at p)) (λ w. Bracketed (Spells.WindowOf I)) (only_is OVER)
      (λ w. bracketed_sound (Reads.window_at p) (Spells.WindowOf I) window_sound)

  call_sound : (x : Text) (quoted : Bool) → Sound (λ ts. Reads.call_at p x ts) (λ ts u. Spells.PrimaryOf I (NAME x quoted ∷ OPEN ∷ ts) u)
  unfolding Reads.call_at Spells.PrimaryOf
  call_sound x quoted = seq4_sound (λ args c kept window. Call x args (optional_tree kept) (optional_over window)) (Reads.args_at p) (word_at (only CLOSE)) (Reads.filter_at p) (Reads.over_at p)
      (Spells.ArgsOf I) (Word CLOSE) (Maybe (Spells.FilterOf I)) (Maybe (Spells.OverOf I)) (λ ts u. Spells.PrimaryOf I (NAME x quoted ∷ OPEN ∷ ts) u) args_sound (only_sound CLOSE) filter_sound over_sound
      (λ us args c kept window s. (
        kept,
        window,
        (
          NAME x quoted ∷ [],
          OPEN ∷ (s.0 ++ CLOSE ∷ []),
          s.2,
          s.3,
          (quoted, refl),
          (OPEN ∷ [], s.0, CLOSE ∷ [], refl, s.4, refl, refl),
          s.6,
          s.7,
          ap (λ a. NAME x quoted ∷ OPEN ∷ a) (s.8 ∙ ap (λ a. s.0 ++ (a ++ (s.2 ++ s.3))) s.5 ∙ sym (append_assoc s.0 (CLOSE ∷ []) (s.2 ++ s.3))),
        ),
        refl,
        refl,
      ))

  column_sound : (of : Text) (quoted : Bool) → Sound (λ ts. Reads.column_at of ts) (λ ts u. Spells.PrimaryOf I (NAME of quoted ∷ DOT ∷ ts) u)
  unfolding Reads.column_at Spells.PrimaryOf
  column_sound of quoted ts = bind (word_at name_word ts) _ (Took (WordOf name_token) ts) _ (word_sound name_word name_token name_is ts) (λ x one. record {
    taken = one.taken;
    is = one.is;
    spelled = (quoted, ap (λ a. NAME of quoted ∷ DOT ∷ a) one.spelled);
  })

  -- what follows some tokens, together with them
  behind : (V : Spelling Tree) (front ts us : List Token) (o : Option (Tree × List Token)) → ts ≡ front ++ us → IfRead o (Took (λ vs u. V (front ++ vs) u) us) → IfRead o (Took V ts)
  behind V front ts us None e one = tt
  behind V front ts us (Some x) e one = record { taken = front ++ one.taken; is = e ∙ ap (λ a. front ++ a) one.is ∙ sym (append_assoc front one.taken x.1); spelled = one.spelled }

  named_sound : (x : Text) (quoted : Bool) → Sound (λ ts. Reads.named_at p x quoted ts) (λ ts u. Spells.PrimaryOf I (NAME x quoted ∷ ts) u)
  unfolding Reads.named_at Spells.PrimaryOf
  named_sound x quoted ts = go (word_at (only DOT) ts) (at_word (only DOT) (λ w. DOT) (only_is DOT) ts)
    where
      others : (o : Option (Unit {0} × List Token)) → IfRead o (λ y. ts ≡ OPEN ∷ y.1) → IfRead (Reads.called_or_plain p x quoted ts o) (Took (λ us u. Spells.PrimaryOf I (NAME x quoted ∷ us) u) ts)
      others None e = record { taken = []; is = refl; spelled = refl }
      others (Some y) e = behind (λ us u. Spells.PrimaryOf I (NAME x quoted ∷ us) u) (OPEN ∷ []) ts y.1 (Reads.call_at p x y.1) e (call_sound x quoted y.1)

      go : (o : Option (Unit {0} × List Token)) → IfRead o (λ y. ts ≡ DOT ∷ y.1) → IfRead (Reads.column_or_others p x quoted ts o) (Took (λ us u. Spells.PrimaryOf I (NAME x quoted ∷ us) u) ts)
      go None e = others (word_at (only OPEN) ts) (at_word (only OPEN) (λ w. OPEN) (only_is OPEN) ts)
      go (Some y) e = behind (λ us u. Spells.PrimaryOf I (NAME x quoted ∷ us) u) (DOT ∷ []) ts y.1 (Reads.column_at x y.1) e (column_sound x quoted y.1)

  cast_inner_sound : Sound (Reads.cast_inner_at p) (Spells.CastOf I)
  unfolding Reads.cast_inner_at Spells.CastOf
  cast_inner_sound = seq3_sound (λ x w ty. (x, ty)) p.expr (word_at (only AS)) type_at I.expr (Word AS) TypeOf (Spells.CastOf I) h (only_sound AS) type_sound (λ us x w ty s. s)

  cast_sound : Sound (Reads.cast_at p) (λ ts u. Spells.PrimaryOf I (CAST ∷ ts) u)
  unfolding Reads.cast_at Spells.PrimaryOf
  cast_sound ts = bind (bracketed (Reads.cast_inner_at p) ts) _ (Took (Bracketed (Spells.CastOf I)) ts) _ (bracketed_sound (Reads.cast_inner_at p) (Spells.CastOf I) cast_inner_sound ts) (λ x one. record {
    taken = one.taken;
    is = one.is;
    spelled = (tt, one.taken, one.spelled, refl);
  })

  -- up to a closing bracket, of the tokens behind the opening one
  closed_sound : {A B : Type 0} (f : A → B) (q : Reader A) (R : Spelling A) (U : Spelling B) → Sound q R → ((us : List Token) (x : A) → Bracketed R (OPEN ∷ us) x → U us (f x))
      → Sound (λ ts. q ts >>= λ x. word_at (only CLOSE) x.1 >>= λ c. Some (f x.0, c.1)) U
  closed_sound f q R U k spelled = seq2_sound (λ x c. f x) q (word_at (only CLOSE)) R (Word CLOSE) U k (only_sound CLOSE)
      (λ us x c s. spelled us x (OPEN ∷ [], s.0, s.1, refl, s.2, s.3, ap (λ a. OPEN ∷ a) s.4))

  opened_sound : Sound (Reads.opened_at p) (λ ts u. Spells.PrimaryOf I (OPEN ∷ ts) u)
  unfolding Reads.opened_at Reads.paren_at Reads.sub_at Spells.PrimaryOf
  opened_sound ts = go (word_at (only SELECT) ts)
    where
      go : (o : Option (Unit {0} × List Token)) → IfRead (Reads.query_or_expr p ts o) (Took (λ us u. Spells.PrimaryOf I (OPEN ∷ us) u) ts)
      go None = closed_sound Paren p.expr I.expr (λ us u. Spells.PrimaryOf I (OPEN ∷ us) u) h (λ us x s. s) ts
      go (Some w) = closed_sound Sub p.query I.query (λ us u. Spells.PrimaryOf I (OPEN ∷ us) u) g (λ us x s. s) ts

  -- behind WHEN
  ThenOf : Spelling TreeWhen
  ThenOf ts x = (cond : Tree) × (result : Tree) × Seq3 I.expr (Word THEN) I.expr ts cond tt result × (x ≡ tree_when_of cond result)

  when_sound : Sound (Reads.when_at p) ThenOf
  unfolding Reads.when_at ThenOf
  when_sound = seq3_sound (λ x w y. tree_when_of x y) p.expr (word_at (only THEN)) p.expr I.expr (Word THEN) I.expr ThenOf h (only_sound THEN) h (λ us x w y s. (x, y, s, refl))

  whens_sound : Sound (Reads.whens_at p) (Series (Spells.WhenOf I) (Spells.WhenOf I))
  unfolding Reads.whens_at Spells.WhenOf ThenOf
  whens_sound = series_sound (after WHEN (Reads.when_at p)) (only WHEN) (λ w. WHEN) (λ w. Reads.when_at p) (After WHEN ThenOf) (λ w. ThenOf)
      (after_sound WHEN (Reads.when_at p) ThenOf when_sound) (only_is WHEN) (λ w. when_sound)

  else_sound : Sound (Reads.else_at p) (Maybe (Spells.ElseOf I))
  unfolding Reads.else_at Spells.ElseOf
  else_sound = maybe_sound (only ELSE) (λ w. ELSE) (λ w. p.expr) (λ w. I.expr) (only_is ELSE) (λ w. h)

  case_sound : Sound (Reads.case_at p) (λ ts u. Spells.PrimaryOf I (CASE ∷ ts) u)
  unfolding Reads.case_at Spells.PrimaryOf
  case_sound = seq3_sound (λ ws last c. Case (tree_whens ws) (optional_tree last)) (Reads.whens_at p) (Reads.else_at p) (word_at (only END))
      (Series (Spells.WhenOf I) (Spells.WhenOf I)) (Maybe (Spells.ElseOf I)) (Word END) (λ ts u. Spells.PrimaryOf I (CASE ∷ ts) u) whens_sound else_sound (only_sound END)
      (λ us ws last c s. (ws, last, (CASE ∷ [], s.0, s.1, s.2, refl, s.3, s.4, s.5, ap (λ a. CASE ∷ a) s.6), refl, refl))

  begun_sound : (w : PrimaryWord) → Sound (λ ts. Reads.begun_at p w ts) (λ ts u. Spells.PrimaryOf I (primary_token w ∷ ts) u)
  unfolding Reads.begun_at Spells.PrimaryOf
  begun_sound (first.Number x) ts = record { taken = []; is = refl; spelled = refl }
  begun_sound (first.Str x) ts = record { taken = []; is = refl; spelled = refl }
  begun_sound (first.Truth true) ts = record { taken = []; is = refl; spelled = refl }
  begun_sound (first.Truth false) ts = record { taken = []; is = refl; spelled = refl }
  begun_sound first.Null ts = record { taken = []; is = refl; spelled = refl }
  begun_sound (first.Name x quoted) ts = named_sound x quoted ts
  begun_sound first.Cast ts = cast_sound ts
  begun_sound first.Bracket ts = opened_sound ts
  begun_sound first.Case ts = case_sound ts

  primary_sound : Sound (Reads.primary_at p) (Spells.PrimaryOf I)
  unfolding Reads.primary_at
  primary_sound = sound_map (Reads.primary_at p) (Led primary_token (λ w ts u. Spells.PrimaryOf I (primary_token w ∷ ts) u)) (Spells.PrimaryOf I)
      (λ us u s. subst (λ (a : List Token). Spells.PrimaryOf I a u) (sym s.3) s.2)
      (led_sound primary_word primary_token (λ w ts. Reads.begun_at p w ts) (λ w ts u. Spells.PrimaryOf I (primary_token w ∷ ts) u) primary_is begun_sound)

  sign_sound : Sound (Reads.sign_at p) (Spells.SignOf I)
  unfolding Reads.sign_at Spells.SignOf
  sign_sound = seq2_sound (λ sign x. sign_node sign x) (optional sign_word) (Reads.primary_at p) (Maybe (WordOf sign_token)) (Spells.PrimaryOf I) (Spells.SignOf I)
      (optional_sound sign_word sign_token sign_is) primary_sound (λ us sign x s. (sign, x, s, refl))

  product_tail_sound : (w : ProductWord) → Sound (Reads.product_tail_at p w) (Made (product_tail_of w) (Spells.SignOf I))
  unfolding Reads.product_tail_at
  product_tail_sound w = made_sound (product_tail_of w) (Reads.sign_at p) (Spells.SignOf I) sign_sound

  product_sound : Sound (Reads.product_at p) (Spells.ProductOf I)
  unfolding Reads.product_at Spells.ProductOf
  product_sound = chain_sound product_node (Reads.sign_at p) product_word product_token (Reads.product_tail_at p) (Spells.SignOf I) (λ w. Made (product_tail_of w) (Spells.SignOf I))
      sign_sound product_is product_tail_sound

  sum_tail_sound : (w : SumWord) → Sound (Reads.sum_tail_at p w) (Made (sum_tail_of w) (Spells.ProductOf I))
  unfolding Reads.sum_tail_at
  sum_tail_sound w = made_sound (sum_tail_of w) (Reads.product_at p) (Spells.ProductOf I) product_sound

  sum_sound : Sound (Reads.sum_at p) (Spells.SumOf I)
  unfolding Reads.sum_at Spells.SumOf
  sum_sound = chain_sound sum_node (Reads.product_at p) sum_word sum_token (Reads.sum_tail_at p) (Spells.ProductOf I) (λ w. Made (sum_tail_of w) (Spells.ProductOf I))
      product_sound sum_is sum_tail_sound

  -- what stands behind the sum u
  Tested : Tree → Spelling Tree
  Tested u ts v = (r : Rest) × Spells.RestOf I ts r × (v ≡ rest_node u r)

  compare_sound : (u : Tree) (op : CompareOp) → Sound (λ ts. Reads.compare_at p u op ts) (λ ts v. Tested u (compare_token op ∷ ts) v)
  unfolding Reads.compare_at Tested Spells.RestOf
  compare_sound u op ts = bind (Reads.sum_at p ts) _ (Took (Spells.SumOf I) ts) _ (sum_sound ts) (λ x one. record {
    taken = one.taken;
    is = one.is;
    spelled = (compares op x.0, (compare_token op ∷ [], one.taken, refl, one.spelled, refl), refl);
  })

  is_null_sound : (u : Tree) → Sound (λ ts. Reads.is_null_at u ts) (λ ts v. Tested u (IS ∷ ts) v)
  unfolding Reads.is_null_at Tested Spells.RestOf
  is_null_sound u = seq2_sound (λ negated w. IsNull u negated) (flag NOT nothing) (word_at (only NULL)) (Flag (Word NOT)) (Word NULL)
      (λ ts v. Tested u (IS ∷ ts) v) (flag_word_sound NOT) (only_sound NULL)
      (λ us negated w s. (is_null negated, (IS ∷ [], s.0, s.1, refl, s.2, s.3, ap (λ a. IS ∷ a) s.4), refl))

  -- NOT, if it is there, and a word that it may stand before
  negated_words : Bool → Token → List Token
  negated_words false t = t ∷ []
  negated_words true t = NOT ∷ t ∷ []

  flagged : (negated : Bool) (t : Token) {A : Type 0} (R : Spelling A) (us : List Token) (x : A) → R us x → Seq3 (Flag (Word NOT)) (Word t) R (negated_words negated t ++ us) negated tt x
  unfolding negated_words
  flagged false t R us x s = ([], t ∷ [], us, refl, refl, s, refl)
  flagged true t R us x s = (NOT ∷ [], t ∷ [], us, refl, refl, s, refl)

  between_sound : (u : Tree) (negated : Bool) → Sound (λ ts. Reads.between_at p u negated ts) (λ ts v. Tested u (negated_words negated BETWEEN ++ ts) v)
  unfolding Reads.between_at Tested Spells.RestOf Spells.RangeOf
  between_sound u negated = seq3_sound (λ low w high. Between u low high negated) (Reads.sum_at p) (word_at (only AND)) (Reads.sum_at p)
      (Spells.SumOf I) (Word AND) (Spells.SumOf I) (λ ts v. Tested u (negated_words negated BETWEEN ++ ts) v) sum_sound (only_sound AND) sum_sound
      (λ us low w high s. (between negated low high, flagged negated BETWEEN (Spells.RangeOf I) us (low, high) s, refl))

  like_sound : (u : Tree) (negated : Bool) → Sound (λ ts. Reads.like_at p u negated ts) (λ ts v. Tested u (negated_words negated LIKE ++ ts) v)
  unfolding Reads.like_at Tested Spells.RestOf
  like_sound u negated ts = bind (Reads.sum_at p ts) _ (Took (Spells.SumOf I) ts) _ (sum_sound ts) (λ x one. record {
    taken = one.taken;
    is = one.is;
    spelled = (like negated x.0, flagged negated LIKE (Spells.SumOf I) one.taken x.0 one.spelled, refl);
  })

  in_sound : (u : Tree) (negated : Bool) → Sound (λ ts. Reads.in_at p u negated ts) (λ ts v. Tested u (negated_words negated IN ++ ts) v)
  unfolding Reads.in_at Reads.in_list_at Reads.in_query_at Tested Spells.RestOf
  in_sound u negated ts = opened (word_at (only OPEN) ts) (at_word (only OPEN) (λ w. OPEN) (only_is OPEN) ts)
    where
      go : (us : List Token) (o : Option (Unit {0} × List Token)) → IfRead (Reads.query_or_list p u negated us o) (Took (λ vs v. Tested u (negated_words negated IN ++ (OPEN ∷ vs)) v) us)
      go us None = closed_sound (λ xs. InList u (trees xs) negated) (Reads.trees_at p) (Spells.TreesOf I) (λ vs v. Tested u (negated_words negated IN ++ (OPEN ∷ vs)) v) trees_sound
          (λ vs xs s. (in_list negated xs, flagged negated IN (Bracketed (Spells.TreesOf I)) (OPEN ∷ vs) xs s, refl)) us
      go us (Some w) = closed_sound (λ query. InQuery u query negated) p.query I.query (λ vs v. Tested u (negated_words negated IN ++ (OPEN ∷ vs)) v) g
          (λ vs query s. (in_query negated query, flagged negated IN (Bracketed I.query) (OPEN ∷ vs) query s, refl)) us

      opened : (o : Option (Unit {0} × List Token)) → IfRead o (λ y. ts ≡ OPEN ∷ y.1) → IfRead (o >>= λ y. Reads.query_or_list p u negated y.1 (word_at (only SELECT) y.1)) (Took (λ us v. Tested u (negated_words negated IN ++ us) v) ts)
      opened None e = tt
      opened (Some y) e = behind (λ us v. Tested u (negated_words negated IN ++ us) v) (OPEN ∷ []) ts y.1 (Reads.query_or_list p u negated y.1 (word_at (only SELECT) y.1)) e (go y.1 (word_at (only SELECT) y.1))

  negatable_sound : (u : Tree) (negated : Bool) (w : NegatableWord) → Sound (λ ts. Reads.negatable_at p u negated w ts) (λ ts v. Tested u (negated_words negated (negatable_token w) ++ ts) v)
  unfolding Reads.negatable_at
  negatable_sound u negated negatable.Between = between_sound u negated
  negatable_sound u negated negatable.In = in_sound u negated
  negatable_sound u negated negatable.Like = like_sound u negated

  tested_sound : (u : Tree) (w : RestWord) → Sound (λ ts. Reads.tested_at p u w ts) (λ ts v. Tested u (rest_token w ∷ ts) v)
  unfolding Reads.tested_at negated_words
  tested_sound u (word.Compare op) = compare_sound u op
  tested_sound u word.Is = is_null_sound u
  tested_sound u word.Not = sound_map (λ ts. word_at negatable_word ts >>= λ w. Reads.negatable_at p u true w.0 w.1) (Led negatable_token (λ w us v. Tested u (NOT ∷ negatable_token w ∷ us) v)) (λ ts v. Tested u (NOT ∷ ts) v)
      (λ us v s. subst (λ (a : List Token). Tested u (NOT ∷ a) v) (sym s.3) s.2)
      (led_sound negatable_word negatable_token (λ w ts. Reads.negatable_at p u true w ts) (λ w us v. Tested u (NOT ∷ negatable_token w ∷ us) v) negatable_is (negatable_sound u true))
  tested_sound u (word.Negatable w) = negatable_sound u false w

  untested : (u : Tree) → Tested u [] u
  unfolding Tested Spells.RestOf
  untested u = (no_rest, refl, refl)

  rest_sound : (u : Tree) → Sound (λ ts. Reads.rest_at p u ts) (Tested u)
  unfolding Reads.rest_at
  rest_sound u ts = go (word_at rest_word ts) (at_word rest_word rest_token rest_is ts)
    where
      go : (o : Option (RestWord × List Token)) → IfRead o (λ x. ts ≡ rest_token x.0 ∷ x.1) → IfRead (Reads.tested_or_plain p u ts o) (Took (Tested u) ts)
      go None e = record { taken = []; is = refl; spelled = untested u }
      go (Some w) e = behind (Tested u) (rest_token w.0 ∷ []) ts w.1 (Reads.tested_at p u w.0 w.1) e (tested_sound u w.0 w.1)

  sum_test_sound : Sound (Reads.sum_test_at p) (λ ts u. (v : Tree) × (rest : Rest) × Seq2 (Spells.SumOf I) (Spells.RestOf I) ts v rest × (u ≡ rest_node v rest))
  unfolding Reads.sum_test_at Tested
  sum_test_sound ts =
      bind (Reads.sum_at p ts) _ (Took (Spells.SumOf I) ts) _ (sum_sound ts) (λ x one. go x.0 x.1 one (Reads.rest_at p x.0 x.1) (rest_sound x.0 x.1))
    where
      go : (x : Tree) (us : List Token) → Took (Spells.SumOf I) ts (x, us) → (o : Option (Tree × List Token)) → IfRead o (Took (Tested x) us)
          → IfRead o (Took (λ vs u. (v : Tree) × (rest : Rest) × Seq2 (Spells.SumOf I) (Spells.RestOf I) vs v rest × (u ≡ rest_node v rest)) ts)
      go x us one None two = tt
      go x us one (Some y) two = record {
        taken = one.taken ++ two.taken;
        is = one.is ∙ ap (λ a. one.taken ++ a) two.is ∙ sym (append_assoc one.taken two.taken y.1);
        spelled = (x, two.spelled.0, (one.taken, two.taken, one.spelled, two.spelled.1, refl), two.spelled.2);
      }

  test_sound : Sound (Reads.test_at p) (Spells.TestOf I)
  unfolding Reads.test_at Reads.exists_at Spells.TestOf
  test_sound ts = go (word_at (only EXISTS) ts) (at_word (only EXISTS) (λ w. EXISTS) (only_is EXISTS) ts)
    where
      go : (o : Option (Unit {0} × List Token)) → IfRead o (λ y. ts ≡ EXISTS ∷ y.1) → IfRead (Reads.exists_or_sum p ts o) (Took (Spells.TestOf I) ts)
      go None e = sound_map (Reads.sum_test_at p) (λ vs u. (v : Tree) × (rest : Rest) × Seq2 (Spells.SumOf I) (Spells.RestOf I) vs v rest × (u ≡ rest_node v rest)) (Spells.TestOf I) (λ us u s. inr s) sum_test_sound ts
      go (Some y) e = bind (bracketed p.query y.1) _ (Took (Bracketed I.query) y.1) _ (bracketed_sound p.query I.query g y.1) (λ x one. record {
        taken = EXISTS ∷ one.taken;
        is = e ∙ ap (λ a. EXISTS ∷ a) one.is;
        spelled = inl (x.0, (tt, one.taken, one.spelled, refl), refl);
      })

  neg_sound : Sound (Reads.neg_at p) (Spells.NegOf I)
  unfolding Reads.neg_at Spells.NegOf
  neg_sound = seq2_sound (λ negated x. not_node negated x) (flag NOT nothing) (Reads.test_at p) (Flag (Word NOT)) (Spells.TestOf I) (Spells.NegOf I)
      (flag_word_sound NOT) test_sound (λ us negated x s. (negated, x, s, refl))

  conj_sound : Sound (Reads.conj_at p) (Spells.ConjOf I)
  unfolding Reads.conj_at Spells.ConjOf
  conj_sound = chain_sound and_node (Reads.neg_at p) (only AND) (λ w. AND) (λ w. Reads.neg_at p) (Spells.NegOf I) (λ w. Spells.NegOf I) neg_sound (only_is AND) (λ w. neg_sound)

  pub expr_sound : Sound (Reads.expr_at p) (Spells.ExprOf I)
  unfolding Reads.expr_at Spells.ExprOf
  expr_sound = chain_sound or_node (Reads.conj_at p) (only OR) (λ w. OR) (λ w. Reads.conj_at p) (Spells.ConjOf I) (λ w. Spells.ConjOf I) conj_sound (only_is OR) (λ w. conj_sound)
