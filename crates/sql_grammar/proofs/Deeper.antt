-- What is spelled within any number of things is spelled within as many as there are tokens.
use Rattle.std.proofs.Common.{◌≡◌, ℕ, zero, suc, ◌+◌, ◌<◌, ◌≤◌, Bool, true, false, List, [], ◌∷◌, ◌++◌, length, Option, Some, None, ap, ◌∙◌, length-append, arith, inl, inr}
use Rattle.sql_tokens.specs.declared.token.Token.{Token}
use Rattle.sql_syntax.specs.declared.tree.JoinWord.{JoinWord}
use Rattle.sql_syntax.specs.declared.tree.JoinWord.TheVariants.{Inner, Left, Right, Full}
use Rattle.sql_syntax.specs.declared.tree.SetWord.TheVariants.{UnionAll}
use Rattle.sql_syntax.specs.Tree.{Empty, Star, Values, sort_of, Number, Str, Truth, Null, Name, Call, Cast, Paren, Sub, Case, Exists, All, AllOf, One, Table, FromQuery, Statement, Create, Set, Insert, product_tail_of, sum_tail_of, term_tail_of}
use Rattle.sql_grammar.specs.Words.{ALL, AND, AS, BETWEEN, BY, CASE, CAST, DISTINCT, ELSE, END, EXISTS, FILTER, GROUP, HAVING, IN, JOIN, LIKE, LIMIT, NOT, ON, OR, ORDER, OUTER, OVER, PARTITION, THEN, WHERE, OPEN, CLOSE, COMMA, NUMBER, product_token, sum_token, compare_token, sign_token, set_token, join_token}
use Rattle.sql_grammar.specs.Shapes.{Spelling, Word, WordOf, Led, After, Seq2, Seq3, Seq4, Made, Maybe, Flag, OrNone, Many, Series, Listed, Bracketed, Chain}
use Rattle.sql_grammar.specs.Spells
use Rattle.sql_grammar.specs.Nodes.{or_node, and_node, sum_node, product_node}
use Rattle.sql_grammar.specs.Spells.{Inside, NameOf, TypeOf, AliasOf, no_rest, compares, is_null, between, in_list, in_query, like, StatementOf, within}

-- what R spells by fewer than n tokens, S spells too
abbrev pub Below : {A : Type 0} → ℕ → Spelling A → Spelling A → Type 0
Below {A} n R S = (us : List Token) (x : A) → length us < n → R us x → S us x

same : {A : Type 0} (n : ℕ) (R : Spelling A) → Below n R R
same n R us x len s = s

fewer : {A : Type 0} (m n : ℕ) (R S : Spelling A) → m ≤ n → Below n R S → Below m R S
fewer m n R S h k us x len s = k us x (omega arith) s

led_below : {W A : Type 0} (n : ℕ) (token : W → Token) (R S : W → Spelling A) → ((w : W) → Below n (R w) (S w)) → Below (suc n) (Led token R) (Led token S)
led_below n token R S k us x len (w, vs, s, e) = let size : length us ≡ suc (length vs) = ap length e in (w, vs, k w vs x (omega arith) s, e)

after_below : {A : Type 0} (n : ℕ) (t : Token) (R S : Spelling A) → Below n R S → Below (suc n) (After t R) (After t S)
after_below n t R S k = led_below n (λ w. t) (λ w. R) (λ w. S) (λ w. k)

-- the same without counting the first token
after_within : {A : Type 0} (n : ℕ) (t : Token) (R S : Spelling A) → Below n R S → Below n (After t R) (After t S)
after_within n t R S k = fewer n (suc n) (After t R) (After t S) (omega arith) (after_below n t R S k)

made_below : {A B : Type 0} (n : ℕ) (f : A → B) (R S : Spelling A) → Below n R S → Below n (Made f R) (Made f S)
made_below n f R S k us y len (x, s, e) = (x, k us x len s, e)

maybe_below : {A : Type 0} (n : ℕ) (R S : Spelling A) → Below n R S → Below n (Maybe R) (Maybe S)
maybe_below n R S k us None len s = s
maybe_below n R S k us (Some x) len s = k us x len s

or_none_below : {A : Type 0} (n : ℕ) (R S : Spelling (List A)) → Below n R S → Below n (OrNone R) (OrNone S)
or_none_below n R S k us [] len s = s
or_none_below n R S k us (x ∷ xs) len s = k us (x ∷ xs) len s

many_below : {A : Type 0} (n : ℕ) (R S : Spelling A) → Below n R S → Below n (Many R) (Many S)
many_below n R S k us [] len s = s
many_below n R S k us (x ∷ xs) len (u1, u2, one, more, e) =
    let size : length us ≡ length u1 + length u2 = ap length e ∙ length-append u1 u2 in
    (u1, u2, k u1 x (omega arith) one, many_below n R S k u2 xs (omega arith) more, e)

seq2_below : {A B : Type 0} (n : ℕ) (R R' : Spelling A) (S S' : Spelling B) → Below n R R' → Below n S S' → (us : List Token) (x : A) (y : B) → length us < n → Seq2 R S us x y → Seq2 R' S' us x y
seq2_below n R R' S S' k j us x y len (u1, u2, one, two, e) =
    let size : length us ≡ length u1 + length u2 = ap length e ∙ length-append u1 u2 in
    (u1, u2, k u1 x (omega arith) one, j u2 y (omega arith) two, e)

seq3_below : {A B C : Type 0} (n : ℕ) (R R' : Spelling A) (S S' : Spelling B) (Q Q' : Spelling C) → Below n R R' → Below n S S' → Below n Q Q'
    → (us : List Token) (x : A) (y : B) (z : C) → length us < n → Seq3 R S Q us x y z → Seq3 R' S' Q' us x y z
seq3_below n R R' S S' Q Q' k j i us x y z len (u1, u2, u3, one, two, three, e) =
    let size : length us ≡ length u1 + length (u2 ++ u3) = ap length e ∙ length-append u1 (u2 ++ u3) in
    let more : length (u2 ++ u3) ≡ length u2 + length u3 = length-append u2 u3 in
    (u1, u2, u3, k u1 x (omega arith) one, j u2 y (omega arith) two, i u3 z (omega arith) three, e)

seq4_below : {A B C D : Type 0} (n : ℕ) (R R' : Spelling A) (S S' : Spelling B) (Q Q' : Spelling C) (P P' : Spelling D) → Below n R R' → Below n S S' → Below n Q Q' → Below n P P'
    → (us : List Token) (x : A) (y : B) (z : C) (w : D) → length us < n → Seq4 R S Q P us x y z w → Seq4 R' S' Q' P' us x y z w
seq4_below n R R' S S' Q Q' P P' k j i h us x y z w len (u1, u2, u3, u4, one, two, three, four, e) =
    let size : length us ≡ length u1 + length (u2 ++ (u3 ++ u4)) = ap length e ∙ length-append u1 (u2 ++ (u3 ++ u4)) in
    let more : length (u2 ++ (u3 ++ u4)) ≡ length u2 + length (u3 ++ u4) = length-append u2 (u3 ++ u4) in
    let last : length (u3 ++ u4) ≡ length u3 + length u4 = length-append u3 u4 in
    (u1, u2, u3, u4, k u1 x (omega arith) one, j u2 y (omega arith) two, i u3 z (omega arith) three, h u4 w (omega arith) four, e)

series_below : {A : Type 0} (n : ℕ) (R R' S S' : Spelling A) → Below n R R' → Below n S S' → Below n (Series R S) (Series R' S')
series_below n R R' S S' k j us [] len s = s
series_below n R R' S S' k j us (x ∷ xs) len s = seq2_below n R R' (Many S) (Many S') k (many_below n S S' j) us x xs len s

listed_below : {A : Type 0} (n : ℕ) (R S : Spelling A) → Below n R S → Below n (Listed R) (Listed S)
listed_below n R S k = series_below n R S (After COMMA R) (After COMMA S) k (after_within n COMMA R S k)

bracketed_below : {A : Type 0} (n : ℕ) (R S : Spelling A) → Below n R S → Below (suc n) (Bracketed R) (Bracketed S)
bracketed_below n R S k us x len (u1, u2, u3, one, two, three, e) =
    let front : us ≡ OPEN ∷ (u2 ++ CLOSE ∷ []) = e ∙ (λ i. one i ++ (u2 ++ three i)) in
    let size : length us ≡ suc (length (u2 ++ CLOSE ∷ [])) = ap length front in
    (u1, u2, u3, one, k u2 x (omega (arith, length-append u2 (CLOSE ∷ []))) two, three, e)

chain_below : {A X : Type 0} (n : ℕ) (node : A → List X → A) (R R' : Spelling A) (S S' : Spelling X) → Below n R R' → Below n S S' → Below n (Chain node R S) (Chain node R' S')
chain_below n node R R' S S' k j us u len (x, xs, s, made) = (x, xs, seq2_below n R R' (Many S) (Many S') k (many_below n S S' j) us x xs len s, made)

-- I and J agree below n tokens, so the rules made of them agree below one more
module _ (n : ℕ) (I J : Inside) (h : Below n I.expr J.expr) (g : Below n I.query J.query) where
  trees_below : Below n (Spells.TreesOf I) (Spells.TreesOf J)
  unfolding Spells.TreesOf
  trees_below = listed_below n I.expr J.expr h

  sort_below : Below n (Spells.SortOf I) (Spells.SortOf J)
  unfolding Spells.SortOf
  sort_below us (sort_of value desc) len (u1, u2, one, two, e) =
      let size : length us ≡ length u1 + length u2 = ap length e ∙ length-append u1 u2 in
      (u1, u2, h u1 value (omega arith) one, two, e)

  order_below : Below (suc n) (Spells.OrderOf I) (Spells.OrderOf J)
  unfolding Spells.OrderOf
  order_below = after_below n ORDER (After BY (Listed (Spells.SortOf I))) (After BY (Listed (Spells.SortOf J)))
      (after_within n BY (Listed (Spells.SortOf I)) (Listed (Spells.SortOf J)) (listed_below n (Spells.SortOf I) (Spells.SortOf J) sort_below))

  args_below : Below n (Spells.ArgsOf I) (Spells.ArgsOf J)
  unfolding Spells.ArgsOf
  args_below us Empty len s = s
  args_below us Star len s = s
  args_below us (Values distinct values) len (xs, s, made) = (xs, seq2_below n (Flag (Word DISTINCT)) (Flag (Word DISTINCT)) (Spells.TreesOf I) (Spells.TreesOf J) (same n (Flag (Word DISTINCT))) trees_below us distinct xs len s, made)

  filter_below : Below (suc n) (Spells.FilterOf I) (Spells.FilterOf J)
  unfolding Spells.FilterOf
  filter_below = after_within (suc n) FILTER (Bracketed (After WHERE I.expr)) (Bracketed (After WHERE J.expr))
      (bracketed_below n (After WHERE I.expr) (After WHERE J.expr) (after_within n WHERE I.expr J.expr h))

  partition_below : Below n (Spells.PartitionOf I) (Spells.PartitionOf J)
  unfolding Spells.PartitionOf
  partition_below = after_within n PARTITION (After BY (Spells.TreesOf I)) (After BY (Spells.TreesOf J)) (after_within n BY (Spells.TreesOf I) (Spells.TreesOf J) trees_below)

  window_below : Below n (Spells.WindowOf I) (Spells.WindowOf J)
  unfolding Spells.WindowOf
  window_below us window len (partition, order, s, made) = (
    partition,
    order,
    seq2_below n (OrNone (Spells.PartitionOf I)) (OrNone (Spells.PartitionOf J)) (Spells.OrderOf I) (Spells.OrderOf J)
        (or_none_below n (Spells.PartitionOf I) (Spells.PartitionOf J) partition_below)
        (fewer n (suc n) (Spells.OrderOf I) (Spells.OrderOf J) (omega arith) order_below) us partition order len s,
    made,
  )

  over_below : Below (suc n) (Spells.OverOf I) (Spells.OverOf J)
  unfolding Spells.OverOf
  over_below = after_within (suc n) OVER (Bracketed (Spells.WindowOf I)) (Bracketed (Spells.WindowOf J)) (bracketed_below n (Spells.WindowOf I) (Spells.WindowOf J) window_below)

  cast_below : Below n (Spells.CastOf I) (Spells.CastOf J)
  unfolding Spells.CastOf
  cast_below us x len s = seq3_below n I.expr J.expr (Word AS) (Word AS) TypeOf TypeOf h (same n (Word AS)) (same n TypeOf) us x.0 tt x.1 len s

  when_below : Below (suc n) (Spells.WhenOf I) (Spells.WhenOf J)
  unfolding Spells.WhenOf
  when_below us x len (w, vs, (cond, result, s, made), e) =
      let size : length us ≡ suc (length vs) = ap length e in
      (w, vs, (cond, result, seq3_below n I.expr J.expr (Word THEN) (Word THEN) I.expr J.expr h (same n (Word THEN)) h vs cond tt result (omega arith) s, made), e)

  else_below : Below (suc n) (Spells.ElseOf I) (Spells.ElseOf J)
  unfolding Spells.ElseOf
  else_below = after_below n ELSE I.expr J.expr h

  primary_below : Below (suc n) (Spells.PrimaryOf I) (Spells.PrimaryOf J)
  unfolding Spells.PrimaryOf
  primary_below us (Number x) len s = s
  primary_below us (Str x) len s = s
  primary_below us (Truth true) len s = s
  primary_below us (Truth false) len s = s
  primary_below us Null len s = s
  primary_below us (Name None x quoted) len s = s
  primary_below us (Name (Some of) x quoted) len s = s
  primary_below us (Call name args kept_tree window_tree) len (kept, window, s, kept_is, window_is) = (
    kept,
    window,
    seq4_below (suc n) NameOf NameOf (Bracketed (Spells.ArgsOf I)) (Bracketed (Spells.ArgsOf J)) (Maybe (Spells.FilterOf I)) (Maybe (Spells.FilterOf J)) (Maybe (Spells.OverOf I)) (Maybe (Spells.OverOf J))
        (same (suc n) NameOf) (bracketed_below n (Spells.ArgsOf I) (Spells.ArgsOf J) args_below) (maybe_below (suc n) (Spells.FilterOf I) (Spells.FilterOf J) filter_below)
        (maybe_below (suc n) (Spells.OverOf I) (Spells.OverOf J) over_below) us name args kept window len s,
    kept_is,
    window_is,
  )
  primary_below us (Cast value ty) len s =
      after_within (suc n) CAST (Bracketed (Spells.CastOf I)) (Bracketed (Spells.CastOf J)) (bracketed_below n (Spells.CastOf I) (Spells.CastOf J) cast_below) us (value, ty) len s
  primary_below us (Paren u) len s = bracketed_below n I.expr J.expr h us u len s
  primary_below us (Sub query) len s = bracketed_below n I.query J.query g us query len s
  primary_below us (Case branches otherwise) len (ws, last, s, ws_is, last_is) = (
    ws,
    last,
    seq4_below (suc n) (Word CASE) (Word CASE) (Series (Spells.WhenOf I) (Spells.WhenOf I)) (Series (Spells.WhenOf J) (Spells.WhenOf J)) (Maybe (Spells.ElseOf I)) (Maybe (Spells.ElseOf J)) (Word END) (Word END)
        (same (suc n) (Word CASE)) (series_below (suc n) (Spells.WhenOf I) (Spells.WhenOf J) (Spells.WhenOf I) (Spells.WhenOf J) when_below when_below)
        (maybe_below (suc n) (Spells.ElseOf I) (Spells.ElseOf J) else_below) (same (suc n) (Word END)) us tt ws last tt len s,
    ws_is,
    last_is,
  )
  primary_below us _ len s = absurd s

  sign_below : Below (suc n) (Spells.SignOf I) (Spells.SignOf J)
  unfolding Spells.SignOf
  sign_below us u len (sign, v, s, made) =
      (sign, v, seq2_below (suc n) (Maybe (WordOf sign_token)) (Maybe (WordOf sign_token)) (Spells.PrimaryOf I) (Spells.PrimaryOf J) (same (suc n) (Maybe (WordOf sign_token))) primary_below us sign v len s, made)

  product_below : Below (suc n) (Spells.ProductOf I) (Spells.ProductOf J)
  unfolding Spells.ProductOf
  product_below = chain_below (suc n) product_node (Spells.SignOf I) (Spells.SignOf J) (Led product_token (λ w. Made (product_tail_of w) (Spells.SignOf I))) (Led product_token (λ w. Made (product_tail_of w) (Spells.SignOf J))) sign_below
      (fewer (suc n) (suc (suc n)) (Led product_token (λ w. Made (product_tail_of w) (Spells.SignOf I))) (Led product_token (λ w. Made (product_tail_of w) (Spells.SignOf J))) (omega arith)
      (led_below (suc n) product_token (λ w. Made (product_tail_of w) (Spells.SignOf I)) (λ w. Made (product_tail_of w) (Spells.SignOf J)) (λ w. made_below (suc n) (product_tail_of w) (Spells.SignOf I) (Spells.SignOf J) sign_below)))

  sum_below : Below (suc n) (Spells.SumOf I) (Spells.SumOf J)
  unfolding Spells.SumOf
  sum_below = chain_below (suc n) sum_node (Spells.ProductOf I) (Spells.ProductOf J) (Led sum_token (λ w. Made (sum_tail_of w) (Spells.ProductOf I))) (Led sum_token (λ w. Made (sum_tail_of w) (Spells.ProductOf J))) product_below
      (fewer (suc n) (suc (suc n)) (Led sum_token (λ w. Made (sum_tail_of w) (Spells.ProductOf I))) (Led sum_token (λ w. Made (sum_tail_of w) (Spells.ProductOf J))) (omega arith)
      (led_below (suc n) sum_token (λ w. Made (sum_tail_of w) (Spells.ProductOf I)) (λ w. Made (sum_tail_of w) (Spells.ProductOf J)) (λ w. made_below (suc n) (sum_tail_of w) (Spells.ProductOf I) (Spells.ProductOf J) product_below)))

  range_below : Below (suc n) (Spells.RangeOf I) (Spells.RangeOf J)
  unfolding Spells.RangeOf
  range_below us x len s = seq3_below (suc n) (Spells.SumOf I) (Spells.SumOf J) (Word AND) (Word AND) (Spells.SumOf I) (Spells.SumOf J) sum_below (same (suc n) (Word AND)) sum_below us x.0 tt x.1 len s

  -- [ NOT ], a word, and what stands behind them
  negated_below : {A : Type 0} (t : Token) (R S : Spelling A) → Below (suc n) R S → (us : List Token) (negated : Bool) (x : A) → length us < suc n → Seq3 (Flag (Word NOT)) (Word t) R us negated tt x → Seq3 (Flag (Word NOT)) (Word t) S us negated tt x
  negated_below t R S k us negated x len s = seq3_below (suc n) (Flag (Word NOT)) (Flag (Word NOT)) (Word t) (Word t) R S (same (suc n) (Flag (Word NOT))) (same (suc n) (Word t)) k us negated tt x len s

  rest_below : Below (suc n) (Spells.RestOf I) (Spells.RestOf J)
  unfolding Spells.RestOf
  rest_below us no_rest len s = s
  rest_below us (compares op u) len s = seq2_below (suc n) (WordOf compare_token) (WordOf compare_token) (Spells.SumOf I) (Spells.SumOf J) (same (suc n) (WordOf compare_token)) sum_below us op u len s
  rest_below us (is_null negated) len s = s
  rest_below us (between negated low high) len s = negated_below BETWEEN (Spells.RangeOf I) (Spells.RangeOf J) range_below us negated (low, high) len s
  rest_below us (in_list negated xs) len s = negated_below IN (Bracketed (Spells.TreesOf I)) (Bracketed (Spells.TreesOf J)) (bracketed_below n (Spells.TreesOf I) (Spells.TreesOf J) trees_below) us negated xs len s
  rest_below us (in_query negated query) len s = negated_below IN (Bracketed I.query) (Bracketed J.query) (bracketed_below n I.query J.query g) us negated query len s
  rest_below us (like negated pattern) len s = negated_below LIKE (Spells.SumOf I) (Spells.SumOf J) sum_below us negated pattern len s

  test_below : Below (suc n) (Spells.TestOf I) (Spells.TestOf J)
  unfolding Spells.TestOf
  test_below us u len (inl s) = inl (made_below (suc n) Exists (After EXISTS (Bracketed I.query)) (After EXISTS (Bracketed J.query))
      (after_within (suc n) EXISTS (Bracketed I.query) (Bracketed J.query) (bracketed_below n I.query J.query g)) us u len s)
  test_below us u len (inr (v, r, s, made)) = inr (v, r, seq2_below (suc n) (Spells.SumOf I) (Spells.SumOf J) (Spells.RestOf I) (Spells.RestOf J) sum_below rest_below us v r len s, made)

  neg_below : Below (suc n) (Spells.NegOf I) (Spells.NegOf J)
  unfolding Spells.NegOf
  neg_below us u len (negated, v, s, made) = (negated, v, seq2_below (suc n) (Flag (Word NOT)) (Flag (Word NOT)) (Spells.TestOf I) (Spells.TestOf J) (same (suc n) (Flag (Word NOT))) test_below us negated v len s, made)

  conj_below : Below (suc n) (Spells.ConjOf I) (Spells.ConjOf J)
  unfolding Spells.ConjOf
  conj_below = chain_below (suc n) and_node (Spells.NegOf I) (Spells.NegOf J) (After AND (Spells.NegOf I)) (After AND (Spells.NegOf J)) neg_below (after_within (suc n) AND (Spells.NegOf I) (Spells.NegOf J) neg_below)

  expr_below : Below (suc n) (Spells.ExprOf I) (Spells.ExprOf J)
  unfolding Spells.ExprOf
  expr_below = chain_below (suc n) or_node (Spells.ConjOf I) (Spells.ConjOf J) (After OR (Spells.ConjOf I)) (After OR (Spells.ConjOf J)) conj_below (after_within (suc n) OR (Spells.ConjOf I) (Spells.ConjOf J) conj_below)

  item_below : Below n (Spells.ItemOf I) (Spells.ItemOf J)
  unfolding Spells.ItemOf
  item_below us All len s = s
  item_below us (AllOf of) len s = s
  item_below us (One value name) len s = seq2_below n I.expr J.expr AliasOf AliasOf h (same n AliasOf) us value name len s

  source_below : Below n (Spells.SourceOf I) (Spells.SourceOf J)
  unfolding Spells.SourceOf
  source_below us (Table name alias) len s = s
  source_below us (FromQuery query alias) len s = seq2_below n (Bracketed I.query) (Bracketed J.query) AliasOf AliasOf
      (fewer n (suc n) (Bracketed I.query) (Bracketed J.query) (omega arith) (bracketed_below n I.query J.query g)) (same n AliasOf) us query alias len s

  on_below : (kind : JoinWord) → Below n (Spells.OnOf I kind) (Spells.OnOf J kind)
  unfolding Spells.OnOf
  on_below kind us x len (source, on, s, made) = (source, on, seq3_below n (Spells.SourceOf I) (Spells.SourceOf J) (Word ON) (Word ON) I.expr J.expr source_below (same n (Word ON)) h us source tt on len s, made)

  outer_below : (kind : JoinWord) → Below n (Spells.OuterOf I kind) (Spells.OuterOf J kind)
  unfolding Spells.OuterOf
  outer_below kind us x len (written, s) = (
    written,
    seq2_below n (Flag (Word OUTER)) (Flag (Word OUTER)) (After JOIN (Spells.OnOf I kind)) (After JOIN (Spells.OnOf J kind))
        (same n (Flag (Word OUTER))) (after_within n JOIN (Spells.OnOf I kind) (Spells.OnOf J kind) (on_below kind)) us written x len s,
  )

  joined_below : (w : Option JoinWord) → Below n (Spells.JoinedOf I w) (Spells.JoinedOf J w)
  unfolding Spells.JoinedOf
  joined_below None = on_below Inner
  joined_below (Some Inner) = after_within n JOIN (Spells.OnOf I Inner) (Spells.OnOf J Inner) (on_below Inner)
  joined_below (Some Left) = outer_below Left
  joined_below (Some Right) = outer_below Right
  joined_below (Some Full) = outer_below Full

  join_below : Below n (Spells.JoinOf I) (Spells.JoinOf J)
  unfolding Spells.JoinOf
  join_below = fewer n (suc n) (Led join_token (λ w. Spells.JoinedOf I w)) (Led join_token (λ w. Spells.JoinedOf J w)) (omega arith) (led_below n join_token (λ w. Spells.JoinedOf I w) (λ w. Spells.JoinedOf J w) joined_below)

  chosen_below : Below n (Spells.ChosenOf I) (Spells.ChosenOf J)
  unfolding Spells.ChosenOf
  chosen_below us x len s = seq2_below n (Flag (Word DISTINCT)) (Flag (Word DISTINCT)) (Listed (Spells.ItemOf I)) (Listed (Spells.ItemOf J)) (same n (Flag (Word DISTINCT))) (listed_below n (Spells.ItemOf I) (Spells.ItemOf J) item_below) us x.0 x.1 len s

  from_below : Below n (Spells.FromOf I) (Spells.FromOf J)
  unfolding Spells.FromOf
  from_below us x len (w, vs, s, e) =
      let size : length us ≡ suc (length vs) = ap length e in
      (w, vs, seq2_below n (Spells.SourceOf I) (Spells.SourceOf J) (Many (Spells.JoinOf I)) (Many (Spells.JoinOf J)) source_below (many_below n (Spells.JoinOf I) (Spells.JoinOf J) join_below) vs x.0 x.1 (omega arith) s, e)

  group_below : Below n (Spells.GroupOf I) (Spells.GroupOf J)
  unfolding Spells.GroupOf
  group_below = after_within n GROUP (After BY (Spells.TreesOf I)) (After BY (Spells.TreesOf J)) (after_within n BY (Spells.TreesOf I) (Spells.TreesOf J) trees_below)

  filters_below : Below n (Spells.FiltersOf I) (Spells.FiltersOf J)
  unfolding Spells.FiltersOf
  filters_below us x len s = seq3_below n (Maybe (After WHERE I.expr)) (Maybe (After WHERE J.expr)) (OrNone (Spells.GroupOf I)) (OrNone (Spells.GroupOf J)) (Maybe (After HAVING I.expr)) (Maybe (After HAVING J.expr))
      (maybe_below n (After WHERE I.expr) (After WHERE J.expr) (after_within n WHERE I.expr J.expr h)) (or_none_below n (Spells.GroupOf I) (Spells.GroupOf J) group_below)
      (maybe_below n (After HAVING I.expr) (After HAVING J.expr) (after_within n HAVING I.expr J.expr h)) us x.0 x.1 x.2 len s

  select_below : Below (suc n) (Spells.SelectOf I) (Spells.SelectOf J)
  unfolding Spells.SelectOf
  select_below us x len (w, vs, (chosen, from, filters, s, made), e) =
      let size : length us ≡ suc (length vs) = ap length e in
      (w, vs, (chosen, from, filters, seq3_below n (Spells.ChosenOf I) (Spells.ChosenOf J) (Spells.FromOf I) (Spells.FromOf J) (Spells.FiltersOf I) (Spells.FiltersOf J) chosen_below from_below filters_below vs chosen from filters (omega arith) s, made), e)

  intersect_below : Below (suc n) (Spells.IntersectOf I) (Spells.IntersectOf J)
  unfolding Spells.IntersectOf
  intersect_below us x len (w, vs, (all, select, s, made), e) =
      let size : length us ≡ suc (length vs) = ap length e in
      (w, vs, (all, select, seq2_below (suc n) (Flag (Word ALL)) (Flag (Word ALL)) (Spells.SelectOf I) (Spells.SelectOf J) (same (suc n) (Flag (Word ALL))) select_below vs all select (omega arith) s, made), e)

  term_below : Below (suc n) (Spells.TermOf I) (Spells.TermOf J)
  unfolding Spells.TermOf
  term_below us x len (first, rest, s, made) =
      (first, rest, seq2_below (suc n) (Spells.SelectOf I) (Spells.SelectOf J) (Many (Spells.IntersectOf I)) (Many (Spells.IntersectOf J)) select_below (many_below (suc n) (Spells.IntersectOf I) (Spells.IntersectOf J) intersect_below) us first rest len s, made)

  beside_below : (w : Bool) → Below (suc n) (Spells.BesideOf I w) (Spells.BesideOf J w)
  unfolding Spells.BesideOf
  beside_below false us x len s = made_below (suc n) (term_tail_of UnionAll) (After ALL (Spells.TermOf I)) (After ALL (Spells.TermOf J)) (after_within (suc n) ALL (Spells.TermOf I) (Spells.TermOf J) term_below) us x len s
  beside_below true us x len (all, term, s, made) =
      (all, term, seq2_below (suc n) (Flag (Word ALL)) (Flag (Word ALL)) (Spells.TermOf I) (Spells.TermOf J) (same (suc n) (Flag (Word ALL))) term_below us all term len s, made)

  term_tail_below : Below (suc n) (Spells.TermTailOf I) (Spells.TermTailOf J)
  unfolding Spells.TermTailOf
  term_tail_below = fewer (suc n) (suc (suc n)) (Led set_token (λ w. Spells.BesideOf I w)) (Led set_token (λ w. Spells.BesideOf J w)) (omega arith)
      (led_below (suc n) set_token (λ w. Spells.BesideOf I w) (λ w. Spells.BesideOf J w) beside_below)

  terms_below : Below (suc n) (Spells.TermsOf I) (Spells.TermsOf J)
  unfolding Spells.TermsOf
  terms_below us x len s =
      seq2_below (suc n) (Spells.TermOf I) (Spells.TermOf J) (Many (Spells.TermTailOf I)) (Many (Spells.TermTailOf J)) term_below (many_below (suc n) (Spells.TermTailOf I) (Spells.TermTailOf J) term_tail_below) us x.0 x.1 len s

  ending_below : Below (suc n) (Spells.EndingOf I) (Spells.EndingOf J)
  unfolding Spells.EndingOf
  ending_below us x len s =
      seq2_below (suc n) (OrNone (Spells.OrderOf I)) (OrNone (Spells.OrderOf J)) (Maybe (After LIMIT (WordOf NUMBER))) (Maybe (After LIMIT (WordOf NUMBER)))
      (or_none_below (suc n) (Spells.OrderOf I) (Spells.OrderOf J) order_below) (same (suc n) (Maybe (After LIMIT (WordOf NUMBER)))) us x.0 x.1 len s

  query_below : Below (suc n) (Spells.QueryOf I) (Spells.QueryOf J)
  unfolding Spells.QueryOf
  query_below us x len (terms, ending, s, made) =
      (terms, ending, seq2_below (suc n) (Spells.TermsOf I) (Spells.TermsOf J) (Spells.EndingOf I) (Spells.EndingOf J) terms_below ending_below us terms ending len s, made)

statement_below : (n : ℕ) (I J : Inside) → Below n I.query J.query → Below (suc n) (StatementOf I) (StatementOf J)
unfolding StatementOf
statement_below n I J g us (Create name elements options) len s = s
statement_below n I J g us (Set key value) len s = s
statement_below n I J g us (Insert table query) len (u1, u2, u3, one, two, three, e) =
    let size : length us ≡ suc (suc (length (u2 ++ u3))) = ap length (e ∙ ap (λ a. a ++ (u2 ++ u3)) one) in
    (u1, u2, u3, one, two, g u3 query (omega (arith, length-append u2 u3)) three, e)

mutual
  unfolding within

  expr_deeper : (depth m : ℕ) → Below m (within depth).expr (within m).expr
  expr_deeper zero m us u len s = absurd s
  expr_deeper (suc depth) zero us u len s = absurd (omega arith)
  expr_deeper (suc depth) (suc m) us u len s = expr_below m (within depth) (within m) (expr_deeper depth m) (query_deeper depth m) us u len s

  query_deeper : (depth m : ℕ) → Below m (within depth).query (within m).query
  query_deeper zero m us query len s = absurd s
  query_deeper (suc depth) zero us query len s = absurd (omega arith)
  query_deeper (suc depth) (suc m) us query len s = query_below m (within depth) (within m) (expr_deeper depth m) (query_deeper depth m) us query len s

-- as deep as there are tokens suffices
pub deeper : (depth : ℕ) (us : List Token) (x : Statement) → StatementOf (within depth) us x → StatementOf (within (suc (length us))) us x
deeper depth us x s =
    statement_below (length us) (within depth) (within (suc (length us)))
    (fewer (length us) (suc (length us)) (within depth).query (within (suc (length us))).query (omega arith) (query_deeper depth (suc (length us)))) us x (omega arith) s
