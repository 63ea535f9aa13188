-- The reading of scripts, rule by rule: one definition for each function of a parser by recursive descent.
use Rattle.std.specs.Prelude.{ℕ, zero, suc, Bool, true, false, List, [], ◌∷◌, length, Option, Some, None}
use Rattle.ct_value.specs.declared.value.CompareOp.{CompareOp}
use Rattle.ct_value.specs.declared.value.CompareOp.TheVariants.{Eq, Ne, Lt, Le, Gt, Ge}
use Rattle.sql_tokens.specs.declared.token.Token.{Token}
use Rattle.sql_syntax.specs.declared.statement.Element.{Element}
use Rattle.sql_syntax.specs.declared.statement.Element.TheVariants.{Column, Key}
use Rattle.sql_syntax.specs.declared.tree.JoinWord.{JoinWord}
use Rattle.sql_syntax.specs.declared.tree.JoinWord.TheVariants.{Inner, Left, Right, Full}
use Rattle.sql_syntax.specs.declared.tree.ProductWord.{ProductWord}
use Rattle.sql_syntax.specs.declared.tree.SumWord.{SumWord}
use Rattle.sql_syntax.specs.declared.tree.SetWord.TheVariants.{UnionAll}
use Rattle.sql_syntax.specs.declared.statement.TextPair.{TextPair}
use Rattle.sql_syntax.specs.declared.statement.TypeName.{TypeName}
use Rattle.sql_syntax.specs.Tree.{Text, Query, query_of, Select, Item, All, AllOf, One, Source, Table, FromQuery, JoinItem, join_of, Sort, sort_of, Tree, Exists, Compare, IsNull, Between, InList, InQuery, Like, Number, Str, Truth, Null, Name, Call, Cast, Paren, Sub, Case, SumTail, sum_tail_of, ProductTail, product_tail_of, TreeWhen, tree_when_of, Args, Empty, Star, Values, Over, over_of, Statement, Create, Set, Insert, Term, term_of, TermTail, term_tail_of, SelectTail, select_tail_of, term_tails, select_tails, sort_list, trees, tree_whens, optional_tree, optional_over}
use Rattle.sql_grammar.specs.declared.words.NegatableWord.{NegatableWord}
use Rattle.sql_grammar.specs.declared.words.NegatableWord.TheVariants as negatable
use Rattle.sql_grammar.specs.declared.words.PrimaryWord.{PrimaryWord}
use Rattle.sql_grammar.specs.declared.words.PrimaryWord.TheVariants as first
use Rattle.sql_grammar.specs.declared.words.RestWord.{RestWord}
use Rattle.sql_grammar.specs.declared.words.RestWord.TheVariants as rest
use Rattle.sql_grammar.specs.declared.words.StatementWord.{StatementWord}
use Rattle.sql_grammar.specs.declared.words.StatementWord.TheVariants as statement
use Rattle.sql_grammar.specs.Words.{ALL, AND, AS, BETWEEN, BY, CASE, CAST, CREATE, DISTINCT, ELSE, END, ENFORCED, EXISTS, FALSE, FILTER, FROM, GROUP, HAVING, IN, INSERT, INTERSECT, INTO, IS, JOIN, KEY, LIKE, LIMIT, NOT, NULL, ON, OR, ORDER, OUTER, OVER, PARTITION, PRIMARY, SELECT, SET, TABLE, THEN, TRUE, WHEN, WHERE, WITH, OPEN, CLOSE, COMMA, DOT, EQUAL, NOT_EQUAL, LESS, LESS_EQUAL, GREATER, GREATER_EQUAL, TIMES, NAME, STR, NUMBER, only, name_word, text_word, number_word, sign_word, product_word, sum_word, direction_word, join_word, set_word}
use Rattle.sql_grammar.specs.Nodes.{or_node, and_node, not_node, sign_node, sum_node, product_node, select_node, is_desc, except_word}
use Rattle.sql_grammar.specs.Reading.{Reader, ◌>>=◌, word_at, words_at, made, after, optional, maybe, flag, nothing, or_none, repeated, series, listed, bracketed, chain}

-- how what may stand within other things is read
pub record Readers : Type 0 where
  pub expr : Reader Tree
  pub query : Reader Query

-- name
unfoldable pub name_at : Reader Text
name_at ts = word_at name_word ts >>= λ x. Some (x.0.0, x.1)

-- a number, and the second if there is one
abbrev pub one_or_two : Text → Option Text → List Text
one_or_two a None = a ∷ []
one_or_two a (Some b) = a ∷ b ∷ []

-- behind the bracket of a type
unfoldable pub sizes_at : Reader (List Text)
sizes_at ts =
    word_at number_word ts >>= λ a. maybe (only COMMA) (λ w. word_at number_word) a.1
    >>= λ b. word_at (only CLOSE) b.1 >>= λ c. Some (one_or_two a.0 b.0, c.1)

-- [ "(" number [ "," number ] ")" ]
unfoldable pub numbers_at : Reader (List Text)
numbers_at = or_none OPEN sizes_at

-- name [ "(" number [ "," number ] ")" ]
unfoldable pub type_at : Reader TypeName
type_at ts = name_at ts >>= λ x. numbers_at x.1 >>= λ ns. Some (record { name = x.0; numbers = ns.0 }, ns.1)

-- behind AS there is a name
abbrev pub alias_behind : List Token → Option (Unit {0} × List Token) → Option (Option Text × List Token)
alias_behind ts None = maybe name_word (λ x us. Some (x.0, us)) ts
alias_behind ts (Some w) = name_at w.1 >>= λ x. Some (Some x.0, x.1)

-- [ [ AS ] name ]
unfoldable pub alias_at : Reader (Option Text)
alias_at ts = alias_behind ts (word_at (only AS) ts)

-- the token as the first of a primary
abbrev pub primary_word : Token → Option PrimaryWord
primary_word (NUMBER x) = Some (first.Number x)
primary_word (STR x) = Some (first.Str x)
primary_word TRUE = Some (first.Truth true)
primary_word FALSE = Some (first.Truth false)
primary_word NULL = Some first.Null
primary_word (NAME x quoted) = Some (first.Name x quoted)
primary_word CAST = Some first.Cast
primary_word OPEN = Some first.Bracket
primary_word CASE = Some first.Case
primary_word _ = None

-- the token as the word of such a test
abbrev pub negatable_word : Token → Option NegatableWord
negatable_word BETWEEN = Some negatable.Between
negatable_word IN = Some negatable.In
negatable_word LIKE = Some negatable.Like
negatable_word _ = None

-- the token as the first of the rest of a test
abbrev pub rest_word : Token → Option RestWord
rest_word EQUAL = Some (rest.Compare Eq)
rest_word NOT_EQUAL = Some (rest.Compare Ne)
rest_word LESS = Some (rest.Compare Lt)
rest_word LESS_EQUAL = Some (rest.Compare Le)
rest_word GREATER = Some (rest.Compare Gt)
rest_word GREATER_EQUAL = Some (rest.Compare Ge)
rest_word IS = Some rest.Is
rest_word NOT = Some rest.Not
rest_word BETWEEN = Some (rest.Negatable negatable.Between)
rest_word IN = Some (rest.Negatable negatable.In)
rest_word LIKE = Some (rest.Negatable negatable.Like)
rest_word _ = None

-- behind a name and its point
unfoldable pub column_at : Text → Reader Tree
column_at of ts = word_at name_word ts >>= λ x. Some (Name (Some of) x.0.0 x.0.1, x.1)

-- behind the sum u and IS
unfoldable pub is_null_at : Tree → Reader Tree
is_null_at u ts = flag NOT nothing ts >>= λ negated. word_at (only NULL) negated.1 >>= λ w. Some (IsNull u negated.0, w.1)

-- name "." "*"
unfoldable pub star_of_at : Reader Text
star_of_at ts = word_at name_word ts >>= λ x. word_at (only DOT) x.1 >>= λ d. word_at (only TIMES) d.1 >>= λ s. Some (x.0.0, s.1)

-- behind the name of a table
unfoldable pub table_at : Text → Reader Source
table_at name ts = alias_at ts >>= λ alias. Some (Table name alias.0, alias.1)

-- [ LIMIT number ]
unfoldable pub limit_at : Reader (Option Text)
limit_at = maybe (only LIMIT) (λ w. word_at number_word)

module _ (p : Readers) where
  -- expr { "," expr }
  unfoldable pub trees_at : Reader (List Tree)
  trees_at = listed p.expr

  -- expr [ ASC | DESC ]
  unfoldable pub sort_at : Reader Sort
  sort_at ts = p.expr ts >>= λ x. optional direction_word x.1 >>= λ d. Some (sort_of x.0 (is_desc d.0), d.1)

  -- sort { "," sort }
  unfoldable pub sorts_at : Reader (List Sort)
  sorts_at = listed sort_at

  -- behind ORDER
  unfoldable pub order_by_at : Reader (List Sort)
  order_by_at = after BY sorts_at

  -- [ DISTINCT ] expr { "," expr }
  abbrev pub values_at : Reader Args
  values_at ts = flag DISTINCT nothing ts >>= λ d. trees_at d.1 >>= λ us. Some (Values d.0 (trees us.0), us.1)

  -- a closing bracket stays for what follows
  abbrev pub closed_or_values : List Token → Option (Unit {0} × List Token) → Option (Args × List Token)
  closed_or_values ts None = values_at ts
  closed_or_values ts (Some w) = Some (Empty, ts)

  -- a star, or what else the arguments are
  abbrev pub star_or_others : List Token → Option (Unit {0} × List Token) → Option (Args × List Token)
  star_or_others ts None = closed_or_values ts (word_at (only CLOSE) ts)
  star_or_others ts (Some w) = Some (Star, w.1)

  -- [ "*" | [ DISTINCT ] expr { "," expr } ], up to the closing bracket
  unfoldable pub args_at : Reader Args
  args_at ts = star_or_others ts (word_at (only TIMES) ts)

  -- behind FILTER
  unfoldable pub kept_at : Reader Tree
  kept_at = bracketed (after WHERE p.expr)

  -- [ FILTER "(" WHERE expr ")" ]
  unfoldable pub filter_at : Reader (Option Tree)
  filter_at = maybe (only FILTER) (λ w. kept_at)

  -- [ PARTITION BY expr { "," expr } ]
  unfoldable pub partition_at : Reader (List Tree)
  partition_at = or_none PARTITION (after BY trees_at)

  -- [ PARTITION BY expr { "," expr } ] ORDER BY sort { "," sort }
  unfoldable pub window_at : Reader Over
  window_at ts =
      partition_at ts >>= λ us. word_at (only ORDER) us.1 >>= λ w. order_by_at w.1
      >>= λ ss. Some (over_of (trees us.0) (sort_list ss.0), ss.1)

  -- [ OVER "(" window ")" ]
  unfoldable pub over_at : Reader (Option Over)
  over_at = maybe (only OVER) (λ w. bracketed window_at)

  -- behind a name and its opening bracket
  unfoldable pub call_at : Text → Reader Tree
  call_at name ts =
      args_at ts >>= λ args. word_at (only CLOSE) args.1 >>= λ c. filter_at c.1 >>= λ kept. over_at kept.1
      >>= λ window. Some (Call name args.0 (optional_tree kept.0) (optional_over window.0), window.1)

  -- a bracket behind the name calls it
  abbrev pub called_or_plain : Text → Bool → List Token → Option (Unit {0} × List Token) → Option (Tree × List Token)
  called_or_plain x quoted ts None = Some (Name None x quoted, ts)
  called_or_plain x quoted ts (Some w) = call_at x w.1

  -- a point behind the name is followed by a column
  abbrev pub column_or_others : Text → Bool → List Token → Option (Unit {0} × List Token) → Option (Tree × List Token)
  column_or_others x quoted ts None = called_or_plain x quoted ts (word_at (only OPEN) ts)
  column_or_others x quoted ts (Some w) = column_at x w.1

  -- behind a name
  unfoldable pub named_at : Text → Bool → Reader Tree
  named_at x quoted ts = column_or_others x quoted ts (word_at (only DOT) ts)

  -- expr AS type
  unfoldable pub cast_inner_at : Reader (Tree × TypeName)
  cast_inner_at ts = p.expr ts >>= λ x. word_at (only AS) x.1 >>= λ w. type_at w.1 >>= λ ty. Some ((x.0, ty.0), ty.1)

  -- behind CAST
  unfoldable pub cast_at : Reader Tree
  cast_at ts = bracketed cast_inner_at ts >>= λ x. Some (Cast x.0.0 x.0.1, x.1)

  -- query ")"
  unfoldable pub sub_at : Reader Tree
  sub_at ts = p.query ts >>= λ x. word_at (only CLOSE) x.1 >>= λ c. Some (Sub x.0, c.1)

  -- expr ")"
  unfoldable pub paren_at : Reader Tree
  paren_at ts = p.expr ts >>= λ x. word_at (only CLOSE) x.1 >>= λ c. Some (Paren x.0, c.1)

  -- SELECT decides which of the two stands there
  abbrev pub query_or_expr : List Token → Option (Unit {0} × List Token) → Option (Tree × List Token)
  query_or_expr ts None = paren_at ts
  query_or_expr ts (Some w) = sub_at ts

  -- behind an opening bracket; a query begins with SELECT
  unfoldable pub opened_at : Reader Tree
  opened_at ts = query_or_expr ts (word_at (only SELECT) ts)

  -- behind WHEN
  unfoldable pub when_at : Reader TreeWhen
  when_at ts = p.expr ts >>= λ x. word_at (only THEN) x.1 >>= λ w. p.expr w.1 >>= λ y. Some (tree_when_of x.0 y.0, y.1)

  -- WHEN expr THEN expr { WHEN expr THEN expr }
  unfoldable pub whens_at : Reader (List TreeWhen)
  whens_at = series (after WHEN when_at) (only WHEN) (λ w. when_at)

  -- [ ELSE expr ]
  unfoldable pub else_at : Reader (Option Tree)
  else_at = maybe (only ELSE) (λ w. p.expr)

  -- behind CASE
  unfoldable pub case_at : Reader Tree
  case_at ts =
      whens_at ts >>= λ ws. else_at ws.1 >>= λ last. word_at (only END) last.1
      >>= λ c. Some (Case (tree_whens ws.0) (optional_tree last.0), c.1)

  -- behind the first token of a primary
  unfoldable pub begun_at : PrimaryWord → Reader Tree
  begun_at (first.Number x) ts = Some (Number x, ts)
  begun_at (first.Str x) ts = Some (Str x, ts)
  begun_at (first.Truth b) ts = Some (Truth b, ts)
  begun_at first.Null ts = Some (Null, ts)
  begun_at (first.Name x quoted) ts = named_at x quoted ts
  begun_at first.Cast ts = cast_at ts
  begun_at first.Bracket ts = opened_at ts
  begun_at first.Case ts = case_at ts

  -- a primary, by its first token
  unfoldable pub primary_at : Reader Tree
  primary_at ts = word_at primary_word ts >>= λ w. begun_at w.0 w.1

  -- [ "+" | "-" ] primary
  unfoldable pub sign_at : Reader Tree
  sign_at ts = optional sign_word ts >>= λ sign. primary_at sign.1 >>= λ x. Some (sign_node sign.0 x.0, x.1)

  -- behind the word of a product
  unfoldable pub product_tail_at : ProductWord → Reader ProductTail
  product_tail_at word = made (product_tail_of word) sign_at

  -- sign { ( "*" | "/" | "%" ) sign }
  unfoldable pub product_at : Reader Tree
  product_at = chain product_node sign_at product_word product_tail_at

  -- behind the word of a sum
  unfoldable pub sum_tail_at : SumWord → Reader SumTail
  sum_tail_at word = made (sum_tail_of word) product_at

  -- product { ( "+" | "-" | "||" ) product }
  unfoldable pub sum_at : Reader Tree
  sum_at = chain sum_node product_at sum_word sum_tail_at

  -- behind the sum u and a comparison
  unfoldable pub compare_at : Tree → CompareOp → Reader Tree
  compare_at u op ts = sum_at ts >>= λ x. Some (Compare op u x.0, x.1)

  -- behind the sum u and BETWEEN
  unfoldable pub between_at : Tree → Bool → Reader Tree
  between_at u negated ts =
      sum_at ts >>= λ low. word_at (only AND) low.1 >>= λ w. sum_at w.1 >>= λ high. Some (Between u low.0 high.0 negated, high.1)

  -- expr { "," expr } ")", behind the sum u and IN with its bracket
  unfoldable pub in_list_at : Tree → Bool → Reader Tree
  in_list_at u negated ts = trees_at ts >>= λ us. word_at (only CLOSE) us.1 >>= λ c. Some (InList u (trees us.0) negated, c.1)

  -- query ")", behind the sum u and IN with its bracket
  unfoldable pub in_query_at : Tree → Bool → Reader Tree
  in_query_at u negated ts = p.query ts >>= λ x. word_at (only CLOSE) x.1 >>= λ c. Some (InQuery u x.0 negated, c.1)

  -- SELECT decides which of the two stands there
  abbrev pub query_or_list : Tree → Bool → List Token → Option (Unit {0} × List Token) → Option (Tree × List Token)
  query_or_list u negated ts None = in_list_at u negated ts
  query_or_list u negated ts (Some w) = in_query_at u negated ts

  -- behind the sum u and IN
  unfoldable pub in_at : Tree → Bool → Reader Tree
  in_at u negated ts = word_at (only OPEN) ts >>= λ o. query_or_list u negated o.1 (word_at (only SELECT) o.1)

  -- behind the sum u and LIKE
  unfoldable pub like_at : Tree → Bool → Reader Tree
  like_at u negated ts = sum_at ts >>= λ x. Some (Like u x.0 negated, x.1)

  -- behind the sum u and the word of a test before which NOT may stand
  unfoldable pub negatable_at : Tree → Bool → NegatableWord → Reader Tree
  negatable_at u negated negatable.Between ts = between_at u negated ts
  negatable_at u negated negatable.In ts = in_at u negated ts
  negatable_at u negated negatable.Like ts = like_at u negated ts

  -- behind the sum u and the first token of what follows it
  unfoldable pub tested_at : Tree → RestWord → Reader Tree
  tested_at u (rest.Compare op) ts = compare_at u op ts
  tested_at u rest.Is ts = is_null_at u ts
  tested_at u rest.Not ts = word_at negatable_word ts >>= λ w. negatable_at u true w.0 w.1
  tested_at u (rest.Negatable w) ts = negatable_at u false w ts

  -- no such token, and the sum stands alone
  abbrev pub tested_or_plain : Tree → List Token → Option (RestWord × List Token) → Option (Tree × List Token)
  tested_or_plain u ts None = Some (u, ts)
  tested_or_plain u ts (Some w) = tested_at u w.0 w.1

  -- behind the sum u
  unfoldable pub rest_at : Tree → Reader Tree
  rest_at u ts = tested_or_plain u ts (word_at rest_word ts)

  -- behind EXISTS
  unfoldable pub exists_at : Reader Tree
  exists_at ts = bracketed p.query ts >>= λ x. Some (Exists x.0, x.1)

  -- sum [ rest ]
  unfoldable pub sum_test_at : Reader Tree
  sum_test_at ts = sum_at ts >>= λ x. rest_at x.0 x.1

  -- EXISTS decides which of the two stands there
  abbrev pub exists_or_sum : List Token → Option (Unit {0} × List Token) → Option (Tree × List Token)
  exists_or_sum ts None = sum_test_at ts
  exists_or_sum ts (Some w) = exists_at w.1

  -- EXISTS "(" query ")" | sum [ rest ]
  unfoldable pub test_at : Reader Tree
  test_at ts = exists_or_sum ts (word_at (only EXISTS) ts)

  -- [ NOT ] test
  unfoldable pub neg_at : Reader Tree
  neg_at ts = flag NOT nothing ts >>= λ negated. test_at negated.1 >>= λ x. Some (not_node negated.0 x.0, x.1)

  -- neg { AND neg }
  unfoldable pub conj_at : Reader Tree
  conj_at = chain and_node neg_at (only AND) (λ w. neg_at)

  -- conj { OR conj }
  unfoldable pub expr_at : Reader Tree
  expr_at = chain or_node conj_at (only OR) (λ w. conj_at)

  -- expr [ [ AS ] name ]
  unfoldable pub value_item_at : Reader Item
  value_item_at ts = p.expr ts >>= λ x. alias_at x.1 >>= λ name. Some (One x.0 name.0, name.1)

  -- a star behind a name and a point, or a value
  abbrev pub star_of_or_value : List Token → Option (Text × List Token) → Option (Item × List Token)
  star_of_or_value ts None = value_item_at ts
  star_of_or_value ts (Some x) = Some (AllOf x.0, x.1)

  -- a star, or what else the item is
  abbrev pub star_or_item : List Token → Option (Unit {0} × List Token) → Option (Item × List Token)
  star_or_item ts None = star_of_or_value ts (star_of_at ts)
  star_or_item ts (Some w) = Some (All, w.1)

  -- "*" | name "." "*" | expr [ [ AS ] name ]
  unfoldable pub item_at : Reader Item
  item_at ts = star_or_item ts (word_at (only TIMES) ts)

  -- item { "," item }
  unfoldable pub items_at : Reader (List Item)
  items_at = listed item_at

  -- "(" query ")" [ [ AS ] name ]
  unfoldable pub from_query_at : Reader Source
  from_query_at ts = bracketed p.query ts >>= λ x. alias_at x.1 >>= λ alias. Some (FromQuery x.0 alias.0, alias.1)

  -- a name decides which of the two stands there
  abbrev pub table_or_query : List Token → Option ((Text × Bool) × List Token) → Option (Source × List Token)
  table_or_query ts None = from_query_at ts
  table_or_query ts (Some x) = table_at x.0.0 x.1

  -- name [ [ AS ] name ] | "(" query ")" [ [ AS ] name ]
  unfoldable pub source_at : Reader Source
  source_at ts = table_or_query ts (word_at name_word ts)

  -- behind JOIN
  unfoldable pub on_at : JoinWord → Reader JoinItem
  on_at kind ts = source_at ts >>= λ source. word_at (only ON) source.1 >>= λ w. p.expr w.1 >>= λ on. Some (join_of kind source.0 on.0, on.1)

  -- behind LEFT, RIGHT or FULL
  unfoldable pub outer_at : JoinWord → Reader JoinItem
  outer_at kind ts = flag OUTER nothing ts >>= λ o. word_at (only JOIN) o.1 >>= λ w. on_at kind w.1

  -- behind the first word of a join
  unfoldable pub joined_at : Option JoinWord → Reader JoinItem
  joined_at None ts = on_at Inner ts
  joined_at (Some Inner) ts = after JOIN (on_at Inner) ts
  joined_at (Some Left) ts = outer_at Left ts
  joined_at (Some Right) ts = outer_at Right ts
  joined_at (Some Full) ts = outer_at Full ts

  -- behind SELECT
  unfoldable pub chosen_at : Reader (Bool × List Item)
  chosen_at ts = flag DISTINCT nothing ts >>= λ d. items_at d.1 >>= λ xs. Some ((d.0, xs.0), xs.1)

  -- { join }
  unfoldable pub joins_at : Reader (List JoinItem)
  joins_at = repeated join_word joined_at

  -- FROM source { join }
  unfoldable pub from_at : Reader (Source × List JoinItem)
  from_at ts = word_at (only FROM) ts >>= λ w. source_at w.1 >>= λ source. joins_at source.1 >>= λ js. Some ((source.0, js.0), js.1)

  -- [ WHERE expr ]
  unfoldable pub where_at : Reader (Option Tree)
  where_at = maybe (only WHERE) (λ w. p.expr)

  -- [ GROUP BY expr { "," expr } ]
  unfoldable pub group_at : Reader (List Tree)
  group_at = or_none GROUP (after BY trees_at)

  -- [ HAVING expr ]
  unfoldable pub having_at : Reader (Option Tree)
  having_at = maybe (only HAVING) (λ w. p.expr)

  -- [ WHERE expr ] [ GROUP BY expr { "," expr } ] [ HAVING expr ]
  unfoldable pub filters_at : Reader (Option Tree × List Tree × Option Tree)
  filters_at ts = where_at ts >>= λ cond. group_at cond.1 >>= λ groups. having_at groups.1 >>= λ having. Some ((cond.0, groups.0, having.0), having.1)

  -- behind SELECT
  unfoldable pub selected_at : Reader Select
  selected_at ts = chosen_at ts >>= λ chosen. from_at chosen.1 >>= λ from. filters_at from.1 >>= λ filters. Some (select_node chosen.0 from.0 filters.0, filters.1)

  -- select
  unfoldable pub select_at : Reader Select
  select_at = after SELECT selected_at

  -- behind INTERSECT
  unfoldable pub intersect_at : Reader SelectTail
  intersect_at ts = flag ALL nothing ts >>= λ all. select_at all.1 >>= λ select. Some (select_tail_of all.0 select.0, select.1)

  -- { INTERSECT [ ALL ] select }
  unfoldable pub intersects_at : Reader (List SelectTail)
  intersects_at = repeated (only INTERSECT) (λ w. intersect_at)

  -- select { INTERSECT [ ALL ] select }
  unfoldable pub term_at : Reader Term
  term_at ts = select_at ts >>= λ first. intersects_at first.1 >>= λ rest. Some (term_of first.0 (select_tails rest.0), rest.1)

  -- behind UNION
  unfoldable pub union_at : Reader TermTail
  union_at ts = after ALL term_at ts >>= λ term. Some (term_tail_of UnionAll term.0, term.1)

  -- behind EXCEPT
  unfoldable pub except_at : Reader TermTail
  except_at ts = flag ALL nothing ts >>= λ all. term_at all.1 >>= λ term. Some (term_tail_of (except_word all.0) term.0, term.1)

  -- behind the first word between two terms
  unfoldable pub beside_at : Bool → Reader TermTail
  beside_at false ts = union_at ts
  beside_at true ts = except_at ts

  -- { ( UNION ALL | EXCEPT [ ALL ] ) term }
  unfoldable pub term_tails_at : Reader (List TermTail)
  term_tails_at = repeated set_word beside_at

  -- term { ( UNION ALL | EXCEPT [ ALL ] ) term }
  unfoldable pub terms_at : Reader (Term × List TermTail)
  terms_at ts = term_at ts >>= λ first. term_tails_at first.1 >>= λ rest. Some ((first.0, rest.0), rest.1)

  -- [ ORDER BY sort { "," sort } ]
  unfoldable pub order_at : Reader (List Sort)
  order_at = or_none ORDER order_by_at

  -- [ ORDER BY sort { "," sort } ] [ LIMIT number ]
  unfoldable pub ending_at : Reader (List Sort × Option Text)
  ending_at ts = order_at ts >>= λ order. limit_at order.1 >>= λ limit. Some ((order.0, limit.0), limit.1)

  -- term { ( UNION ALL | EXCEPT [ ALL ] ) term } [ ORDER BY sort { "," sort } ] [ LIMIT number ]
  unfoldable pub query_at : Reader Query
  query_at ts =
      terms_at ts >>= λ terms. ending_at terms.1
      >>= λ ending. Some (query_of terms.0.0 (term_tails terms.0.1) (sort_list ending.0.0) ending.0.1, ending.1)

-- [ NOT NULL ]
unfoldable pub not_null_at : Reader Bool
not_null_at = flag NOT (word_at (only NULL))

-- [ PRIMARY KEY NOT ENFORCED ]
unfoldable pub key_flag_at : Reader Bool
key_flag_at = flag PRIMARY (words_at (KEY ∷ NOT ∷ ENFORCED ∷ []))

-- name type [ NOT NULL ] [ PRIMARY KEY NOT ENFORCED ]
unfoldable pub column_def_at : Reader Element
column_def_at ts =
    name_at ts >>= λ name. type_at name.1 >>= λ ty. not_null_at ty.1 >>= λ not_null. key_flag_at not_null.1
    >>= λ key. Some (Column name.0 ty.0 not_null.0 key.0, key.1)

-- name { "," name }
unfoldable pub names_at : Reader (List Text)
names_at = listed name_at

-- behind PRIMARY
unfoldable pub key_at : Reader Element
key_at ts =
    word_at (only KEY) ts >>= λ w. bracketed names_at w.1 >>= λ names. words_at (NOT ∷ ENFORCED ∷ []) names.1
    >>= λ e. Some (Key names.0, e.1)

-- PRIMARY decides which of the two stands there
abbrev pub key_or_column : List Token → Option (Unit {0} × List Token) → Option (Element × List Token)
key_or_column ts None = column_def_at ts
key_or_column ts (Some w) = key_at w.1

-- a column, or PRIMARY KEY "(" name { "," name } ")" NOT ENFORCED
unfoldable pub element_at : Reader Element
element_at ts = key_or_column ts (word_at (only PRIMARY) ts)

-- element { "," element }
unfoldable pub elements_at : Reader (List Element)
elements_at = listed element_at

-- text "=" text
unfoldable pub pair_at : Reader TextPair
pair_at ts =
    word_at text_word ts >>= λ x. word_at (only EQUAL) x.1 >>= λ w. word_at text_word w.1
    >>= λ y. Some (record { left = x.0; right = y.0 }, y.1)

-- pair { "," pair }
unfoldable pub pairs_at : Reader (List TextPair)
pairs_at = listed pair_at

-- [ WITH "(" pair { "," pair } ")" ]
unfoldable pub options_at : Reader (List TextPair)
options_at = or_none WITH (bracketed pairs_at)

-- behind CREATE
unfoldable pub create_at : Reader Statement
create_at ts =
    word_at (only TABLE) ts >>= λ w. name_at w.1 >>= λ name. bracketed elements_at name.1 >>= λ elements. options_at elements.1
    >>= λ options. Some (Create name.0 elements.0 options.0, options.1)

-- behind SET
unfoldable pub set_at : Reader Statement
set_at ts = pair_at ts >>= λ x. Some (Set x.0.left x.0.right, x.1)

-- behind INSERT
unfoldable pub insert_at : Readers → Reader Statement
insert_at p ts = word_at (only INTO) ts >>= λ w. name_at w.1 >>= λ table. p.query table.1 >>= λ query. Some (Insert table.0 query.0, query.1)

-- the token as the first of a statement
abbrev pub statement_word : Token → Option StatementWord
statement_word CREATE = Some statement.Create
statement_word SET = Some statement.Set
statement_word INSERT = Some statement.Insert
statement_word _ = None

-- behind the first token of a statement
unfoldable pub stated_at : Readers → StatementWord → Reader Statement
stated_at p statement.Create ts = create_at ts
stated_at p statement.Set ts = set_at ts
stated_at p statement.Insert ts = insert_at p ts

-- create | set | insert
unfoldable pub statement_at : Readers → Reader Statement
statement_at p ts = word_at statement_word ts >>= λ w. stated_at p w.0 w.1

-- The number bounds how many things stand within one another.
unfoldable pub readers : ℕ → Readers
readers zero = record { expr = λ ts. None; query = λ ts. None }
readers (suc depth) = record { expr = expr_at (readers depth); query = query_at (readers depth) }

-- what was read, where it is all that there is
abbrev pub whole : {A : Type 0} → Option (A × List Token) → Option A
whole None = None
whole (Some (x, [])) = Some x
whole (Some (x, t ∷ ts)) = None

-- the statement that the tokens are
unfoldable pub parse : List Token → Option Statement
parse ts = whole (statement_at (readers (suc (length ts))) ts)
