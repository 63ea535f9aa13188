-- The grammar: which tokens spell which tree, one relation for each rule. No parser is used here.
--     Inside: what an expression within brackets or within a query is, and what a query within brackets is.
use Rattle.std.specs.Prelude.{◌≡◌, ℕ, zero, suc, Bool, true, false, List, [], ◌∷◌, Option, Some, None, ◌⊎◌}
use Rattle.ct_value.specs.declared.value.CompareOp.{CompareOp}
use Rattle.sql_syntax.specs.declared.statement.Element.{Element}
use Rattle.sql_syntax.specs.declared.statement.Element.TheVariants.{Column, Key}
use Rattle.sql_syntax.specs.declared.tree.JoinWord.{JoinWord}
use Rattle.sql_syntax.specs.declared.tree.JoinWord.TheVariants.{Inner, Left, Right, Full}
use Rattle.sql_syntax.specs.declared.tree.SetWord.TheVariants.{UnionAll}
use Rattle.sql_syntax.specs.declared.statement.TextPair.{TextPair}
use Rattle.sql_syntax.specs.declared.statement.TypeName.{TypeName}
use Rattle.sql_syntax.specs.Tree.{Text, Query, query_of, Select, Item, All, AllOf, One, Source, Table, FromQuery, JoinItem, join_of, Sort, sort_of, Tree, Exists, Compare, IsNull, Between, InList, InQuery, Like, Number, Str, Truth, Null, Name, Call, Cast, Paren, Sub, Case, sum_tail_of, product_tail_of, TreeWhen, tree_when_of, Args, Empty, Star, Values, Over, over_of, Statement, Create, Set, Insert, Term, term_of, TermTail, term_tail_of, SelectTail, select_tail_of, term_tails, select_tails, sort_list, trees, tree_whens, optional_tree, optional_over}
use Rattle.sql_grammar.specs.Words.{ALL, AND, AS, BETWEEN, BY, CASE, CAST, CREATE, DISTINCT, ELSE, END, ENFORCED, EXISTS, FALSE, FILTER, FROM, GROUP, HAVING, IN, INSERT, INTERSECT, INTO, IS, JOIN, KEY, LIKE, LIMIT, NOT, NULL, ON, OR, ORDER, OUTER, OVER, PARTITION, PRIMARY, SELECT, SET, TABLE, THEN, TRUE, WHEN, WHERE, WITH, OPEN, CLOSE, COMMA, DOT, EQUAL, TIMES, NAME, STR, NUMBER, sign_token, product_token, sum_token, compare_token, direction_token, join_token, set_token}
use Rattle.sql_grammar.specs.Nodes.{or_node, and_node, not_node, sign_node, sum_node, product_node, select_node, is_desc, except_word}
use Rattle.sql_grammar.specs.Shapes.{Spelling, Word, Words, WordOf, Led, After, Seq2, Seq3, Seq4, Made, Maybe, Flag, OrNone, Many, Series, Listed, Bracketed, Chain}

-- what may stand within other things
pub record Inside : Type 1 where
  pub expr : Spelling Tree
  pub query : Spelling Query

-- name
abbrev pub NameOf : Spelling Text
NameOf ts x = (quoted : Bool) × (ts ≡ NAME x quoted ∷ [])

-- "(" number [ "," number ] ")", which may be missing
abbrev pub NumbersOf : Spelling (List Text)
NumbersOf ts [] = ts ≡ []
NumbersOf ts (a ∷ []) = ts ≡ OPEN ∷ NUMBER a ∷ CLOSE ∷ []
NumbersOf ts (a ∷ b ∷ []) = ts ≡ OPEN ∷ NUMBER a ∷ COMMA ∷ NUMBER b ∷ CLOSE ∷ []
NumbersOf ts _ = ⊥

-- name [ "(" number [ "," number ] ")" ]
abbrev pub TypeOf : Spelling TypeName
TypeOf ts ty = Seq2 NameOf NumbersOf ts ty.name ty.numbers

-- name "." "*"
abbrev pub StarOf : Spelling Text
StarOf ts of = (quoted : Bool) × (ts ≡ NAME of quoted ∷ DOT ∷ TIMES ∷ [])

-- [ [ AS ] name ]
abbrev pub AliasOf : Spelling (Option Text)
AliasOf ts None = ts ≡ []
AliasOf ts (Some x) = (written : Bool) × Seq2 (Flag (Word AS)) NameOf ts written x

-- what may stand behind the first sum of a test
pub data Rest : Type 0 where
  no_rest : Rest
  compares : CompareOp → Tree → Rest
  is_null : Bool → Rest
  between : Bool → Tree → Tree → Rest
  in_list : Bool → List Tree → Rest
  in_query : Bool → Query → Rest
  like : Bool → Tree → Rest

-- a sum with what stands behind it
abbrev pub rest_node : Tree → Rest → Tree
rest_node u no_rest = u
rest_node u (compares op v) = Compare op u v
rest_node u (is_null negated) = IsNull u negated
rest_node u (between negated low high) = Between u low high negated
rest_node u (in_list negated us) = InList u (trees us) negated
rest_node u (in_query negated query) = InQuery u query negated
rest_node u (like negated pattern) = Like u pattern negated

-- the rules, over what may stand within them
module _ (I : Inside) where
  -- expr { "," expr }
  unfoldable pub TreesOf : Spelling (List Tree)
  TreesOf = Listed I.expr

  -- expr [ ASC | DESC ]
  unfoldable pub SortOf : Spelling Sort
  SortOf ts (sort_of value desc) = Seq2 I.expr (Made is_desc (Maybe (WordOf direction_token))) ts value desc

  -- ORDER BY sort { "," sort }
  unfoldable pub OrderOf : Spelling (List Sort)
  OrderOf = After ORDER (After BY (Listed SortOf))

  -- "*" | [ DISTINCT ] expr { "," expr }, which may be missing
  unfoldable pub ArgsOf : Spelling Args
  ArgsOf ts Empty = ts ≡ []
  ArgsOf ts Star = ts ≡ TIMES ∷ []
  ArgsOf ts (Values distinct values) = (us : List Tree) × Seq2 (Flag (Word DISTINCT)) TreesOf ts distinct us × (values ≡ trees us)

  -- FILTER "(" WHERE expr ")"
  unfoldable pub FilterOf : Spelling Tree
  FilterOf = After FILTER (Bracketed (After WHERE I.expr))

  -- PARTITION BY expr { "," expr }
  unfoldable pub PartitionOf : Spelling (List Tree)
  PartitionOf = After PARTITION (After BY TreesOf)

  -- [ PARTITION BY expr { "," expr } ] ORDER BY sort { "," sort }
  unfoldable pub WindowOf : Spelling Over
  WindowOf ts window =
      (partition : List Tree) × (order : List Sort)
      × Seq2 (OrNone PartitionOf) OrderOf ts partition order × (window ≡ over_of (trees partition) (sort_list order))

  -- OVER "(" window ")"
  unfoldable pub OverOf : Spelling Over
  OverOf = After OVER (Bracketed WindowOf)

  -- expr AS type
  unfoldable pub CastOf : Spelling (Tree × TypeName)
  CastOf ts x = Seq3 I.expr (Word AS) TypeOf ts x.0 tt x.1

  -- WHEN expr THEN expr
  unfoldable pub WhenOf : Spelling TreeWhen
  WhenOf = After WHEN (λ ts x. (cond : Tree) × (result : Tree) × Seq3 I.expr (Word THEN) I.expr ts cond tt result × (x ≡ tree_when_of cond result))

  -- ELSE expr
  unfoldable pub ElseOf : Spelling Tree
  ElseOf = After ELSE I.expr

  -- number | text | TRUE | FALSE | NULL | name [ "." name ] | call | CAST "(" expr AS type ")"
  -- | "(" expr ")" | "(" query ")" | CASE WHEN expr THEN expr { WHEN expr THEN expr } [ ELSE expr ] END
  unfoldable pub PrimaryOf : Spelling Tree
  PrimaryOf ts (Number x) = ts ≡ NUMBER x ∷ []
  PrimaryOf ts (Str x) = ts ≡ STR x ∷ []
  PrimaryOf ts (Truth true) = ts ≡ TRUE ∷ []
  PrimaryOf ts (Truth false) = ts ≡ FALSE ∷ []
  PrimaryOf ts Null = ts ≡ NULL ∷ []
  PrimaryOf ts (Name None x quoted) = ts ≡ NAME x quoted ∷ []
  PrimaryOf ts (Name (Some of) x quoted) = (of_quoted : Bool) × (ts ≡ NAME of of_quoted ∷ DOT ∷ NAME x quoted ∷ [])
  PrimaryOf ts (Call name args filter over) =
      (kept : Option Tree) × (window : Option Over)
      × Seq4 NameOf (Bracketed ArgsOf) (Maybe FilterOf) (Maybe OverOf) ts name args kept window
      × (filter ≡ optional_tree kept) × (over ≡ optional_over window)
  PrimaryOf ts (Cast value ty) = After CAST (Bracketed CastOf) ts (value, ty)
  PrimaryOf ts (Paren u) = Bracketed I.expr ts u
  PrimaryOf ts (Sub query) = Bracketed I.query ts query
  PrimaryOf ts (Case whens otherwise) =
      (ws : List TreeWhen) × (last : Option Tree)
      × Seq4 (Word CASE) (Series WhenOf WhenOf) (Maybe ElseOf) (Word END) ts tt ws last tt
      × (whens ≡ tree_whens ws) × (otherwise ≡ optional_tree last)
  PrimaryOf ts _ = ⊥

  -- [ "+" | "-" ] primary
  unfoldable pub SignOf : Spelling Tree
  SignOf ts u = (sign : Option Bool) × (v : Tree) × Seq2 (Maybe (WordOf sign_token)) PrimaryOf ts sign v × (u ≡ sign_node sign v)

  -- sign { ( "*" | "/" | "%" ) sign }
  unfoldable pub ProductOf : Spelling Tree
  ProductOf = Chain product_node SignOf (Led product_token (λ word. Made (product_tail_of word) SignOf))

  -- product { ( "+" | "-" | "||" ) product }
  unfoldable pub SumOf : Spelling Tree
  SumOf = Chain sum_node ProductOf (Led sum_token (λ word. Made (sum_tail_of word) ProductOf))

  -- sum AND sum
  unfoldable pub RangeOf : Spelling (Tree × Tree)
  RangeOf ts x = Seq3 SumOf (Word AND) SumOf ts x.0 tt x.1

  -- compare sum | IS [ NOT ] NULL | [ NOT ] BETWEEN sum AND sum
  -- | [ NOT ] IN "(" ( query | expr { "," expr } ) ")" | [ NOT ] LIKE sum
  unfoldable pub RestOf : Spelling Rest
  RestOf ts no_rest = ts ≡ []
  RestOf ts (compares op u) = Seq2 (WordOf compare_token) SumOf ts op u
  RestOf ts (is_null negated) = Seq3 (Word IS) (Flag (Word NOT)) (Word NULL) ts tt negated tt
  RestOf ts (between negated low high) = Seq3 (Flag (Word NOT)) (Word BETWEEN) RangeOf ts negated tt (low, high)
  RestOf ts (in_list negated us) = Seq3 (Flag (Word NOT)) (Word IN) (Bracketed TreesOf) ts negated tt us
  RestOf ts (in_query negated query) = Seq3 (Flag (Word NOT)) (Word IN) (Bracketed I.query) ts negated tt query
  RestOf ts (like negated pattern) = Seq3 (Flag (Word NOT)) (Word LIKE) SumOf ts negated tt pattern

  -- EXISTS "(" query ")" | sum [ rest ]
  unfoldable pub TestOf : Spelling Tree
  TestOf ts u =
      Made Exists (After EXISTS (Bracketed I.query)) ts u
      ⊎ ((v : Tree) × (rest : Rest) × Seq2 SumOf RestOf ts v rest × (u ≡ rest_node v rest))

  -- [ NOT ] test
  unfoldable pub NegOf : Spelling Tree
  NegOf ts u = (negated : Bool) × (v : Tree) × Seq2 (Flag (Word NOT)) TestOf ts negated v × (u ≡ not_node negated v)

  -- neg { AND neg }
  unfoldable pub ConjOf : Spelling Tree
  ConjOf = Chain and_node NegOf (After AND NegOf)

  -- conj { OR conj }
  unfoldable pub ExprOf : Spelling Tree
  ExprOf = Chain or_node ConjOf (After OR ConjOf)

  -- "*" | name "." "*" | expr [ [ AS ] name ]
  unfoldable pub ItemOf : Spelling Item
  ItemOf ts All = ts ≡ TIMES ∷ []
  ItemOf ts (AllOf of) = StarOf ts of
  ItemOf ts (One value name) = Seq2 I.expr AliasOf ts value name

  -- name [ [ AS ] name ] | "(" query ")" [ [ AS ] name ]
  unfoldable pub SourceOf : Spelling Source
  SourceOf ts (Table name alias) = Seq2 NameOf AliasOf ts name alias
  SourceOf ts (FromQuery query alias) = Seq2 (Bracketed I.query) AliasOf ts query alias

  -- source ON expr
  unfoldable pub OnOf : JoinWord → Spelling JoinItem
  OnOf kind ts join = (source : Source) × (on : Tree) × Seq3 SourceOf (Word ON) I.expr ts source tt on × (join ≡ join_of kind source on)

  -- [ OUTER ] JOIN source ON expr
  unfoldable pub OuterOf : JoinWord → Spelling JoinItem
  OuterOf kind ts join = (written : Bool) × Seq2 (Flag (Word OUTER)) (After JOIN (OnOf kind)) ts written join

  -- what stands behind the first word of a join
  unfoldable pub JoinedOf : Option JoinWord → Spelling JoinItem
  JoinedOf None = OnOf Inner
  JoinedOf (Some Inner) = After JOIN (OnOf Inner)
  JoinedOf (Some Left) = OuterOf Left
  JoinedOf (Some Right) = OuterOf Right
  JoinedOf (Some Full) = OuterOf Full

  -- [ INNER | LEFT [ OUTER ] | RIGHT [ OUTER ] | FULL [ OUTER ] ] JOIN source ON expr
  unfoldable pub JoinOf : Spelling JoinItem
  JoinOf = Led join_token JoinedOf

  -- [ DISTINCT ] item { "," item }
  unfoldable pub ChosenOf : Spelling (Bool × List Item)
  ChosenOf ts x = Seq2 (Flag (Word DISTINCT)) (Listed ItemOf) ts x.0 x.1

  -- FROM source { join }
  unfoldable pub FromOf : Spelling (Source × List JoinItem)
  FromOf = After FROM (λ ts x. Seq2 SourceOf (Many JoinOf) ts x.0 x.1)

  -- GROUP BY expr { "," expr }
  unfoldable pub GroupOf : Spelling (List Tree)
  GroupOf = After GROUP (After BY TreesOf)

  -- [ WHERE expr ] [ GROUP BY expr { "," expr } ] [ HAVING expr ]
  unfoldable pub FiltersOf : Spelling (Option Tree × List Tree × Option Tree)
  FiltersOf ts x = Seq3 (Maybe (After WHERE I.expr)) (OrNone GroupOf) (Maybe (After HAVING I.expr)) ts x.0 x.1 x.2

  -- SELECT [ DISTINCT ] item { "," item } FROM source { join }
  -- [ WHERE expr ] [ GROUP BY expr { "," expr } ] [ HAVING expr ]
  unfoldable pub SelectOf : Spelling Select
  SelectOf = After SELECT (λ ts select.
      (chosen : Bool × List Item) × (from : Source × List JoinItem) × (filters : Option Tree × List Tree × Option Tree)
      × Seq3 ChosenOf FromOf FiltersOf ts chosen from filters × (select ≡ select_node chosen from filters))

  -- INTERSECT [ ALL ] select
  unfoldable pub IntersectOf : Spelling SelectTail
  IntersectOf = After INTERSECT (λ ts tail. (all : Bool) × (select : Select) × Seq2 (Flag (Word ALL)) SelectOf ts all select × (tail ≡ select_tail_of all select))

  -- select { INTERSECT [ ALL ] select }
  unfoldable pub TermOf : Spelling Term
  TermOf ts term =
      (first : Select) × (rest : List SelectTail)
      × Seq2 SelectOf (Many IntersectOf) ts first rest × (term ≡ term_of first (select_tails rest))

  -- what stands behind UNION or EXCEPT
  unfoldable pub BesideOf : Bool → Spelling TermTail
  BesideOf false = Made (term_tail_of UnionAll) (After ALL TermOf)
  BesideOf true = λ ts tail. (all : Bool) × (term : Term) × Seq2 (Flag (Word ALL)) TermOf ts all term × (tail ≡ term_tail_of (except_word all) term)

  -- UNION ALL term | EXCEPT [ ALL ] term
  unfoldable pub TermTailOf : Spelling TermTail
  TermTailOf = Led set_token BesideOf

  -- term { ( UNION ALL | EXCEPT [ ALL ] ) term }
  unfoldable pub TermsOf : Spelling (Term × List TermTail)
  TermsOf ts x = Seq2 TermOf (Many TermTailOf) ts x.0 x.1

  -- [ ORDER BY sort { "," sort } ] [ LIMIT number ]
  unfoldable pub EndingOf : Spelling (List Sort × Option Text)
  EndingOf ts x = Seq2 (OrNone OrderOf) (Maybe (After LIMIT (WordOf NUMBER))) ts x.0 x.1

  -- term { ( UNION ALL | EXCEPT [ ALL ] ) term } [ ORDER BY sort { "," sort } ] [ LIMIT number ]
  unfoldable pub QueryOf : Spelling Query
  QueryOf ts query =
      (terms : Term × List TermTail) × (ending : List Sort × Option Text)
      × Seq2 TermsOf EndingOf ts terms ending × (query ≡ query_of terms.0 (term_tails terms.1) (sort_list ending.0) ending.1)

-- name type [ NOT NULL ] [ PRIMARY KEY NOT ENFORCED ] | PRIMARY KEY "(" name { "," name } ")" NOT ENFORCED
unfoldable pub ElementOf : Spelling Element
ElementOf ts (Column name ty not_null key) =
    Seq4 NameOf TypeOf (Flag (Words (NOT ∷ NULL ∷ []))) (Flag (Words (PRIMARY ∷ KEY ∷ NOT ∷ ENFORCED ∷ []))) ts name ty not_null key
ElementOf ts (Key names) =
    Seq3 (Words (PRIMARY ∷ KEY ∷ [])) (Bracketed (Listed NameOf)) (Words (NOT ∷ ENFORCED ∷ [])) ts tt names tt

-- text "=" text
unfoldable pub PairOf : Spelling TextPair
PairOf ts pair = Seq3 (WordOf STR) (Word EQUAL) (WordOf STR) ts pair.left tt pair.right

-- WITH "(" pair { "," pair } ")"
unfoldable pub OptionsOf : Spelling (List TextPair)
OptionsOf = After WITH (Bracketed (Listed PairOf))

-- CREATE TABLE name "(" element { "," element } ")" [ WITH "(" pair { "," pair } ")" ]
-- | SET text "=" text | INSERT INTO name query
unfoldable pub StatementOf : Inside → Spelling Statement
StatementOf I ts (Create name elements options) =
    Seq4 (Words (CREATE ∷ TABLE ∷ [])) NameOf (Bracketed (Listed ElementOf)) (OrNone OptionsOf) ts tt name elements options
StatementOf I ts (Set key value) = After SET PairOf ts (record { left = key; right = value })
StatementOf I ts (Insert table query) = Seq3 (Words (INSERT ∷ INTO ∷ [])) NameOf I.query ts tt table query

-- what stands within fewer things than the number: an expression within brackets or a query, a query within brackets
unfoldable pub within : ℕ → Inside
within zero = record { expr = λ ts u. ⊥; query = λ ts query. ⊥ }
within (suc depth) = record { expr = ExprOf (within depth); query = QueryOf (within depth) }

-- the tokens spell the statement
abbrev pub Spells : Spelling Statement
Spells ts statement = (depth : ℕ) × StatementOf (within depth) ts statement
