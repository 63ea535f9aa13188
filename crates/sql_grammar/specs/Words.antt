-- The tokens of the grammar, by the names that its rules give them, and the words that they are.
use Rattle.std.specs.Prelude.{Bool, true, false, Option, Some, None}
use denote.Enum.Bare.{sameb}
use Rattle.ct_value.specs.declared.value.CompareOp.{CompareOp}
use Rattle.ct_value.specs.declared.value.CompareOp.TheVariants.{Eq, Ne, Lt, Le, Gt, Ge}
use Rattle.sql_tokens.specs.declared.token.Token.{Token}
use Rattle.sql_tokens.specs.declared.token.Token.TheVariants as t
use Rattle.sql_tokens.specs.declared.token.Keyword.{Keyword}
use Rattle.sql_tokens.specs.declared.token.Keyword.TheVariants as k
use Rattle.sql_tokens.specs.declared.token.Symbol.{Symbol}
use Rattle.sql_tokens.specs.declared.token.Symbol.TheVariants as s
use Rattle.sql_tokens.specs.contracts.token.Keyword.{the_type as keyword_type}
use Rattle.sql_tokens.specs.contracts.token.Symbol.{the_type as symbol_type}
use Rattle.sql_syntax.specs.declared.tree.JoinWord.{JoinWord}
use Rattle.sql_syntax.specs.declared.tree.JoinWord.TheVariants.{Inner, Left, Right, Full}
use Rattle.sql_syntax.specs.declared.tree.ProductWord.{ProductWord}
use Rattle.sql_syntax.specs.declared.tree.ProductWord.TheVariants.{Times, Divide, Modulo}
use Rattle.sql_syntax.specs.declared.tree.SumWord.{SumWord}
use Rattle.sql_syntax.specs.declared.tree.SumWord.TheVariants.{Plus, Minus, Concat}
use Rattle.sql_syntax.specs.Tree.{Text}

-- keywords
pattern abbrev pub ALL : Token
ALL = t.Keyword k.All

pattern abbrev pub AND : Token
AND = t.Keyword k.And

pattern abbrev pub AS : Token
AS = t.Keyword k.As

pattern abbrev pub ASC : Token
ASC = t.Keyword k.Asc

pattern abbrev pub BETWEEN : Token
BETWEEN = t.Keyword k.Between

pattern abbrev pub BY : Token
BY = t.Keyword k.By

pattern abbrev pub CASE : Token
CASE = t.Keyword k.Case

pattern abbrev pub CAST : Token
CAST = t.Keyword k.Cast

pattern abbrev pub CREATE : Token
CREATE = t.Keyword k.Create

pattern abbrev pub DESC : Token
DESC = t.Keyword k.Desc

pattern abbrev pub DISTINCT : Token
DISTINCT = t.Keyword k.Distinct

pattern abbrev pub ELSE : Token
ELSE = t.Keyword k.Else

pattern abbrev pub END : Token
END = t.Keyword k.End

pattern abbrev pub ENFORCED : Token
ENFORCED = t.Keyword k.Enforced

pattern abbrev pub EXCEPT : Token
EXCEPT = t.Keyword k.Except

pattern abbrev pub EXISTS : Token
EXISTS = t.Keyword k.Exists

pattern abbrev pub FALSE : Token
FALSE = t.Keyword k.False

pattern abbrev pub FILTER : Token
FILTER = t.Keyword k.Filter

pattern abbrev pub FROM : Token
FROM = t.Keyword k.From

pattern abbrev pub FULL : Token
FULL = t.Keyword k.Full

pattern abbrev pub GROUP : Token
GROUP = t.Keyword k.Group

pattern abbrev pub HAVING : Token
HAVING = t.Keyword k.Having

pattern abbrev pub IN : Token
IN = t.Keyword k.In

pattern abbrev pub INNER : Token
INNER = t.Keyword k.Inner

pattern abbrev pub INSERT : Token
INSERT = t.Keyword k.Insert

pattern abbrev pub INTERSECT : Token
INTERSECT = t.Keyword k.Intersect

pattern abbrev pub INTO : Token
INTO = t.Keyword k.Into

pattern abbrev pub IS : Token
IS = t.Keyword k.Is

pattern abbrev pub JOIN : Token
JOIN = t.Keyword k.Join

pattern abbrev pub KEY : Token
KEY = t.Keyword k.Key

pattern abbrev pub LEFT : Token
LEFT = t.Keyword k.Left

pattern abbrev pub LIKE : Token
LIKE = t.Keyword k.Like

pattern abbrev pub LIMIT : Token
LIMIT = t.Keyword k.Limit

pattern abbrev pub NOT : Token
NOT = t.Keyword k.Not

pattern abbrev pub NULL : Token
NULL = t.Keyword k.Null

pattern abbrev pub ON : Token
ON = t.Keyword k.On

pattern abbrev pub OR : Token
OR = t.Keyword k.Or

pattern abbrev pub ORDER : Token
ORDER = t.Keyword k.Order

pattern abbrev pub OUTER : Token
OUTER = t.Keyword k.Outer

pattern abbrev pub OVER : Token
OVER = t.Keyword k.Over

pattern abbrev pub PARTITION : Token
PARTITION = t.Keyword k.Partition

pattern abbrev pub PRIMARY : Token
PRIMARY = t.Keyword k.Primary

pattern abbrev pub RIGHT : Token
RIGHT = t.Keyword k.Right

pattern abbrev pub SELECT : Token
SELECT = t.Keyword k.Select

pattern abbrev pub SET : Token
SET = t.Keyword k.Set

pattern abbrev pub TABLE : Token
TABLE = t.Keyword k.Table

pattern abbrev pub THEN : Token
THEN = t.Keyword k.Then

pattern abbrev pub TRUE : Token
TRUE = t.Keyword k.True

pattern abbrev pub UNION : Token
UNION = t.Keyword k.Union

pattern abbrev pub WHEN : Token
WHEN = t.Keyword k.When

pattern abbrev pub WHERE : Token
WHERE = t.Keyword k.Where

pattern abbrev pub WITH : Token
WITH = t.Keyword k.With

-- symbols
pattern abbrev pub OPEN : Token
OPEN = t.Symbol s.Open

pattern abbrev pub CLOSE : Token
CLOSE = t.Symbol s.Close

pattern abbrev pub COMMA : Token
COMMA = t.Symbol s.Comma

pattern abbrev pub DOT : Token
DOT = t.Symbol s.Dot

pattern abbrev pub SEMICOLON : Token
SEMICOLON = t.Symbol s.Semicolon

pattern abbrev pub EQUAL : Token
EQUAL = t.Symbol s.Equal

pattern abbrev pub NOT_EQUAL : Token
NOT_EQUAL = t.Symbol s.NotEqual

pattern abbrev pub LESS : Token
LESS = t.Symbol s.Less

pattern abbrev pub LESS_EQUAL : Token
LESS_EQUAL = t.Symbol s.LessEqual

pattern abbrev pub GREATER : Token
GREATER = t.Symbol s.Greater

pattern abbrev pub GREATER_EQUAL : Token
GREATER_EQUAL = t.Symbol s.GreaterEqual

pattern abbrev pub PLUS : Token
PLUS = t.Symbol s.Plus

pattern abbrev pub MINUS : Token
MINUS = t.Symbol s.Minus

pattern abbrev pub TIMES : Token
TIMES = t.Symbol s.Times

pattern abbrev pub DIVIDE : Token
DIVIDE = t.Symbol s.Divide

pattern abbrev pub MODULO : Token
MODULO = t.Symbol s.Modulo

pattern abbrev pub CONCAT : Token
CONCAT = t.Symbol s.Concat

-- a name, and whether it stood in backticks
pattern abbrev pub NAME : Text → Bool → Token
NAME x quoted = t.Name x quoted

-- a text in quotes
pattern abbrev pub STR : Text → Token
STR x = t.Str x

-- a number as it was written
pattern abbrev pub NUMBER : Text → Token
NUMBER x = t.Number x

-- keywords and symbols are compared as the code compares them
abbrev pub same_keyword : Keyword → Keyword → Bool
same_keyword = sameb keyword_type

-- the same of symbols
abbrev pub same_symbol : Symbol → Symbol → Bool
same_symbol = sameb symbol_type

-- the one word, where it is there
abbrev pub there : Bool → Option (Unit {0})
there true = Some tt
there false = None

-- the first token, a keyword or a symbol, and no other
abbrev pub only : Token → Token → Option (Unit {0})
only (t.Keyword k) (t.Keyword found) = there (same_keyword found k)
only (t.Symbol s) (t.Symbol found) = there (same_symbol found s)
only _ _ = None

-- a name, and whether it stood in backticks
abbrev pub name_word : Token → Option (Text × Bool)
name_word (NAME x quoted) = Some (x, quoted)
name_word _ = None

-- the token of a name
abbrev pub name_token : Text × Bool → Token
name_token x = NAME x.0 x.1

-- a text
abbrev pub text_word : Token → Option Text
text_word (STR x) = Some x
text_word _ = None

-- a number
abbrev pub number_word : Token → Option Text
number_word (NUMBER x) = Some x
number_word _ = None

-- minus or not
abbrev pub sign_word : Token → Option Bool
sign_word PLUS = Some false
sign_word MINUS = Some true
sign_word _ = None

-- the token of a sign
abbrev pub sign_token : Bool → Token
sign_token false = PLUS
sign_token true = MINUS

-- the words of a product
abbrev pub product_word : Token → Option ProductWord
product_word TIMES = Some Times
product_word DIVIDE = Some Divide
product_word MODULO = Some Modulo
product_word _ = None

-- their tokens
abbrev pub product_token : ProductWord → Token
product_token Times = TIMES
product_token Divide = DIVIDE
product_token Modulo = MODULO

-- the words of a sum
abbrev pub sum_word : Token → Option SumWord
sum_word PLUS = Some Plus
sum_word MINUS = Some Minus
sum_word CONCAT = Some Concat
sum_word _ = None

-- their tokens
abbrev pub sum_token : SumWord → Token
sum_token Plus = PLUS
sum_token Minus = MINUS
sum_token Concat = CONCAT

-- the token of a comparison
abbrev pub compare_token : CompareOp → Token
compare_token Eq = EQUAL
compare_token Ne = NOT_EQUAL
compare_token Lt = LESS
compare_token Le = LESS_EQUAL
compare_token Gt = GREATER
compare_token Ge = GREATER_EQUAL

-- descending or not
abbrev pub direction_word : Token → Option Bool
direction_word ASC = Some false
direction_word DESC = Some true
direction_word _ = None

-- the token of a direction
abbrev pub direction_token : Bool → Token
direction_token false = ASC
direction_token true = DESC

-- the first word of a join: JOIN alone, or the word of its kind
abbrev pub join_word : Token → Option (Option JoinWord)
join_word JOIN = Some None
join_word INNER = Some (Some Inner)
join_word LEFT = Some (Some Left)
join_word RIGHT = Some (Some Right)
join_word FULL = Some (Some Full)
join_word _ = None

-- the token of the first word of a join
abbrev pub join_token : Option JoinWord → Token
join_token None = JOIN
join_token (Some Inner) = INNER
join_token (Some Left) = LEFT
join_token (Some Right) = RIGHT
join_token (Some Full) = FULL

-- the first word between two terms of a query: UNION, or EXCEPT
abbrev pub set_word : Token → Option Bool
set_word UNION = Some false
set_word EXCEPT = Some true
set_word _ = None

-- the token of such a word
abbrev pub set_token : Bool → Token
set_token false = UNION
set_token true = EXCEPT
