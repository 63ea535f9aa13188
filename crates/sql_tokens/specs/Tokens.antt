-- The tokens of a text: at each place the longest one, and what may stand between two of them.
use Rattle.std.specs.Prelude.{ℕ, zero, suc, ◌+◌, Bool, true, false, ◌||◌, ◌&&◌, ◌==◌, not, nat_eq, nat_lt, List, [], ◌∷◌, length, take, drop, slice_index, Option, Some, None, option_map, if◌then◌else◌, codes}
use Rattle.std.specs.Char.{is_ascii_digit, is_ascii_alphabetic, is_ascii_alphanumeric}
use Rattle.std.specs.List.{prefix_len, starts_with}
use Rattle.std.specs.Str.{byte, is_utf8, str_eq_ignore_ascii_case}
use Rattle.sql_tokens.specs.declared.token.Keyword.{Keyword as Word}
use Rattle.sql_tokens.specs.declared.token.Keyword.TheVariants as k
use Rattle.sql_tokens.specs.declared.token.Symbol.{Symbol as Sign}
use Rattle.sql_tokens.specs.declared.token.Symbol.TheVariants as s
use Rattle.sql_tokens.specs.declared.token.Token.{Token}
use Rattle.sql_tokens.specs.declared.token.Token.TheVariants.{Keyword, Name, Str, Number, Symbol}

-- what stands at the front of a text
pub data Front : Type 0 where
  -- nothing: the text ends
  nothing : Front
  -- none of the others
  bad : Front
  -- a blank or a comment, and what follows
  gap : List ℕ → Front
  -- the longest token, and what follows
  token : Token → List ℕ → Front

abbrev pub is_blank : ℕ → Bool
is_blank b = b == 32 || b == 9 || b == 13 || b == 10

abbrev pub begins_word : ℕ → Bool
begins_word b = is_ascii_alphabetic b || b == 95

abbrev pub is_word_byte : ℕ → Bool
is_word_byte b = is_ascii_alphanumeric b || b == 95

abbrev pub is_in_line : ℕ → Bool
is_in_line b = not (b == 10)

-- ---- words

abbrev pub keywords : List (List ℕ × Word)
keywords =
    (codes "ALL", k.All) ∷
    (codes "AND", k.And) ∷
    (codes "AS", k.As) ∷
    (codes "ASC", k.Asc) ∷
    (codes "BETWEEN", k.Between) ∷
    (codes "BY", k.By) ∷
    (codes "CASE", k.Case) ∷
    (codes "CAST", k.Cast) ∷
    (codes "CREATE", k.Create) ∷
    (codes "DESC", k.Desc) ∷
    (codes "DISTINCT", k.Distinct) ∷
    (codes "ELSE", k.Else) ∷
    (codes "END", k.End) ∷
    (codes "ENFORCED", k.Enforced) ∷
    (codes "EXCEPT", k.Except) ∷
    (codes "EXISTS", k.Exists) ∷
    (codes "FALSE", k.False) ∷
    (codes "FILTER", k.Filter) ∷
    (codes "FROM", k.From) ∷
    (codes "FULL", k.Full) ∷
    (codes "GROUP", k.Group) ∷
    (codes "HAVING", k.Having) ∷
    (codes "IN", k.In) ∷
    (codes "INNER", k.Inner) ∷
    (codes "INSERT", k.Insert) ∷
    (codes "INTERSECT", k.Intersect) ∷
    (codes "INTO", k.Into) ∷
    (codes "IS", k.Is) ∷
    (codes "JOIN", k.Join) ∷
    (codes "KEY", k.Key) ∷
    (codes "LEFT", k.Left) ∷
    (codes "LIKE", k.Like) ∷
    (codes "LIMIT", k.Limit) ∷
    (codes "NOT", k.Not) ∷
    (codes "NULL", k.Null) ∷
    (codes "ON", k.On) ∷
    (codes "OR", k.Or) ∷
    (codes "ORDER", k.Order) ∷
    (codes "OUTER", k.Outer) ∷
    (codes "OVER", k.Over) ∷
    (codes "PARTITION", k.Partition) ∷
    (codes "PRIMARY", k.Primary) ∷
    (codes "RIGHT", k.Right) ∷
    (codes "SELECT", k.Select) ∷
    (codes "SET", k.Set) ∷
    (codes "TABLE", k.Table) ∷
    (codes "THEN", k.Then) ∷
    (codes "TRUE", k.True) ∷
    (codes "UNION", k.Union) ∷
    (codes "WHEN", k.When) ∷
    (codes "WHERE", k.Where) ∷
    (codes "WITH", k.With) ∷ []

-- the keyword that a word is in any case of letters, if it is one
abbrev pub keyword_in : List (List ℕ × Word) → List ℕ → Option Word
keyword_in [] word = None
keyword_in (e ∷ es) word = if str_eq_ignore_ascii_case e.0 word then Some e.1 else keyword_in es word

unfoldable pub keyword_of : List ℕ → Option Word
keyword_of = keyword_in keywords

abbrev pub keyword_or_name : List ℕ → Option Word → Token
keyword_or_name word None = Name word false
keyword_or_name word (Some keyword) = Keyword keyword

abbrev pub word_token : List ℕ → Token
word_token word = keyword_or_name word (keyword_of word)

-- the token of so many first bytes, and what follows
abbrev pub cut : (List ℕ → Token) → ℕ → List ℕ → Front
cut made n text = token (made (take n text)) (drop n text)

-- a word goes as far as its bytes do
abbrev pub word_front : List ℕ → Front
word_front text = cut word_token (prefix_len is_word_byte text) text

-- ---- numbers

-- digits, and where a point and a digit follow, the point and all digits behind it
abbrev pub number_len : List ℕ → ℕ
number_len text =
    let whole = prefix_len is_ascii_digit text in
    let fraction = prefix_len is_ascii_digit (drop (whole + 1) text) in
    if slice_index text whole == byte "." && nat_lt 0 fraction then whole + 1 + fraction else whole

-- a letter or `_` directly behind a number makes it bad
abbrev pub number_front : List ℕ → Front
number_front text =
    let n = number_len text in
    if begins_word (slice_index text n) then bad else cut Number n text

-- ---- texts in single quotes and names in backticks

-- the bytes within these quotes and what follows, where they are closed; a doubled quote stands for one, one alone closes
abbrev pub quoted : ℕ → List ℕ → Option (List ℕ × List ℕ)
quoted quote [] = None
quoted quote (b ∷ []) = if b == quote then Some ([], []) else None
quoted quote (b ∷ c ∷ text) =
    if b == quote
    then (if c == quote then option_map (λ r. (quote ∷ r.0, r.1)) (quoted quote text) else Some ([], c ∷ text))
    else option_map (λ r. (b ∷ r.0, r.1)) (quoted quote (c ∷ text))

-- bytes that aren't UTF-8 can't stand within quotes
abbrev pub quoted_front : (List ℕ → Token) → Option (List ℕ × List ℕ) → Front
quoted_front made None = bad
quoted_front made (Some r) = if is_utf8 r.0 then token (made r.0) r.1 else bad

abbrev pub text_front : List ℕ → Front
text_front text = quoted_front Str (quoted (byte "'") text)

-- a name in backticks has at least one byte
abbrev pub named : Option (List ℕ × List ℕ) → Option (List ℕ × List ℕ)
named None = None
named (Some ([], rest)) = None
named (Some (b ∷ name, rest)) = Some (b ∷ name, rest)

abbrev pub name_front : List ℕ → Front
name_front text = quoted_front (λ name. Name name true) (named (quoted (byte "`") text))

-- ---- comments and symbols

-- what follows the next `*/`
abbrev pub after_comment : List ℕ → Option (List ℕ)
after_comment [] = None
after_comment (b ∷ text) = if starts_with nat_eq (b ∷ text) (codes "*/") then Some (drop 1 text) else after_comment text

abbrev pub comment_front : Option (List ℕ) → Front
comment_front None = bad
comment_front (Some rest) = gap rest

-- the longer ones first
abbrev pub symbols : List (List ℕ × Sign)
symbols =
    (codes "<>", s.NotEqual) ∷
    (codes "!=", s.NotEqual) ∷
    (codes "<=", s.LessEqual) ∷
    (codes ">=", s.GreaterEqual) ∷
    (codes "||", s.Concat) ∷
    (codes "(", s.Open) ∷
    (codes ")", s.Close) ∷
    (codes ",", s.Comma) ∷
    (codes ".", s.Dot) ∷
    (codes ";", s.Semicolon) ∷
    (codes "=", s.Equal) ∷
    (codes "<", s.Less) ∷
    (codes ">", s.Greater) ∷
    (codes "+", s.Plus) ∷
    (codes "-", s.Minus) ∷
    (codes "*", s.Times) ∷
    (codes "/", s.Divide) ∷
    (codes "%", s.Modulo) ∷ []

-- the first symbol of the list that the text begins with
abbrev pub symbol_in : List (List ℕ × Sign) → List ℕ → Front
symbol_in [] text = bad
symbol_in (e ∷ es) text = if starts_with nat_eq text e.0 then token (Symbol e.1) (drop (length e.0) text) else symbol_in es text

unfoldable pub symbol_front : List ℕ → Front
symbol_front = symbol_in symbols

-- `--` begins a comment to the line's end, and `/*` one to the next `*/`
abbrev pub other_front : List ℕ → Front
other_front text =
    if starts_with nat_eq text (codes "--") then gap (drop (prefix_len is_in_line text) text)
    else (if starts_with nat_eq text (codes "/*") then comment_front (after_comment (drop 2 text))
    else symbol_front text)

-- ---- the front of a text, by its first byte

unfoldable pub front : List ℕ → Front
front [] = nothing
front (b ∷ text) =
    if is_blank b then gap text
    else (if begins_word b then word_front (b ∷ text)
    else (if is_ascii_digit b then number_front (b ∷ text)
    else (if b == byte "'" then text_front text
    else (if b == byte "`" then name_front text
    else other_front (b ∷ text)))))

-- ---- the tokens of a text

-- the tokens up to the end of the text, or up to the first bad place of one that isn't whole
pub record Read : Type 0 where
  pub tokens : List Token
  pub is_whole : Bool

abbrev pub more : Token → Read → Read
more t r = record { tokens = t ∷ r.tokens; is_whole = r.is_whole }

abbrev pub read_on : (List ℕ → Read) → Front → Read
read_on rest nothing = record { tokens = []; is_whole = true }
read_on rest bad = record { tokens = []; is_whole = false }
read_on rest (gap text) = rest text
read_on rest (token t text) = more t (rest text)

-- front after front, at most so many
unfoldable pub read_fronts : ℕ → List ℕ → Read
read_fronts zero text = record { tokens = []; is_whole = false }
read_fronts (suc n) text = read_on (read_fronts n) (front text)

-- each front takes a byte, so there are at most as many as bytes, and the end
abbrev pub tokens_of : List ℕ → Read
tokens_of text = read_fronts (suc (length text)) text
