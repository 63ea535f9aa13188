-- The reading of a text: its statements, or the first that is refused.
use Rattle.std.specs.Prelude.{ℕ, suc, Bool, true, false, List, [], ◌∷◌, Option, Some, None}
use Rattle.ct_value.specs.declared.codes.ScriptCode.{ScriptCode}
use Rattle.ct_value.specs.declared.codes.ScriptCode.TheVariants.{BadToken, TooDeep, Syntax}
use Rattle.sql_tokens.specs.declared.token.Token.{Token}
use Rattle.sql_tokens.specs.Tokens.{tokens_of}
use Rattle.sql_tokens.specs.Statements.{Piece, ended, unended, spoiled, pieces}
use Rattle.sql_tokens.specs.Depth.{too_deep}
use Rattle.sql_syntax.specs.Tree.{Statement}
use Rattle.sql_grammar.specs.Reads.{parse}

-- what a text is read as
pub data Answer : Type 0 where
  answered : List Statement → Answer
  refused : ScriptCode → ℕ → Answer

-- a statement before the others
abbrev pub and_others : Statement → Answer → Answer
and_others x (answered xs) = answered (x ∷ xs)
and_others x (refused code number) = refused code number

-- too many open, or else another answer
abbrev pub deep_or : Bool → ℕ → Answer → Answer
deep_or true number other = refused TooDeep number
deep_or false number other = other

-- a statement, where its tokens have a tree, before the others
abbrev pub read_one : ℕ → Option Statement → Answer → Answer
read_one number None others = refused Syntax number
read_one number (Some x) others = and_others x others

-- the statement of these tokens, before the others
unfoldable pub read_ended : ℕ → List Token → Answer → Answer
read_ended number ts others = deep_or (too_deep ts) number (read_one number (parse ts) others)

-- the tokens behind the last `;`
unfoldable pub read_last : Bool → ℕ → List Token → Answer
read_last false number ts = refused BadToken number
read_last true number [] = answered []
read_last true number (t ∷ ts) = deep_or (too_deep (t ∷ ts)) number (refused Syntax number)

-- piece by piece, the first of them with this number
unfoldable pub read_pieces : ℕ → List Piece → Answer
read_pieces number [] = answered []
read_pieces number (spoiled ∷ ps) = refused BadToken number
read_pieces number (unended ts ∷ ps) = deep_or (too_deep ts) number (refused Syntax number)
read_pieces number (ended ts ∷ ps) = read_ended number ts (read_pieces (suc number) ps)

-- the tokens of statements, behind which the text ends or a bad place follows
unfoldable pub read_from : Bool → ℕ → List Token → Answer
read_from is_whole number ts = read_pieces number (pieces is_whole ts)

-- a text; its first statement has the number 1
unfoldable pub read_text : List ℕ → Answer
read_text text = let r = tokens_of text in read_from r.is_whole 1 r.tokens
