-- A text's statements, of which each but the last ends with its `;`.
use Rattle.std.specs.Prelude.{ℕ, Bool, List, [], ◌∷◌, Option, Some, None, option_map, if◌then◌else◌}
use Rattle.sql_tokens.specs.declared.token.Symbol.TheVariants.{Semicolon}
use Rattle.sql_tokens.specs.declared.token.Token.{Token}
use Rattle.sql_tokens.specs.declared.token.Token.TheVariants.{Symbol}
use Rattle.sql_tokens.specs.Tokens.{tokens_of}

pub data Piece : Type 0 where
  -- the tokens before a `;`
  ended : List Token → Piece
  -- tokens behind which no `;` follows
  unended : List Token → Piece
  -- what holds a bad place
  spoiled : Piece

-- the pieces, with one more token at the front of the first
abbrev pub begun : Token → List Piece → List Piece
begun t [] = unended (t ∷ []) ∷ []
begun t (ended ts ∷ ps) = ended (t ∷ ts) ∷ ps
begun t (unended ts ∷ ps) = unended (t ∷ ts) ∷ ps
begun t (spoiled ∷ ps) = spoiled ∷ ps

-- the pieces of these tokens, behind which the text ends or a bad place follows
abbrev pub pieces : Bool → List Token → List Piece
pieces is_whole [] = if is_whole then [] else spoiled ∷ []
pieces is_whole (Symbol Semicolon ∷ ts) = ended [] ∷ pieces is_whole ts
pieces is_whole (t ∷ ts) = begun t (pieces is_whole ts)

abbrev pub statements_of : List ℕ → List Piece
statements_of text = let read = tokens_of text in pieces read.is_whole read.tokens

-- the tokens before the first `;`, and those behind it
abbrev pub first_statement : List Token → Option (List Token × List Token)
first_statement [] = None
first_statement (Symbol Semicolon ∷ ts) = Some ([], ts)
first_statement (t ∷ ts) = option_map (λ r. (t ∷ r.0, r.1)) (first_statement ts)
