-- The pieces of a text, one statement after the other.
use Rattle.std.proofs.Common.{◌≡◌, Bool, true, false, List, [], ◌∷◌, Option, Some, None, refl, ap, ◌∙◌}
use Rattle.std.specs.Prelude.{option_map}
use Rattle.sql_tokens.specs.declared.token.Symbol.TheVariants.{Semicolon}
use Rattle.sql_tokens.specs.declared.token.Token.{Token}
use Rattle.sql_tokens.specs.declared.token.Token.TheVariants.{Symbol}
use Rattle.sql_tokens.specs.Statements.{Piece, ended, unended, spoiled, begun, pieces, first_statement}

-- the pieces of tokens whose first statement is this
abbrev pub cut : Bool → List Token → Option (List Token × List Token) → List Piece
cut true [] None = []
cut true (t ∷ ts) None = unended (t ∷ ts) ∷ []
cut false ts None = spoiled ∷ []
cut is_whole ts (Some r) = ended r.0 ∷ pieces is_whole r.1

begun-cut : (is_whole : Bool) (t : Token) (ts : List Token) (r : Option (List Token × List Token)) → begun t (cut is_whole ts r) ≡ cut is_whole (t ∷ ts) (option_map (λ r. (t ∷ r.0, r.1)) r)
begun-cut true t [] None = refl
begun-cut true t (u ∷ us) None = refl
begun-cut true t ts (Some r) = refl
begun-cut false t ts None = refl
begun-cut false t ts (Some r) = refl

pub pieces-cut : (is_whole : Bool) (ts : List Token) → pieces is_whole ts ≡ cut is_whole ts (first_statement ts)
pieces-cut true [] = refl
pieces-cut false [] = refl
pieces-cut true (Symbol Semicolon ∷ ts) = refl
pieces-cut false (Symbol Semicolon ∷ ts) = refl
pieces-cut is_whole (t ∷ ts) = ap (begun t) (pieces-cut is_whole ts) ∙ begun-cut is_whole t ts (first_statement ts)
