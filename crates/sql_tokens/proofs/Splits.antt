-- The loop that looks for the first `;`.
use Rattle.std.proofs.Common.{List, ◌++◌, Option}
use Rattle.std.specs.Prelude.{option_map}
use Rattle.sql_tokens.specs.declared.token.Token.{Token}

-- the first statement, with these tokens before it
abbrev pub behind : List Token → Option (List Token × List Token) → Option (List Token × List Token)
behind ts r = option_map (λ r. (ts ++ r.0, r.1)) r
