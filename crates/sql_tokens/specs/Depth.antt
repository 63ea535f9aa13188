-- How many parentheses and CASEs are open.
use Rattle.std.specs.Prelude.{ℕ, ◌+◌, ◌-◌, Bool, nat_lt, List, [], ◌∷◌}
use Rattle.std.specs.List.{list_any}
use Rattle.sql_tokens.specs.declared.token.Keyword.TheVariants.{Case, End}
use Rattle.sql_tokens.specs.declared.token.Symbol.TheVariants.{Open, Close}
use Rattle.sql_tokens.specs.declared.token.Token.{Token}
use Rattle.sql_tokens.specs.declared.token.Token.TheVariants.{Keyword, Symbol}

-- how many are open behind a token before which so many were; a closing one with none open counts nothing
abbrev pub open_after : ℕ → Token → ℕ
open_after n (Symbol Open) = n + 1
open_after n (Keyword Case) = n + 1
open_after n (Symbol Close) = n - 1
open_after n (Keyword End) = n - 1
open_after n t = n

-- how many are open at each token
abbrev pub open_counts : ℕ → List Token → List ℕ
open_counts n [] = []
open_counts n (t ∷ ts) = let m = open_after n t in m ∷ open_counts m ts

-- at some token more than 32 are open
abbrev pub too_deep : List Token → Bool
too_deep ts = list_any (λ n. nat_lt 32 n) (open_counts 0 ts)
