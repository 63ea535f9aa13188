-- The code's forms of what stands at the front of a text.
use Rattle.std.specs.Prelude.{ℕ, ◌<◌, Bool, ◌==◌, List, [], ◌∷◌, length, Option, Some, None, if◌then◌else◌}
use Rattle.std.specs.Char.{is_ascii_digit}
use Rattle.sql_tokens.specs.Tokens as t
use Rattle.sql_tokens.specs.Tokens.{is_word_byte, is_in_line}
use Rattle.sql_tokens.specs.declared.tokens.Class.{Class}
use Rattle.sql_tokens.specs.declared.tokens.Class.TheVariants.{Word, Digit, Line}
use Rattle.sql_tokens.specs.declared.tokens.Front.{Front}
use Rattle.sql_tokens.specs.declared.tokens.Front.TheVariants.{Nothing, Bad, Gap, Token}

abbrev pub front_view : Front → t.Front
front_view Nothing = t.nothing
front_view Bad = t.bad
front_view (Gap rest) = t.gap rest.now
front_view (Token token rest) = t.token token rest.now

-- what follows is shorter than the text
abbrev pub IsShorter : t.Front → List ℕ → Type 0
IsShorter t.nothing text = Unit {0}
IsShorter t.bad text = Unit {0}
IsShorter (t.gap rest) text = length rest < length text
IsShorter (t.token token rest) text = length rest < length text

abbrev pub is_in : Class → ℕ → Bool
is_in Word b = is_word_byte b
is_in Digit b = is_ascii_digit b
is_in Line b = is_in_line b

-- the next byte within these quotes and what follows
abbrev pub quoted_byte : ℕ → List ℕ → Option (ℕ × List ℕ)
quoted_byte quote [] = None
quoted_byte quote (b ∷ []) = if b == quote then None else Some (b, [])
quoted_byte quote (b ∷ c ∷ text) = if b == quote then (if c == quote then Some (quote, text) else None) else Some (b, c ∷ text)
