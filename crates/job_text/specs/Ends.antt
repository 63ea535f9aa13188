-- How many records a text has, told by where its bytes leave a reader.
use Rattle.std.specs.Prelude.{◌==◌, ◌+◌, ◌&&◌, ℕ, suc, Bool, true, false, not, cond, List, [], ◌∷◌}
use Rattle.csv.specs.Machine.{ends_at_end, is_end, step}
use Rattle.csv.specs.Reading.{default_config, is_bom}
use Rattle.csv.specs.declared.parser.State.{State}
use Rattle.csv.specs.declared.parser.State.TheVariants as st
use Rattle.job_text.specs.declared.counting.Place.{Place}
use Rattle.job_text.specs.declared.counting.Place.TheVariants.{RecordStart, BehindReturn, FieldStart, Plain, Quoted, BehindQuote}

-- the state of CSV's machine at a place
abbrev pub state_at : Place → State
state_at RecordStart = st.StartRecord
state_at BehindReturn = st.AfterCr
state_at FieldStart = st.StartField
state_at Plain = st.InField
state_at Quoted = st.InQuoted
state_at BehindQuote = st.AfterQuote

-- how many records end in a text behind a state
unfoldable pub ends_in : State → List ℕ → ℕ
ends_in s [] = cond (ends_at_end s) 1 0
ends_in s (c ∷ rest) = cond (is_end (step default_config s c).1) 1 0 + ends_in (step default_config s c).0 rest

-- how many bytes stand before the one that leaves the machine between two records
unfoldable pub before_end : State → List ℕ → ℕ
before_end s [] = 0
before_end s (c ∷ rest) = cond (ends_at_end (step default_config s c).0) (suc (before_end (step default_config s c).0 rest)) 0

-- a byte that begins and ends neither quotes nor a record
abbrev pub is_plain : ℕ → Bool
is_plain c = not (c == 34) && (not (c == 13) && not (c == 10))

abbrev pub is_field_start : State → Bool
is_field_start st.StartField = true
is_field_start s = false

-- how many fields end in a text behind a state with another field behind them
unfoldable pub field_ends : State → List ℕ → ℕ
field_ends s [] = 0
field_ends s (c ∷ rest) = cond (is_field_start (step default_config s c).0) 1 0 + field_ends (step default_config s c).0 rest

-- ---- where a file may be cut

-- the state of CSV's machine behind a text
unfoldable pub state_behind : State → List ℕ → State
state_behind s [] = s
state_behind s (c ∷ rest) = state_behind (step default_config s c).0 rest

abbrev pub is_start : State → Bool
is_start st.StartRecord = true
is_start s = false

-- three bytes at least that are no byte order mark
abbrev pub is_unmarked : List ℕ → Bool
is_unmarked (a ∷ b ∷ c ∷ rest) = not (is_bom a b c)
is_unmarked bytes = false

-- a record begins behind the first part of a file, and neither it nor the rest begins with a byte order mark
abbrev pub may_cut : List ℕ → List ℕ → Bool
may_cut bytes rest = is_unmarked bytes && (is_unmarked rest && is_start (state_behind st.StartRecord bytes))
