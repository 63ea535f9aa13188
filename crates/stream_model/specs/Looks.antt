-- What can be seen of a state from outside, and why an order's moves from a channel, or its flush of a bundle, can't begin.
use Rattle.std.specs.Prelude.{ℕ, nat_lt, nat_le, cond, length, Option, Some, None}
use Rattle.ct_value.specs.declared.codes.OrderCode.{OrderCode}
use Rattle.ct_value.specs.declared.codes.OrderCode.TheVariants.{NoSuchPlace, TooFew, NoBuffer}
use Rattle.stream_model.specs.Network.{Feed, Network}
use Rattle.stream_model.specs.Machine.{State, is_channel, is_place}

abbrev pub flight_at : Network → State → ℕ → ℕ → ℕ → Option Feed → Option ℕ
flight_at g s e i j None = None
flight_at g s e i j (Some feed) = cond (is_channel g e i j) (Some (length (s.flight e i j))) None

-- how many changes are in flight in a channel, where there is one
abbrev pub in_flight : Network → State → ℕ → ℕ → ℕ → Option ℕ
in_flight g s e i j = flight_at g s e i j (g.fed e)

-- how many changes were taken of a table, where there is one
abbrev pub taken_of : Network → State → ℕ → Option ℕ
taken_of g s table = cond (nat_lt table g.table_count) (Some (length (s.taken table))) None

-- ---- before the first step of an order's line

abbrev pub few_in_flight : Option ℕ → ℕ → Option OrderCode
few_in_flight None count = Some NoSuchPlace
few_in_flight (Some held) count = cond (nat_le count held) None (Some (TooFew held))

-- why so many changes can't be moved from a channel
abbrev pub move_refusal : Network → State → ℕ → ℕ → ℕ → ℕ → Option OrderCode
move_refusal g s e i j count = few_in_flight (in_flight g s e i j) count

abbrev pub no_bundle : Option ℕ → Option OrderCode
no_bundle None = Some NoBuffer
no_bundle (Some size) = None

-- why a subtask's bundle can't be flushed
abbrev pub flush_refusal : Network → ℕ → ℕ → Option OrderCode
flush_refusal g v j = cond (is_place g v j) (no_bundle (g.bundle v)) (Some NoSuchPlace)
