-- The machine of histories: nothing but its steps changes a job's state. The engine keeps none of these lists: it keeps
-- what its operators need of them, what is in flight, and counts.
use Rattle.std.specs.Prelude.{◌≡◌, ℕ, ◌+◌, ◌<◌, nat_lt, nat_le, Bool, true, false, ◌&&◌, ◌==◌, cond, List, [], ◌∷◌, ◌++◌, length, map, Option, Some, None, Result, Ok, Err}
use Rattle.std.specs.List.{filter}
use Rattle.ct_value.specs.declared.codes.ChangeCode.{ChangeCode}
use Rattle.ct_value.specs.declared.codes.OrderCode.TheVariants.{NoSuchPlace, TooFew, NoBuffer}
use Rattle.ct_change.specs.declared.change.Change.{Change}
use Rattle.ct_change.specs.Changelog.{fold}
use Rattle.op_rules.specs.History.{Arrival, arrival, joined}
use Rattle.op_rules.specs.Rules.{Answer}
use Rattle.stream_model.specs.declared.events.Event.{Event}
use Rattle.stream_model.specs.declared.events.Event.TheVariants.{Take, Move, Flush}
use Rattle.stream_model.specs.declared.events.StepFault.{StepFault}
use Rattle.stream_model.specs.declared.events.StepFault.TheVariants.{Change as Refused, Order, Range, Limit}
use Rattle.stream_model.specs.declared.events.PrintItem.{PrintItem}
use Rattle.stream_model.specs.declared.events.PrintItem.TheVariants.{Change as Printed}
use Rattle.op_rules.specs.Edges.{Exchange, forward, hash, goes}
use Rattle.op_rules.specs.Tasks.{total}
use Rattle.stream_model.specs.Tables.{Table, scanned_at, refusal}
use Rattle.stream_model.specs.Network.{Feed, Network}

pub record State : Type 0 where
  -- the changes taken of each table
  pub taken : ℕ → List Change
  -- what each subtask of a node sent
  pub sent : ℕ → ℕ → List Change
  -- what is in flight in each channel
  pub flight : ℕ → ℕ → ℕ → List Change
  -- the pieces that each subtask folded, and its bundle: what it consumed and didn't fold yet
  pub pieces : ℕ → ℕ → List (List Arrival)
  pub bundle : ℕ → ℕ → List Arrival
  pub printed : List PrintItem
  -- how many changes were ever taken, and how many ever put in channels
  pub took : ℕ
  pub sends : ℕ

-- what a subtask consumed: what it folded, then its bundle
abbrev pub consumed : State → ℕ → ℕ → List Arrival
consumed s v j = joined (s.pieces v j) ++ s.bundle v j

-- a function changed at one place
abbrev pub put : {A : Type 0} → (ℕ → ℕ → A) → ℕ → ℕ → A → ℕ → ℕ → A
put f a b x m n = cond ((m == a) && (n == b)) x (f m n)

-- nothing sent but what the nodes open with
abbrev pub opened : Network → State
opened g = record {
  taken = λ table. [];
  sent = λ v i. g.opening v i;
  flight = λ e i j. filter (λ change. goes (g.edge e) i j change.row) (g.opening e i);
  pieces = λ v j. [];
  bundle = λ v j. [];
  printed = [];
  took = 0;
  sends = total g.count (λ v. total g.subtasks (λ i. length (g.opening v i)));
}

-- ---- the three steps of which all events are made: a subtask sends, a change joins a bundle, a bundle is folded

-- a subtask of a node sends changes: each goes where the edge's exchange says
abbrev pub send : Network → ℕ → ℕ → List Change → State → State
send g v i changes s = record s {
  sent = put s.sent v i (s.sent v i ++ changes);
  flight = put s.flight v i (λ j. s.flight v i j ++ filter (λ change. goes (g.edge v) i j change.row) changes);
  sends = s.sends + length changes;
}

-- the sink's subtask prints changes
abbrev pub print : ℕ → ℕ → List Change → State → State
print v i changes s = record s {
  sent = put s.sent v i (s.sent v i ++ changes);
  printed = s.printed ++ map Printed changes;
}

-- a change leaves the front of a channel and joins its consumer's bundle
abbrev pub joins : ℕ → ℕ → ℕ → Feed → Change → List Change → State → State
joins e i j feed change rest s = record s {
  flight = put s.flight e i (λ k. cond (k == j) rest (s.flight e i k));
  bundle = put s.bundle feed.node j (s.bundle feed.node j ++ arrival feed.port i change ∷ []);
}

-- a subtask folds its bundle; nothing is emitted for it yet
abbrev pub folded : ℕ → ℕ → State → State
folded v j s = record s { pieces = put s.pieces v j (s.pieces v j ++ s.bundle v j ∷ []); bundle = put s.bundle v j [] }

-- ---- a bundle is flushed

-- what a subtask emits is printed by the sink, and sent by any other node unless that would pass the limit
abbrev pub hand_on : Network → ℕ → ℕ → ℕ → List Change → State → Result State StepFault
hand_on g limit v j changes s = cond (v == g.count) (Ok (print v j changes s)) (cond (nat_le (s.sends + length changes) limit) (Ok (send g v j changes s)) (Err Limit))

abbrev pub answered : Network → ℕ → ℕ → ℕ → Answer → State → Result State StepFault
answered g limit v j (Err row) s = Err (Range v j row (g.range_types v))
answered g limit v j (Ok changes) s = hand_on g limit v j changes s

-- a subtask folds its bundle and hands on what it emits for it
abbrev pub flushed : Network → ℕ → ℕ → ℕ → State → Result State StepFault
flushed g limit v j s = answered g limit v j (g.emits v (joined (s.pieces v j)) (s.bundle v j)) (folded v j s)

-- ---- move

-- a node that keeps no bundles folds each change by itself
abbrev pub size_of : Option ℕ → ℕ
size_of None = 1
size_of (Some size) = size

abbrev pub flushed_if_full : Network → ℕ → ℕ → ℕ → State → Result State StepFault
flushed_if_full g limit v j s = cond (nat_le (size_of (g.bundle v)) (length (s.bundle v j))) (flushed g limit v j s) (Ok s)

abbrev pub has_channel : Exchange → ℕ → ℕ → Bool
has_channel forward i j = i == j
has_channel (hash columns) i j = true

-- whether an edge that feeds a node has this channel
abbrev pub is_channel : Network → ℕ → ℕ → ℕ → Bool
is_channel g e i j = nat_lt i g.subtasks && (nat_lt j g.subtasks && has_channel (g.edge e).exchange i j)

abbrev pub move_front : Network → ℕ → State → ℕ → ℕ → ℕ → Feed → List Change → Result State StepFault
move_front g limit s e i j feed [] = Err (Order (TooFew 0))
move_front g limit s e i j feed (change ∷ rest) = flushed_if_full g limit feed.node j (joins e i j feed change rest s)

abbrev pub move_to : Network → ℕ → State → ℕ → ℕ → ℕ → Option Feed → Result State StepFault
move_to g limit s e i j None = Err (Order NoSuchPlace)
move_to g limit s e i j (Some feed) = cond (is_channel g e i j) (move_front g limit s e i j feed (s.flight e i j)) (Err (Order NoSuchPlace))

-- one change leaves the front of a channel and is consumed; a bundle that is full is flushed in the same step
abbrev pub move : Network → ℕ → State → ℕ → ℕ → ℕ → Result State StepFault
move g limit s e i j = move_to g limit s e i j (g.fed e)

-- ---- flush

abbrev pub flush_held : Network → ℕ → State → ℕ → ℕ → List Arrival → Result State StepFault
flush_held g limit s v j [] = Ok s
flush_held g limit s v j (a ∷ others) = flushed g limit v j s

abbrev pub flush_bundle : Network → ℕ → State → ℕ → ℕ → Option ℕ → Result State StepFault
flush_bundle g limit s v j None = Err (Order NoBuffer)
flush_bundle g limit s v j (Some size) = flush_held g limit s v j (s.bundle v j)

abbrev pub is_place : Network → ℕ → ℕ → Bool
is_place g v j = nat_lt 0 v && (nat_le v g.count && nat_lt j g.subtasks)

-- a bundle is folded before it is full; an empty one stays as it is
abbrev pub flush : Network → ℕ → State → ℕ → ℕ → Result State StepFault
flush g limit s v j = cond (is_place g v j) (flush_bundle g limit s v j (g.bundle v)) (Err (Order NoSuchPlace))

-- ---- take

abbrev pub is_number : ℕ → Option ℕ → Bool
is_number table None = false
is_number table (Some other) = other == table

-- whether a node scans the table
abbrev pub is_scan_of : Network → ℕ → ℕ → Bool
is_scan_of g table v = is_number table (g.scans v)

-- how many scans a table has
abbrev pub scan_count : Network → ℕ → ℕ
scan_count g table = total g.count (λ v. cond (is_scan_of g table v) 1 0)

-- each scan of the table sends the change, at this subtask
abbrev pub scanned : Network → ℕ → ℕ → Change → State → State
scanned g table i change s = record s {
  taken = λ t. cond (t == table) (s.taken t ++ change ∷ []) (s.taken t);
  sent = λ v k. cond (is_scan_of g table v && (k == i)) (s.sent v k ++ change ∷ []) (s.sent v k);
  flight = λ e k j. cond (is_scan_of g table e && (k == i)) (s.flight e k j ++ filter (λ change. goes (g.edge e) k j change.row) (change ∷ [])) (s.flight e k j);
  took = s.took + 1;
  sends = s.sends + scan_count g table;
}

abbrev pub take_within : Network → ℕ → State → ℕ → Change → ℕ → Result State StepFault
take_within g limit s table change i = cond (nat_lt s.took limit && nat_le (s.sends + scan_count g table) limit) (Ok (scanned g table i change s)) (Err Limit)

abbrev pub take_unless : Network → ℕ → State → ℕ → Change → ℕ → Option ChangeCode → Result State StepFault
take_unless g limit s table change i (Some code) = Err (Refused code)
take_unless g limit s table change i None = take_within g limit s table change i

abbrev pub take_of : Network → ℕ → State → ℕ → Change → Option Table → Result State StepFault
take_of g limit s table change None = Err (Order NoSuchPlace)
take_of g limit s table change (Some t) = take_unless g limit s table change (scanned_at t change) (refusal t (fold t.mode (s.taken table)) change)

-- one change of a table enters the channels of its scans
abbrev pub take : Network → ℕ → State → ℕ → Change → Result State StepFault
take g limit s table change = take_of g limit s table change (g.tables table)

-- ---- events

-- the state after one event, or why it can't be: then the state stays as it was
abbrev pub step : Network → ℕ → State → Event → Result State StepFault
step g limit s (Take table change) = take g limit s table change
step g limit s (Move e i j) = move g limit s e i j
step g limit s (Flush v j) = flush g limit s v j

-- no channel and no bundle holds a change
pub record IsQuiet (g : Network) (s : State) : Type 0 where
  pub flight : (e i j : ℕ) (feed : Feed) → g.fed e ≡ Some feed → i < g.subtasks → j < g.subtasks → s.flight e i j ≡ []
  pub bundle : (v j : ℕ) → j < g.subtasks → s.bundle v j ≡ []
