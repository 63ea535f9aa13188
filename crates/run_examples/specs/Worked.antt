-- Worked runs: what the machine prints on rows that were worked by hand, and in which order.
use Rattle.std.specs.Prelude.{◌≡◌, ℕ, zero, suc, pred, length, ◌+◌, ◌%◌, ◌==◌, pos, true, cond, List, [], ◌∷◌, ◌++◌, map, filter, Option, Some, None, Ok, Err}
use Rattle.ct_value.specs.Bag.{drop_one}
use Rattle.ct_value.specs.Order.{row_cmp}
use Rattle.ct_value.specs.Rows.{project}
use Rattle.ct_value.specs.declared.value.Value.{Value}
use Rattle.ct_value.specs.declared.value.Value.TheVariants.{Null, Num, Text}
use Rattle.ct_value.specs.declared.row.Row.{Row}
use Rattle.ct_value.specs.declared.codes.ChangeCode.TheVariants.{RowAbsent}
use Rattle.ct_value.specs.declared.codes.OrderCode.TheVariants.{NoSuchPlace, TooFew, NoBuffer}
use Rattle.ct_change.specs.declared.kind.Kind.{Kind}
use Rattle.ct_change.specs.declared.kind.Kind.TheVariants.{I, UB, UA, D}
use Rattle.ct_change.specs.declared.kind.KindSet.{KindSet}
use Rattle.ct_change.specs.declared.change.Change.{Change}
use Rattle.ct_change.specs.Changelog.{append, retract, upsert, same_row, adds}
use Rattle.ct_change.specs.KeyRows.{deleted}
use Rattle.op_rules.specs.History.{Arrival, at_port}
use Rattle.op_rules.specs.Rules.{Answer}
use Rattle.op_rules.specs.Edges.{bag, last_rows, Meaning, Exchange, forward, hash, Edge}
use Rattle.stream_model.specs.declared.events.Event.TheVariants.{Take, Move, Flush}
use Rattle.stream_model.specs.declared.events.StepFault.TheVariants.{Change as Refused, Order, Limit}
use Rattle.stream_model.specs.declared.events.PrintItem.{PrintItem}
use Rattle.stream_model.specs.declared.events.PrintItem.TheVariants.{Change as Printed, Quiet}
use Rattle.stream_model.specs.Tables.{Table}
use Rattle.stream_model.specs.Network.{Feed, Network}
use Rattle.stream_model.specs.Machine.{State, opened, step}
use Rattle.stream_model.specs.Runs.{Item, happens, after}
use Rattle.stream_model.specs.Drain.{drain}

-- what an order asks for: these items, or a drain
pub data Verb : Type 0 where
  does : List Item → Verb
  drains : Verb

abbrev pub verb_items : Network → ℕ → State → Verb → List Item
verb_items g limit s (does items) = items
verb_items g limit s drains = drain g limit s

abbrev pub run_order : Network → ℕ → State → List Verb → State
run_order g limit s [] = s
run_order g limit s (verb ∷ verbs) = run_order g limit (after g limit s (verb_items g limit s verb)) verbs

abbrev pub take : ℕ → Change → Item
take table change = happens (Take table change)

abbrev pub move : ℕ → ℕ → ℕ → Item
move e i j = happens (Move e i j)

-- ---- rows

abbrev pub number : ℕ → Value
number n = Num (pos n)

-- the subtask, of two, of a number of one digit, by the hash of its text
abbrev pub digit_route : Row → ℕ
digit_route [] = 0
digit_route (Num (pos n) ∷ others) = (48 + n) % 2
digit_route (value ∷ others) = 0

abbrev pub rome : Value
rome = Text (82 ∷ 111 ∷ 109 ∷ 101 ∷ [])

abbrev pub oslo : Value
oslo = Text (79 ∷ 115 ∷ 108 ∷ 111 ∷ [])

abbrev pub every_kind : KindSet
every_kind = record { i = true; ub = true; ua = true; d = true }

abbrev pub plain_edge : Meaning → Exchange → Edge
plain_edge meaning exchange = record {
  meaning = meaning;
  exchange = exchange;
  route = digit_route;
  kinds = every_kind;
  fits = λ change. true;
  holds = λ row. true;
  unique = [];
  local = [];
  fixing = [];
}

-- ---- rules, on histories of few rows

-- the rows that stand after these changes, in the order of their arrival
abbrev pub standing_from : List Row → List Change → List Row
standing_from rows [] = rows
standing_from rows (change ∷ changes) = standing_from (cond (adds change.kind) (rows ++ change.row ∷ []) (drop_one row_cmp change.row rows)) changes

abbrev pub standing : List Change → List Row
standing changes = standing_from [] changes

-- a change of orders with each customer that it matches, and the other way round
abbrev pub join_one : List Arrival → Arrival → List Change
join_one before a =
    cond (a.port == 0)
    (map (λ customer. record { kind = a.change.kind; row = a.change.row ++ customer }) (filter (λ customer. same_row (project (1 ∷ []) a.change.row) (project (0 ∷ []) customer)) (standing (at_port 1 before))))
    (map (λ order. record { kind = a.change.kind; row = order ++ a.change.row }) (filter (λ order. same_row (project (1 ∷ []) order) (project (0 ∷ []) a.change.row)) (standing (at_port 0 before))))

abbrev pub project_one : Arrival → Change
project_one a = record { kind = a.change.kind; row = project (0 ∷ 3 ∷ []) a.change.row }

-- the last of some rows
abbrev pub last_row : List Row → Option Row
last_row [] = None
last_row (row ∷ []) = Some row
last_row (row ∷ other ∷ rows) = last_row (other ∷ rows)

-- a row shown is replaced by another; one that goes is told by its key
abbrev pub shown_change : Option Row → Option Row → List Change
shown_change None None = []
shown_change None (Some fresh) = record { kind = I; row = fresh } ∷ []
shown_change (Some old) None = record { kind = D; row = deleted (upsert (0 ∷ [])) old } ∷ []
shown_change (Some old) (Some fresh) = cond (same_row old fresh) [] (record { kind = UA; row = fresh } ∷ [])

-- the changes of one key
abbrev pub of_key : Row → List Change → List Change
of_key row changes = filter (λ change. same_row (project (0 ∷ []) change.row) (project (0 ∷ []) row)) changes

-- of each key the last row that stands is shown
abbrev pub materialize_one : List Arrival → Arrival → List Change
materialize_one before a = shown_change (last_row (standing (of_key a.change.row (at_port 0 before)))) (last_row (standing (of_key a.change.row (at_port 0 before) ++ a.change ∷ [])))

abbrev pub each : (List Arrival → Arrival → List Change) → List Arrival → List Arrival → Answer
each emit before [] = Ok []
each emit before (a ∷ others) = Ok (emit before a)

-- ---- orders joined with customers, in two subtasks

abbrev pub orders : Table
orders = record { mode = retract; key = Some (0 ∷ []); required = 0 ∷ 1 ∷ []; spread = 0 ∷ []; route = digit_route; fits = λ change. true }

abbrev pub customers : Table
customers = record { mode = append; key = Some (0 ∷ []); required = 0 ∷ []; spread = 0 ∷ []; route = digit_route; fits = λ change. true }

abbrev pub join_tables : ℕ → Option Table
join_tables zero = Some orders
join_tables (suc zero) = Some customers
join_tables (suc (suc table)) = None

abbrev pub join_scans : ℕ → Option ℕ
join_scans zero = None
join_scans (suc zero) = Some 0
join_scans (suc (suc zero)) = Some 1
join_scans (suc (suc (suc v))) = None

abbrev pub join_ports : ℕ → ℕ
join_ports zero = 0
join_ports (suc zero) = 0
join_ports (suc (suc zero)) = 0
join_ports (suc (suc (suc zero))) = 2
join_ports (suc (suc (suc (suc v)))) = 1

abbrev pub join_source : ℕ → ℕ → ℕ
join_source zero port = 0
join_source (suc zero) port = 0
join_source (suc (suc zero)) port = 0
join_source (suc (suc (suc zero))) port = port + 1
join_source (suc (suc (suc (suc v)))) port = v + 3

abbrev pub feed : ℕ → ℕ → Option Feed
feed node port = Some (record { node = node; port = port })

abbrev pub join_fed : ℕ → Option Feed
join_fed zero = None
join_fed (suc zero) = feed 3 0
join_fed (suc (suc zero)) = feed 3 1
join_fed (suc (suc (suc zero))) = feed 4 0
join_fed (suc (suc (suc (suc zero)))) = feed 5 0
join_fed (suc (suc (suc (suc (suc zero))))) = feed 6 0
join_fed (suc (suc (suc (suc (suc (suc e)))))) = None

abbrev pub join_edge : ℕ → Edge
join_edge zero = plain_edge bag forward
join_edge (suc zero) = plain_edge bag (hash (1 ∷ []))
join_edge (suc (suc zero)) = plain_edge bag (hash (0 ∷ []))
join_edge (suc (suc (suc zero))) = plain_edge bag forward
join_edge (suc (suc (suc (suc zero)))) = plain_edge bag (hash (0 ∷ []))
join_edge (suc (suc (suc (suc (suc e))))) = plain_edge (last_rows (0 ∷ [])) forward

abbrev pub join_emits : ℕ → List Arrival → List Arrival → Answer
join_emits zero before piece = Ok []
join_emits (suc zero) before piece = Ok []
join_emits (suc (suc zero)) before piece = Ok []
join_emits (suc (suc (suc zero))) before piece = each join_one before piece
join_emits (suc (suc (suc (suc zero)))) before piece = each (λ before a. project_one a ∷ []) before piece
join_emits (suc (suc (suc (suc (suc zero))))) before piece = each materialize_one before piece
join_emits (suc (suc (suc (suc (suc (suc v)))))) before piece = each (λ before a. a.change ∷ []) before piece

abbrev pub join_network : Network
join_network = record {
  subtasks = 2;
  count = 6;
  tables = join_tables;
  table_count = 2;
  scans = join_scans;
  ports = join_ports;
  source = join_source;
  fed = join_fed;
  edge = join_edge;
  bundle = λ v. None;
  opening = λ v j. [];
  emits = join_emits;
  range_types = λ v. [];
  part = λ v j rows. Some (rows 0);
  batch = λ v rows. Some (rows 0);
}

abbrev pub customer : ℕ → Value → Item
customer cid city = take 1 (record { kind = I; row = number cid ∷ city ∷ [] })

abbrev pub order : Kind → ℕ → ℕ → Item
order kind id cust = take 0 (record { kind = kind; row = number id ∷ number cust ∷ [] })

abbrev pub first_lines : List Item
first_lines = customer 1 rome ∷ customer 2 oslo ∷ order I 7 1 ∷ []

-- an order moves from one customer to the other
abbrev pub last_lines : List Item
last_lines = order UB 7 1 ∷ order UA 7 2 ∷ []

abbrev pub result : Kind → Value → PrintItem
result kind city = Printed (record { kind = kind; row = number 7 ∷ city ∷ [] })

-- the new row overtakes the retraction of the old one, which comes late and prints nothing
abbrev pub new_row_first : List Verb
new_row_first = does first_lines ∷ drains ∷ does (last_lines ++ move 1 1 0 ∷ move 3 0 0 ∷ move 4 0 1 ∷ move 5 1 1 ∷ []) ∷ drains ∷ []

abbrev pub old_row_first : List Verb
old_row_first = does first_lines ∷ drains ∷ does (last_lines ++ move 1 1 1 ∷ move 3 1 1 ∷ move 4 1 1 ∷ move 5 1 1 ∷ []) ∷ drains ∷ []

abbrev pub printed_by : Network → List Verb → List PrintItem
printed_by g verbs = State.printed (run_order g 100 (opened g) verbs)

-- ---- a column of words, in one subtask

abbrev pub words : Table
words = record { mode = retract; key = None; required = 0 ∷ []; spread = 0 ∷ []; route = digit_route; fits = λ change. true }

abbrev pub word_tables : ℕ → Option Table
word_tables zero = Some words
word_tables (suc table) = None

abbrev pub word_scans : ℕ → Option ℕ
word_scans zero = None
word_scans (suc zero) = Some 0
word_scans (suc (suc v)) = None

abbrev pub word_fed : ℕ → Option Feed
word_fed zero = None
word_fed (suc zero) = feed 2 0
word_fed (suc (suc e)) = None

abbrev pub word_network : Network
word_network = record {
  subtasks = 1;
  count = 2;
  tables = word_tables;
  table_count = 1;
  scans = word_scans;
  ports = λ v. cond (v == 2) 1 0;
  source = λ v port. 1;
  fed = word_fed;
  edge = λ e. plain_edge bag forward;
  bundle = λ v. None;
  opening = λ v j. [];
  emits = λ v. each (λ before a. a.change ∷ []);
  range_types = λ v. [];
  part = λ v j rows. Some (rows 0);
  batch = λ v rows. Some (rows 0);
}

abbrev pub word : Kind → ℕ → Change
word kind letter = record { kind = kind; row = Text (letter ∷ []) ∷ [] }

abbrev pub two_words : List Verb
two_words = does (take 0 (word I 97) ∷ take 0 (word I 98) ∷ []) ∷ drains ∷ []

-- ---- words counted in bundles, in one subtask; all words are one

abbrev pub tally : ℕ → Row
tally n = Text (97 ∷ []) ∷ number n ∷ []

-- the count is replaced by one that is higher
abbrev pub recounted : ℕ → ℕ → List Change
recounted zero new = record { kind = I; row = tally new } ∷ []
recounted (suc old) new = record { kind = UB; row = tally (suc old) } ∷ record { kind = UA; row = tally new } ∷ []

abbrev pub tally_ports : ℕ → ℕ
tally_ports zero = 0
tally_ports (suc zero) = 0
tally_ports (suc (suc v)) = 1

abbrev pub tally_fed : ℕ → Option Feed
tally_fed zero = None
tally_fed (suc zero) = feed 2 0
tally_fed (suc (suc zero)) = feed 3 0
tally_fed (suc (suc (suc e))) = None

abbrev pub tally_bundle : ℕ → Option ℕ
tally_bundle zero = None
tally_bundle (suc zero) = None
tally_bundle (suc (suc zero)) = Some 1000
tally_bundle (suc (suc (suc v))) = None

abbrev pub tally_emits : ℕ → List Arrival → List Arrival → Answer
tally_emits zero before piece = Ok []
tally_emits (suc zero) before piece = Ok []
tally_emits (suc (suc zero)) before piece = Ok (recounted (length before) (length (before ++ piece)))
tally_emits (suc (suc (suc v))) before piece = each (λ before a. a.change ∷ []) before piece

abbrev pub tally_network : Network
tally_network = record word_network {
  count = 3;
  ports = tally_ports;
  source = λ v port. pred v;
  fed = tally_fed;
  bundle = tally_bundle;
  emits = tally_emits;
}

abbrev pub three_words : List Item
three_words = take 0 (word I 97) ∷ take 0 (word I 97) ∷ take 0 (word I 97) ∷ []

-- two of three words are delivered, and the bundle is flushed
abbrev pub flushed_early : List Verb
flushed_early = does (three_words ++ move 1 0 0 ∷ move 1 0 0 ∷ happens (Flush 2 0) ∷ []) ∷ drains ∷ []

abbrev pub tallied : Kind → ℕ → PrintItem
tallied kind n = Printed (record { kind = kind; row = tally n })

-- ---- what is printed, and what is refused

pub record RunsAsWorked : Type 0 where
  pub new_first : printed_by join_network new_row_first ≡ result I rome ∷ Quiet (1 ∷ 2 ∷ []) ∷ result UA oslo ∷ Quiet (3 ∷ 2 ∷ []) ∷ []
  pub old_first : printed_by join_network old_row_first ≡ result I rome ∷ Quiet (1 ∷ 2 ∷ []) ∷ result D Null ∷ result I oslo ∷ Quiet (3 ∷ 2 ∷ []) ∷ []
  pub words_printed : printed_by word_network two_words ≡ Printed (word I 97) ∷ Printed (word I 98) ∷ Quiet (2 ∷ []) ∷ []
  -- the removal of a word that doesn't stand is refused
  pub absent : step word_network 100 (run_order word_network 100 (opened word_network) two_words) (Take 0 (word D 99)) ≡ Err (Refused RowAbsent)
  pub bundled : printed_by tally_network (does three_words ∷ drains ∷ []) ≡ tallied I 3 ∷ Quiet (3 ∷ []) ∷ []
  pub flushed : printed_by tally_network flushed_early ≡ tallied I 2 ∷ tallied UB 2 ∷ tallied UA 3 ∷ Quiet (3 ∷ []) ∷ []
  pub no_place : step word_network 100 (opened word_network) (Move 9 0 0) ≡ Err (Order NoSuchPlace)
  pub too_few : step word_network 100 (opened word_network) (Move 1 0 0) ≡ Err (Order (TooFew 0))
  pub no_buffer : step word_network 100 (opened word_network) (Flush 2 0) ≡ Err (Order NoBuffer)
  -- two changes may be sent, and not three
  pub limited : step word_network 2 (run_order word_network 2 (opened word_network) (does (take 0 (word I 97) ∷ take 0 (word I 98) ∷ []) ∷ [])) (Take 0 (word I 99)) ≡ Err Limit
