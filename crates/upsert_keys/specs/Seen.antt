-- What a node sees of its inputs: their keys behind the exchange of the edge.
use Rattle.std.specs.Prelude.{ℕ, List, [], ◌∷◌, Option, None, Some}
use Rattle.ct_value.specs.declared.ty.ColTy.{ColTy}
use Rattle.phys_plan.specs.declared.edge.Edge.{Edge}
use Rattle.phys_plan.specs.declared.edge.Exchange.{Exchange}
use Rattle.phys_plan.specs.declared.edge.Exchange.TheVariants.{Forward, Hash}
use Rattle.phys_plan.specs.declared.node.KeyInfo.{KeyInfo}
use Rattle.column_sets.specs.Sets.{set_of, family, unions}
use Rattle.phys_plan.specs.Reading.{numbered}
use Rattle.upsert_keys.specs.declared.seen.Seen.{Seen}

-- the keys under each of which at most one row stands over all subtasks at every moment: a local key joined with a set that fixes
-- the subtask, since rows that agree on both come from one subtask, where one of them stands
abbrev pub everywhere : KeyInfo → List (List ℕ)
everywhere keys = unions keys.local keys.fixing

-- a forward edge keeps all; a hash edge leaves as local keys those that hold everywhere, and its columns fix the subtask
abbrev pub seen_over : Exchange → List ColTy → KeyInfo → Seen
seen_over Forward columns keys = record { unique = keys.unique; local = keys.local; fixing = keys.fixing; everywhere = everywhere keys; columns = columns }
seen_over (Hash cols) columns keys = record { unique = keys.unique; local = everywhere keys; fixing = set_of cols ∷ []; everywhere = everywhere keys; columns = columns }

abbrev pub exchange_in : Option Edge → Exchange
exchange_in None = Forward
exchange_in (Some edge) = edge.exchange

-- what is seen of the inputs of these numbers, from their keys
abbrev pub all_seen : (ℕ → List ColTy) → List Edge → List ℕ → List KeyInfo → List Seen
all_seen columns edges [] keys = []
all_seen columns edges (input ∷ inputs) [] = []
all_seen columns edges (input ∷ inputs) (key ∷ keys) = seen_over (exchange_in (numbered edges input)) (columns input) key ∷ all_seen columns edges inputs keys

-- a family keeps the sets that contain no other of its sets, and of these the first few
abbrev pub families : List (List ℕ) → List (List ℕ) → List (List ℕ) → KeyInfo
families unique local fixing = record { unique = family unique; local = family local; fixing = family fixing }
