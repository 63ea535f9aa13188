-- A set operation is never out of range: it tells rows that came.
use Rattle.std.proofs.Common.{ℕ, nat_lt, Bool, true, false, cond, List, [], ◌∷◌, ◌++◌}
use Rattle.std.specs.List.{AllByRecursion}
use Rattle.ct_value.specs.declared.row.Row.{Row}
use Rattle.ct_change.specs.declared.kind.Kind.TheVariants.{I, D}
use Rattle.op_rules.specs.History.{Arrival}
use Rattle.op_rules.proofs.laws.Histories.{all-append}
use Rattle.emission_rules.specs.SetOps.{SetOperation, number, told_by_numbers, set_tells, set_emits}
use Rattle.range_rules.specs.Ranges.{IsShortRow, IsShort, ArrivesShort, SetOperationsStayInRange}

told_short : (old new : ℕ) (row : Row) → IsShortRow row → AllByRecursion IsShort (told_by_numbers old new row)
told_short old new row h = go (nat_lt old new) (nat_lt new old)
  where
    go : (rises falls : Bool) → AllByRecursion IsShort (cond rises (record { kind = I; row = row } ∷ []) (cond falls (record { kind = D; row = row } ∷ []) []))
    go true falls = (h, tt)
    go false true = (h, tt)
    go false false = tt

emits_short : (s : SetOperation) (sofar piece : List Arrival) → AllByRecursion ArrivesShort piece → AllByRecursion IsShort (set_emits s sofar piece)
emits_short s sofar [] h = tt
emits_short s sofar (a ∷ others) h =
    all-append IsShort (set_tells s sofar a) (set_emits s (sofar ++ a ∷ []) others) (told_short (number s sofar a.change.row) (number s (sofar ++ a ∷ []) a.change.row) a.change.row h.0) (emits_short s (sofar ++ a ∷ []) others h.1)

pub set_operations_stay : SetOperationsStayInRange
set_operations_stay s = record { opens = λ subtask. tt; answers = λ before piece h k few. emits_short s before piece k }
