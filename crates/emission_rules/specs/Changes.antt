-- Rules that answer each change by itself.
use Rattle.std.specs.Prelude.{ℕ, true, List, [], ◌∷◌, map, Option, Some, None, Ok}
use Rattle.ct_change.specs.declared.change.Change.{Change}
use Rattle.ct_change.specs.declared.update.Update.{Update}
use Rattle.ct_change.specs.declared.update.Update.TheVariants.{Absent, After, Both}
use Rattle.ct_change.specs.Changelog.{Mode, retract, upsert}
use Rattle.op_rules.specs.History.{Arrival}
use Rattle.op_rules.specs.Rules.{Answer, appended, Rule}

-- the changes that came, at whatever port
abbrev pub changes_of : List Arrival → List Change
changes_of arrivals = map (λ a. a.change) arrivals

-- the answers for these changes, one behind the other
abbrev pub each_change : (Change → Answer) → List Change → Answer
each_change answer [] = Ok []
each_change answer (change ∷ changes) = appended (answer change) (each_change answer changes)

-- the rule that answers each change by itself, at whatever port it comes: it takes rows of any columns, and counts no step
abbrev pub row_rule : ℕ → Mode → (Change → Answer) → Rule
row_rule ports mode answer = record {
  ports = ports;
  mode = λ port. mode;
  fits = λ port change. true;
  opening = λ subtask. [];
  emits = λ before piece. each_change answer (changes_of piece);
  work = λ before a. 0;
}

-- the key by which an edge that tells updates so is after-only
abbrev pub after_key : Update → Option (List ℕ)
after_key Absent = None
after_key (After columns) = Some columns
after_key Both = None

-- how the changes of an edge are read: as the last row of each key, where the edge is after-only by that key
abbrev pub mode_after : Option (List ℕ) → Mode
mode_after None = retract
mode_after (Some key) = upsert key
