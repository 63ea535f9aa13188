use Rattle.std.proofs.Common.{◌≡◌, ◌++◌, map, drop}
use Rattle.std.specs.Prelude.{flat_map}
use Rattle.query_answer.specs.Answer.{listed_calls}
use Rattle.bind_names.specs.Calls.{call_view}
use Rattle.bind_names.specs.Entries.{entries_view}
use Rattle.bind_clauses.proofs.calls.item_calls.Given as goal

abbrev pub invariant-loop-entry : goal.invariant-loop-entry
invariant-loop-entry l = map call_view l.found ++ flat_map (λ e. listed_calls e.listed) (entries_view (drop l.entry-index l.entry-items)) ≡ flat_map (λ e. listed_calls e.listed) (entries_view l.entries)
