use Rattle.std.proofs.Common.{◌≡◌, ◌++◌, drop}
use Rattle.query_answer.specs.Answer.{placed_from}
use Rattle.bind_names.specs.Entries.{entries_view}
use Rattle.bind_names.proofs.entries.all_placed.Given as goal

abbrev pub invariant-loop-column : goal.invariant-loop-column
invariant-loop-column l = entries_view l.found ++ placed_from l.place (drop l.column-index l.column-items) ≡ placed_from 0 l.scope
