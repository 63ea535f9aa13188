use Rattle.std.proofs.Common.{◌≡◌, ◌++◌, drop}
use Rattle.query_answer.specs.Answer.{placed_of}
use Rattle.bind_names.specs.Entries.{entries_view}
use Rattle.bind_names.proofs.entries.own_columns.Given as goal

abbrev pub invariant-loop-column : goal.invariant-loop-column
invariant-loop-column l = entries_view l.found ++ placed_of l.source l.place (drop l.column-index l.column-items) ≡ placed_of l.source 0 l.scope
