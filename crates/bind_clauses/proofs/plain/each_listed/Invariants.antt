use Rattle.std.proofs.Common.{◌≡◌, drop}
use Rattle.binding.specs.Queries as q
use Rattle.bind_nodes.specs.Views.{bounds_view}
use Rattle.bind_clauses.specs.Lists.{each_listed}
use Rattle.bind_names.specs.Entries.{entries_view}
use Rattle.bind_clauses.proofs.Behind.{behind}
use Rattle.bind_clauses.proofs.plain.each_listed.Given as goal

abbrev pub invariant-loop-entry : goal.invariant-loop-entry
invariant-loop-entry l = q.in_turn (q.plain_listed l.scope) 0 (entries_view l.entries) ≡ behind (bounds_view l.bounds) (each_listed l.scope (entries_view (drop l.entry-index l.entry-items)))
