use Rattle.std.proofs.Common.{◌≡◌, drop}
use Rattle.binding.specs.Queries.{find_source}
use Rattle.bind_clauses.proofs.from.find_source.Given as goal

abbrev pub invariant-loop-table : goal.invariant-loop-table
invariant-loop-table l = find_source 0 l.sources l.name ≡ find_source l.number (drop l.table-index l.table-items) l.name
