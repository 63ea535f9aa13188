use Rattle.std.proofs.Common.{◌≡◌, ◌++◌, drop}
use Rattle.binding.specs.Inserts.{sources_for}
use Rattle.binder.proofs.inserts.sources_for.Given as goal

abbrev pub invariant-loop-table : goal.invariant-loop-table
invariant-loop-table l = l.sources ++ sources_for (drop l.table-index l.table-items) l.sink ≡ sources_for l.tables l.sink
