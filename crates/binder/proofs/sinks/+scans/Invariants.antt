use Rattle.std.proofs.Common.{◌≡◌, drop}
use Rattle.rel_algebra.specs.Rel.{rels}
use Rattle.rel_algebra.specs.View.{rels_view}
use Rattle.binding.specs.Inserts.{any_scans}
use Rattle.binder.proofs.sinks.+scans.Given as goal

abbrev pub invariant-any_scans-loop-input : goal.invariant-any_scans-loop-input
invariant-any_scans-loop-input l = any_scans l.table (rels (rels_view l.fn.inputs)) ≡ any_scans l.table (rels (rels_view (drop l.input-index l.input-items)))
