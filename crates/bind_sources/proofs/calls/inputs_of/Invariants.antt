use Rattle.std.proofs.Common.{◌≡◌, ◌++◌}
use Rattle.std.specs.Vec.Iter.{into_iter_items}
use Rattle.binding.specs.InGroups.{bound_arguments, bound_filters}
use Rattle.bind_nodes.specs.Views.{bounds_view}
use Rattle.bind_sources.specs.Views.{calls_view}
use Rattle.bind_sources.proofs.calls.inputs_of.Given as goal

abbrev pub invariant-loop-call : goal.invariant-loop-call
invariant-loop-call l =
    (bounds_view l.args ++ bound_arguments (calls_view (into_iter_items l.call-iterator)) ≡ bound_arguments (calls_view l.fn.calls)) ×
    (bounds_view l.filters ++ bound_filters (calls_view (into_iter_items l.call-iterator)) ≡ bound_filters (calls_view l.fn.calls))
