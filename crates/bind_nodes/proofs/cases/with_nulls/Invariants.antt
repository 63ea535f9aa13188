use Rattle.std.proofs.Common.{◌≡◌}
use Rattle.std.specs.Vec.Iter.{into_iter_items}
use Rattle.binding.specs.Nodes.{with_nulls}
use Rattle.bind_nodes.specs.Views.{branches_view, choices_view}
use Rattle.bind_nodes.proofs.Behind.{behind}
use Rattle.bind_nodes.proofs.cases.with_nulls.Given as goal

abbrev pub invariant-loop-branch : goal.invariant-loop-branch
invariant-loop-branch l = with_nulls l.common (branches_view l.fn.branches) ≡ behind (choices_view l.choices) (with_nulls l.common (branches_view (into_iter_items l.branch-iterator)))
