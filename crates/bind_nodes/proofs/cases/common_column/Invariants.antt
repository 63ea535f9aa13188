use Rattle.std.proofs.Common.{◌≡◌, drop, None}
use Rattle.std.specs.Prelude.{option_map}
use Rattle.bind_nodes.specs.Views.{bound_view}
use Rattle.bind_nodes.proofs.Folds.{known_from, behind}
use Rattle.bind_nodes.proofs.cases.common_column.Given as goal

abbrev pub invariant-loop-branch : goal.invariant-loop-branch
invariant-loop-branch l =
    let more = behind (option_map (option_map bound_view) l.otherwise) in
    known_from None l.branches more ≡ known_from l.all (drop l.branch-index l.branch-items) more
