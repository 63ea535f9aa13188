use Rattle.std.proofs.Common.{◌≡◌, ◌++◌, take}
use Rattle.route.proofs.Keys.{behind}
use Rattle.route.proofs.key.push_others.Given as goal

abbrev pub invariant-loop-col : goal.invariant-loop-col
invariant-loop-col l = l.text ≡ l.initial.text ++ behind l.row l.tys (take l.col-index l.cols)
