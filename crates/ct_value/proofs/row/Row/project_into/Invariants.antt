use Rattle.std.proofs.Common.{◌≡◌, take}
use Rattle.ct_value.specs.Rows.{project}
use Rattle.ct_value.proofs.row.Row.project_into.Given as goal

abbrev pub invariant-loop-col : goal.invariant-loop-col
invariant-loop-col l = l.values ≡ project (take l.col-index l.cols) l.self
