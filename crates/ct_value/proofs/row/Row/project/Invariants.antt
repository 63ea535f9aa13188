use Rattle.std.proofs.Common.{◌≡◌, ◌≤◌, length, take, vec_len, vec_capacity}
use Rattle.ct_value.specs.Rows.{project}
use Rattle.ct_value.proofs.row.Row.project.Given as goal

abbrev pub invariant-loop-col : goal.invariant-loop-col
invariant-loop-col l = (l.values.items ≡ project (take l.col-index l.cols) l.self) × (vec_len l.values ≡ l.col-index) × (length l.cols ≤ vec_capacity l.values)
