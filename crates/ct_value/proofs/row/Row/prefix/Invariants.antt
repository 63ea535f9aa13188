use Rattle.std.proofs.Common.{◌≡◌, ◌≤◌, length, take, vec_len, vec_capacity}
use Rattle.ct_value.proofs.row.Row.prefix.Given as goal

abbrev pub invariant-loop-value : goal.invariant-loop-value
invariant-loop-value l = (l.values.items ≡ take l.value-index l.value-items) × (vec_len l.values ≡ l.value-index) × (length l.value-items ≤ vec_capacity l.values)
