use Rattle.std.proofs.Common.{◌≡◌, ◌≤◌, length, take, vec_len, vec_capacity}
use Rattle.ct_value.proofs.list.List.dup.Given as goal

abbrev pub invariant-loop-item : goal.invariant-loop-item
invariant-loop-item g l = (l.copies.items ≡ take l.item-index l.self) × (vec_len l.copies ≡ l.item-index) × (length l.self ≤ vec_capacity l.copies)
