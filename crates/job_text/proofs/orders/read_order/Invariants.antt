use Rattle.std.proofs.Common.{◌≡◌, ◌+◌, ◌≤◌, length}
use Rattle.std.specs.Str.Lines.{lines}
use Rattle.job_text.specs.Cuts.{orders_behind}
use Rattle.job_text.specs.Orders.{orders_from, orders_of}
use Rattle.job_text.proofs.orders.read_order.Given as goal

abbrev pub invariant-line : goal.invariant-line
invariant-line l = record {
  within : l.number + length l.rest ≤ 67108864;
  so_far : orders_of l.by_table l.bytes ≡ orders_behind l.orders (orders_from l.by_table (l.number + 1) (lines l.rest));
}

abbrev pub decreases-line : goal.decreases-line
decreases-line l = length l.rest
