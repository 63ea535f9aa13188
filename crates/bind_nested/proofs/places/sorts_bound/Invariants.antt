use Rattle.std.proofs.Common.{◌≡◌, drop}
use Rattle.sql_syntax.specs.View.{sorts_view}
use Rattle.bind_nested.proofs.Behind.{behind}
use Rattle.bind_nested.proofs.Orders.{each_sort}
use Rattle.bind_nested.proofs.places.sorts_bound.Given as goal

abbrev pub invariant-loop-sort : goal.invariant-loop-sort
invariant-loop-sort l = each_sort l.scope (sorts_view l.order) ≡ behind l.sorts (each_sort l.scope (sorts_view (drop l.sort-index l.sort-items)))
