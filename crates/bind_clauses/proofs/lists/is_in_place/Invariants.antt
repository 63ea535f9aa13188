use Rattle.std.proofs.Common.{◌≡◌, drop}
use Rattle.ct_expr.specs.View.{exprs_view}
use Rattle.binding.specs.Queries.{is_in_place}
use Rattle.bind_clauses.proofs.lists.is_in_place.Given as goal

abbrev pub invariant-loop-item : goal.invariant-loop-item
invariant-loop-item l = record {
  place : l.place ≡ l.item-index;
  same : is_in_place 0 l.width (exprs_view l.items) ≡ is_in_place l.place l.width (exprs_view (drop l.item-index l.item-items));
}
