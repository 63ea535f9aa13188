use Rattle.ct_expr.specs.View.{exprs_view}
use Rattle.rel_algebra.specs.Types.{item_columns}
use Rattle.rel_columns.proofs.Gathered.{Gathered, items_from}
use Rattle.rel_columns.proofs.items.item_columns.Given as goal

abbrev pub invariant-loop-item : goal.invariant-loop-item
invariant-loop-item l = Gathered (item_columns l.columns (exprs_view l.items)) (items_from l.columns l.item-items l.item-index) l.made
