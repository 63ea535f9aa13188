-- The trees of the definitions, as views of the code's.
use Rattle.std.specs.Prelude.{List, map, option_map}
use Rattle.ct_expr.specs.View.{expr_view, exprs_view}
use Rattle.rel_algebra.specs.declared.rel.Rel.TheFolds.{fold-Rel}
use Rattle.rel_algebra.specs.declared.rel.Rel.TheOpen.{Rel-F}
use Rattle.rel_algebra.specs.declared.rel.Rel.{Rel}
use Rattle.rel_algebra.specs.Rel as r

-- one level of a view, the parts within being seen already
abbrev pub rel_step : Rel-F r.Rel → r.Rel
rel_step (Rel-F.Scan source) = r.Scan source
rel_step (Rel-F.Filter input condition) = r.Filter input (expr_view condition)
rel_step (Rel-F.Project input items) = r.Project input (exprs_view items)
rel_step (Rel-F.Union inputs) = r.Union (r.rels inputs)
rel_step (Rel-F.Group input keys aggs) = r.Group input keys aggs
rel_step (Rel-F.Join left right kind pairs rest) = r.Join left right kind pairs (option_map expr_view rest)
rel_step (Rel-F.Semi left right anti pairs rest) = r.Semi left right anti pairs (option_map expr_view rest)
rel_step (Rel-F.SetOp left right except all columns) = r.SetOp left right except all columns
rel_step (Rel-F.Rank input partition order bound ranked) = r.Rank input partition order bound ranked

unfoldable pub rel_view : Rel → r.Rel
rel_view = fold-Rel r.Rel rel_step

abbrev pub rels_view : List Rel → List r.Rel
rels_view = map rel_view
