-- What the view of each variant of a tree is.
use Rattle.std.proofs.Common.{◌≡◌, ℕ, Bool, List, Option, sym, ap, ◌∙◌}
use Rattle.std.specs.Prelude.{option_map}
use Rattle.ct_expr.specs.declared.expr.Expr.{Expr}
use Rattle.ct_expr.specs.View.{expr_view, exprs_view}
use Rattle.rel_algebra.specs.declared.agg.Agg.{Agg}
use Rattle.rel_algebra.specs.declared.join.JoinKind.{JoinKind}
use Rattle.rel_algebra.specs.declared.join.Pair.{Pair}
use Rattle.rel_algebra.specs.declared.sort.SortCol.{SortCol}
use Rattle.rel_algebra.specs.declared.rel.Rel.{Rel}
use Rattle.rel_algebra.specs.declared.rel.Rel.TheVariants as v
use Rattle.rel_algebra.specs.declared.rel.Rel.TheOpen.{Rel-F}
use Rattle.rel_algebra.specs.declared.rel.Rel.TheFolds.{fold-roll-Rel}
use Rattle.rel_algebra.specs.Rel as r
use Rattle.rel_algebra.specs.View.{rel_step, rel_view, rels_view}

pub view_scan : (source : ℕ) → rel_view (v.Scan source) ≡ r.Scan source
unfolding rel_view
view_scan source = ap rel_view (sym (v.rolls-Scan source)) ∙ fold-roll-Rel r.Rel rel_step (Rel-F.Scan source)

pub view_filter : (input : Rel) (condition : Expr) → rel_view (v.Filter input condition) ≡ r.Filter (rel_view input) (expr_view condition)
unfolding rel_view
view_filter input condition = ap rel_view (sym (v.rolls-Filter input condition)) ∙ fold-roll-Rel r.Rel rel_step (Rel-F.Filter input condition)

pub view_project : (input : Rel) (items : List Expr) → rel_view (v.Project input items) ≡ r.Project (rel_view input) (exprs_view items)
unfolding rel_view
view_project input items = ap rel_view (sym (v.rolls-Project input items)) ∙ fold-roll-Rel r.Rel rel_step (Rel-F.Project input items)

pub view_union : (inputs : List Rel) → rel_view (v.Union inputs) ≡ r.Union (r.rels (rels_view inputs))
unfolding rel_view
view_union inputs = ap rel_view (sym (v.rolls-Union inputs)) ∙ fold-roll-Rel r.Rel rel_step (Rel-F.Union inputs)

pub view_group : (input : Rel) (keys : ℕ) (aggs : List Agg) → rel_view (v.Group input keys aggs) ≡ r.Group (rel_view input) keys aggs
unfolding rel_view
view_group input keys aggs = ap rel_view (sym (v.rolls-Group input keys aggs)) ∙ fold-roll-Rel r.Rel rel_step (Rel-F.Group input keys aggs)

pub view_join : (left right : Rel) (kind : JoinKind) (pairs : List Pair) (rest : Option Expr) → rel_view (v.Join left right kind pairs rest) ≡ r.Join (rel_view left) (rel_view right) kind pairs (option_map expr_view rest)
unfolding rel_view
view_join left right kind pairs rest = ap rel_view (sym (v.rolls-Join left right kind pairs rest)) ∙ fold-roll-Rel r.Rel rel_step (Rel-F.Join left right kind pairs rest)

pub view_semi : (left right : Rel) (anti : Bool) (pairs : List Pair) (rest : Option Expr) → rel_view (v.Semi left right anti pairs rest) ≡ r.Semi (rel_view left) (rel_view right) anti pairs (option_map expr_view rest)
unfolding rel_view
view_semi left right anti pairs rest = ap rel_view (sym (v.rolls-Semi left right anti pairs rest)) ∙ fold-roll-Rel r.Rel rel_step (Rel-F.Semi left right anti pairs rest)

pub view_set_op : (left right : Rel) (except all : Bool) (columns : ℕ) → rel_view (v.SetOp left right except all columns) ≡ r.SetOp (rel_view left) (rel_view right) except all columns
unfolding rel_view
view_set_op left right except all columns = ap rel_view (sym (v.rolls-SetOp left right except all columns)) ∙ fold-roll-Rel r.Rel rel_step (Rel-F.SetOp left right except all columns)

pub view_rank : (input : Rel) (partition : List ℕ) (order : List SortCol) (bound : ℕ) (ranked : Bool) → rel_view (v.Rank input partition order bound ranked) ≡ r.Rank (rel_view input) partition order bound ranked
unfolding rel_view
view_rank input partition order bound ranked = ap rel_view (sym (v.rolls-Rank input partition order bound ranked)) ∙ fold-roll-Rel r.Rel rel_step (Rel-F.Rank input partition order bound ranked)
