-- The view of a node over the trees that its boxes hold.
use Rattle.std.proofs.Common.{◌≡◌, ℕ, Bool, List, Option, ap, sym, ◌∙◌}
use Rattle.std.specs.Prelude.{option_map}
use Rattle.ct_expr.specs.declared.expr.Expr.{Expr}
use Rattle.ct_expr.specs.View.{expr_view, exprs_view}
use Rattle.rel_algebra.specs.declared.agg.Agg.{Agg}
use Rattle.rel_algebra.specs.declared.join.JoinKind.{JoinKind}
use Rattle.rel_algebra.specs.declared.join.Pair.{Pair}
use Rattle.rel_algebra.specs.declared.sort.SortCol.{SortCol}
use Rattle.rel_algebra.specs.declared.rel.Rel.{Rel as Tree}
use Rattle.rel_algebra.specs.declared.rel.Rel.TheVariants as v
use Rattle.rel_algebra.specs.Rel as r
use Rattle.rel_algebra.specs.View.{rel_view}
use Rattle.rel_algebra.proofs.laws.Views.{view_project, view_group, view_rank, view_join, view_semi, view_set_op}

module _ (rel : Tree) (held : Tree) (input : Tree) (is : input ≡ held) where
  pub project-view : (items : List Expr) → rel ≡ v.Project held items → rel_view rel ≡ r.Project (rel_view input) (exprs_view items)
  project-view items e = ap rel_view e ∙ view_project held items ∙ ap (λ (t : Tree). r.Project (rel_view t) (exprs_view items)) (sym is)

  pub group-view : (keys : ℕ) (aggs : List Agg) → rel ≡ v.Group held keys aggs → rel_view rel ≡ r.Group (rel_view input) keys aggs
  group-view keys aggs e = ap rel_view e ∙ view_group held keys aggs ∙ ap (λ (t : Tree). r.Group (rel_view t) keys aggs) (sym is)

  pub rank-view : (partition : List ℕ) (order : List SortCol) (bound : ℕ) (ranked : Bool) → rel ≡ v.Rank held partition order bound ranked → rel_view rel ≡ r.Rank (rel_view input) partition order bound ranked
  rank-view partition order bound ranked e = ap rel_view e ∙ view_rank held partition order bound ranked ∙ ap (λ (t : Tree). r.Rank (rel_view t) partition order bound ranked) (sym is)

  pub set-view : (held_right : Tree) (right : Tree) → right ≡ held_right → (except all : Bool) (columns : ℕ) → rel ≡ v.SetOp held held_right except all columns → rel_view rel ≡ r.SetOp (rel_view input) (rel_view right) except all columns
  set-view held_right right is_right except all columns e =
      ap rel_view e ∙ view_set_op held held_right except all columns
      ∙ ap (λ (t : Tree). r.SetOp (rel_view t) (rel_view held_right) except all columns) (sym is)
      ∙ ap (λ (t : Tree). r.SetOp (rel_view input) (rel_view t) except all columns) (sym is_right)

  module _ (held_right : Tree) (right : Tree) (is_right : right ≡ held_right) (pairs : List Pair) (rest : Option Expr) where
    pub join-view : (kind : JoinKind) → rel ≡ v.Join held held_right kind pairs rest → rel_view rel ≡ r.Join (rel_view input) (rel_view right) kind pairs (option_map expr_view rest)
    join-view kind e =
        ap rel_view e ∙ view_join held held_right kind pairs rest
        ∙ ap (λ (t : Tree). r.Join (rel_view t) (rel_view held_right) kind pairs (option_map expr_view rest)) (sym is)
        ∙ ap (λ (t : Tree). r.Join (rel_view input) (rel_view t) kind pairs (option_map expr_view rest)) (sym is_right)

    pub semi-view : (anti : Bool) → rel ≡ v.Semi held held_right anti pairs rest → rel_view rel ≡ r.Semi (rel_view input) (rel_view right) anti pairs (option_map expr_view rest)
    semi-view anti e =
        ap rel_view e ∙ view_semi held held_right anti pairs rest
        ∙ ap (λ (t : Tree). r.Semi (rel_view t) (rel_view held_right) anti pairs (option_map expr_view rest)) (sym is)
        ∙ ap (λ (t : Tree). r.Semi (rel_view input) (rel_view t) anti pairs (option_map expr_view rest)) (sym is_right)
