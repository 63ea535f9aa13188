use Rattle.std.proofs.Common.{ap, option_map, sym, ◌∙◌}
use Rattle.ct_expr.specs.View.{expr_view, exprs_view}
use Rattle.rel_algebra.specs.Rel as r
use Rattle.rel_algebra.specs.Rel.{filter_by, project_on, group_by, rank_in, join_on, semi_on, set_by}
use Rattle.rel_algebra.specs.View.{rel_view}
use Rattle.rel_algebra.proofs.laws.Views.{view_filter, view_group, view_join, view_project, view_rank, view_semi, view_set_op}
use Rattle.plan_laying.proofs.steps.step_of.Goals as goal

pub returns-in_ok-filter-in-Filter : goal.returns-in_ok-filter-in-Filter
returns-in_ok-filter-in-Filter c = (filter_by (expr_view c.in-Filter.cond), rel_view c.in-Filter.input, ap rel_view c.in-Filter.is ∙ view_filter c.in-Filter.input c.in-Filter.cond, c.in_ok-filter-in-Filter.ensures)

pub returns-in_ok-project-in-Project : goal.returns-in_ok-project-in-Project
returns-in_ok-project-in-Project c = (project_on (exprs_view c.in-Project.items), rel_view c.in-Project.input, ap rel_view c.in-Project.is ∙ view_project c.in-Project.input c.in-Project.items, c.in_ok-project-in-Project.ensures)

pub returns-in_ok-group-in-Group : goal.returns-in_ok-group-in-Group
returns-in_ok-group-in-Group c =
    (group_by c.in-Group.keys c.in-Group.aggs, rel_view c.in-Group.input, ap rel_view c.in-Group.is ∙ view_group c.in-Group.input c.in-Group.keys c.in-Group.aggs, c.in_ok-group-in-Group.ensures)

pub returns-in_ok-rank-in-Rank : goal.returns-in_ok-rank-in-Rank
returns-in_ok-rank-in-Rank c = (
  rank_in c.in-Rank.partition c.in-Rank.order c.in-Rank.bound c.in-Rank.ranked,
  rel_view c.in-Rank.input,
  ap rel_view c.in-Rank.is ∙ view_rank c.in-Rank.input c.in-Rank.partition c.in-Rank.order c.in-Rank.bound c.in-Rank.ranked,
  c.in_ok-rank-in-Rank.ensures,
)

pub returns-in_ok-join-in-Join : goal.returns-in_ok-join-in-Join
returns-in_ok-join-in-Join c =
    let left = rel_view c.in-Join.left in
    let own = ap rel_view c.deref.ensures in (
      join_on c.in-Join.kind c.in-Join.on (option_map expr_view c.in-Join.rest),
      left,
      ap rel_view c.in-Join.is ∙ view_join c.in-Join.left c.in-Join.right c.in-Join.kind c.in-Join.on c.in-Join.rest ∙ (λ i. r.Join left (sym own i) c.in-Join.kind c.in-Join.on (option_map expr_view c.in-Join.rest)),
      c.in_ok-join-in-Join.ensures,
    )

pub returns-in_ok-semi-in-Semi : goal.returns-in_ok-semi-in-Semi
returns-in_ok-semi-in-Semi c =
    let left = rel_view c.in-Semi.left in
    let own = ap rel_view c.deref-in-Semi.ensures in (
      semi_on c.in-Semi.anti c.in-Semi.on (option_map expr_view c.in-Semi.rest),
      left,
      ap rel_view c.in-Semi.is ∙ view_semi c.in-Semi.left c.in-Semi.right c.in-Semi.anti c.in-Semi.on c.in-Semi.rest ∙ (λ i. r.Semi left (sym own i) c.in-Semi.anti c.in-Semi.on (option_map expr_view c.in-Semi.rest)),
      c.in_ok-semi-in-Semi.ensures,
    )

pub returns-in-SetOp : goal.returns-in-SetOp
returns-in-SetOp c =
    let left = rel_view c.in-SetOp.left in
    let own = ap rel_view c.deref-in-SetOp.ensures in (
      set_by c.in-SetOp.except c.in-SetOp.all c.in-SetOp.columns,
      left,
      ap rel_view c.in-SetOp.is ∙ view_set_op c.in-SetOp.left c.in-SetOp.right c.in-SetOp.except c.in-SetOp.all c.in-SetOp.columns ∙ (λ i. r.SetOp left (sym own i) c.in-SetOp.except c.in-SetOp.all c.in-SetOp.columns),
      c.set_operation.ensures,
    )
