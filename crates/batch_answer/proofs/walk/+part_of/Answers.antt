use Rattle.std.proofs.Common.{rules, ◌≡◌, ◌+◌, List, Some, refl, sym, ap, subst}
use Rattle.std.specs.Prelude.{IsErrOf, option_map}
use Rattle.std.proofs.lemmas.Result.{IfOk-weaker}
use Rattle.ct_expr.specs.View.{expr_view, exprs_view}
use Rattle.ct_expr.specs.declared.evaluate.EvalFault.{EvalFault}
use Rattle.ct_change.specs.Changelog.{Rows}
use Rattle.rel_algebra.specs.Sums.{together}
use Rattle.rel_algebra.specs.declared.rel.Rel.{Rel as Tree}
use Rattle.rel_algebra.specs.Rel.{project_on, group_by, rank_in, join_on, semi_on, set_by, Rel, Union, Project, Group, Join, Semi, SetOp, Rank, rels}
use Rattle.rel_algebra.specs.View.{rel_view, rels_view}
use Rattle.batch_answer.specs.Tallies.{Unfit}
use Rattle.batch_answer.specs.Parts.{IsFew, IsPart, IsAnswered, IsLost}
use Rattle.batch_answer.specs.Tables.{tables_of}
use Rattle.batch_answer.proofs.Inputs.{from, from_more, from_end, inputs-start, input-typed, input-lost, sum-lost, inputs-turn, inputs-end}
use Rattle.batch_answer.proofs.Makings.{node-lost, left-node-lost, right-node-lost}
use Rattle.batch_answer.proofs.Views.{project-view, group-view, rank-view, join-view, semi-view, set-view}
use Rattle.batch_answer.proofs.walk.+part_of.Goals as goal

pub part_of-returns-in_err-part-in-Project-clause-out : goal.part_of-returns-in_err-part-in-Project-clause-out
part_of-returns-in_err-part-in-Project-clause-out t c =
    let tables = tables_of c.args.types.now c.args.tables.now in
    let input : Tree = c.deref-in-Project.result.now in
    let node : Rel = Project (rel_view input) (exprs_view c.in-Project.items) in
    let view : rel_view c.args.rel.now ≡ node = project-view c.args.rel.now c.in-Project.input input c.deref-in-Project.ensures c.in-Project.items c.in-Project.is in
    let lost : IsErrOf c.from_residual-in_err-part-in-Project.result EvalFault.Out → IsLost tables (rel_view input) = search rules in
    λ e. subst (λ (rel : Rel). IsLost tables rel) (sym view) (node-lost (project_on (exprs_view c.in-Project.items)) tables (rel_view input) (lost e))

pub part_of-returns-in_ok-part-in-Project-clause-value : goal.part_of-returns-in_ok-part-in-Project-clause-value
part_of-returns-in_ok-part-in-Project-clause-value t c =
    let tables = tables_of c.args.types.now c.args.tables.now in
    let input : Tree = c.deref-in-Project.result.now in
    let node : Rel = Project (rel_view input) (exprs_view c.in-Project.items) in
    let view : rel_view c.args.rel.now ≡ node = project-view c.args.rel.now c.in-Project.input input c.deref-in-Project.ensures c.in-Project.items c.in-Project.is in
    let asked : IsAnswered tables (rel_view input) c.in_ok-part-in-Project.part.columns c.in_ok-part-in-Project.part.rows = c.in_ok-part-in-Project.ensures.value in
    IfOk-weaker c.project_part.result _ _ (λ part makes. subst (λ (rel : Rel). IsAnswered tables rel part.columns part.rows) (sym view) (makes tables (rel_view input) asked)) c.project_part.ensures.value

pub part_of-returns-in_err-part-in-Group-clause-out : goal.part_of-returns-in_err-part-in-Group-clause-out
part_of-returns-in_err-part-in-Group-clause-out t c =
    let tables = tables_of c.args.types.now c.args.tables.now in
    let input : Tree = c.deref-in-Group.result.now in
    let node : Rel = Group (rel_view input) c.in-Group.keys c.in-Group.aggs in
    let view : rel_view c.args.rel.now ≡ node = group-view c.args.rel.now c.in-Group.input input c.deref-in-Group.ensures c.in-Group.keys c.in-Group.aggs c.in-Group.is in
    let lost : IsErrOf c.from_residual-in_err-part-in-Group.result EvalFault.Out → IsLost tables (rel_view input) = search rules in
    λ e. subst (λ (rel : Rel). IsLost tables rel) (sym view) (node-lost (group_by c.in-Group.keys c.in-Group.aggs) tables (rel_view input) (lost e))

pub part_of-returns-in_ok-part-in-Group-clause-value : goal.part_of-returns-in_ok-part-in-Group-clause-value
part_of-returns-in_ok-part-in-Group-clause-value t c =
    let tables = tables_of c.args.types.now c.args.tables.now in
    let input : Tree = c.deref-in-Group.result.now in
    let node : Rel = Group (rel_view input) c.in-Group.keys c.in-Group.aggs in
    let view : rel_view c.args.rel.now ≡ node = group-view c.args.rel.now c.in-Group.input input c.deref-in-Group.ensures c.in-Group.keys c.in-Group.aggs c.in-Group.is in
    let asked : IsAnswered tables (rel_view input) c.in_ok-part-in-Group.part.columns c.in_ok-part-in-Group.part.rows = c.in_ok-part-in-Group.ensures.value in
    IfOk-weaker c.group_part.result _ _ (λ part makes. subst (λ (rel : Rel). IsAnswered tables rel part.columns part.rows) (sym view) (makes tables (rel_view input) asked)) c.group_part.ensures.value

pub part_of-returns-in_ok-part-in-Group-clause-out : goal.part_of-returns-in_ok-part-in-Group-clause-out
part_of-returns-in_ok-part-in-Group-clause-out t c =
    let tables = tables_of c.args.types.now c.args.tables.now in
    let input : Tree = c.deref-in-Group.result.now in
    let node : Rel = Group (rel_view input) c.in-Group.keys c.in-Group.aggs in
    let view : rel_view c.args.rel.now ≡ node = group-view c.args.rel.now c.in-Group.input input c.deref-in-Group.ensures c.in-Group.keys c.in-Group.aggs c.in-Group.is in
    let asked : IsAnswered tables (rel_view input) c.in_ok-part-in-Group.part.columns c.in_ok-part-in-Group.part.rows = c.in_ok-part-in-Group.ensures.value in
    λ e. subst (λ (rel : Rel). IsLost tables rel) (sym view) (c.group_part.ensures.out e tables (rel_view input) asked)

pub part_of-returns-in_err-part-in-Rank-clause-out : goal.part_of-returns-in_err-part-in-Rank-clause-out
part_of-returns-in_err-part-in-Rank-clause-out t c =
    let tables = tables_of c.args.types.now c.args.tables.now in
    let input : Tree = c.deref-in-Rank.result.now in
    let node : Rel = Rank (rel_view input) c.in-Rank.partition c.in-Rank.order c.in-Rank.bound c.in-Rank.ranked in
    let view : rel_view c.args.rel.now ≡ node = rank-view c.args.rel.now c.in-Rank.input input c.deref-in-Rank.ensures c.in-Rank.partition c.in-Rank.order c.in-Rank.bound c.in-Rank.ranked c.in-Rank.is in
    let lost : IsErrOf c.from_residual-in_err-part-in-Rank.result EvalFault.Out → IsLost tables (rel_view input) = search rules in
    λ e. subst (λ (rel : Rel). IsLost tables rel) (sym view) (node-lost (rank_in c.in-Rank.partition c.in-Rank.order c.in-Rank.bound c.in-Rank.ranked) tables (rel_view input) (lost e))

pub part_of-returns-in_ok-part-in-Rank-clause-value : goal.part_of-returns-in_ok-part-in-Rank-clause-value
part_of-returns-in_ok-part-in-Rank-clause-value t c =
    let tables = tables_of c.args.types.now c.args.tables.now in
    let input : Tree = c.deref-in-Rank.result.now in
    let node : Rel = Rank (rel_view input) c.in-Rank.partition c.in-Rank.order c.in-Rank.bound c.in-Rank.ranked in
    let view : rel_view c.args.rel.now ≡ node = rank-view c.args.rel.now c.in-Rank.input input c.deref-in-Rank.ensures c.in-Rank.partition c.in-Rank.order c.in-Rank.bound c.in-Rank.ranked c.in-Rank.is in
    let asked : IsAnswered tables (rel_view input) c.in_ok-part-in-Rank.part.columns c.in_ok-part-in-Rank.part.rows = c.in_ok-part-in-Rank.ensures.value in
    IfOk-weaker c.rank_part.result _ _ (λ part makes. subst (λ (rel : Rel). IsAnswered tables rel part.columns part.rows) (sym view) (makes tables (rel_view input) asked)) c.rank_part.ensures.value

pub part_of-returns-in_ok-part-in-Rank-clause-out : goal.part_of-returns-in_ok-part-in-Rank-clause-out
part_of-returns-in_ok-part-in-Rank-clause-out t c =
    let tables = tables_of c.args.types.now c.args.tables.now in
    let input : Tree = c.deref-in-Rank.result.now in
    let node : Rel = Rank (rel_view input) c.in-Rank.partition c.in-Rank.order c.in-Rank.bound c.in-Rank.ranked in
    let view : rel_view c.args.rel.now ≡ node = rank-view c.args.rel.now c.in-Rank.input input c.deref-in-Rank.ensures c.in-Rank.partition c.in-Rank.order c.in-Rank.bound c.in-Rank.ranked c.in-Rank.is in
    let asked : IsAnswered tables (rel_view input) c.in_ok-part-in-Rank.part.columns c.in_ok-part-in-Rank.part.rows = c.in_ok-part-in-Rank.ensures.value in
    λ e. subst (λ (rel : Rel). IsLost tables rel) (sym view) (c.rank_part.ensures.out e tables (rel_view input) asked)

pub part_of-returns-in_err-left-in-Join-clause-out : goal.part_of-returns-in_err-left-in-Join-clause-out
part_of-returns-in_err-left-in-Join-clause-out t c =
    let tables = tables_of c.args.types.now c.args.tables.now in
    let left : Tree = c.deref-in-Join.result.now in
    let right : Tree = c.in-Join.right in
    let node : Rel = Join (rel_view left) (rel_view right) c.in-Join.kind c.in-Join.on (option_map expr_view c.in-Join.rest) in
    let view : rel_view c.args.rel.now ≡ node = join-view c.args.rel.now c.in-Join.left left c.deref-in-Join.ensures c.in-Join.right right refl c.in-Join.on c.in-Join.rest c.in-Join.kind c.in-Join.is in
    let lost : IsErrOf c.from_residual-in_err-left-in-Join.result EvalFault.Out → IsLost tables (rel_view left) = search rules in
    λ e. subst (λ (rel : Rel). IsLost tables rel) (sym view) (left-node-lost (join_on c.in-Join.kind c.in-Join.on (option_map expr_view c.in-Join.rest)) tables (rel_view left) (rel_view right) (lost e))

pub part_of-returns-in_err-right-in-Join-clause-out : goal.part_of-returns-in_err-right-in-Join-clause-out
part_of-returns-in_err-right-in-Join-clause-out t c =
    let tables = tables_of c.args.types.now c.args.tables.now in
    let left : Tree = c.deref-in-Join.result.now in
    let right : Tree = c.deref-in-Join-2.result.now in
    let node : Rel = Join (rel_view left) (rel_view right) c.in-Join.kind c.in-Join.on (option_map expr_view c.in-Join.rest) in
    let view : rel_view c.args.rel.now ≡ node = join-view c.args.rel.now c.in-Join.left left c.deref-in-Join.ensures c.in-Join.right right c.deref-in-Join-2.ensures c.in-Join.on c.in-Join.rest c.in-Join.kind c.in-Join.is in
    let lost : IsErrOf c.from_residual-in_err-right-in-Join.result EvalFault.Out → IsLost tables (rel_view right) = search rules in
    λ e. subst (λ (rel : Rel). IsLost tables rel) (sym view) (right-node-lost (join_on c.in-Join.kind c.in-Join.on (option_map expr_view c.in-Join.rest)) tables (rel_view left) (rel_view right) (lost e))

pub part_of-returns-in_ok-right-in-Join-clause-value : goal.part_of-returns-in_ok-right-in-Join-clause-value
part_of-returns-in_ok-right-in-Join-clause-value t c =
    let tables = tables_of c.args.types.now c.args.tables.now in
    let left : Tree = c.deref-in-Join.result.now in
    let right : Tree = c.deref-in-Join-2.result.now in
    let node : Rel = Join (rel_view left) (rel_view right) c.in-Join.kind c.in-Join.on (option_map expr_view c.in-Join.rest) in
    let view : rel_view c.args.rel.now ≡ node = join-view c.args.rel.now c.in-Join.left left c.deref-in-Join.ensures c.in-Join.right right c.deref-in-Join-2.ensures c.in-Join.on c.in-Join.rest c.in-Join.kind c.in-Join.is in
    IfOk-weaker c.join_part.result _ _ (λ part makes. subst (λ (rel : Rel). IsAnswered tables rel part.columns part.rows) (sym view) (makes tables (rel_view left) (rel_view right) c.in_ok-left-in-Join.ensures.value c.in_ok-right-in-Join.ensures.value)) c.join_part.ensures.value

pub part_of-returns-in_ok-right-in-Join-clause-out : goal.part_of-returns-in_ok-right-in-Join-clause-out
part_of-returns-in_ok-right-in-Join-clause-out t c =
    let tables = tables_of c.args.types.now c.args.tables.now in
    let left : Tree = c.deref-in-Join.result.now in
    let right : Tree = c.deref-in-Join-2.result.now in
    let node : Rel = Join (rel_view left) (rel_view right) c.in-Join.kind c.in-Join.on (option_map expr_view c.in-Join.rest) in
    let view : rel_view c.args.rel.now ≡ node = join-view c.args.rel.now c.in-Join.left left c.deref-in-Join.ensures c.in-Join.right right c.deref-in-Join-2.ensures c.in-Join.on c.in-Join.rest c.in-Join.kind c.in-Join.is in
    λ e. subst (λ (rel : Rel). IsLost tables rel) (sym view) (c.join_part.ensures.out e tables (rel_view left) (rel_view right) c.in_ok-left-in-Join.ensures.value c.in_ok-right-in-Join.ensures.value)

pub part_of-returns-in_err-right-in-Semi-clause-out : goal.part_of-returns-in_err-right-in-Semi-clause-out
part_of-returns-in_err-right-in-Semi-clause-out t c =
    let tables = tables_of c.args.types.now c.args.tables.now in
    let left : Tree = c.deref-in-Semi.result.now in
    let right : Tree = c.deref-in-Semi-2.result.now in
    let node : Rel = Semi (rel_view left) (rel_view right) c.in-Semi.anti c.in-Semi.on (option_map expr_view c.in-Semi.rest) in
    let view : rel_view c.args.rel.now ≡ node = semi-view c.args.rel.now c.in-Semi.left left c.deref-in-Semi.ensures c.in-Semi.right right c.deref-in-Semi-2.ensures c.in-Semi.on c.in-Semi.rest c.in-Semi.anti c.in-Semi.is in
    let lost : IsErrOf c.from_residual-in_err-right-in-Semi.result EvalFault.Out → IsLost tables (rel_view right) = search rules in
    λ e. subst (λ (rel : Rel). IsLost tables rel) (sym view) (right-node-lost (semi_on c.in-Semi.anti c.in-Semi.on (option_map expr_view c.in-Semi.rest)) tables (rel_view left) (rel_view right) (lost e))

pub part_of-returns-in_ok-right-in-Semi-clause-value : goal.part_of-returns-in_ok-right-in-Semi-clause-value
part_of-returns-in_ok-right-in-Semi-clause-value t c =
    let tables = tables_of c.args.types.now c.args.tables.now in
    let left : Tree = c.deref-in-Semi.result.now in
    let right : Tree = c.deref-in-Semi-2.result.now in
    let node : Rel = Semi (rel_view left) (rel_view right) c.in-Semi.anti c.in-Semi.on (option_map expr_view c.in-Semi.rest) in
    let view : rel_view c.args.rel.now ≡ node = semi-view c.args.rel.now c.in-Semi.left left c.deref-in-Semi.ensures c.in-Semi.right right c.deref-in-Semi-2.ensures c.in-Semi.on c.in-Semi.rest c.in-Semi.anti c.in-Semi.is in
    IfOk-weaker c.semi_part.result _ _ (λ part makes. subst (λ (rel : Rel). IsAnswered tables rel part.columns part.rows) (sym view) (makes tables (rel_view left) (rel_view right) c.in_ok-left-in-Semi.ensures.value c.in_ok-right-in-Semi.ensures.value)) c.semi_part.ensures.value

pub part_of-returns-in_ok-right-in-Semi-clause-out : goal.part_of-returns-in_ok-right-in-Semi-clause-out
part_of-returns-in_ok-right-in-Semi-clause-out t c =
    let tables = tables_of c.args.types.now c.args.tables.now in
    let left : Tree = c.deref-in-Semi.result.now in
    let right : Tree = c.deref-in-Semi-2.result.now in
    let node : Rel = Semi (rel_view left) (rel_view right) c.in-Semi.anti c.in-Semi.on (option_map expr_view c.in-Semi.rest) in
    let view : rel_view c.args.rel.now ≡ node = semi-view c.args.rel.now c.in-Semi.left left c.deref-in-Semi.ensures c.in-Semi.right right c.deref-in-Semi-2.ensures c.in-Semi.on c.in-Semi.rest c.in-Semi.anti c.in-Semi.is in
    λ e. subst (λ (rel : Rel). IsLost tables rel) (sym view) (c.semi_part.ensures.out e tables (rel_view left) (rel_view right) c.in_ok-left-in-Semi.ensures.value c.in_ok-right-in-Semi.ensures.value)

pub union_part-loop-input-init : goal.union_part-loop-input-init
union_part-loop-input-init t c = λ typed.
    inputs-start (tables_of c.args.types.now c.args.tables.now) (rels (rels_view c.args.inputs.now)) (from c.as_slice-input-items.result.now 0) c.new-rows.result
    (ap (λ (trees : List Tree). rels (rels_view trees)) c.as_slice-input-items.ensures) c.new-rows.ensures

pub union_part-returns-in_err-part-clause-out : goal.union_part-returns-in_err-part-clause-out
union_part-returns-in_err-part-clause-out t c =
    let tables = tables_of c.args.types.now c.args.tables.now in
    let whole = rels (rels_view c.args.inputs.now) in
    let inputs : List Tree = c.as_slice-input-items.result.now in
    let i = c.loop-input.input-index in
    let more = from_more inputs i c.input-item.result c.loop-input-test.true c.input-item.is in
    let lost : IsErrOf c.from_residual.result EvalFault.Out → IsLost tables (rel_view c.input-item.result) = search rules in
    λ e typed. let before = c.loop-input.invariant typed in
    input-lost tables whole (from inputs i) c.loop-input.columns c.loop-input.rows (rel_view c.input-item.result) (from inputs (i + 1)) before more
    (lost e (input-typed tables whole (from inputs i) c.loop-input.columns c.loop-input.rows (rel_view c.input-item.result) (from inputs (i + 1)) before more typed))

pub union_part-returns-in_err-rows-clause-out : goal.union_part-returns-in_err-rows-clause-out
union_part-returns-in_err-rows-clause-out t c =
    let tables = tables_of c.args.types.now c.args.tables.now in
    let whole = rels (rels_view c.args.inputs.now) in
    let inputs : List Tree = c.as_slice-input-items.result.now in
    let i = c.loop-input.input-index in
    let more = from_more inputs i c.input-item.result c.loop-input-test.true c.input-item.is in
    let out : IsErrOf c.from_residual-in_err-rows.result EvalFault.Out → Unfit (Some (together c.loop-input.rows c.in_ok-part.part.rows)) = search rules in
    λ e typed. let before = c.loop-input.invariant typed in
    let part = c.in_ok-part.ensures.value (input-typed tables whole (from inputs i) c.loop-input.columns c.loop-input.rows (rel_view c.input-item.result) (from inputs (i + 1)) before more typed) in
    sum-lost tables whole (from inputs i) c.loop-input.columns c.loop-input.rows (rel_view c.input-item.result) (from inputs (i + 1)) before more
    c.in_ok-part.part.columns c.in_ok-part.part.rows part (out e)

pub union_part-loop-input-preserved : goal.union_part-loop-input-preserved
union_part-loop-input-preserved t c =
    let tables = tables_of c.args.types.now c.args.tables.now in
    let whole = rels (rels_view c.args.inputs.now) in
    let inputs : List Tree = c.as_slice-input-items.result.now in
    let i = c.loop-input.input-index in
    let more = from_more inputs i c.input-item.result c.loop-input-test.true c.input-item.is in
    λ typed. let before = c.loop-input.invariant typed in
    let part = c.in_ok-part.ensures.value (input-typed tables whole (from inputs i) c.loop-input.columns c.loop-input.rows (rel_view c.input-item.result) (from inputs (i + 1)) before more typed) in
    inputs-turn tables whole (from inputs i) c.loop-input.columns c.loop-input.rows (rel_view c.input-item.result) (from inputs (i + 1)) before more
    c.in_ok-part.part.columns c.in_ok-part.part.rows part c.in_ok-common.common c.in_ok-rows.rows typed c.in_ok-common.ensures c.in_ok-rows.ensures.value

pub union_part-returns-clause-value : goal.union_part-returns-clause-value
union_part-returns-clause-value t c =
    let tables = tables_of c.args.types.now c.args.tables.now in
    let whole = rels (rels_view c.args.inputs.now) in
    let inputs : List Tree = c.as_slice-input-items.result.now in
    let i = c.loop-input.input-index in
    λ typed. subst (λ (rows : Rows). IsPart tables (Union whole) c.whole_part.result.columns rows) (sym c.whole_part.ensures.rows)
    (inputs-end tables whole (from inputs i) c.loop-input.columns c.loop-input.rows c.whole_part.result.columns (from_end inputs i c.loop-input-test.false) (c.loop-input.invariant typed) typed
    (subst (λ (rows : Rows). IsFew rows) c.whole_part.ensures.rows c.whole_part.ensures.few) c.whole_part.ensures.columns)

pub part_of-returns-in_err-left-in-SetOp-clause-out : goal.part_of-returns-in_err-left-in-SetOp-clause-out
part_of-returns-in_err-left-in-SetOp-clause-out t c =
    let tables = tables_of c.args.types.now c.args.tables.now in
    let left : Tree = c.deref-in-SetOp.result.now in
    let right : Tree = c.in-SetOp.right in
    let node : Rel = SetOp (rel_view left) (rel_view right) c.in-SetOp.except c.in-SetOp.all c.in-SetOp.columns in
    let view : rel_view c.args.rel.now ≡ node = set-view c.args.rel.now c.in-SetOp.left left c.deref-in-SetOp.ensures c.in-SetOp.right right refl c.in-SetOp.except c.in-SetOp.all c.in-SetOp.columns c.in-SetOp.is in
    let lost : IsErrOf c.from_residual-in_err-left-in-SetOp.result EvalFault.Out → IsLost tables (rel_view left) = search rules in
    λ e. subst (λ (rel : Rel). IsLost tables rel) (sym view) (left-node-lost (set_by c.in-SetOp.except c.in-SetOp.all c.in-SetOp.columns) tables (rel_view left) (rel_view right) (lost e))

pub part_of-returns-in_err-right-in-SetOp-clause-out : goal.part_of-returns-in_err-right-in-SetOp-clause-out
part_of-returns-in_err-right-in-SetOp-clause-out t c =
    let tables = tables_of c.args.types.now c.args.tables.now in
    let left : Tree = c.deref-in-SetOp.result.now in
    let right : Tree = c.deref-in-SetOp-2.result.now in
    let node : Rel = SetOp (rel_view left) (rel_view right) c.in-SetOp.except c.in-SetOp.all c.in-SetOp.columns in
    let view : rel_view c.args.rel.now ≡ node = set-view c.args.rel.now c.in-SetOp.left left c.deref-in-SetOp.ensures c.in-SetOp.right right c.deref-in-SetOp-2.ensures c.in-SetOp.except c.in-SetOp.all c.in-SetOp.columns c.in-SetOp.is in
    let lost : IsErrOf c.from_residual-in_err-right-in-SetOp.result EvalFault.Out → IsLost tables (rel_view right) = search rules in
    λ e. subst (λ (rel : Rel). IsLost tables rel) (sym view) (right-node-lost (set_by c.in-SetOp.except c.in-SetOp.all c.in-SetOp.columns) tables (rel_view left) (rel_view right) (lost e))

pub part_of-returns-in_ok-right-in-SetOp-clause-value : goal.part_of-returns-in_ok-right-in-SetOp-clause-value
part_of-returns-in_ok-right-in-SetOp-clause-value t c =
    let tables = tables_of c.args.types.now c.args.tables.now in
    let left : Tree = c.deref-in-SetOp.result.now in
    let right : Tree = c.deref-in-SetOp-2.result.now in
    let node : Rel = SetOp (rel_view left) (rel_view right) c.in-SetOp.except c.in-SetOp.all c.in-SetOp.columns in
    let view : rel_view c.args.rel.now ≡ node = set-view c.args.rel.now c.in-SetOp.left left c.deref-in-SetOp.ensures c.in-SetOp.right right c.deref-in-SetOp-2.ensures c.in-SetOp.except c.in-SetOp.all c.in-SetOp.columns c.in-SetOp.is in
    IfOk-weaker c.set_part.result _ _ (λ part makes. subst (λ (rel : Rel). IsAnswered tables rel part.columns part.rows) (sym view) (makes tables (rel_view left) (rel_view right) c.in_ok-left-in-SetOp.ensures.value c.in_ok-right-in-SetOp.ensures.value)) c.set_part.ensures.value

pub part_of-returns-in_ok-right-in-SetOp-clause-out : goal.part_of-returns-in_ok-right-in-SetOp-clause-out
part_of-returns-in_ok-right-in-SetOp-clause-out t c =
    let tables = tables_of c.args.types.now c.args.tables.now in
    let left : Tree = c.deref-in-SetOp.result.now in
    let right : Tree = c.deref-in-SetOp-2.result.now in
    let node : Rel = SetOp (rel_view left) (rel_view right) c.in-SetOp.except c.in-SetOp.all c.in-SetOp.columns in
    let view : rel_view c.args.rel.now ≡ node = set-view c.args.rel.now c.in-SetOp.left left c.deref-in-SetOp.ensures c.in-SetOp.right right c.deref-in-SetOp-2.ensures c.in-SetOp.except c.in-SetOp.all c.in-SetOp.columns c.in-SetOp.is in
    λ e. subst (λ (rel : Rel). IsLost tables rel) (sym view) (c.set_part.ensures.out e tables (rel_view left) (rel_view right) c.in_ok-left-in-SetOp.ensures.value c.in_ok-right-in-SetOp.ensures.value)
