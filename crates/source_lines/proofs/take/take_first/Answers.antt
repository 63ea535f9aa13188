use Rattle.std.proofs.Common.{◌<◌, ◌≤◌, length, sym, arith}
use Rattle.std.proofs.lemmas.Result.{err_from_is_err_and}
use Rattle.source_lines.specs.Taken.{first_of}
use Rattle.source_lines.proofs.Going.{first_count, going_end, going_next, going_refused, going_start}
use Rattle.source_lines.proofs.take.take_first.Goals as goal

pub line-init : goal.line-init
line-init c = λ taken stand. going_start c.args.sources.now (first_of c.args.first c.args.file) c.args.file taken c.first_lines-count.result _ (c.first_lines-count.ensures.same c.args.file (sym c.left.ensures)) stand

pub returns-in_err-take_next-clause-refused : goal.returns-in_err-take_next-clause-refused
returns-in_err-take_next-clause-refused c =
    let file = first_of c.args.first c.args.file in
    let all = first_count file c.args.file c.left.result c.first_lines-count.result (c.first_lines-count.ensures.same c.args.file (sym c.left.ensures)) c.left.ensures c.first_lines-count.ensures.within in
    let below : c.line._line < length file.records = omega (arith, all, c.line-test.true) in
    let p = err_from_is_err_and c.from_residual.result c.from_residual.ensures.1 in
    rw (p.1, p.2) (λ taken stand. going_refused c.args.sources.now file taken c.line._line _ _ _ (c.line.invariant taken stand) below c.in_err-take_next.ensures.refused)

pub line-preserved : goal.line-preserved
line-preserved c = λ taken stand.
    let file = first_of c.args.first c.args.file in
    let all = first_count file c.args.file c.left.result c.first_lines-count.result (c.first_lines-count.ensures.same c.args.file (sym c.left.ensures)) c.left.ensures c.first_lines-count.ensures.within in
    let below : c.line._line < length file.records = omega (arith, all, c.line-test.true) in
    going_next c.args.sources.now file taken c.line._line _ _ _ _ (c.line.invariant taken stand) below c.in_ok-take_next.ensures.ok

pub returns-clause-ok : goal.returns-clause-ok
returns-clause-ok c = λ taken stand.
    let file = first_of c.args.first c.args.file in
    let all = first_count file c.args.file c.left.result c.first_lines-count.result (c.first_lines-count.ensures.same c.args.file (sym c.left.ensures)) c.left.ensures c.first_lines-count.ensures.within in
    let past : length file.records ≤ c.line._line = omega (arith, all, c.line-test.false) in
    let within : c.line._line ≤ 4294967295 = omega arith in
    going_end c.args.sources.now file taken c.line._line _ _ (c.line.invariant taken stand) past within
