use Rattle.std.proofs.Common.{ap}
use Rattle.job_stream.specs.Parts.{lines_run, named_run}
use Rattle.job_stream.specs.Writing.{nothing}
use Rattle.job_stream.proofs.Going.{ahead_same, ahead_start, halts_same}
use Rattle.job_stream.proofs.Results.{err_weaker, ok_weaker}
use Rattle.job_stream.proofs.orders.take_named.Goals as goal

pub returns-in-Some-clause-ok : goal.returns-in-Some-clause-ok
returns-in-Some-clause-ok g c = ok_weaker c.take_many.result c.take_many.ensures.ok (λ next took sheet at plan limit p is same stands.
    let by = sheet.by_table in
    let count = c.args.count in
    ahead_same sheet plan limit (lines_run c.in-Some.place count by plan limit p) (named_run c.args.place count by plan limit p) (nothing by plan limit) p next c.take_many.new.files.items at at
    (ap (λ q. named_run q count by plan limit p) c.in-Some.is) (took sheet at plan limit p is same stands))

pub returns-in-Some-clause-halts : goal.returns-in-Some-clause-halts
returns-in-Some-clause-halts g c = err_weaker c.take_many.result c.take_many.ensures.halts (λ halt took sheet at plan limit p is same stands.
    let by = sheet.by_table in
    let count = c.args.count in
    halts_same sheet (lines_run c.in-Some.place count by plan limit p) (named_run c.args.place count by plan limit p) p at at halt (ap (λ q. named_run q count by plan limit p) c.in-Some.is) (took sheet at plan limit p is same stands))

pub returns-in-None-clause-ok : goal.returns-in-None-clause-ok
returns-in-None-clause-ok g c = λ sheet at plan limit p is same stands.
    let by = sheet.by_table in
    let count = c.args.count in
    ahead_start sheet plan limit (named_run c.args.place count by plan limit p) (nothing by plan limit) p c.args.session c.args.files.now.items at (ap (λ q. named_run q count by plan limit p) c.in-None.is) stands
