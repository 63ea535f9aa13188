use Rattle.std.proofs.Common.{sym, ◌∙◌, None}
use Rattle.job_stream.proofs.Ordered.{order_refused, order_begins}
use Rattle.job_stream.specs.Parts.{order_run, verb_run}
use Rattle.job_stream.specs.Writing.{nothing}
use Rattle.job_stream.proofs.Going.{ahead_same, halts_same}
use Rattle.job_stream.proofs.Results.{err_weaker, ok_weaker}
use Rattle.job_stream.proofs.orders.follow_one.Goals as goal

pub returns-in-Some-clause-halts : goal.returns-in-Some-clause-halts
returns-in-Some-clause-halts g c = λ plan limit p is same stands.
    order_refused c.args.sheet.now plan limit p _ c.args.order.now c.in-Some.code (sym c.in-Some.is ∙ c.refusal.ensures c.args.sources.now plan limit p is same stands)

pub returns-in-None-clause-ok : goal.returns-in-None-clause-ok
returns-in-None-clause-ok g c = ok_weaker c.act.result c.act.ensures.ok (λ next acted plan limit p is same stands.
    let sheet = c.args.sheet.now in
    let by = sheet.by_table in
    let order = c.args.order.now in
    let begins = order_begins sheet plan limit p (record { written = None; faults = 0 }) order (sym c.in-None.is ∙ c.refusal.ensures c.args.sources.now plan limit p is same stands) in
    ahead_same sheet plan limit (verb_run order.verb by plan limit p) (order_run order by plan limit p) (nothing by plan limit) p next c.act.new.files.items _ _ begins (acted plan limit p is same stands))

pub returns-in-None-clause-halts : goal.returns-in-None-clause-halts
returns-in-None-clause-halts g c = err_weaker c.act.result c.act.ensures.halts (λ halt acted plan limit p is same stands.
    let sheet = c.args.sheet.now in
    let by = sheet.by_table in
    let order = c.args.order.now in
    let begins = order_begins sheet plan limit p (record { written = None; faults = 0 }) order (sym c.in-None.is ∙ c.refusal.ensures c.args.sources.now plan limit p is same stands) in
    halts_same sheet (verb_run order.verb by plan limit p) (order_run order by plan limit p) p _ _ halt begins (acted plan limit p is same stands))
