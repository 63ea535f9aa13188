use Rattle.std.proofs.Common.{ap, ◌∙◌, sym}
use Rattle.plan_rules.specs.Doings.{network}
use Rattle.stream_model.specs.declared.events.Event.TheVariants.{Flush}
use Rattle.stream_model.specs.Runs.{happens}
use Rattle.job_stream.specs.Parts.{drain_run, item_run, moves_run, verb_run, named_run}
use Rattle.job_stream.proofs.Along.{along_one}
use Rattle.job_stream.proofs.Going.{halts_same, ahead_same}
use Rattle.job_stream.proofs.Results.{err_weaker, ok_weaker}
use Rattle.job_stream.specs.Writing.{nothing}
use Rattle.job_stream.proofs.orders.act.Goals as goal

pub returns-in-Move-clause-halts : goal.returns-in-Move-clause-halts
returns-in-Move-clause-halts g c = err_weaker c.move_all.result c.move_all.ensures.halts (λ halt moved plan limit p is same stands.
    let by = c.args.sheet.now.by_table in
    let m = c.in-Move in
    halts_same c.args.sheet.now (moves_run m.edge m.from m.to m.count by plan limit p) (verb_run c.args.verb by plan limit p) p _ _ halt (ap (λ v. verb_run v by plan limit p) m.is) (moved c.args.sources.now c.args.files.now.items plan limit p is same stands))

pub returns-in-Flush-clause-halts : goal.returns-in-Flush-clause-halts
returns-in-Flush-clause-halts g c = err_weaker c.go_step.result c.go_step.ensures.halts (λ halt flushed plan limit p is same stands.
    let by = c.args.sheet.now.by_table in
    let item = happens (Flush c.in-Flush.node c.in-Flush.subtask) in
    halts_same c.args.sheet.now (item_run item by plan limit p) (verb_run c.args.verb by plan limit p) p _ _ halt (ap (λ v. verb_run v by plan limit p) c.in-Flush.is ∙ along_one (network plan) limit plan.sources by p item)
    (flushed c.args.sources.now c.args.files.now.items plan limit p is same stands))

pub returns-in-Drain-clause-halts : goal.returns-in-Drain-clause-halts
returns-in-Drain-clause-halts g c = err_weaker c.drain.result c.drain.ensures.halts (λ halt drained plan limit p is same stands.
    let by = c.args.sheet.now.by_table in
    halts_same c.args.sheet.now (drain_run by plan limit p) (verb_run c.args.verb by plan limit p) p _ _ halt (ap (λ v. verb_run v by plan limit p) c.in-Drain.is) (drained c.args.sources.now c.args.files.now.items plan limit p is same stands))

pub returns-in-Take-clause-ok : goal.returns-in-Take-clause-ok
returns-in-Take-clause-ok g c = ok_weaker c.take_named.result c.take_named.ensures.ok (λ next took plan limit p is same stands.
    let by = c.args.sheet.now.by_table in
    let t = c.in-Take in
    ahead_same c.args.sheet.now plan limit (named_run c.file_named-place.result t.count by plan limit p) (verb_run c.args.verb by plan limit p) (nothing by plan limit) p next c.take_named.new.files.items _ _
    (ap (λ v. verb_run v by plan limit p) t.is ∙ ap (λ place. named_run place t.count by plan limit p) (sym c.file_named-place.ensures)) (took c.args.sheet.now _ plan limit p is same stands))

pub returns-in-Take-clause-halts : goal.returns-in-Take-clause-halts
returns-in-Take-clause-halts g c = err_weaker c.take_named.result c.take_named.ensures.halts (λ halt took plan limit p is same stands.
    let by = c.args.sheet.now.by_table in
    let t = c.in-Take in
    halts_same c.args.sheet.now (named_run c.file_named-place.result t.count by plan limit p) (verb_run c.args.verb by plan limit p) p _ _ halt
    (ap (λ v. verb_run v by plan limit p) t.is ∙ ap (λ place. named_run place t.count by plan limit p) (sym c.file_named-place.ensures)) (took c.args.sheet.now _ plan limit p is same stands))

pub returns-in-Move-clause-ok : goal.returns-in-Move-clause-ok
returns-in-Move-clause-ok g c = ok_weaker c.move_all.result c.move_all.ensures.ok (λ next moved plan limit p is same stands.
    let by = c.args.sheet.now.by_table in
    let m = c.in-Move in
    ahead_same c.args.sheet.now plan limit (moves_run m.edge m.from m.to m.count by plan limit p) (verb_run c.args.verb by plan limit p) (nothing by plan limit) p next c.args.files.now.items _ _
    (ap (λ v. verb_run v by plan limit p) m.is) (moved c.args.sources.now c.args.files.now.items plan limit p is same stands))

pub returns-in-Flush-clause-ok : goal.returns-in-Flush-clause-ok
returns-in-Flush-clause-ok g c = ok_weaker c.go_step.result c.go_step.ensures.ok (λ next flushed plan limit p is same stands.
    let by = c.args.sheet.now.by_table in
    let item = happens (Flush c.in-Flush.node c.in-Flush.subtask) in
    ahead_same c.args.sheet.now plan limit (item_run item by plan limit p) (verb_run c.args.verb by plan limit p) (nothing by plan limit) p next c.args.files.now.items _ _
    (ap (λ v. verb_run v by plan limit p) c.in-Flush.is ∙ along_one (network plan) limit plan.sources by p item) (flushed c.args.sources.now c.args.files.now.items plan limit p is same stands))

pub returns-in-Drain-clause-ok : goal.returns-in-Drain-clause-ok
returns-in-Drain-clause-ok g c = ok_weaker c.drain.result c.drain.ensures.ok (λ next drained plan limit p is same stands.
    let by = c.args.sheet.now.by_table in
    ahead_same c.args.sheet.now plan limit (drain_run by plan limit p) (verb_run c.args.verb by plan limit p) (nothing by plan limit) p next c.args.files.now.items _ _
    (ap (λ v. verb_run v by plan limit p) c.in-Drain.is) (drained c.args.sources.now c.args.files.now.items plan limit p is same stands))
