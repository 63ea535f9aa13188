use Rattle.std.proofs.Common.{◌∙◌, ap}
use Rattle.indexmap.specs.IndexMap.{set_value_at}
use Rattle.mini_batch.proofs.Changes.{insert_new, on_err, on_ok, set_more, set_same}
use Rattle.mini_batch.proofs.bundle.add_change.Goals as goal

pub returns-in_err-push-clause-err : goal.returns-in_err-push-clause-err
returns-in_err-push-clause-err c =
    let entries = c.args.map.now.entries in
    on_err c.from_residual.result _
    (ap (set_value_at entries c.in-Some.place) c.in_err-push.ensures.err ∙ set_same entries c.in-Some.place c.index_mut-changes.result.now c.index_mut-changes.ensures.value)

pub returns-in-Some-clause-ok : goal.returns-in-Some-clause-ok
returns-in-Some-clause-ok c =
    let entries = c.args.map.now.entries in
    ap (set_value_at entries c.in-Some.place) c.in_ok-push.ensures.ok
    ∙ set_more c.args.key c.args.change entries c.in-Some.place c.index_mut-changes.result.now c.in-Some.ensures.index c.index_mut-changes.ensures.value

pub returns-clause-ok : goal.returns-clause-ok
returns-clause-ok c = on_ok c.begin.result (λ e. e ∙ insert_new c.args.key c.args.change c.args.map.now.entries c.in_default.ensures.index) c.begin.ensures.ok
