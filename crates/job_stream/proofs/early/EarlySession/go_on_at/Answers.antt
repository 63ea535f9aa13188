use Rattle.std.proofs.Common.{◌≡◌, ◌<◌, Some, length, slice_get, ap, sym, ◌∙◌, arith}
use Rattle.std.proofs.lemmas.Option.{slice_get-get_or}
use Rattle.plan_rules.specs.Doings.{network}
use Rattle.stream_model.specs.Drain.{stages}
use Rattle.job_stream.specs.declared.early.EarlyStage.{EarlyStage}
use Rattle.job_stream.proofs.EarlyRuns.{all_stages}
use Rattle.job_stream.proofs.early.EarlySession.go_on_at.Goals as goal

pub stage-requires : goal.stage-requires
stage-requires g c =
    let r = c.requires.ready in
    let here = r.5 in
    let all = all_stages c.args.sheet.now r.0 r.2 r.3 r.4 c.args.self r.1 here in
    let within = c.requires.within in
    let below : c.args.number < length (stages (network r.2)) = omega (arith, all, within) in
    (r.2, r.3, here.state.printed, here.stands.stands.items, here.stands.stands.stands, below)

pub deliver_early-requires-clause-early : goal.deliver_early-requires-clause-early
deliver_early-requires-clause-early g c = λ stage at.
    let items = c.args.self.stages.items in
    let kept = c.index.result.now in
    let there : slice_get items c.args.number ≡ Some kept = slice_get-get_or items c.args.number kept c.requires.within ∙ ap Some (sym c.index.ensures) in
    let both : Some stage ≡ Some kept = sym at ∙ there in
    let same : stage ≡ kept = cc (both) in
    ap (λ (x : EarlyStage). x.early) same ∙ c.if-not-index.false
