use Rattle.std.proofs.Common.{◌≡◌, ◌<◌, [], length, refl, sym, append-nil, arith}
use Rattle.plan_rules.specs.Doings.{network}
use Rattle.stream_model.specs.Drain.{stages}
use Rattle.job_stream.proofs.EarlyRuns.{all_stages, drained_then, early_finished, stage_above}
use Rattle.job_stream.proofs.early.EarlySession.finish.Goals as goal

pub finish_at-requires : goal.finish_at-requires
finish_at-requires g c =
    let r = c.requires.ready in
    let sheet = c.args.sheet.now in
    let done = c.stages.invariant r.0 r.1 r.2 r.3 r.4 r.5 in
    let first = all_stages sheet r.0 r.2 r.3 r.4 c.args.self r.1 r.5 in
    let count = c.len-count.ensures in
    let own = c.args.self.stages.ok in
    let below : c.stages.number < length (stages (network r.2)) = omega (arith, first, count, own, c.stages-test.true) in
    record { ready = (r.0, r.1, r.2, r.3, done.place, done.early); within = stage_above sheet r.0 r.2 r.3 c.stages.number done.place c.stages.early r.1 done.early below }

pub stages-init : goal.stages-init
stages-init g c = λ sources files plan limit p here. record { place = p; goes = refl; more = []; printed = sym (append-nil p.state.printed); lines = refl; early = here }

pub stages-preserved : goal.stages-preserved
stages-preserved g c = λ sources files plan limit p here.
    let done = c.stages.invariant sources files plan limit p here in
    drained_then c.args.sheet.now sources plan limit p c.stages.number c.stages.early c.in_ok-early.early files done (c.in_ok-early.ensures sources files plan limit done.place done.early)

pub returns : goal.returns
returns g c = λ sources files plan limit p here.
    let first = all_stages c.args.sheet.now sources plan limit p c.args.self files here in
    let count = c.len-count.ensures in
    let own = c.args.self.stages.ok in
    let all : c.stages.number ≡ length (stages (network plan)) = omega (arith, first, count, own, c.stages-test.false, c.stages.auto.number-end) in
    early_finished c.args.sheet.now sources plan limit p c.stages.number c.stages.early files all (c.stages.invariant sources files plan limit p here)
