use Rattle.std.proofs.Common.{◌<◌, length, arith}
use Rattle.job_stream.proofs.EarlyRuns.{all_stages}
use Rattle.job_stream.proofs.early.EarlySession.go_on.Goals as goal

pub go_on_at-requires : goal.go_on_at-requires
go_on_at-requires g c =
    let r = c.requires.ready in
    let here = c.stages.invariant r.0 r.1 r.2 r.3 r.4 r.5 in
    let all = all_stages c.args.sheet.now r.0 r.2 r.3 r.4 c.stages.early r.1 here in
    let first = all_stages c.args.sheet.now r.0 r.2 r.3 r.4 c.args.self r.1 r.5 in
    let count = c.len-count.ensures in
    let own = c.args.self.stages.ok in
    let within : c.stages.number < length c.stages.early.stages.items = omega (arith, all, first, count, own, c.stages-test.true) in
    record { ready = (r.0, r.1, r.2, r.3, r.4, here); within = within }

pub stages-preserved : goal.stages-preserved
stages-preserved g c = λ sources files plan limit p here. c.in_ok-early.ensures sources files plan limit p (c.stages.invariant sources files plan limit p here)
