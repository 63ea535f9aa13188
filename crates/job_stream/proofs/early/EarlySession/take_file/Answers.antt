use Rattle.std.proofs.Common.{◌≡◌, ◌+◌, ◌-◌, refl, ◌∙◌, arith}
use Rattle.job_stream.proofs.EarlyRuns.{taken_then}
use Rattle.job_stream.proofs.Unfold.{no_lines}
use Rattle.job_stream.proofs.early.EarlySession.take_file.Goals as goal

pub lines-init : goal.lines-init
lines-init g c = λ plan limit p here. record { place = p; goes = refl; silent = refl; early = here }

pub take_some-requires : goal.take_some-requires
take_some-requires g c =
    let r = c.requires.ready in
    let t = c.lines.invariant r.0 r.1 r.2 r.3 in
    record { ready = (r.0, r.1, t.early.state, t.early.sources_are, t.early.stands.stands) }

pub go_on-requires : goal.go_on-requires
go_on-requires g c =
    let r = c.requires.ready in
    let t = c.lines.invariant r.0 r.1 r.2 r.3 in
    let v = c.in_ok-taken.ensures c.args.sheet.now r.0 r.1 t.place t.early in
    record { ready = (c.args.sources.now, _, r.0, r.1, v.place, v.early) }

pub lines-preserved : goal.lines-preserved
lines-preserved g c = λ plan limit p here.
    let sheet = c.args.sheet.now in
    let left = c.lines.left in
    let part = c.min-part.result in
    let all : left ≡ part + (left - part) = omega (arith, c.min-part.ensures) in
    let t = c.lines.invariant plan limit p here in
    let v = c.in_ok-taken.ensures sheet plan limit t.place t.early in
    taken_then sheet c.args.sources.now plan limit c.args.place part (left - part) left all _ p t.place t.goes t.silent v.place v.goes v.silent c.in_ok-early.early _ (c.in_ok-early.ensures c.args.sources.now _ plan limit v.place v.early)

pub returns : goal.returns
returns g c = λ plan limit p here.
    let t = c.lines.invariant plan limit p here in
    let none : c.lines.left ≡ 0 = omega (arith, c.lines-test.false) in
    record { place = t.place; goes = t.goes ∙ no_lines c.args.place c.lines.left none c.args.sheet.now.by_table plan limit t.place; silent = t.silent; early = t.early }
