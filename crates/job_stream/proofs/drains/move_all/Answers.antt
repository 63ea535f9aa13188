use Rattle.std.proofs.Common.{◌+◌, ◌-◌, ◌≡◌, arith, [], refl}
use Rattle.std.proofs.lemmas.Result.{err_from_is_err_and}
use Rattle.stream_model.specs.Machine.{State}
use Rattle.source_lines.specs.Run.{At}
use Rattle.job_stream.specs.Parts.{moves_run}
use Rattle.job_stream.proofs.Chains.{goes_end, goes_next, halts_next, goes_start}
use Rattle.job_stream.proofs.Unfold.{moves_unfold, no_moves}
use Rattle.job_stream.proofs.drains.move_all.Goals as goal

pub returns-in_err-moved-clause-halts : goal.returns-in_err-moved-clause-halts
returns-in_err-moved-clause-halts g c = let p = err_from_is_err_and c.from_residual.result c.from_residual.ensures.1 in rw (p.1, p.2) (λ sources files.
    let lane = c.args.lane in
    let left = c.moves.left in
    let part = c.min-part.result in
    let all : left ≡ part + (left - part) = omega (arith, c.min-part.ensures) in
    halts_next c.args.sheet.now sources c.args.session files (moves_run lane.edge lane.from lane.to c.args.count) (moves_run lane.edge lane.from lane.to left) c.moves.moved files _ _ (c.moves.invariant sources files)
    (moves_run lane.edge lane.from lane.to part) (moves_run lane.edge lane.from lane.to (left - part)) _ c.in_err-moved.field-0.0 (moves_unfold lane.edge lane.from lane.to part (left - part) left all) (c.in_err-moved.ensures.halts sources files))

pub moves-preserved : goal.moves-preserved
moves-preserved g c = λ sources files.
    let lane = c.args.lane in
    let left = c.moves.left in
    let part = c.min-part.result in
    let all : left ≡ part + (left - part) = omega (arith, c.min-part.ensures) in
    goes_next c.args.sheet.now sources c.args.session files (moves_run lane.edge lane.from lane.to c.args.count) (moves_run lane.edge lane.from lane.to left) c.moves.moved files _ _ (c.moves.invariant sources files)
    (moves_run lane.edge lane.from lane.to part) (moves_run lane.edge lane.from lane.to (left - part)) c.in_ok-moved.moved files _ (moves_unfold lane.edge lane.from lane.to part (left - part) left all) (c.in_ok-moved.ensures.ok sources files)

pub returns-clause-ok : goal.returns-clause-ok
returns-clause-ok g c = λ sources files.
    let lane = c.args.lane in
    let left = c.moves.left in
    let none : left ≡ 0 = omega (arith, c.moves-test.false) in
    goes_end c.args.sheet.now sources c.args.session files (moves_run lane.edge lane.from lane.to c.args.count) (moves_run lane.edge lane.from lane.to left) c.moves.moved files _ _ (c.moves.invariant sources files) (no_moves lane.edge lane.from lane.to left none)

pub moves-init : goal.moves-init
moves-init g c = λ sources files.
    let lane = c.args.lane in
    let all = moves_run lane.edge lane.from lane.to c.args.count in
    goes_start c.args.sheet.now sources c.args.session files all all _ (λ by_table plan limit p. refl)

pub go_moves-requires : goal.go_moves-requires
go_moves-requires g c =
    let r = c.requires.ready in
    let at : At State = record { state = r.2; files = [] } in
    let here = c.moves.invariant r.0.sources [] r.0 r.1 at r.3 refl (record { stands = r.4; files_are = refl }) in
    record { ready = (r.0, r.1, here.place.state, r.3, here.stands.stands) }
