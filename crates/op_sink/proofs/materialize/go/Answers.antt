use Rattle.std.proofs.Common.{◌≡◌, Some, None, IfOk, sym, ap, subst, ◌∙◌, arith}
use Rattle.std.specs.List.{last_or}
use Rattle.ct_change.specs.Changelog.{upsert}
use Rattle.ct_change.specs.Emission.{emission}
use Rattle.ct_change.proofs.laws.Emissions.{emission-same}
use Rattle.op_sink.proofs.Places.{last_stays, last_went}
use Rattle.op_sink.proofs.materialize.go.Goals as goal

pub returns-in_default-clause-sent : goal.returns-in_default-clause-sent
returns-in_default-clause-sent g c =
    c.new.ensures ∙ sym (emission-same (upsert c.args.key.now) (last_or None c.args.standing.now)) ∙ ap (λ xs. emission (upsert c.args.key.now) (last_or None c.args.standing.now) (last_or None xs)) (sym c.in_default.ensures.absent)

pub returns-then-place-len-clause-sent : goal.returns-then-place-len-clause-sent
returns-then-place-len-clause-sent g c =
    let old = c.args.standing.now in
    let new = c.take_first.new.self in
    let stays : last_or None old ≡ last_or None new = last_stays c.args.row.now c.in-Some.place old new c.in-Some.ensures.place (omega (arith, c.if-place-len.true, c.len.ensures)) in
    c.new-then-place-len.ensures ∙ sym (emission-same (upsert c.args.key.now) (last_or None old)) ∙ ap (emission (upsert c.args.key.now) (last_or None old)) stays

pub returns-clause-sent : goal.returns-clause-sent
returns-clause-sent g c =
    let old = c.args.standing.now in
    let new = c.take_first.new.self in
    let key = c.args.key.now in
    let row = c.args.row.now in
    let went : last_or None old ≡ Some row = last_went row c.in-Some.place old new c.in-Some.ensures.place (omega (arith, c.if-place-len.false, c.len.ensures)) in
    subst (λ o. IfOk c.told.result (λ sent. sent ≡ emission (upsert key) o (last_or None new))) (sym went)
    (subst (λ o. IfOk c.told.result (λ sent. sent ≡ emission (upsert key) (Some row) o)) c.last.ensures.row c.told.ensures)
