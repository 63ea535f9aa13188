use Rattle.std.proofs.Common.{refl, sym, ◌∙◌, arith}
use Rattle.op_sink.proofs.Places.{found}
use Rattle.op_sink.proofs.standing.place_of.Goals as goal

pub returns-then-eq-clause-place : goal.returns-then-eq-clause-place
returns-then-eq-clause-place g c =
    let rows = c.args.rows.now in
    let some = c.in-Some.ensures.variant.0 refl in
    found c.args.row.now rows.items c.walk.place c.in-Some.other.now (omega (arith, some, rows.ok)) c.in-Some.ensures.lookup c.walk.invariant.1 (sym c.eq.ensures ∙ c.if-eq.true)
