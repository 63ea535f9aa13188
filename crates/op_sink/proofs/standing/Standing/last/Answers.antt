use Rattle.std.proofs.Common.{◌-◌, None, refl, ap, ◌∙◌, arith}
use Rattle.std.specs.List.{last_or}
use Rattle.op_sink.proofs.Places.{last_at}
use Rattle.op_sink.proofs.standing.Standing.last.Goals as goal

pub returns-clause-row : goal.returns-clause-row
returns-clause-row g c =
    let rows = c.self.inside.rows in
    let some = c.in_ok-row.ensures.variant.0 refl in
    last_at rows.items (rows.len - 1) c.in_ok-row.row.now (omega (arith, some, rows.ok)) c.in_ok-row.ensures.lookup ∙ ap (last_or None) c.self.view_is
