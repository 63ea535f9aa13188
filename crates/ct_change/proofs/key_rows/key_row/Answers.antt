use Rattle.std.proofs.Common.{◌≡◌, ◌<◌, cond, length, get_or, false, ap, ◌∙◌, arith}
use Rattle.std.proofs.lemmas.Grind.{common_steps}
use Rattle.ct_value.specs.declared.value.Value.TheVariants.{Null}
use Rattle.ct_change.specs.KeyRows.{is_among}
use Rattle.ct_change.proofs.KeyRow.{next_value}
use Rattle.ct_change.proofs.key_rows.key_row.Goals as goal

pub cell-preserved : goal.cell-preserved
cell-preserved c =
    let cells = c.as_slice-cells.result.now in
    let values = c.cell.values in
    let marks = c.in_ok-among.among.items in
    let within : length c.cell.values < length c.as_slice-cells.result.now = grind (arith, common_steps) in
    let marked : get_or c.in_ok-among.among.items (length c.cell.values) false ≡ is_among c.args.key.now (length c.cell.values) = c.in_ok-among.ensures.told (length c.cell.values) (grind (arith, common_steps)) ∙ ap (λ key. is_among key (length c.cell.values)) c.as_slice.ensures in
    let value : c.in_ok-kept.field-0 ≡ cond (get_or c.in_ok-among.among.items (length c.cell.values) false) (get_or c.as_slice-cells.result.now (length c.cell.values) Null) Null = grind (arith, common_steps, c.in_ok-kept.ensures) in
    let next = next_value c.args.key.now cells values c.push.new.self marks c.in_ok-kept.field-0 c.cell.invariant.made within marked value c.in_ok-push.ensures.ok in
    record { within = next.0; made = next.1 }
