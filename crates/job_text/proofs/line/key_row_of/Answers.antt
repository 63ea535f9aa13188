use Rattle.std.proofs.Common.{◌≡◌, Err, ◌-◌, ◌<◌, ◌+◌, ◌||◌, ◌∙◌, ℕ, false, cond, length, get_or, nat_eq, sym, ap, arith}
use Rattle.std.proofs.lemmas.List.{get_or_default}
use Rattle.csv.specs.Records.{fields_of}
use Rattle.ct_change.specs.KeyRows.{is_among}
use Rattle.job_text.specs.declared.line.LineFault.TheVariants.{Change as Refused}
use Rattle.job_text.specs.Lines.{Field, key_cell}
use Rattle.job_text.proofs.Values.{behind, key_left, key_left_after, key_left_refused, passed_on, place_within}
use Rattle.job_text.proofs.line.key_row_of.Goals as goal

pub column-preserved : goal.column-preserved
column-preserved c =
    let key = c.args.key.now in
    let cols = c.args.cols.now in
    let fields = fields_of c.args.fields.now in
    let whole = nat_eq (c.len.result - c.args.first) (length cols) in
    let i = c.column.i in
    let place = c.column.place in
    let within = c.column-test.true in
    let col = get_or cols i c.index-cols-i.result in
    let marks = c.in_ok-in_key.in_key.items in
    let b = c.index-is_key.result.now in
    let marked : i < length marks = omega (arith, within, c.in_ok-in_key.ensures.len) in
    let is : is_among key i ≡ b = sym (c.in_ok-in_key.ensures.told i within) ∙ get_or_default marks i false b marked ∙ sym c.index-is_key.ensures in
    let spells = ap (λ (f : Field). key_cell b col.ty.ty f) (sym c.field.ensures) ∙ c.in_ok-value.ensures.value in
    let next = key_left_after key whole cols fields c.column.values i place col b c.in_ok-value.value within (get_or_default cols i c.index-cols-i.result col within) is spells in
    record {
      place = place_within (b || whole) place c.place_behind-place.result i c.args.first c.place_behind-place.ensures c.column.invariant.place;
      so_far = c.column.invariant.so_far ∙ next ∙ ap (λ values. behind values (key_left key whole cols fields (i + 1) (cond (b || whole) (place + 1) place))) (sym c.in_ok-push.ensures.ok)
          ∙ ap (λ (k : ℕ). behind c.push.new.self (key_left key whole cols fields (i + 1) k)) (sym c.place_behind-place.ensures);
    }

pub returns-in_err-value-clause-refused : goal.returns-in_err-value-clause-refused
returns-in_err-value-clause-refused c code is =
    let key = c.args.key.now in
    let cols = c.args.cols.now in
    let fields = fields_of c.args.fields.now in
    let whole = nat_eq (c.len.result - c.args.first) (length cols) in
    let i = c.column.i in
    let place = c.column.place in
    let within = c.column-test.true in
    let col = get_or cols i c.index-cols-i.result in
    let marks = c.in_ok-in_key.in_key.items in
    let b = c.index-is_key.result.now in
    let marked : i < length marks = omega (arith, within, c.in_ok-in_key.ensures.len) in
    let in_key : is_among key i ≡ b = sym (c.in_ok-in_key.ensures.told i within) ∙ get_or_default marks i false b marked ∙ sym c.index-is_key.ensures in
    let refused = c.in_err-value.ensures.refused code (ap Err (passed_on c.from_residual-in_err-value.result c.in_err-value.field-0.0 (Refused code) c.from_residual-in_err-value.ensures.1 is)) in
    let spells = ap (λ (f : Field). key_cell b col.ty.ty f) (sym c.field.ensures) ∙ refused.0 in
    c.column.invariant.so_far ∙ key_left_refused key whole cols fields c.column.values i place col b within (get_or_default cols i c.index-cols-i.result col within) in_key spells ∙ ap Err (sym refused.1)
