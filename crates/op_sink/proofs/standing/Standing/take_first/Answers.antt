use Rattle.std.proofs.Common.{◌≡◌, ◌<◌, length, sym, ap, ◌∙◌, arith}
use Rattle.std.specs.List.{remove}
use Rattle.ct_value.specs.Bag.{drop_one}
use Rattle.ct_value.specs.Order.{row_cmp}
use Rattle.op_sink.proofs.Places.{on_some, left_same, left_within, taken_out}
use Rattle.op_sink.proofs.standing.Standing.take_first.Goals as goal

taken : goal.returns-clause-gone
taken g c =
    let rows = c.self.inside.rows in
    let row = c.args.row.now in
    let at = c.in_ok-place.place in
    let left = c.in_ok-place.ensures.place in
    let within : at < length rows.items = left_within row at rows.items (drop_one row_cmp row rows.items) left in
    on_some (c.remove.new.self.items ≡ remove rows.items at) c.remove.result _ (c.remove.ensures.succeeds row (omega (arith, within, rows.ok))) c.remove.ensures.items
    ∙ taken_out row at rows.items (drop_one row_cmp row rows.items) left
    ∙ ap (drop_one row_cmp row) c.self.view_is

pub returns-clause-gone : goal.returns-clause-gone
returns-clause-gone g c = taken g c

pub returns-clause-place : goal.returns-clause-place
returns-clause-place g c =
    let rows = c.self.inside.rows in
    let row = c.args.row.now in
    left_same row c.in_ok-place.place rows.items (drop_one row_cmp row rows.items) c.args.self.now c.remove.new.self.items c.self.view_is (ap (drop_one row_cmp row) c.self.view_is ∙ sym (taken g c)) c.in_ok-place.ensures.place
