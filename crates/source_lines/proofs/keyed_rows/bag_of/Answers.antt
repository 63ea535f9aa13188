use Rattle.std.proofs.Common.{ap, arith}
use Rattle.std.proofs.lemmas.List.{length-map}
use Rattle.std.specs.Map.{values_of}
use Rattle.ct_value.specs.Bag.{copies, occurs}
use Rattle.ct_value.proofs.laws.Bags.{copies-add, copies-none, one_at_itself}
use Rattle.ct_value.specs.Order.{row_cmp, row_total}
use Rattle.source_lines.proofs.Values.{occurs-le, one_yielded}
use Rattle.source_lines.proofs.keyed_rows.bag_of.Goals as goal

pub loop-row-init : goal.loop-row-init
loop-row-init c = λ row.
    let none_yet = ap (λ b. copies b row) c.new-bag.ensures in
    let all_left = ap (λ es. occurs row_cmp row (values_of es)) c.into_iter-row-iterator.ensures.into_iter_gives.0 in
    omega (arith, none_yet, copies-none row_total row, all_left)

pub add-requires : goal.add-requires
add-requires c =
    let row = c.in-Some.row in
    let entries = c.args.rows.entries in
    let yielded = one_yielded row row c.in-Some.field-0-0 c.loop-row.row-iterator c.next.new.self c.in-Some.ensures.steps in
    omega (arith, c.loop-row.invariant row, yielded, one_at_itself row_cmp row_total row, occurs-le row (values_of entries), length-map entries (λ e. e.1), c.into_iter-row-iterator.ensures.into_iter_gives.1)

pub loop-row-preserved : goal.loop-row-preserved
loop-row-preserved c = λ row.
    let yielded = one_yielded row c.in-Some.row c.in-Some.field-0-0 c.loop-row.row-iterator c.next.new.self c.in-Some.ensures.steps in
    let added = ap (λ b. copies b row) c.in_ok-add.ensures.ok in
    omega (arith, c.loop-row.invariant row, yielded, added, copies-add row_total c.loop-row.bag c.in-Some.row row)
