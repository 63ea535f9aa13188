use Rattle.std.proofs.Common.{◌≡◌, ◌+◌, false, cond, drop, get_or, sym, ap, ◌∙◌, arith}
use Rattle.ct_change.specs.declared.update.Update.TheVariants.{Absent}
use Rattle.phys_plan.specs.Reading.{wires}
use Rattle.mode_infer.specs.Kinds.{takes}
use Rattle.mode_infer.specs.Updates.{is_input, port_of, takes_after}
use Rattle.mode_infer.proofs.Ends.{taken_more}
use Rattle.mode_infer.proofs.consumers.takes_after.Goals as goal

pub loop-i-preserved : goal.loop-i-preserved
loop-i-preserved c =
    let sink = c.args.sink.now in
    let key = c.args.key.now in
    let v = c.args.number in
    let later = c.args.later.now in
    let updates = c.args.updates.now in
    let i = c.loop-i.i in
    let node = c.index-later-i.result in
    let here = get_or later i node in
    let edge = get_or updates i Absent in
    let other : is_input v here.inputs ≡ false = ap (is_input v) (sym c.as_slice-inputs.ensures) ∙ sym c.is_input.ensures ∙ c.if-is_input.false in
    sym (taken_more sink key v later updates i node Absent (omega (arith, c.min-many.ensures, c.loop-i-test.true)) (omega (arith, c.min-many.ensures, c.loop-i-test.true)) ∙ ap (λ b. cond b (takes sink here.op (port_of v here.inputs) edge key) (takes_after sink key v (wires (drop (i + 1) later)) (drop (i + 1) updates))) other)
    ∙ c.loop-i.invariant
