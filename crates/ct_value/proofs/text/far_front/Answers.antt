use Rattle.std.proofs.Common.{◌≡◌, ◌<◌, get_or, sym, ◌∙◌, arith}
use Rattle.std.proofs.lemmas.List.{get_or_past}
use Rattle.ct_value.proofs.Fronts.{front_turn, room}
use Rattle.ct_value.proofs.text.far_front.Goals as goal
use Rattle.ct_value.proofs.text.far_front.Goals.{then-i-bytes, else-i-bytes, Joined-i-bytes}

byte_is : (c : Joined-i-bytes) → c.if-i-bytes.byte ≡ get_or c.args.bytes.now c.loop-i.i 0
byte_is c = elim c.if-i-bytes.branch [ then-i-bytes w ↦ w.byte-is | else-i-bytes w ↦ w.byte-is ∙ sym (get_or_past c.args.bytes.now c.loop-i.i 0 w.if-i-bytes.false) ]

small : (c : Joined-i-bytes) → c.if-i-bytes.byte < 256
small c = let b = byte_is c in let f = (c.type_inv.bytes c.loop-i.i).fits in omega arith

pub overflow_mul-number : goal.overflow_mul-number
overflow_mul-number c = let r = room c.loop-i.i c.loop-i.number (let t = c.loop-i-test.true in omega arith) c.loop-i.invariant.fits in omega arith

pub overflow_add-number : goal.overflow_add-number
overflow_add-number c =
    let r = room c.loop-i.i c.loop-i.number (let t = c.loop-i-test.true in omega arith) c.loop-i.invariant.fits in
    let b = small (goal.at.overflow_add-number c).Joined-i-bytes in
    omega arith

pub loop-i-preserved : goal.loop-i-preserved
loop-i-preserved c =
    let j = (goal.at.loop-i-preserved c).Joined-i-bytes in
    front_turn c.args.bytes.now c.loop-i.i c.loop-i.number c.if-i-bytes.byte (byte_is j) (small j) c.loop-i.invariant.same c.loop-i.invariant.fits
