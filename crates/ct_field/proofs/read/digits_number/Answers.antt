use Rattle.std.proofs.Common.{◌+◌, sym, arith}
use Rattle.ct_field.proofs.Digits.{digit_high, one_more, too_many}
use Rattle.ct_field.proofs.read.digits_number.Goals as goal

pub overflow_mul-number : goal.overflow_mul-number
overflow_mul-number c = let h = c.loop-byte.invariant.small in omega arith

pub overflow_add-number : goal.overflow_add-number
overflow_add-number c =
    let h = c.loop-byte.invariant.small in
    omega (arith, digit_high c.args.bytes.now c.loop-byte.byte-index c.requires c.loop-byte-test.true)

pub returns-then-number-ge-DIGITS_38 : goal.returns-then-number-ge-DIGITS_38
returns-then-number-ge-DIGITS_38 c =
    sym (too_many c.args.bytes.now (c.loop-byte.byte-index + 1)
    (let e = one_more c.args.bytes.now c.loop-byte.byte-index c.requires c.loop-byte-test.true in
    let h = c.loop-byte.invariant.value in let t = c.if-number-ge-DIGITS_38.true in omega arith))

pub loop-byte-preserved : goal.loop-byte-preserved
loop-byte-preserved c =
    let e = one_more c.args.bytes.now c.loop-byte.byte-index c.requires c.loop-byte-test.true in
    let h = c.loop-byte.invariant.value in
    let d = digit_high c.args.bytes.now c.loop-byte.byte-index c.requires c.loop-byte-test.true in
    let f = c.if-number-ge-DIGITS_38.false in
    record { value = omega arith; small = omega arith }
