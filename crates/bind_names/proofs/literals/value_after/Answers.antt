use Rattle.std.proofs.Common.{◌+◌, ◌*◌, get_or, refl, arith}
use Rattle.std.specs.Char.{digit_value}
use Rattle.bind_names.proofs.Digits.{stopped}
use Rattle.bind_names.proofs.literals.value_after.Goals as goal

pub returns-then-number-ge-DIGITS_38-clause-value : goal.returns-then-number-ge-DIGITS_38-clause-value
returns-then-number-ge-DIGITS_38-clause-value c =
    let n = c.loop-digit.number in
    let d = digit_value (get_or c.args.digits.now c.loop-digit.digit-index 0) in
    stopped n (n * 10 + d) c.loop-digit.digit-index _ c.args.digits.now c.loop-digit-test.true refl c.loop-digit.invariant.value (omega (arith, c.if-number-ge-DIGITS_38.true))

pub returns-then-number-ge-DIGITS_39-clause-value : goal.returns-then-number-ge-DIGITS_39-clause-value
returns-then-number-ge-DIGITS_39-clause-value c =
    stopped c.loop-digit.number _ c.loop-digit.digit-index _ c.args.digits.now c.loop-digit-test.true (omega (arith, c.digit_value.ensures.value)) c.loop-digit.invariant.value c.if-number-ge-DIGITS_39.true
