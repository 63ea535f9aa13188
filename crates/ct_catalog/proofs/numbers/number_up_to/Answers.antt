use Rattle.std.proofs.Common.{arith}
use Rattle.ct_catalog.proofs.Digits.{none_after_digit}
use Rattle.ct_catalog.proofs.numbers.number_up_to.Goals as goal

pub returns-then-number-most : goal.returns-then-number-most
returns-then-number-most c =
    none_after_digit c.args.most c.loop-digit.number _ c.loop-digit.digit-index c.args.digits.now c.loop-digit-test.true c.loop-digit.invariant.same c.if-number-most.true (omega (arith, c.from.ensures))
