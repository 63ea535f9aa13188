use Rattle.std.proofs.Common.{arith}
use Rattle.bind_names.proofs.Digits.{counted}
use Rattle.bind_names.proofs.literals.digits_of.Goals as goal

pub returns-else-number-power_of_ten : goal.returns-else-number-power_of_ten
returns-else-number-power_of_ten c =
    let i = c.digits.invariant in
    counted c.digits.digits c.args.number i.least i.most i.low (omega (arith, c.power_of_ten.ensures.value, c.if-number-power_of_ten.false))
