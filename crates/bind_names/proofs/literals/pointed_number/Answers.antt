use Rattle.std.proofs.Common.{ap, ◌∙◌, Some, arith}
use Rattle.bind_names.proofs.Digits.{long_whole, long_fraction, with_point}
use Rattle.bind_names.proofs.literals.pointed_number.Goals as goal

pub returns-in_err-value_after : goal.returns-in_err-value_after
returns-in_err-value_after c = c.from_residual.ensures ∙ long_whole c.args.whole.now c.args.fraction.now c.in_err-value_after.ensures.value

pub returns-in_err-number : goal.returns-in_err-number
returns-in_err-number c = c.from_residual-in_err-number.ensures ∙ long_fraction c.args.whole.now c.args.fraction.now c.in_ok-value_after.field-0 c.in_ok-value_after.ensures.value c.in_err-number.ensures.value

pub returns : goal.returns
returns c =
    ap Some c.pointed.ensures
    ∙ with_point c.args.whole.now c.args.fraction.now c.in_ok-value_after.field-0 c.in_ok-number.number (omega (arith, c.if-fraction-gt38.false)) c.in_ok-value_after.ensures.value c.in_ok-number.ensures.value
