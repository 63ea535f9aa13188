use Rattle.std.proofs.Common.{◌≡◌, ◌+◌, ◌*◌, ◌-◌, get_or, true, sym, ap, ◌∙◌, arith}
use Rattle.std.specs.Char.{is_ascii_digit}
use Rattle.ct_field.proofs.Digits.{digit_more}
use Rattle.ct_field.proofs.Short.{digit_small, digit_fits, digits_more, below_all}
use Rattle.ct_field.proofs.read.short_number.Goals as goal

pub overflow_mul-number : goal.overflow_mul-number
overflow_mul-number c =
    let l = c.loop-byte in
    let d : is_ascii_digit (get_or c.args.bytes.now l.byte-index 0) ≡ true = sym c.is_ascii_digit.ensures.value ∙ c.if-not-is_ascii_digit.false in
    let h = digit_fits l.number l.byte-index (get_or c.args.bytes.now l.byte-index 0) l.invariant.small (omega arith) d in
    omega (arith, h)

pub overflow_add-number : goal.overflow_add-number
overflow_add-number c =
    let l = c.loop-byte in
    let d : is_ascii_digit (get_or c.args.bytes.now l.byte-index 0) ≡ true = sym c.is_ascii_digit.ensures.value ∙ c.if-not-is_ascii_digit.false in
    let h = digit_fits l.number l.byte-index (get_or c.args.bytes.now l.byte-index 0) l.invariant.small (omega arith) d in
    omega (arith, h)

pub loop-byte-preserved : goal.loop-byte-preserved
loop-byte-preserved c =
    let l = c.loop-byte in
    let bs = c.args.bytes.now in
    let d : is_ascii_digit (get_or bs l.byte-index 0) ≡ true = sym c.is_ascii_digit.ensures.value ∙ c.if-not-is_ascii_digit.false in
    record {
      digits = digits_more bs l.byte-index l.invariant.digits d c.loop-byte-test.true;
      value = ap (λ n. n * 10 + (get_or bs l.byte-index 0 - 48)) l.invariant.value ∙ sym (digit_more bs l.byte-index d c.loop-byte-test.true);
      small = digit_small l.number l.byte-index (get_or bs l.byte-index 0) l.invariant.small d;
    }

pub returns-clause-bound : goal.returns-clause-bound
returns-clause-bound c = below_all c.loop-byte.number c.loop-byte.byte-index c.loop-byte.invariant.small (omega arith)
