use Rattle.std.proofs.Common.{◌≡◌, ◌+◌, ◌-◌, arith, append_assoc, drop_of_length-le}
use Rattle.std.specs.Fmt.{decimal}
use Rattle.std.proofs.lemmas.Fmt.{length-decimal-le}
use Rattle.std.proofs.lemmas.List.{append-nil}
use Rattle.ct_field.proofs.Decimals.{decimal_pair, length_pair}
use Rattle.ct_field.proofs.write.write_digits.Goals as goal

pub loop-rest-init : goal.loop-rest-init
loop-rest-init c = record {
  room = length-decimal-le 20 c.args.number (omega arith) (omega (arith, c.ranges.number.fits)) c.ranges.number.fits;
  most = omega arith;
  length = c.told-digits;
  written = rw (drop_of_length-le c.args.digits.now {i = 20} (omega (arith, c.told-digits))) (append-nil (decimal c.args.number));
}

pub overflow_sub-start : goal.overflow_sub-start
overflow_sub-start c = let l = c.loop-rest in omega (arith, l.invariant.room, length_pair l.rest c.loop-rest-test.true l.auto.rest-fits.fits)

pub loop-rest-preserved : goal.loop-rest-preserved
loop-rest-preserved c =
    let l = c.loop-rest in
    let long = length_pair l.rest c.loop-rest-test.true l.auto.rest-fits.fits in
    let room = l.invariant.room in
    let e : l.start - 2 + 2 ≡ l.start = omega (arith, long, room) in
    record {
      room = omega (arith, long, room);
      most = omega (arith, l.invariant.most);
      length = c.write_pair.ensures.length;
      written = rw (c.write_pair.ensures.written, e) (rw (decimal_pair l.rest c.loop-rest-test.true l.auto.rest-fits.fits, append_assoc) at l.invariant.written);
    }
