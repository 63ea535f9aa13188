use Rattle.std.proofs.Common.{arith}
use Rattle.ct_field.proofs.Powers.{ten_least, ten_most}
use Rattle.ct_field.proofs.PowersOfTen.{power_stands}
use Rattle.ct_field.proofs.number.power_of_ten.Goals as goal

pub returns : goal.returns
returns c =
    let e = power_stands c.args.k (omega (arith, c.requires)) in
    record { value = e; least = rw e (ten_least c.args.k); most = rw e (ten_most c.args.k c.requires) }
