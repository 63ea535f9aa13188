use Rattle.std.proofs.Common.{◌≡◌, ◌+◌, ◌%◌, set, arith, length-set}
use Rattle.std.proofs.lemmas.List.{set_comm, drop-set}
use Rattle.ct_field.proofs.Decimals.{pair_stands}
use Rattle.ct_field.proofs.write.write_pair.Goals as goal

pub returns-clause-written : goal.returns-clause-written
returns-clause-written c =
    let p = pair_stands c.args.pair c.requires.below in
    let at = c.args.at in
    let digits = c.args.digits.now in
    let e : at + 1 + 1 ≡ at + 2 = omega arith in
    rw (p.0, p.1, set_comm digits at (at + 1) _ _ (λ x. omega arith), drop-set (set digits (at + 1) (48 + c.args.pair % 10)) at _ (omega (arith, length-set digits (at + 1) (48 + c.args.pair % 10))), drop-set digits (at + 1) _ (omega arith), e)
