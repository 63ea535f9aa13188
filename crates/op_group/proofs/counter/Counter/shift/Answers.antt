use Rattle.std.proofs.Common.{sym, subst}
use Rattle.op_group.specs.Kept.{HasValue}
use Rattle.op_group.proofs.counter.Counter.shift.Goals as goal

pub shift_acc-requires-clause-stands : goal.shift_acc-requires-clause-stands
shift_acc-requires-clause-stands c =
    let r = c.requires.stands in
    (c.args.self.now.agg.call, r.0, r.1, r.2, subst (λ o. HasValue r.1 o) (sym c.picked.ensures) r.3, r.4)
