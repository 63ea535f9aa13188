use Rattle.std.proofs.Common.{sym, subst}
use Rattle.op_group.specs.Kept.{IsKept}
use Rattle.op_group.proofs.Turns.{empty_there}
use Rattle.op_group.proofs.groups.take_out.Goals as goal

pub returns-in_ok-none-in-None-clause-kept : goal.returns-in_ok-none-in-None-clause-kept
returns-in_ok-none-in-None-clause-kept c = λ of all.
    let by = c.args.by.now in
    (subst (IsKept by.tys by.aggs c.in_ok-none-in-None.none) (sym (empty_there by c.args.groups.now of all c.args.key.now (sym c.in-None.ensures.value))) c.in_ok-none-in-None.ensures.kept, c.in_ok-none-in-None.ensures.retracts)
