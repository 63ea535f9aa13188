use Rattle.std.proofs.Common.{subst, option_copied}
use Rattle.op_group.specs.Kept.{HasValue}
use Rattle.op_group.proofs.counter.shift_acc.Goals as goal

pub remove-requires-clause-stands : goal.remove-requires-clause-stands
remove-requires-clause-stands c =
    let r = c.requires.stands in
    (r.0, r.1, r.2, r.3, subst (λ o. HasValue r.2 (option_copied o)) c.in-Some-None.is-0 r.4)

pub replace-requires-clause-stands : goal.replace-requires-clause-stands
replace-requires-clause-stands c =
    let r = c.requires.stands in
    (r.0, r.1, r.2, r.3, subst (λ o. HasValue r.2 (option_copied o)) c.in-Some-Some.is-0 r.4, r.5)
