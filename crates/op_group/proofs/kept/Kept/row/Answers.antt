use Rattle.std.proofs.Common.{sym, subst, arith}
use Rattle.op_group.specs.Kept.{AllStand, calls}
use Rattle.op_group.proofs.Shifts.{empty_counted}
use Rattle.op_group.proofs.kept.Kept.row.Goals as goal

pub results-requires : goal.results-requires
results-requires c = let r = c.requires in (r.0, r.1, subst (AllStand r.0 r.1) (sym c.deref.ensures.value) r.2.stand)

pub returns-then-self-eq0-clause-counted : goal.returns-then-self-eq0-clause-counted
returns-then-self-eq0-clause-counted c = λ columns rows kept.
    let none = c.if-self-eq0.true in
    let count = kept.count in
    empty_counted columns (calls c.args.self.now.counters.items) rows (omega arith)
