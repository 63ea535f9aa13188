use Rattle.std.proofs.Common.{sym, subst}
use Rattle.op_local.specs.Amounting.{AllStand}
use Rattle.op_local.proofs.amounts.Amounts.row.Goals as goal

pub with_partials-requires : goal.with_partials-requires
with_partials-requires c = let r = c.requires in (r.1, r.2, subst (AllStand r.1 r.2) (sym c.deref.ensures.value) r.3.stand)
