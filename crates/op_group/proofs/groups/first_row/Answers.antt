use Rattle.ct_value.specs.Bag.{none}
use Rattle.op_group.proofs.Shifts.{own_calls}
use Rattle.op_group.proofs.groups.first_row.Goals as goal

pub row-requires : goal.row-requires
row-requires c = let by = c.args.by.now in (by.tys, none, own_calls by.tys by.aggs c.in_ok-kept.kept none c.in_ok-kept.ensures.kept)
