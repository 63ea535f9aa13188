use Rattle.op_local.proofs.tally.take_value.Goals as goal

pub remove-requires : goal.remove-requires
remove-requires c = let r = c.requires in (r.0, r.1, r.2, r.3, r.4 c.if-comes.false, r.5)
