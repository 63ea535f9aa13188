use Rattle.ct_value.specs.Bag.{none}
use Rattle.unit_tests.proofs.Comings.{first_may}
use Rattle.unit_tests.proofs.modes.takes_row.Goals as goal

pub absorb-requires-clause-may : goal.absorb-requires-clause-may
absorb-requires-clause-may g c = (none, c.in_ok-kept.ensures, rw c.new.ensures (first_may (g.M.ChangeMode.mode c.args.mode.now) none c.args.row))
