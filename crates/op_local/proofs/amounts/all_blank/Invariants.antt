use Rattle.std.proofs.Common.{◌≡◌, drop}
use Rattle.ct_change.specs.Changelog.{Rows}
use Rattle.op_local.specs.Amounting.{AllStand}
use Rattle.op_local.proofs.Blanks.{blanks}
use Rattle.op_local.proofs.amounts.all_blank.Given as goal

abbrev pub invariant-loop-tally : goal.invariant-loop-tally
invariant-loop-tally l = (come gone : Rows) → AllStand come gone l.tallies → blanks come gone (drop l.tally-index l.tallies) ≡ blanks come gone l.tallies
