use Rattle.std.proofs.Common.{◌≡◌, ◌++◌, drop}
use Rattle.ct_change.specs.Changelog.{Rows}
use Rattle.op_local.specs.Amounting.{AllStand}
use Rattle.op_local.proofs.Blanks.{partials}
use Rattle.op_local.proofs.amounts.with_partials.Given as goal

abbrev pub invariant-loop-tally : goal.invariant-loop-tally
invariant-loop-tally l = (come gone : Rows) → AllStand come gone l.tallies → l.whole ++ partials come gone (drop l.tally-index l.tallies) ≡ l.fn.row ++ partials come gone l.tallies
