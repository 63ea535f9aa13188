use Rattle.std.proofs.Common.{◌≡◌, ◌++◌, map, drop}
use Rattle.plan_check.specs.Sound.{columns_or_none, sent_columns}
use Rattle.plan_check.proofs.known.sent_columns.Given as goal

abbrev pub invariant-loop-columns : goal.invariant-loop-columns
invariant-loop-columns l = l.sent ++ map columns_or_none (drop l.columns-index l.types) ≡ sent_columns l.types
