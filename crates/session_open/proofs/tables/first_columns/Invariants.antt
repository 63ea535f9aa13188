use Rattle.std.proofs.Common.{◌≡◌}
use Rattle.plan_rules.specs.Plans.{columns_from}
use Rattle.session_open.proofs.tables.first_columns.Given as goal

abbrev pub invariant-loop-column : goal.invariant-loop-column
invariant-loop-column l = l.columns ≡ columns_from 0 l.column
