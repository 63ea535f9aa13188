use Rattle.rel_columns.proofs.Gathered.{none_nullable}
use Rattle.rel_columns.proofs.sides.nullable_if.Goals as goal

pub returns-else-missing : goal.returns-else-missing
returns-else-missing c = none_nullable c.args.missing c.args.columns c.if-missing.false
