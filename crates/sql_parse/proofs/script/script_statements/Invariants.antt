use Rattle.std.proofs.Common.{length}
use Rattle.sql_syntax.specs.View.{statements_view}
use Rattle.sql_parse.proofs.Scripts.{ReadSoFar}
use Rattle.sql_parse.proofs.script.script_statements.Given as goal

abbrev pub invariant-statements : goal.invariant-statements
invariant-statements l = ReadSoFar l.is_whole l.tokens (statements_view l.list) l.number l.rest

abbrev pub decreases-statements : goal.decreases-statements
decreases-statements l = length l.rest
