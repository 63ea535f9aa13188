use Rattle.std.proofs.Common.{◌≡◌, take, drop}
use Rattle.sql_tokens.specs.Statements.{first_statement}
use Rattle.sql_tokens.proofs.Splits.{behind}
use Rattle.sql_tokens.proofs.statements.split_statement.Given as goal

abbrev pub invariant-loop-i : goal.invariant-loop-i
invariant-loop-i l = behind (take l.i l.tokens) (first_statement (drop l.i l.tokens)) ≡ first_statement l.tokens
