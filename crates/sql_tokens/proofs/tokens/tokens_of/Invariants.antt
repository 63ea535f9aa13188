use Rattle.std.proofs.Common.{length}
use Rattle.sql_tokens.proofs.Turns.{ReadFrom}
use Rattle.sql_tokens.proofs.tokens.tokens_of.Given as goal

abbrev pub invariant-fronts : goal.invariant-fronts
invariant-fronts l = ReadFrom l.text l.items.items l.rest

abbrev pub decreases-fronts : goal.decreases-fronts
decreases-fronts l = length l.rest
