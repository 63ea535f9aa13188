use Rattle.std.proofs.Common.{length}
use Rattle.sql_tokens.proofs.Quotes.{QuotedFrom}
use Rattle.sql_tokens.proofs.tokens.quoted.Given as goal

abbrev pub invariant-bytes : goal.invariant-bytes
invariant-bytes l = QuotedFrom l.quote l.text l.bytes l.rest

abbrev pub decreases-bytes : goal.decreases-bytes
decreases-bytes l = length l.rest
