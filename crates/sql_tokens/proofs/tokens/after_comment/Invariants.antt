use Rattle.std.proofs.Common.{◌≡◌, ◌≤◌, length}
use Rattle.sql_tokens.specs.Tokens.{after_comment}
use Rattle.sql_tokens.proofs.tokens.after_comment.Given as goal

abbrev pub invariant-bytes : goal.invariant-bytes
invariant-bytes l = record {
  same : after_comment l.rest ≡ after_comment l.text;
  shorter : length l.rest ≤ length l.text;
}

abbrev pub decreases-bytes : goal.decreases-bytes
decreases-bytes l = length l.rest
