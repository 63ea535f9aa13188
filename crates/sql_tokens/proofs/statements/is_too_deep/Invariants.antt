use Rattle.std.proofs.Common.{◌≡◌, ◌≤◌, nat_lt, drop}
use Rattle.std.specs.List.{list_any}
use Rattle.sql_tokens.specs.Depth.{open_counts, too_deep}
use Rattle.sql_tokens.proofs.statements.is_too_deep.Given as goal

abbrev pub invariant-loop-token : goal.invariant-loop-token
invariant-loop-token l = record {
  few : l.depth ≤ 32;
  same : list_any (λ n. nat_lt 32 n) (open_counts l.depth (drop l.token-index l.tokens)) ≡ too_deep l.tokens;
}
