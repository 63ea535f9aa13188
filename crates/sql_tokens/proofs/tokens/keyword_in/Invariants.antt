use Rattle.std.proofs.Common.{◌≡◌, length, map}
use Rattle.sql_tokens.specs.Tokens.{keyword_in}
use Rattle.sql_tokens.proofs.tokens.keyword_in.Given as goal

abbrev pub invariant-loop-table : goal.invariant-loop-table
invariant-loop-table l = record {
  same : keyword_in (map (λ e. (e.0.now, e.1)) l.table) l.word ≡ keyword_in (map (λ e. (e.0.now, e.1)) l.initial.table) l.word;
}

abbrev pub decreases-loop-table : goal.decreases-loop-table
decreases-loop-table l = length l.table
