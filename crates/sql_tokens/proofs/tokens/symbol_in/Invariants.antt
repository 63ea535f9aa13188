use Rattle.std.proofs.Common.{◌≡◌, ◌<◌, length, map, All}
use Rattle.sql_tokens.specs.Tokens.{symbol_in}
use Rattle.sql_tokens.proofs.tokens.symbol_in.Given as goal

abbrev pub invariant-loop-table : goal.invariant-loop-table
invariant-loop-table l = record {
  long : All (λ e. 0 < length e.0.now) l.table;
  same : symbol_in (map (λ e. (e.0.now, e.1)) l.table) l.text ≡ symbol_in (map (λ e. (e.0.now, e.1)) l.initial.table) l.text;
}

abbrev pub decreases-loop-table : goal.decreases-loop-table
decreases-loop-table l = length l.table
