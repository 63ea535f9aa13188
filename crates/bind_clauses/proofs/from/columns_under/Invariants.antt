use Rattle.std.proofs.Common.{◌≡◌, ◌++◌, map, Some, drop}
use Rattle.query_answer.specs.Answer.{under}
use Rattle.bind_clauses.proofs.from.columns_under.Given as goal

abbrev pub invariant-loop-column : goal.invariant-loop-column
invariant-loop-column l = l.scope ++ map (λ c. under (Some l.source) (Some c.name) c.ty) (drop l.column-index l.columns) ≡ map (λ c. under (Some l.source) (Some c.name) c.ty) l.columns
