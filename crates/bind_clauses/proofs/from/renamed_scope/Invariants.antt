use Rattle.std.proofs.Common.{◌≡◌, ◌++◌, drop}
use Rattle.query_answer.specs.Answer.{renamed_scope}
use Rattle.bind_clauses.proofs.from.renamed_scope.Given as goal

abbrev pub invariant-loop-column : goal.invariant-loop-column
invariant-loop-column l = l.named ++ renamed_scope l.alias (drop l.column-index l.column-items) ≡ renamed_scope l.alias l.scope
