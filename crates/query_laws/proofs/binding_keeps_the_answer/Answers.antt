-- Both are parts of the one fact of the induction over queries.
use Rattle.std.proofs.Common.{false, ap}
use Rattle.binding.specs.Queries.{query_bound}
use Rattle.query_laws.specs.Statement.{declared}
use Rattle.query_laws.proofs.Options.{weaker}
use Rattle.query_laws.proofs.Queries.{query_right}
use Rattle.query_laws.proofs.binding_keeps_the_answer.Goals as goal

pub returns-clause-rows : goal.returns-clause-rows
returns-clause-rows c tables query fit = weaker (query_bound false (declared tables) query) _ _ (query_right tables fit query) (λ x h. ap (λ w. w.rows) h.0)

pub returns-clause-columns : goal.returns-clause-columns
returns-clause-columns c tables query fit = weaker (query_bound false (declared tables) query) _ _ (query_right tables fit query) (λ x h. ap (λ w. w.scope) h.0)
