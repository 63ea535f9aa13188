use Rattle.std.proofs.Common.{rules}
use Rattle.rel_algebra.specs.View.{rels_view}
use Rattle.bind_clauses.specs.Views.{relation_view, run_view}
use Rattle.bind_clauses.proofs.Runs.{one_more}
use Rattle.bind_clauses.proofs.sets.with_term.Goals as goal

pub returns-clause-ok : goal.returns-clause-ok
returns-clause-ok c = one_more (run_view c.args.run) (relation_view c.args.term) c.in_ok-scope.scope (rels_view c.in_ok-with_input.field-0) (search rules) (search rules)
