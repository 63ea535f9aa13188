use Rattle.std.proofs.Common.{rules}
use Rattle.rel_algebra.specs.View.{rel_view}
use Rattle.bind_clauses.specs.Views.{relation_view}
use Rattle.bind_clauses.proofs.Runs.{operated_is}
use Rattle.bind_clauses.proofs.sets.operated.Goals as goal

pub returns-clause-ok : goal.returns-clause-ok
returns-clause-ok c =
    operated_is c.args.except c.args.all (relation_view c.args.left) (relation_view c.args.right) c.in_ok-scope.scope c.in_ok-columns.columns (rel_view c.in_ok-rel.rel) (search rules) (search rules) (search rules)
