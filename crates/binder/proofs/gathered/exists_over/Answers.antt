use Rattle.std.proofs.Common.{rules, ◌≡◌, Some, ◌∙◌}
use Rattle.sql_syntax.specs.View.{select_view}
use Rattle.query_answer.specs.Ranks.{ranked_select}
use Rattle.bind_forms.specs.Views.{ranked_view}
use Rattle.binder.specs.Views.{from_where_view}
use Rattle.binder.proofs.OnlySources.{exists_ranked}
use Rattle.binder.proofs.gathered.exists_over.Goals as goal

pub returns-in-Some-clause-refused : goal.returns-in-Some-clause-refused
returns-in-Some-clause-refused c = λ code e.
    let x = select_view c.args.select.now in
    let q = ranked_view c.in-Some.list in
    let r : ranked_select x ≡ Some q = search rules in
    exists_ranked c.args.free c.args.anti (from_where_view c.args.gathered) x q r ∙ c.ranked_exists.ensures.refused code e
