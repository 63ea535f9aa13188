use Rattle.std.proofs.Common.{option_map, sym, ap, ◌∙◌}
use Rattle.sql_syntax.specs.declared.tree.Args.TheViews.{out-Select}
use Rattle.sql_syntax.specs.Tree as t
use Rattle.sql_syntax.specs.View.{view}
use Rattle.sql_syntax.proofs.laws.Views.{select}
use Rattle.query_answer.specs.Mentions.{in_optional, in_where}
use Rattle.bind_names.specs.Sought.{reads}
use Rattle.bind_forms.proofs.rank_mentions.where_mentions.Goals as goal

pub returns : goal.returns
returns c =
    let x = c.args.select.now in
    c.condition_mentions.ensures ∙ ap (λ f. in_optional f (t.optional_tree (option_map view (out-Select x).cond))) c.within-rank.ensures
    ∙ sym (ap (in_where c.args.sources.now (reads c.args.rank.now)) (select x))
