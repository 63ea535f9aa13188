use Rattle.std.proofs.Common.{◌≡◌, map, option_map, sym, ap, ◌∙◌}
use Rattle.sql_syntax.specs.declared.tree.Args.TheViews.{out-Select}
use Rattle.sql_syntax.specs.Tree as t
use Rattle.sql_syntax.specs.View.{items_view, trees_view, view}
use Rattle.sql_syntax.proofs.laws.Views.{select}
use Rattle.query_answer.specs.Answer as a
use Rattle.query_answer.specs.Ranks.{is_looked_at, without}
use Rattle.bind_forms.specs.Views.{conjunct_view, ranked_view}
use Rattle.bind_forms.proofs.kept.is_kept.Goals as goal

pub returns : goal.returns
returns c =
    let S = c.args.sources.now in
    let n = c.args.conjunct in
    let x = out-Select c.args.outer.now in
    let all : map conjunct_view c.args.conjuncts.now ≡ a.conjuncts_if (t.optional_tree (option_map view x.cond)) = c.requires.all ∙ ap a.select_conjuncts (select c.args.outer.now) in
    c.is_looked_at.ensures
    ∙ (λ i. is_looked_at S (c.rank_name-rank.ensures i) (t.items (items_view x.items)) (without n (all i)) (t.trees (trees_view x.groups)) (t.optional_tree (option_map view x.having)))
    ∙ sym (ap (λ s. a.is_kept S c.args.alias.now (ranked_view c.args.ranked) s n) (select c.args.outer.now))
