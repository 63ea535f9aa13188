use Rattle.std.proofs.Common.{◌≡◌, ◌&&◌, None, refl, ap, ◌∙◌}
use Rattle.std.specs.Prelude.{not}
use Rattle.sql_syntax.specs.Tree as t
use Rattle.sql_syntax.specs.View.{joins_view, source_view}
use Rattle.query_answer.specs.SourceColumns.{of_source, sources_have}
use Rattle.bind_names.specs.declared.sought.RankName.{RankName}
use Rattle.bind_forms.proofs.Owns.{hidden}
use Rattle.bind_forms.proofs.rank_mentions.within.Goals as goal

pub returns : goal.returns
returns c =
    let S = c.args.sources.now in
    let r = c.args.rank.now in
    let F = source_view c.args.from.now in
    let J = t.joins (joins_view c.args.joins.now) in
    let made : RankName = record { alias = r.alias; name = r.name; bare = c.unless.result; sourced = c.unless-2.result } in
    let h : c.unless.result ≡ (r.bare && not (sources_have S (of_source None) r.name.now F J)) = c.unless.ensures ∙ ap (λ b. r.bare && not b) c.hide-bare.ensures in
    let k : c.unless-2.result ≡ (r.sourced && not (sources_have S (of_source r.alias.now) r.name.now F J)) = c.unless-2.ensures ∙ ap (λ b. r.sourced && not b) c.hide-sourced.ensures in
    hidden S F J r made refl refl h k
