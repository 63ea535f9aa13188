use Rattle.std.proofs.Common.{rules, ◌≡◌, ◌-◌, true, false, map, take, sym, ◌∙◌}
use Rattle.query_answer.specs.Mentions.{in_conjuncts}
use Rattle.bind_names.specs.Sought.{reads}
use Rattle.bind_forms.specs.Views.{conjunct_view}
use Rattle.bind_forms.proofs.Lefts.{mentioned_before, not_before}
use Rattle.bind_forms.proofs.kept.others_mention.Goals as goal

pub returns-then-any_conjunct_mentions : goal.returns-then-any_conjunct_mentions
returns-then-any_conjunct_mentions c =
    let S = c.args.sources.now in
    let T = reads c.args.rank.now in
    let xs = c.args.conjuncts.now in
    let n = c.args.conjunct in
    let first : in_conjuncts S T (map conjunct_view (take n xs)) ≡ true = search rules in
    c.if-any_conjunct_mentions.true ∙ sym (mentioned_before S T xs n c.requires first)

pub returns-else-any_conjunct_mentions : goal.returns-else-any_conjunct_mentions
returns-else-any_conjunct_mentions c =
    let S = c.args.sources.now in
    let T = reads c.args.rank.now in
    let xs = c.args.conjuncts.now in
    let n = c.args.conjunct in
    let first : in_conjuncts S T (map conjunct_view (take n xs)) ≡ false = search rules in
    not_before S T xs n c.any_conjunct_mentions-else-any_conjunct_mentions.result c.requires first c.any_conjunct_mentions-else-any_conjunct_mentions.ensures
