use Rattle.std.proofs.Common.{◌≡◌, drop, map}
use Rattle.query_answer.specs.Mentions.{in_conjuncts}
use Rattle.bind_names.specs.Sought.{reads}
use Rattle.bind_forms.specs.Views.{conjunct_view}
use Rattle.bind_forms.proofs.kept.any_conjunct_mentions.Given as goal

abbrev pub invariant-loop-conjunct : goal.invariant-loop-conjunct
invariant-loop-conjunct l = in_conjuncts l.sources (reads l.rank) (map conjunct_view l.conjuncts) ≡ in_conjuncts l.sources (reads l.rank) (map conjunct_view (drop l.conjunct-index l.conjuncts))
