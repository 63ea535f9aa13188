use Rattle.std.proofs.Common.{◌≡◌, ◌-◌, length, map}
use Rattle.query_answer.specs.Ranks.{top_from}
use Rattle.bind_names.specs.Lookups.{lookup_of}
use Rattle.bind_forms.specs.Views.{conjunct_view}
use Rattle.bind_forms.proofs.Tops.{from}
use Rattle.bind_forms.proofs.top.first_top.Given as goal

abbrev pub invariant-conjuncts : goal.invariant-conjuncts
invariant-conjuncts l = top_from 0 (lookup_of l.look) l.place (map conjunct_view l.conjuncts) ≡ from (lookup_of l.look) l.place l.conjuncts l.conjunct

abbrev pub decreases-conjuncts : goal.decreases-conjuncts
decreases-conjuncts l = length l.conjuncts - l.conjunct
