-- The theorems of this crate, put together of its lemmas.
use Rattle.std.proofs.Common.{refl}
use Rattle.emission_rules.specs.GroupFits.{GroupsTake}
use Rattle.emission_rules.proofs.laws.TopFacts.{takes_edge}

-- What the edge of a group carries may come to it.
pub groups_take : GroupsTake
groups_take many g from to fits = (refl, λ p l. record { reads = takes_edge from.meaning g.input fits.reads; kinds = fits.kinds; fits = λ change h. (fits.fits change h).types; keyed = fits.keyed })
