use Rattle.emission_rules.proofs.laws.TopFacts as facts
use Rattle.emission_rules.proofs.ranking.topn_stands.Goals as goal

pub returns : goal.returns
returns c = facts.topn_stands
