use Rattle.emission_rules.proofs.laws.GroupFacts.{group_stands}
use Rattle.emission_rules.proofs.grouping.groups_stand.Goals as goal

pub returns : goal.returns
returns c = group_stands
