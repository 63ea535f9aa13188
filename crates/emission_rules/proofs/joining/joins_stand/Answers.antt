use Rattle.emission_rules.proofs.laws.Nodes as laws
use Rattle.emission_rules.proofs.joining.joins_stand.Goals as goal

pub returns-clause-facts : goal.returns-clause-facts
returns-clause-facts c = laws.joins_stand

pub returns-clause-takes : goal.returns-clause-takes
returns-clause-takes c = laws.joins_take
