use Rattle.session_open.proofs.any.AnyOperator.start.Goals as goal

pub returns-in-Join-clause-rule_stays : goal.returns-in-Join-clause-rule_stays
returns-in-Join-clause-rule_stays c = rw c.in-Join.is c.opening-in-Join.ensures.rule_stays

pub returns-in-Semi-clause-rule_stays : goal.returns-in-Semi-clause-rule_stays
returns-in-Semi-clause-rule_stays c = rw c.in-Semi.is c.opening-in-Semi.ensures.rule_stays
