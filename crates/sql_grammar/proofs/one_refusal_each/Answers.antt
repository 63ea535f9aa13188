use Rattle.sql_grammar.proofs.Scripts.{one_refusal, not_both}
use Rattle.sql_grammar.proofs.one_refusal_each.Goals as goal

pub returns-clause-one : goal.returns-clause-one
returns-clause-one c = one_refusal

pub returns-clause-no_script : goal.returns-clause-no_script
returns-clause-no_script c text x code number a b = not_both text x code number a b
