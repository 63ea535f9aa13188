use Rattle.sql_grammar.proofs.Scripts.{one_script}
use Rattle.sql_grammar.proofs.one_script_each.Goals as goal

pub returns : goal.returns
returns c = one_script
