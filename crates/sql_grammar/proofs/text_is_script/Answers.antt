use Rattle.sql_grammar.proofs.Scripts.{script_read, is_read}
use Rattle.sql_grammar.proofs.text_is_script.Goals as goal

pub returns : goal.returns
returns c text x = (script_read text x, is_read text x)
