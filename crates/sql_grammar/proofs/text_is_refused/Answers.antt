use Rattle.sql_grammar.proofs.Scripts.{read_refusal, refusal_read}
use Rattle.sql_grammar.proofs.text_is_refused.Goals as goal

pub returns : goal.returns
returns c text code number = (read_refusal text code number, refusal_read text code number)
