use Rattle.binding.specs.Inserts.{insert_bound}
use Rattle.query_laws.proofs.Inserts.{insert_accepted, insert_rows}
use Rattle.query_laws.proofs.Options.{weaker}
use Rattle.query_laws.proofs.inserts_keep_the_answer.Goals as goal

pub returns : goal.returns
returns c tables name query sources rows = weaker (insert_bound tables name query) _ _ (insert_accepted tables name query) (λ x h e fit. insert_rows query x h sources rows e fit)
