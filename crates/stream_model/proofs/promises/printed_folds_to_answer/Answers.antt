use Rattle.stream_model.proofs.Theorem.{printed_folds}
use Rattle.stream_model.proofs.promises.printed_folds_to_answer.Goals as goal

pub returns : goal.returns
returns c = printed_folds
