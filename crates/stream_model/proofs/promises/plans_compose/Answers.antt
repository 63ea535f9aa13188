use Rattle.stream_model.proofs.Theorem.{composes}
use Rattle.stream_model.proofs.promises.plans_compose.Goals as goal

pub returns : goal.returns
returns c = composes
