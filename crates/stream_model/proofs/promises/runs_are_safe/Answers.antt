use Rattle.stream_model.proofs.Drain as drain
use Rattle.stream_model.proofs.promises.runs_are_safe.Goals as goal

pub returns : goal.returns
returns c = drain.runs_are_safe
