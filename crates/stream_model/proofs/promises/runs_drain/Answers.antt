use Rattle.stream_model.proofs.Drain as drain
use Rattle.stream_model.proofs.promises.runs_drain.Goals as goal

pub returns : goal.returns
returns c = drain.runs_drain
