use Rattle.job_stream.proofs.Ends.{ends_wanting}
use Rattle.job_stream.proofs.streaming.stream_within.Goals as goal

pub returns-in_default : goal.returns-in_default
returns-in_default g c = ends_wanting _ _ _
