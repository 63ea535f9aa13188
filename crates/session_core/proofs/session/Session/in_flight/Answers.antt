use Rattle.stream_model.specs.Machine.{opened}
use Rattle.stream_model.specs.Runs.{after}
use Rattle.session_core.proofs.session.Session.in_flight.Goals as goal

pub returns : goal.returns
returns b c = record { value = λ g limit handed items stands. c.in_flight.ensures g limit handed (after g limit (opened g) items) stands.keeps.laid stands.keeps.carries }
