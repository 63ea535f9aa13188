use Rattle.std.proofs.Common.{[], ◌∷◌, ◌++◌}
use Rattle.session_open.proofs.any.AnyOperatorRelayOperator.relays.Goals as goal

pub returns-in-Sink : goal.returns-in-Sink
returns-in-Sink c = λ told. rw c.in-Sink.is (record {
  emits = c.relays.ensures.emits told;
  stays = λ before a now. c.relays.ensures.stands (before ++ a ∷ []);
})
