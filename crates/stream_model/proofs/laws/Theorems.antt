-- The theorems of this crate, put together of its lemmas.
use Rattle.stream_model.proofs.Theorem.{composes, printed_folds}
use Rattle.stream_model.specs.Theorem.{Composes, PrintedFolds}
use Rattle.stream_model.proofs.Scans as scans
use Rattle.stream_model.specs.Scans.{ScansStand}
use Rattle.stream_model.proofs.Drain as drain
use Rattle.stream_model.specs.Drain.{RunsAreSafe, RunsDrain}

-- In every state of every run over a plan whose nodes meet their facts, each edge's changes are valid and of its kinds,
-- each subtask may rely on what it takes, and at every quiet moment what each node sent, and what was printed, is the
-- batch answer over the changes taken.
pub plans_compose : Composes
plans_compose = composes

-- In every such state each prefix of what was printed is a valid changelog of the sink's mode, each removal of an upsert
-- changelog its key row, and at every quiet moment it folds to the batch answer.
pub printed_folds_to_answer : PrintedFolds
printed_folds_to_answer = printed_folds

-- A scan whose edge carries what its table takes meets its facts.
pub scans_stand : ScansStand
scans_stand = scans.scans_stand

-- In every such state, and in all to which it leads, the front of each channel may be consumed, and no subtask consumed
-- more changes than were sent, nor were more sent than the limit.
pub runs_are_safe : RunsAreSafe
runs_are_safe = drain.runs_are_safe

-- In every such state a drain leads to a quiet one, or stops where a node is out of range, by the limit or for want of
-- memory.
pub runs_drain : RunsDrain
runs_drain = drain.runs_drain
