-- The theorems of this crate, put together of its lemmas.
use Rattle.run_examples.proofs.Worked as worked
use Rattle.run_examples.specs.Worked.{RunsAsWorked}
use Rattle.run_examples.proofs.Planned as planned
use Rattle.run_examples.specs.Planned.{CountsAsWorked, ShownAsWorked, BundledAsWorked}

-- The machine prints what was worked by hand: a join in two subtasks, in which a new row overtakes the retraction of the
-- old one or doesn't, a refused removal, bundles that are flushed by a drain or before it, and each refusal of an order.
pub runs_as_worked : RunsAsWorked
runs_as_worked = worked.runs_as_worked

-- The plan of words counted is that of its tree; and where a word comes twice, the machine prints its first count, and then the second
-- in its place.
pub counts_as_worked : CountsAsWorked
counts_as_worked = planned.counts_as_worked

-- Behind a materializer by the word, the first count goes by its key before the second comes.
pub shown_as_worked : ShownAsWorked
shown_as_worked = planned.shown_as_worked

-- In mini-batches both rows are one change: the second count alone.
pub bundled_as_worked : BundledAsWorked
bundled_as_worked = planned.bundled_as_worked
