-- Changes that go through a channel, in order.
use Rattle.std.specs.Prelude.{◌≡◌, ℕ, ◌≤◌, List, length, drop}
use Rattle.ct_change.specs.declared.change.Change.{Change}

-- what a channel keeps: the changes in flight, and how many were sent and taken
pub record Flow : Type 0 where
  pub flight : List Change
  pub sent : ℕ
  pub taken : ℕ

-- these changes were sent through it, and so many of them were taken, from the first on
pub record HasPassed (flow : Flow) (sent : List Change) (taken : ℕ) : Type 0 where
  pub in_flight : flow.flight ≡ drop taken sent
  pub sent_count : flow.sent ≡ length sent
  pub taken_count : flow.taken ≡ taken
  pub within : taken ≤ length sent
