use Rattle.std.proofs.Common.{◌≡◌, ◌+◌, ◌-◌}
use Rattle.plan_check.specs.Sound.{first_failing, looked_at, meets}
use Rattle.plan_check.proofs.check.first_broken.Given as goal

abbrev pub invariant-loop-i : goal.invariant-loop-i
invariant-loop-i l = first_failing (meets l.rule l.plan) (1 + l.i) (looked_at l.plan - l.i) ≡ first_failing (meets l.rule l.plan) 1 (looked_at l.plan)
