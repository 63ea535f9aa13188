use Rattle.std.proofs.Common.{◌≤◌}
use Rattle.rel_algebra.specs.declared.rel.Rel.{size-Rel}
use Rattle.rel_algebra.proofs.rel.Rel.+drops.Given as goal

abbrev pub invariant-loop-self : goal.invariant-loop-self
invariant-loop-self l = size-Rel l.self ≤ size-Rel l.initial.self
