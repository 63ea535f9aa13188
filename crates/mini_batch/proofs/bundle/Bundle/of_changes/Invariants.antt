use Rattle.std.proofs.Common.{◌≡◌, length}
use Rattle.mini_batch.specs.Held.{held_in}
use Rattle.mini_batch.specs.Groups.{by_group}
use Rattle.mini_batch.proofs.bundle.Bundle.of_changes.Given as goal

abbrev pub invariant-loop-change : goal.invariant-loop-change
invariant-loop-change l = record {
  entries : l.bundle.entries ≡ by_group l.keys l.yielded;
  held : held_in l.bundle.entries ≡ length l.yielded;
  size : l.bundle.size ≡ 4294967295;
}
