use Rattle.std.proofs.Common.{◌≡◌, length, map}
use Rattle.ct_catalog.specs.Setting.{key_in}
use Rattle.ct_catalog.proofs.settings.key_in.Given as goal

abbrev pub invariant-loop-table : goal.invariant-loop-table
invariant-loop-table l = key_in (map (λ e. (e.0.now, e.1)) l.table) l.key ≡ key_in (map (λ e. (e.0.now, e.1)) l.initial.table) l.key

abbrev pub decreases-loop-table : goal.decreases-loop-table
decreases-loop-table l = length l.table
