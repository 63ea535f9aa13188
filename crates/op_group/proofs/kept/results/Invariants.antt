use Rattle.std.proofs.Common.{◌≡◌, ◌++◌, List, take, Some}
use Rattle.std.specs.Prelude.{option_map}
use Rattle.ct_value.specs.declared.ty.ColTy.{ColTy}
use Rattle.ct_change.specs.Changelog.{Rows}
use Rattle.rel_algebra.specs.Aggregates.{agg_results}
use Rattle.op_group.specs.Kept.{AllStand, calls}
use Rattle.op_group.proofs.kept.results.Given as goal

abbrev pub invariant-loop-counter : goal.invariant-loop-counter
invariant-loop-counter l = (columns : List ColTy) (rows : Rows) → AllStand columns rows l.counters → option_map (λ values. l.fn.key ++ values) (agg_results columns (calls (take l.counter-index l.counters)) rows) ≡ Some l.values
