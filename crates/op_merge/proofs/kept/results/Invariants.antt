use Rattle.std.proofs.Common.{◌≡◌, ◌++◌, List, take, Some}
use Rattle.std.specs.Prelude.{option_map}
use Rattle.ct_value.specs.declared.ty.ColTy.{ColTy}
use Rattle.ct_value.specs.declared.value.Value.{Value}
use Rattle.rel_algebra.specs.Clauses.{collect}
use Rattle.op_merge.specs.Kept.{StandAll, calls}
use Rattle.op_merge.proofs.Partials.{values}
use Rattle.op_merge.proofs.kept.results.Given as goal

abbrev pub invariant-loop-merger : goal.invariant-loop-merger
invariant-loop-merger l = (columns : List ColTy) (rows : List (List Value)) → StandAll columns l.mergers rows → option_map (λ more. l.fn.row ++ more) (collect (take l.merger-index (values columns (calls l.mergers) rows))) ≡ Some l.made
