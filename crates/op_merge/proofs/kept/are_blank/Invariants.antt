use Rattle.std.proofs.Common.{List}
use Rattle.ct_value.specs.declared.ty.ColTy.{ColTy}
use Rattle.ct_value.specs.declared.value.Value.{Value}
use Rattle.op_merge.specs.Kept.{StandAll}
use Rattle.op_merge.proofs.Mergers.{BlankUpto}
use Rattle.op_merge.proofs.kept.are_blank.Given as goal

abbrev pub invariant-loop-merger : goal.invariant-loop-merger
invariant-loop-merger l = (columns : List ColTy) (rows : List (List Value)) → StandAll columns l.mergers rows → BlankUpto columns l.merger-index rows l.mergers
