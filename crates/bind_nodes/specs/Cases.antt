-- The columns of a CASE: of its results so far, and of the whole.
use Rattle.std.specs.Prelude.{List, map, Option, Some, None, option_map, option_and_then}
use Rattle.ct_value.specs.declared.ty.ColTy.{ColTy}
use Rattle.ct_expr.specs.Types.{all_truths, begun, case_col, gather_some}
use Rattle.query_answer.specs.Table.{with_otherwise}
use Rattle.binding.specs.Nodes.{Bound}

-- the common column with one result more, the literal NULL left aside
abbrev pub with_known : Option ColTy → Option Bound → Option (Option ColTy)
with_known all None = Some all
with_known all (Some x) = option_map Some (begun case_col all (Some x.column))

-- the column of a CASE without literal NULLs
abbrev pub choice_column : List (Bound × Bound) → Option Bound → Option ColTy
choice_column branches otherwise =
    option_and_then (λ _. with_otherwise (option_map (λ x. Some x.column) otherwise) (gather_some case_col (map (λ b. Some b.1.column) branches))) (all_truths (map (λ b. Some b.0.column) branches))
