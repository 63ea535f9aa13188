use Rattle.std.proofs.Common.{◌≡◌, drop, Some, true, false}
use Rattle.std.specs.Prelude.{Option}
use Rattle.ct_value.specs.declared.value.Value.{Value}
use Rattle.ct_value.specs.declared.value.Value.TheVariants.{Bool as Truth}
use Rattle.ct_expr.specs.Values.{and_of, or_of}
use Rattle.ct_expr.proofs.Lists.{all_from, items_from, known_from, chosen_from}
use Rattle.ct_expr.proofs.evaluate.+eval.Given as goal

abbrev pub invariant-and-loop-expr : goal.invariant-and-loop-expr
invariant-and-loop-expr l = all_from and_of l.row (Some (Truth true)) l.fn.exprs ≡ all_from and_of l.row (Some l.all) (drop l.expr-index l.expr-items)

abbrev pub invariant-or-loop-expr : goal.invariant-or-loop-expr
invariant-or-loop-expr l = all_from or_of l.row (Some (Truth false)) l.fn.exprs ≡ all_from or_of l.row (Some l.all) (drop l.expr-index l.expr-items)

abbrev pub invariant-in_list-loop-item : goal.invariant-in_list-loop-item
invariant-in_list-loop-item l = items_from l.ty l.value l.row (Some (Truth false)) l.fn.items ≡ items_from l.ty l.value l.row (Some l.any) (drop l.item-index l.item-items)

abbrev pub invariant-coalesce-loop-expr : goal.invariant-coalesce-loop-expr
invariant-coalesce-loop-expr l = known_from l.row l.fn.exprs ≡ known_from l.row (drop l.expr-index l.expr-items)

abbrev pub invariant-chosen-loop-when : goal.invariant-chosen-loop-when
invariant-chosen-loop-when l = (o : Option Value) → chosen_from l.row o l.fn.whens ≡ chosen_from l.row o (drop l.when-index l.when-items)
