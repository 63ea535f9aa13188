use Rattle.std.proofs.Common.{◌==◌, sym, ap, ◌∙◌}
use Rattle.sql_syntax.specs.View.{args_view}
use Rattle.sql_syntax.proofs.laws.Views.{args_list}
use Rattle.binding.specs.InGroups.{has_operands}
use Rattle.bind_expressions.proofs.Operands.{one_value}
use Rattle.bind_expressions.proofs.calls.has_operands.Goals as goal

pub returns-in-List : goal.returns-in-List
returns-in-List c =
    ap (λ n. n == 1) c.len.ensures ∙ sym (one_value c.args.call c.in-List.distinct c.in-List.values)
    ∙ sym (ap (has_operands c.args.call) (ap args_view c.in-List.is ∙ args_list c.in-List.distinct c.in-List.values))
