use Rattle.std.proofs.Common.{sym, ap, ◌∙◌}
use Rattle.sql_syntax.specs.View.{args_view}
use Rattle.sql_syntax.proofs.laws.Views.{args_list}
use Rattle.query_answer.specs.Calls.{agg_arg}
use Rattle.bind_names.proofs.CallLists.{copied, first_of}
use Rattle.bind_names.proofs.calls.agg_arg.Goals as goal

pub returns-in-List : goal.returns-in-List
returns-in-List c =
    copied c.get.result _ c.get.ensures ∙ first_of c.in-List.values ∙ sym (ap (λ a. agg_arg (args_view a)) c.in-List.is ∙ ap agg_arg (args_list c.in-List.distinct c.in-List.values))
