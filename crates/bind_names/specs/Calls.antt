-- The calls of the code, as those of the definitions.
use Rattle.std.specs.Prelude.{Bool, not, ◌==◌, length, option_map}
use Rattle.sql_syntax.specs.Tree as t
use Rattle.sql_syntax.specs.View.{view}
use Rattle.query_answer.specs.Calls.{Call}
use Rattle.query_answer.specs.Forms.{item_calls}
use Rattle.bind_names.specs.declared.calls.CallRef.{CallRef}

abbrev pub call_view : CallRef → Call
call_view c = record { call = c.call; arg = option_map (λ x. view x.now) c.arg; filter = option_map (λ x. view x.now) c.filter }

-- whether an item has an aggregate
abbrev pub has_calls : t.Item → Bool
has_calls x = not (length (item_calls x) == 0)
