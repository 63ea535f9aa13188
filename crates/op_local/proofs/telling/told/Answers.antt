use Rattle.std.proofs.Common.{sym, ◌∙◌}
use Rattle.op_local.proofs.TellingOn.{told_none, told_row}
use Rattle.op_local.proofs.telling.told.Goals as goal

pub returns-then-are_silent : goal.returns-then-are_silent
returns-then-are_silent c = λ aggs come gone to. told_none _ _ _ c.new-sent.ensures (sym (c.are_silent.ensures aggs come gone to) ∙ c.if-are_silent.true)

pub returns : goal.returns
returns c = λ aggs come gone to. told_row _ _ _ _ _ _ c.in_ok-push.ensures.ok c.new-sent.ensures c.new.ensures (c.in_ok-row.ensures aggs come gone to) (sym (c.are_silent.ensures aggs come gone to) ∙ c.if-are_silent.false)
