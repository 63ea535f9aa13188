use Rattle.std.proofs.Common.{sym, ◌∙◌}
use Rattle.op_merge.specs.Kept.{is_nothing}
use Rattle.op_merge.proofs.Turns.{nothing_put, written}
use Rattle.op_merge.proofs.groups.put_in.Goals as goal

pub returns-then-blank-clause-put : goal.returns-then-blank-clause-put
returns-then-blank-clause-put c = λ l rows is. nothing_put c.args.groups.now c.args.key c.args.kept (is_nothing l rows) (sym (c.is_blank-blank.ensures l rows is) ∙ c.if-blank.true) c.requires.absent

pub returns-clause-put : goal.returns-clause-put
returns-clause-put c = λ l rows is. written c.args.key c.args.groups.now c.insert.new.self c.args.kept (is_nothing l rows) (sym (c.is_blank-blank.ensures l rows is) ∙ c.if-blank.false) c.in_ok-insert.ensures.updates.0
