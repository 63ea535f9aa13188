use Rattle.std.proofs.Common.{sym, ◌∙◌}
use Rattle.rel_columns.proofs.Gathered.{uneven}
use Rattle.rel_columns.proofs.common.set_columns.Goals as goal

pub returns-else-len : goal.returns-else-len
returns-else-len c = sym (uneven c.args.kind c.args.left.now c.args.right.now (λ e. c.if-len.false (c.len.ensures ∙ e ∙ sym c.len-2.ensures)))
