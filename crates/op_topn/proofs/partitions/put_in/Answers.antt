use Rattle.std.proofs.Common.{cond, sym, ap, ◌∙◌}
use Rattle.std.specs.BTreeMap.{get}
use Rattle.ct_value.specs.Order.{row_cmp}
use Rattle.ct_change.specs.Changelog.{same_row}
use Rattle.op_topn.specs.Kept.{unless_empty}
use Rattle.op_topn.proofs.Turns.{nothing_put}
use Rattle.op_topn.proofs.partitions.put_in.Goals as goal

pub returns-then-is_empty-clause-put : goal.returns-then-is_empty-clause-put
returns-then-is_empty-clause-put c = λ other.
    nothing_put c.args.partitions.now c.args.key c.requires.absent other
    ∙ ap (λ b. cond (same_row c.args.key other) (unless_empty b c.args.kept) (get row_cmp c.args.partitions.now other)) (sym (sym c.is_empty.ensures ∙ c.if-is_empty.true))
