use Rattle.std.proofs.Common.{cond, sym, ap, ◌∙◌}
use Rattle.std.specs.BTreeMap.{get}
use Rattle.std.proofs.lemmas.Bool.{eq-eqb}
use Rattle.ct_value.specs.Order.{row_cmp}
use Rattle.ct_change.specs.Changelog.{same_row}
use Rattle.op_group.specs.Groups.{unless_empty}
use Rattle.op_group.proofs.Turns.{nothing_put}
use Rattle.op_group.proofs.groups.put_back.Goals as goal

pub returns-then-kept-eq0-clause-put : goal.returns-then-kept-eq0-clause-put
returns-then-kept-eq0-clause-put c = λ other.
    nothing_put c.args.groups.now c.args.key c.requires.absent other
    ∙ ap (λ b. cond (same_row c.args.key other) (unless_empty b c.args.kept) (get row_cmp c.args.groups.now other)) (sym (eq-eqb c.args.kept.rows 0 c.if-kept-eq0.true))
