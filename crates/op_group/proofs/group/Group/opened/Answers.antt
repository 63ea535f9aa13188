use Rattle.std.proofs.Common.{◌++◌, None, arith, ap, ◌∙◌}
use Rattle.ct_change.specs.Emission.{emission}
use Rattle.op_group.proofs.Openings.{opens}
use Rattle.op_group.proofs.group.Group.opened.Goals as goal

pub returns : goal.returns
returns g c = opens c.args.self.now.by (g.I.ChangeMode.mode c.args.self.now.input) (g.O.ChangeMode.mode c.args.self.now.output) c.args.subtask c.tell.new.to c.in_ok-fresh.fresh (omega arith) (omega arith) c.in_ok-fresh.ensures
    (c.in_ok-tell.ensures ∙ ap (λ xs. xs ++ emission (g.O.ChangeMode.mode c.args.self.now.output) None c.in_ok-fresh.fresh) c.new-sent.ensures)
