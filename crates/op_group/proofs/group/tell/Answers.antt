use Rattle.std.proofs.Common.{◌++◌, ap, sym, ◌∙◌, append-nil}
use Rattle.ct_change.specs.Emission.{emission}
use Rattle.ct_change.proofs.laws.Emissions.{emission-same}
use Rattle.op_group.proofs.group.tell.Goals as goal

pub returns-then-stays : goal.returns-then-stays
returns-then-stays g c =
    let mode = g.O.ChangeMode.mode c.args.output.now in
    let none = sym (emission-same mode c.args.results.old) ∙ ap (emission mode c.args.results.old) (c.stays.ensures.same c.if-stays.true) in
    sym (append-nil c.args.to.now) ∙ ap (λ changes. c.args.to.now ++ changes) none
