use Rattle.std.proofs.Common.{◌++◌, append-nil, sym, ap, ◌∙◌, arith}
use Rattle.mode_infer.proofs.Ends.{modes_end}
use Rattle.mode_infer.proofs.modes.modes_of.Goals as goal

pub returns : goal.returns
returns c =
    sym (ap (λ left. c.loop-i.modes ++ left) (modes_end c.args.flows.now c.args.updates.now c.loop-i.i (omega (arith, c.min-many.ensures, c.loop-i-test.false))) ∙ append-nil c.loop-i.modes)
    ∙ c.loop-i.invariant
