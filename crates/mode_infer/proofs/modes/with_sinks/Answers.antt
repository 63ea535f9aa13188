use Rattle.std.proofs.Common.{◌++◌, append-nil, sym, ap, ◌∙◌, arith}
use Rattle.mode_infer.proofs.Ends.{all_end}
use Rattle.mode_infer.proofs.modes.with_sinks.Goals as goal

pub returns : goal.returns
returns c =
    sym (ap (λ left. c.loop-i.all ++ left) (all_end c.args.declared c.args.modes.now c.args.nodes.now c.args.modes.now c.loop-i.i (omega (arith, c.min-many.ensures, c.loop-i-test.false))) ∙ append-nil c.loop-i.all)
    ∙ c.loop-i.invariant
