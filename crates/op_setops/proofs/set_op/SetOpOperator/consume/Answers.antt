use Rattle.std.proofs.Common.{refl}
use Rattle.op_rules.specs.History.{arrival}
use Rattle.op_rules.proofs.laws.Emits.{emits_onto}
use Rattle.emission_rules.specs.SetOps.{SetOperation, set_rule}
use Rattle.op_setops.proofs.Turns.{are_after, emits_one}
use Rattle.op_setops.proofs.set_op.SetOpOperator.consume.Goals as goal

pub returns-clause-ok : goal.returns-clause-ok
returns-clause-ok g c = λ before from stands may few.
    let operation : SetOperation = record { except = c.args.self.now.except; all = c.args.self.now.all } in
    let left = c.in_ok-take.ensures.left in
    let right = c.in_ok-take.ensures.right in (
      emits_onto (set_rule operation) before (arrival c.args.port from c.args.change) c.args.to.now _ c.take.new.to
          (emits_one operation c.args.self.now.left c.args.self.now.right before stands c.args.port from c.args.change may c.take.new.self.left c.take.new.self.right left right _ refl) c.in_ok-take.ensures.sent,
      are_after operation c.args.self.now.left c.args.self.now.right before stands c.args.port from c.args.change may c.take.new.self.left c.take.new.self.right left right,
    )
