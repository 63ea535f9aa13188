use Rattle.std.proofs.Common.{◌≡◌, ℕ, ◌+◌, subst, arith}
use Rattle.stream_model.specs.Drain.{channels_to}
use Rattle.session_open.specs.Wired.{Lays}
use Rattle.session_open.proofs.Stages.{to_next, lays_more, lays_none}
use Rattle.session_open.proofs.wires.Wires.lay_subtask.Goals as goal

pub loop-to-init : goal.loop-to-init
loop-to-init c = λ g wires. lays_none g c.args.stages.now.items

pub loop-to-preserved : goal.loop-to-preserved
loop-to-preserved c = λ g wires.
    lays_more g c.args.stages.now.items c.loop-to.stages.items c.lay_channel.new.stages.items (channels_to g c.args.edge c.args.from 0 c.loop-to.to) (channels_to g c.args.edge c.args.from c.loop-to.to 1) (channels_to g c.args.edge c.args.from 0 (c.loop-to.to + 1))
    (c.loop-to.invariant g wires) (c.in_ok-lay_channel.ensures g wires) (to_next g c.args.edge c.args.from c.loop-to.to)

pub returns : goal.returns
returns c = λ g wires.
    let count : c.loop-to.to ≡ g.subtasks = omega (arith, c.loop-to-test.false, c.loop-to.auto.to-end, wires.subtasks) in
    subst (λ (n : ℕ). Lays g c.args.stages.now.items c.loop-to.stages.items (channels_to g c.args.edge c.args.from 0 n)) count (c.loop-to.invariant g wires)
