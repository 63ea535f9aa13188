use Rattle.std.proofs.Common.{◌≡◌, ℕ, ◌+◌, subst, arith}
use Rattle.stream_model.specs.Drain.{channels_into}
use Rattle.session_open.specs.Wired.{Lays}
use Rattle.session_open.proofs.Stages.{edge_part, into_next, lays_more, lays_none}
use Rattle.session_open.proofs.wires.Wires.lay_node.Goals as goal

pub loop-done-init : goal.loop-done-init
loop-done-init c = λ g wires. lays_none g c.args.stages.now.items

pub loop-done-preserved : goal.loop-done-preserved
loop-done-preserved c = λ g wires.
    lays_more g c.args.stages.now.items c.loop-done.stages.items c.lay_edge.new.stages.items (channels_into g c.args.node 1 c.loop-done.done) (edge_part g c.args.node (1 + c.loop-done.done)) (channels_into g c.args.node 1 (c.loop-done.done + 1))
    (c.loop-done.invariant g wires) (c.in_ok-lay_edge.ensures g wires) (into_next g c.args.node c.loop-done.done)

pub returns : goal.returns
returns c = λ g wires.
    let count : c.loop-done.done ≡ g.count = omega (arith, c.loop-done-test.false, c.loop-done.auto.done-end, wires.nodes) in
    subst (λ (n : ℕ). Lays g c.args.stages.now.items c.loop-done.stages.items (channels_into g c.args.node 1 n)) count (c.loop-done.invariant g wires)
