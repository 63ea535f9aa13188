use Rattle.std.proofs.Common.{◌≡◌, ℕ, ◌+◌, [], Bool, cond, sym, subst, ◌∙◌, arith}
use Rattle.stream_model.specs.Drain.{channels_from, channels_to}
use Rattle.session_open.specs.Wired.{Lays}
use Rattle.session_open.proofs.Stages.{from_next, lays_more, lays_none}
use Rattle.session_open.proofs.wires.Wires.lay_edge.Goals as goal

pub returns-then-not-feeds_node : goal.returns-then-not-feeds_node
returns-then-not-feeds_node c = λ g wires.
    let off = sym (c.feeds_node.ensures g wires) ∙ c.if-not-feeds_node.true in
    subst (λ (b : Bool). Lays g c.args.stages.now.items c.args.stages.now.items (cond b (channels_from g c.args.edge 0 g.subtasks) [])) (sym off) (lays_none g c.args.stages.now.items)

pub loop-from-init : goal.loop-from-init
loop-from-init c = λ g wires. lays_none g c.args.stages.now.items

pub loop-from-preserved : goal.loop-from-preserved
loop-from-preserved c = λ g wires.
    lays_more g c.args.stages.now.items c.loop-from.stages.items c.lay_subtask.new.stages.items (channels_from g c.args.edge 0 c.loop-from.from) (channels_to g c.args.edge c.loop-from.from 0 g.subtasks) (channels_from g c.args.edge 0 (c.loop-from.from + 1))
    (c.loop-from.invariant g wires) (c.in_ok-lay_subtask.ensures g wires) (from_next g c.args.edge c.loop-from.from)

pub returns : goal.returns
returns c = λ g wires.
    let on = sym (c.feeds_node.ensures g wires) ∙ c.if-not-feeds_node.false in
    let count : c.loop-from.from ≡ g.subtasks = omega (arith, c.loop-from-test.false, c.loop-from.auto.from-end, wires.subtasks) in
    subst (λ (b : Bool). Lays g c.args.stages.now.items c.loop-from.stages.items (cond b (channels_from g c.args.edge 0 g.subtasks) [])) (sym on)
    (subst (λ (n : ℕ). Lays g c.args.stages.now.items c.loop-from.stages.items (channels_from g c.args.edge 0 n)) count (c.loop-from.invariant g wires))
