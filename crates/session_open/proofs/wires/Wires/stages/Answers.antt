use Rattle.std.proofs.Common.{◌≡◌, ℕ, List, [], ◌+◌, sym, subst, arith}
use Rattle.stream_model.specs.Drain.{stages_from}
use Rattle.session_core.specs.declared.wiring.Stage.{Stage}
use Rattle.session_open.specs.Wired.{Lays, node_part}
use Rattle.session_open.proofs.Stages.{lays_more, lays_none, stages_next}
use Rattle.session_open.proofs.wires.Wires.stages.Goals as goal

pub loop-done-init : goal.loop-done-init
loop-done-init c = λ g wires. subst (λ (l : List Stage). Lays g [] l []) (sym c.new-stages.ensures.items) (lays_none g [])

pub loop-done-preserved : goal.loop-done-preserved
loop-done-preserved c = λ g wires.
    lays_more g [] c.loop-done.stages.items c.lay_stages.new.stages.items (stages_from g 1 c.loop-done.done) (node_part g (1 + c.loop-done.done)) (stages_from g 1 (c.loop-done.done + 1))
    (c.loop-done.invariant g wires) (c.in_ok-lay_stages.ensures g wires) (stages_next g c.loop-done.done)

pub returns : goal.returns
returns c = λ g wires.
    let count : c.loop-done.done ≡ g.count = omega (arith, c.loop-done-test.false, c.loop-done.auto.done-end, wires.nodes) in
    subst (λ (n : ℕ). Lays g [] c.loop-done.stages.items (stages_from g 1 n)) count (c.loop-done.invariant g wires)
