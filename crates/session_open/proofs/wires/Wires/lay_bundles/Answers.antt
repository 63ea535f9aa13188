use Rattle.std.proofs.Common.{◌≡◌, ℕ, ◌+◌, List, [], ◌∷◌, Bool, cond, sym, ap, subst, ◌∙◌, arith}
use Rattle.stream_model.specs.Drain.{Stage as DrainStage, bundles_from, flushes}
use Rattle.session_core.specs.declared.wiring.Stage.{Stage}
use Rattle.session_open.specs.Wired.{Lays}
use Rattle.session_open.proofs.Stages.{bundles_next, lays_bundle, lays_more, lays_none}
use Rattle.session_open.proofs.wires.Wires.lay_bundles.Goals as goal

pub returns-then-not-keeps_bundles : goal.returns-then-not-keeps_bundles
returns-then-not-keeps_bundles c = λ g wires.
    let none = c.keeps_bundles.ensures g wires ∙ ap (λ (b : Bool). cond b (bundles_from c.args.node 0 g.subtasks) []) c.if-not-keeps_bundles.true in
    subst (λ (l : List DrainStage). Lays g c.args.stages.now.items c.args.stages.now.items l) (sym none) (lays_none g c.args.stages.now.items)

pub loop-subtask-init : goal.loop-subtask-init
loop-subtask-init c = λ g wires. lays_none g c.args.stages.now.items

pub loop-subtask-preserved : goal.loop-subtask-preserved
loop-subtask-preserved c = λ g wires.
    let now = c.loop-subtask.stages.items in
    let j = c.loop-subtask.subtask in
    subst (λ (l : List Stage). Lays g c.args.stages.now.items l (bundles_from c.args.node 0 (j + 1))) (sym c.in_ok-push.ensures.items)
    (lays_more g c.args.stages.now.items now _ (bundles_from c.args.node 0 j) (flushes c.args.node j ∷ []) (bundles_from c.args.node 0 (j + 1)) (c.loop-subtask.invariant g wires) (lays_bundle g now c.args.node j) (bundles_next g c.args.node j))

pub returns : goal.returns
returns c = λ g wires.
    let count : c.loop-subtask.subtask ≡ g.subtasks = omega (arith, c.loop-subtask-test.false, c.loop-subtask.auto.subtask-end, wires.subtasks) in
    let all = c.keeps_bundles.ensures g wires ∙ ap (λ (b : Bool). cond b (bundles_from c.args.node 0 g.subtasks) []) c.if-not-keeps_bundles.false in
    subst (λ (l : List DrainStage). Lays g c.args.stages.now.items c.loop-subtask.stages.items l) (sym all)
    (subst (λ (n : ℕ). Lays g c.args.stages.now.items c.loop-subtask.stages.items (bundles_from c.args.node 0 n)) count (c.loop-subtask.invariant g wires))
