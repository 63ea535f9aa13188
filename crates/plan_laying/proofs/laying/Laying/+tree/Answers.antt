use Rattle.std.proofs.Common.{rules, IfErr, ◌≡◌, ◌++◌, ◌∷◌, [], ◌∙◌, ap, map}
use Rattle.rel_algebra.specs.View.{rel_view}
use Rattle.plan_laying.specs.declared.laying.Laid.{Laid}
use Rattle.plan_laying.specs.Laying.{Fails}
use Rattle.plan_laying.specs.Ways.{seen}
use Rattle.plan_laying.proofs.laws.Laid.{sends_same, union_lays}
use Rattle.plan_laying.proofs.laws.Resent.{resent_fails, two_tops}
use Rattle.plan_laying.proofs.laws.Several.{turn_lays, turn_fails}
use Rattle.plan_laying.proofs.laws.Stands.{all_fail, all_laid, one_laid, table_fails, table_laid, two_fail, two_laid}
use Rattle.plan_laying.proofs.laws.Ways.{step_up, up_ends, up_fails, viewed_behind}
use Rattle.plan_laying.proofs.laws.Answered.{if_ok, if_err}
use Rattle.plan_laying.proofs.laying.Laying.+tree.Goals as goal

-- ---- a node

pub lay_node-returns-in-Table-clause-laid : goal.lay_node-returns-in-Table-clause-laid
lay_node-returns-in-Table-clause-laid t c = table_laid _ _ _ _ _ _ _ c.in_ok-step.ensures _ c.in-Table.is c.lay_scan.ensures.laid

pub lay_node-returns-in-Table-clause-fails : goal.lay_node-returns-in-Table-clause-fails
lay_node-returns-in-Table-clause-fails t c = table_fails _ c.args.self.now c.args.self.now c.args.below _ _ _ c.in_ok-step.ensures _ c.in-Table.is c.lay_scan.ensures.fails

pub lay_node-returns-in-All-clause-laid : goal.lay_node-returns-in-All-clause-laid
lay_node-returns-in-All-clause-laid t c = all_laid _ _ _ _ _ _ _ c.in_ok-step.ensures _ c.in-All.is c.lay_union.ensures.laid

pub lay_node-returns-in-All-clause-fails : goal.lay_node-returns-in-All-clause-fails
lay_node-returns-in-All-clause-fails t c = all_fail _ c.args.self.now c.args.self.now c.args.below _ _ _ c.in_ok-step.ensures _ c.in-All.is c.lay_union.ensures.fails

pub lay_node-returns-in-One-clause-laid : goal.lay_node-returns-in-One-clause-laid
lay_node-returns-in-One-clause-laid t c = one_laid _ _ _ _ _ _ _ c.in_ok-step.ensures _ c.in-One.is c.push_above.ensures.laid

pub lay_node-returns-in-Two-clause-laid : goal.lay_node-returns-in-Two-clause-laid
lay_node-returns-in-Two-clause-laid t c = two_laid _ _ _ _ _ _ _ c.in_ok-step.ensures _ _ c.in-Two.is c.lay_second.ensures.laid

pub lay_node-returns-in-Two-clause-fails : goal.lay_node-returns-in-Two-clause-fails
lay_node-returns-in-Two-clause-fails t c = two_fail _ c.args.self.now c.args.self.now c.args.below _ _ _ c.in_ok-step.ensures _ _ c.in-Two.is c.lay_second.ensures.fails

-- ---- the second input

pub lay_second-returns-clause-laid : goal.lay_second-returns-clause-laid
lay_second-returns-clause-laid t c =
    if_ok _ _ _ (λ root p. two_tops _ _ _ _ _ _ _ _ _ root c.in_ok-send_as_asked.ensures.resent c.in_ok-second.ensures.laid c.in_ok-send_as_asked-2.ensures.resent p) c.push_both.ensures.pushed

pub lay_second-returns-in_err-second-clause-fails : goal.lay_second-returns-in_err-second-clause-fails
lay_second-returns-in_err-second-clause-fails t c =
    let fails : IfErr c.from_residual-in_err-second.result (λ fault. Fails c.send_as_asked.new.self (rel_view c.args.right.now) fault) = search rules in
    if_err {T = Laid} c.from_residual-in_err-second.result (λ fault. Fails c.send_as_asked.new.self (rel_view c.args.right.now) fault) (λ fault. Fails c.args.self.now (rel_view c.args.right.now) fault)
    (λ fault f. resent_fails c.args.self.now c.send_as_asked.new.self _ (rel_view c.args.right.now) fault c.in_ok-send_as_asked.ensures.resent f) fails

-- ---- several trees

pub lay_union-returns-clause-laid : goal.lay_union-returns-clause-laid
lay_union-returns-clause-laid t c = if_ok _ _ _ (λ root p. union_lays _ _ _ _ _ _ _ root c.in_ok-all.ensures.laid p) (sends_same _ _ _ _ _ _ _ _ c.as_slice.ensures c.push_sending.ensures.pushed)

pub lay_all-returns-in_err-laid-clause-fails : goal.lay_all-returns-in_err-laid-clause-fails
lay_all-returns-in_err-laid-clause-fails t c =
    let fails : IfErr c.from_residual.result (λ fault. Fails c.loop-input.self (rel_view c.input-item.result) fault) = search rules in
    if_err _ _ _ (λ fault f. turn_fails _ _ _ _ _ _ _ fault c.loop-input-test.true c.input-item.is c.loop-input.invariant f) fails

pub lay_all-loop-input-preserved : goal.lay_all-loop-input-preserved
lay_all-loop-input-preserved t c = turn_lays _ _ _ _ _ _ _ _ _ _ _ c.loop-input-test.true c.input-item.is c.loop-input.invariant c.in_ok-laid.ensures.laid c.in_ok-push.ensures.ok (c.in_ok-push-2.ensures.ok ∙ ap (λ f. c.loop-input.flows ++ f ∷ []) c.plain.ensures)

-- ---- the way up

pub lay-returns-in_err-root-clause-fails : goal.lay-returns-in_err-root-clause-fails
lay-returns-in_err-root-clause-fails t c =
    let fails : IfErr c.from_residual-in_err-root.result (λ fault. Fails c.up.self (rel_view c.in-Some.top.now) fault) = search rules in
    if_err _ _ _ (λ fault f. up_fails _ _ _ _ _ _ _ c.up.invariant (viewed_behind _ _ _ c.in-Some.ensures.last) fault f) fails

pub lay-returns-clause-laid : goal.lay-returns-clause-laid
lay-returns-clause-laid t c =
    let none : c.up.way ≡ [] = search rules in
    up_ends _ _ _ _ _ (ap (map seen) none) c.up.invariant

pub lay-up-preserved : goal.lay-up-preserved
lay-up-preserved t c = step_up _ _ _ _ _ _ _ c.up.invariant (viewed_behind _ _ _ c.in-Some.ensures.last) _ _ c.in_ok-root.ensures.laid
