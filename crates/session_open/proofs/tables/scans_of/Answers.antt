use Rattle.std.proofs.Common.{◌≡◌, ℕ, ◌+◌, List, [], ◌∷◌, ◌++◌, suc, cond, Bool, ap, ◌∙◌, arith}
use Rattle.stream_model.specs.Machine.{is_number}
use Rattle.plan_rules.specs.Plans.{network_of, scan_in}
use Rattle.phys_plan.specs.Reading.{numbered}
use Rattle.session_core.specs.LaidOut.{scans_below}
use Rattle.session_open.proofs.tables.scans_of.Goals as goal

pub loop-node-preserved : goal.loop-node-preserved
loop-node-preserved c = λ of doing.
    let n = c.loop-node.node in
    let g = network_of of doing c.args.plan.now in
    c.in_ok-push_if.ensures
    ∙ (ap (λ (b : Bool). cond b (c.loop-node.scans ++ n ∷ []) c.loop-node.scans) c.is_scan.ensures
    ∙ (ap (λ (l : List ℕ). cond (is_number c.args.table (scan_in (numbered c.args.plan.now.nodes n))) (l ++ n ∷ []) l) (c.loop-node.invariant of doing)
    ∙ ap (λ m. scans_below g c.args.table m) (let e : suc n ≡ n + 1 = omega arith in e)))
