use Rattle.std.proofs.Common.{[], List, subst, ℕ, IfOk}
use Rattle.ct_change.specs.Changelog.{upsert, kinds_of}
use Rattle.ct_change.specs.declared.kind.KindSet.{KindSet}
use Rattle.phys_plan.specs.declared.edge.Exchange.TheVariants.{Hash}
use Rattle.ct_change.specs.declared.update.Update.TheVariants.{After}
use Rattle.phys_plan.specs.declared.node.Op.TheVariants as op
use Rattle.plan_laying.specs.Laying.{Pushed}
use Rattle.plan_laying.proofs.laying.Laying.push_keyed_scan.Goals as goal

pub returns-clause-pushed : goal.returns-clause-pushed
returns-clause-pushed c =
    let key = c.args.key.now in
    let scan = op.Scan c.args.source in
    subst (λ (k : List ℕ). IfOk c.push.result (λ number. Pushed c.args.self.now c.push.new.self scan [] (Hash key) (kinds_of (upsert key)) (After k) number)) c.in_ok-dup-2.ensures
    (subst (λ (s : KindSet). IfOk c.push.result (λ number. Pushed c.args.self.now c.push.new.self scan [] (Hash key) s (After c.in_ok-dup-2.field-0) number)) (c.upsert_kinds.ensures key)
    (subst (λ (k : List ℕ). IfOk c.push.result (λ number. Pushed c.args.self.now c.push.new.self scan [] (Hash k) c.upsert_kinds.result (After c.in_ok-dup-2.field-0) number)) c.in_ok-dup.ensures
    (subst (λ (i : List ℕ). IfOk c.push.result (λ number. Pushed c.args.self.now c.push.new.self scan i (Hash c.in_ok-dup.field-0) c.upsert_kinds.result (After c.in_ok-dup-2.field-0) number)) c.new-inputs.ensures c.push.ensures.pushed)))
