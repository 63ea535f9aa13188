use Rattle.std.proofs.Common.{◌≡◌, List, Bool, cond, Option, Some, None, ap, subst, sym, ◌∙◌}
use Rattle.std.specs.Option.{unwrap_or}
use Rattle.ct_change.specs.declared.change.Change.{Change}
use Rattle.session_core.specs.Kept.{ForEach, HasHandedOn, MayHandOn}
use Rattle.session_subtasks.proofs.laws.Outcomes.{on_ok}
use Rattle.session_core.proofs.traffic.Traffic.hand_emitted.Goals as goal

-- the list of what was due
list_is : (due : Bool) (list changes : List Change) → due ≡ Bool.true → cond due (Some list) None ≡ Some changes → list ≡ changes
list_is due list changes is same = ap (λ (o : Option (List Change)). unwrap_or o list) (sym (ap (λ (b : Bool). cond b (Some list) None) is) ∙ same)

pub returns-clause-ok : goal.returns-clause-ok
returns-clause-ok c = on_ok _ _ c.hand_on.result c.hand_on.ensures.ok (λ told changes is.
    let same = list_is c.emitted.inside.due c.emitted.inside.changes changes c.if-not-emitted.false (c.emitted.view_is ∙ is) in
    subst (λ (list : List Change). ForEach (MayHandOn c.args.wiring.now c.args.self.now c.args.node c.args.subtask list) (HasHandedOn c.hand_on.new.self c.args.node c.args.subtask list)) same told)
