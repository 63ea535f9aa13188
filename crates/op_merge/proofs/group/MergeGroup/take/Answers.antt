use Rattle.std.proofs.Common.{[], ◌∷◌, length, Ok, sym, ap, subst, ◌∙◌}
use Rattle.std.proofs.lemmas.List.{length-take-le}
use Rattle.op_rules.specs.Rules.{appended}
use Rattle.phase_rules.specs.Merging.{merge_answer}
use Rattle.op_merge.specs.Groups.{AreMerged, amounts_of, merging, with_more}
use Rattle.op_merge.proofs.Told.{on_ok, ranges}
use Rattle.op_merge.proofs.group.MergeGroup.take.Goals as goal

pub take_group-requires-clause-named : goal.take_group-requires-clause-named
take_group-requires-clause-named g c = ap length c.in_ok-key.ensures ∙ length-take-le c.args.self.now.by.keys c.args.change.row c.requires.long

pub returns-clause-sent : goal.returns-clause-sent
returns-clause-sent g c = on_ok c.take_group.result (λ told of are.
    let by = c.args.self.now.by in
    let m = merging by (g.O.ChangeMode.mode c.args.self.now.output) in
    (λ i. appended (Ok c.args.to.now) (merge_answer m (sym c.in_ok-key.ensures i) (of (sym c.in_ok-key.ensures i)) (amounts_of by.keys (sym c.in_ok-changes.ensures i)))) ∙ told of are) c.take_group.ensures.sent

pub returns-clause-kept : goal.returns-clause-kept
returns-clause-kept g c = on_ok c.take_group.result (λ kept of are.
    let by = c.args.self.now.by in
    subst (λ key. AreMerged by c.take_group.new.groups (with_more of key (amounts_of by.keys (c.args.change ∷ [])))) c.in_ok-key.ensures
    (subst (λ changes. AreMerged by c.take_group.new.groups (with_more of c.in_ok-key.key (amounts_of by.keys changes))) c.in_ok-changes.ensures (kept of are))) c.take_group.ensures.kept

pub returns-clause-range : goal.returns-clause-range
returns-clause-range g c = ranges c.take_group.result (λ row out of are.
    let by = c.args.self.now.by in
    let m = merging by (g.O.ChangeMode.mode c.args.self.now.output) in
    (λ i. merge_answer m (sym c.in_ok-key.ensures i) (of (sym c.in_ok-key.ensures i)) (amounts_of by.keys (sym c.in_ok-changes.ensures i))) ∙ out of are) c.take_group.ensures.range
