use Rattle.std.proofs.Common.{sym, ap, subst, ◌∙◌}
use Rattle.op_merge.specs.Bundles.{AreNamed, grown, told_along}
use Rattle.op_merge.specs.Groups.{merging}
use Rattle.op_merge.proofs.Taking.{grown_all, named_all, told_all}
use Rattle.op_merge.proofs.Told.{if_ok, on_ok, ranges}
use Rattle.op_merge.proofs.Turns.{merged_same}
use Rattle.op_merge.proofs.pieces.take_changes.Goals as goal

pub take_groups-requires-clause-named : goal.take_groups-requires-clause-named
take_groups-requires-clause-named g c = subst (AreNamed c.args.by.now.keys) (sym c.in_ok-bundle.ensures.entries) (named_all c.args.by.now.keys c.args.changes c.requires.long)

pub returns-clause-sent : goal.returns-clause-sent
returns-clause-sent g c = if_ok c.take_groups.result (λ sent told of are.
    let m = merging c.args.by.now (g.O.ChangeMode.mode c.args.output.now) in
    sym (ap (told_along m of) c.in_ok-bundle.ensures.entries ∙ told_all m c.args.changes of) ∙ told of are) c.take_groups.ensures.sent

pub returns-clause-kept : goal.returns-clause-kept
returns-clause-kept g c = on_ok c.take_groups.result (λ kept of after are grows.
    merged_same c.args.by.now c.take_groups.new.groups (grown c.args.by.now.keys of c.in_ok-bundle.bundle.entries) after
    (λ key. ap (λ entries. grown c.args.by.now.keys of entries key) c.in_ok-bundle.ensures.entries ∙ grown_all c.args.by.now.keys c.args.changes of key ∙ sym (grows key)) (kept of are)) c.take_groups.ensures.kept

pub returns-clause-range : goal.returns-clause-range
returns-clause-range g c = ranges c.take_groups.result (λ row out of are.
    let m = merging c.args.by.now (g.O.ChangeMode.mode c.args.output.now) in
    sym (ap (told_along m of) c.in_ok-bundle.ensures.entries ∙ told_all m c.args.changes of) ∙ out of are) c.take_groups.ensures.range
