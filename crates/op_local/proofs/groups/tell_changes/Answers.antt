use Rattle.std.proofs.Common.{sym, ap, subst, ◌∙◌}
use Rattle.op_local.specs.Telling.{MayAllBeTold, told_along}
use Rattle.op_local.proofs.TellingOn.{told_by_group, may_by_group, if_ok, ranges}
use Rattle.op_local.proofs.groups.tell_changes.Goals as goal

pub of_changes-requires : goal.of_changes-requires
of_changes-requires g c = c.requires.few

pub tell_groups-requires : goal.tell_groups-requires
tell_groups-requires g c = subst (MayAllBeTold c.args.aggs.now) (sym c.in_ok-bundle.ensures.entries) (may_by_group c.args.aggs.now c.args.keys c.args.changes c.requires)

pub returns-clause-sent : goal.returns-clause-sent
returns-clause-sent g c = if_ok c.tell_groups.result (λ sent told.
    sym (ap (told_along c.args.aggs.now) c.in_ok-bundle.ensures.entries ∙ told_by_group c.args.aggs.now c.args.keys c.args.changes) ∙ told) c.tell_groups.ensures.sent

pub returns-clause-range : goal.returns-clause-range
returns-clause-range g c = ranges c.tell_groups.result (λ row out.
    sym (ap (told_along c.args.aggs.now) c.in_ok-bundle.ensures.entries ∙ told_by_group c.args.aggs.now c.args.keys c.args.changes) ∙ out) c.tell_groups.ensures.range
