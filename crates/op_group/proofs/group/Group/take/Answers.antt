use Rattle.std.proofs.Common.{ap, ◌∙◌, option_copied}
use Rattle.ct_change.specs.declared.change.Diff.{Diff}
use Rattle.ct_change.specs.Changelog.{apply}
use Rattle.ct_change.specs.Emission.{row_of}
use Rattle.emission_rules.specs.Grouping.{members}
use Rattle.op_group.specs.declared.groups.Results.{Results}
use Rattle.op_group.specs.Groups.{grouping}
use Rattle.op_group.proofs.Taken.{has_at, room_at, turned_at, told_at, out_at, emits_told, grouped_after, can, if_range}
use Rattle.op_group.proofs.group.Group.take.Goals as goal

pub turn_group-requires-clause-kept : goal.turn_group-requires-clause-kept
turn_group-requires-clause-kept g c =
    let r = c.requires in
    let by = c.args.self.now.by in
    let input = g.I.ChangeMode.mode c.args.self.now.input in
    let output = g.O.ChangeMode.mode c.args.self.now.output in
    let d = (c.in_ok-diff.ensures.ok r.0 r.2 r.3.may).0 in
    let gone = c.row_of-gone.ensures ∙ ap (λ (x : Diff). row_of x.gone) d in
    let come = c.row_of-come.ensures ∙ ap (λ (x : Diff). row_of x.come) d in (
      λ k. members (grouping by input output) k r.0,
      r.3.grouped.kept,
      has_at by input output r.0 c.args.self.now.groups r.1 c.args.change r.3 c.prefix_into.new.to (option_copied c.row_of-gone.result) (option_copied c.row_of-come.result) c.in_ok-prefix_into.ensures.ok gone come,
      room_at by input output r.0 c.args.self.now.groups r.1 c.args.change r.3 c.prefix_into.new.to (option_copied c.row_of-gone.result) (option_copied c.row_of-come.result) c.in_ok-prefix_into.ensures.ok gone come,
    )

pub returns-in-Err-clause-range : goal.returns-in-Err-clause-range
returns-in-Err-clause-range g c = if_range Results (Unit {0}) c.in-Err.fault (λ row out rows held stands m.
    let by = c.args.self.now.by in
    let input = g.I.ChangeMode.mode c.args.self.now.input in
    let output = g.O.ChangeMode.mode c.args.self.now.output in
    let d = (c.in_ok-diff.ensures.ok rows stands m.may).0 in
    let gone = c.row_of-gone.ensures ∙ ap (λ (x : Diff). row_of x.gone) d in
    let come = c.row_of-come.ensures ∙ ap (λ (x : Diff). row_of x.come) d in
    let has = has_at by input output rows c.args.self.now.groups held c.args.change m c.prefix_into.new.to (option_copied c.row_of-gone.result) (option_copied c.row_of-come.result) c.in_ok-prefix_into.ensures.ok gone come in
    out_at by input output rows c.args.self.now.groups held c.args.change m c.prefix_into.new.to (option_copied c.row_of-gone.result) (option_copied c.row_of-come.result) c.in_ok-prefix_into.ensures.ok gone come row out.0
    (out.1 (λ k. members (grouping by input output) k rows) m.grouped.kept has (m.grouped.counted c.prefix_into.new.to))) c.in-Err.ensures.range

pub tell-requires : goal.tell-requires
tell-requires g c =
    let r = c.requires in
    let by = c.args.self.now.by in
    let input = g.I.ChangeMode.mode c.args.self.now.input in
    let output = g.O.ChangeMode.mode c.args.self.now.output in
    let d = (c.in_ok-diff.ensures.ok r.0 r.2 r.3.may).0 in
    let gone = c.row_of-gone.ensures ∙ ap (λ (x : Diff). row_of x.gone) d in
    let come = c.row_of-come.ensures ∙ ap (λ (x : Diff). row_of x.come) d in
    let has = has_at by input output r.0 c.args.self.now.groups r.1 c.args.change r.3 c.prefix_into.new.to (option_copied c.row_of-gone.result) (option_copied c.row_of-come.result) c.in_ok-prefix_into.ensures.ok gone come in
    let told = told_at by input output r.0 c.args.self.now.groups r.1 c.args.change r.3 c.prefix_into.new.to (option_copied c.row_of-gone.result) (option_copied c.row_of-come.result) c.in_ok-prefix_into.ensures.ok gone come c.in-Ok.results
    (c.in-Ok.ensures.told (λ k. members (grouping by input output) k r.0) r.3.grouped.kept has) in
    can by input output r.0 c.args.self.now.groups r.1 c.args.change r.3 c.in-Ok.results told

pub returns-clause-sent : goal.returns-clause-sent
returns-clause-sent g c = λ rows held stands m.
    let by = c.args.self.now.by in
    let input = g.I.ChangeMode.mode c.args.self.now.input in
    let output = g.O.ChangeMode.mode c.args.self.now.output in
    let d = (c.in_ok-diff.ensures.ok rows stands m.may).0 in
    let gone = c.row_of-gone.ensures ∙ ap (λ (x : Diff). row_of x.gone) d in
    let come = c.row_of-come.ensures ∙ ap (λ (x : Diff). row_of x.come) d in
    let has = has_at by input output rows c.args.self.now.groups held c.args.change m c.prefix_into.new.to (option_copied c.row_of-gone.result) (option_copied c.row_of-come.result) c.in_ok-prefix_into.ensures.ok gone come in
    let told = told_at by input output rows c.args.self.now.groups held c.args.change m c.prefix_into.new.to (option_copied c.row_of-gone.result) (option_copied c.row_of-come.result) c.in_ok-prefix_into.ensures.ok gone come c.in-Ok.results
    (c.in-Ok.ensures.told (λ k. members (grouping by input output) k rows) m.grouped.kept has) in
    emits_told by input output rows c.args.self.now.groups held c.args.change m c.in-Ok.results told c.args.to.now c.tell.new.to c.in_ok-tell.ensures

pub returns-clause-rows : goal.returns-clause-rows
returns-clause-rows g c = λ rows held stands m. (c.in_ok-diff.ensures.ok rows stands m.may).1

pub returns-clause-kept : goal.returns-clause-kept
returns-clause-kept g c = λ rows held stands m.
    let by = c.args.self.now.by in
    let input = g.I.ChangeMode.mode c.args.self.now.input in
    let output = g.O.ChangeMode.mode c.args.self.now.output in
    let d = (c.in_ok-diff.ensures.ok rows stands m.may).0 in
    let gone = c.row_of-gone.ensures ∙ ap (λ (x : Diff). row_of x.gone) d in
    let come = c.row_of-come.ensures ∙ ap (λ (x : Diff). row_of x.come) d in
    let has = has_at by input output rows c.args.self.now.groups held c.args.change m c.prefix_into.new.to (option_copied c.row_of-gone.result) (option_copied c.row_of-come.result) c.in_ok-prefix_into.ensures.ok gone come in
    let told = told_at by input output rows c.args.self.now.groups held c.args.change m c.prefix_into.new.to (option_copied c.row_of-gone.result) (option_copied c.row_of-come.result) c.in_ok-prefix_into.ensures.ok gone come c.in-Ok.results
    (c.in-Ok.ensures.told (λ k. members (grouping by input output) k rows) m.grouped.kept has) in
    let turned = turned_at by input output rows c.args.self.now.groups held c.args.change m c.prefix_into.new.to (option_copied c.row_of-gone.result) (option_copied c.row_of-come.result) c.in_ok-prefix_into.ensures.ok gone come in
    grouped_after by input output rows c.args.self.now.groups held c.args.change m c.in-Ok.results told c.turn_group.new.groups
    (c.in-Ok.ensures.kept (λ k. members (grouping by input output) k rows) (λ k. members (grouping by input output) k (apply input rows c.args.change)) m.grouped.kept has turned)
