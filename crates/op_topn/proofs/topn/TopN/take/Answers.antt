use Rattle.std.proofs.Common.{◌++◌, length, refl, sym, ap, append-nil, ◌∙◌}
use Rattle.ct_change.specs.declared.change.Diff.{Diff}
use Rattle.ct_change.specs.Changelog.{apply}
use Rattle.ct_change.specs.Emission.{row_of}
use Rattle.emission_rules.specs.Ranking.{members}
use Rattle.op_topn.specs.Tops.{ranking}
use Rattle.op_topn.proofs.Taken.{all_at, columns_there, has_at, room_at, turned_at, can_at, ranked_at, told_at, nothing_at, held_after, some_firsts, same_firsts}
use Rattle.op_topn.proofs.topn.TopN.take.Goals as goal

pub project_into-requires : goal.project_into-requires
project_into-requires g c =
    let r = c.requires in
    let by = c.args.self.now.by in
    let input = g.I.ChangeMode.mode c.args.self.now.input in
    let output = g.O.ChangeMode.mode c.args.self.now.output in
    let top = ranking by input output in
    all_at (length c.args.change.row) by.partition (columns_there top r.0 c.args.self.now.partitions r.1 c.args.change r.3)

pub turn_partition-requires : goal.turn_partition-requires
turn_partition-requires g c =
    let r = c.requires in
    let by = c.args.self.now.by in
    let input = g.I.ChangeMode.mode c.args.self.now.input in
    let output = g.O.ChangeMode.mode c.args.self.now.output in
    let top = ranking by input output in
    let d = (c.in_ok-diff.ensures.ok r.0 r.2 r.3.may).0 in
    let gone = c.row_of-gone.ensures ∙ ap (λ (x : Diff). row_of x.gone) d in
    let come = c.row_of-come.ensures ∙ ap (λ (x : Diff). row_of x.come) d in
    record { kept = (λ k. members top k r.0, r.3.is_held.kept, has_at top r.0 c.args.self.now.partitions r.1 c.args.change r.3 c.project_into.new.to c.row_of-gone.result c.row_of-come.result c.in_ok-project_into.ensures.ok gone come, room_at top r.0 c.args.self.now.partitions r.1 c.args.change r.3 c.project_into.new.to c.row_of-gone.result c.row_of-come.result c.in_ok-project_into.ensures.ok gone come) }

pub tell-requires-clause-can : goal.tell-requires-clause-can
tell-requires-clause-can g c = λ by_rank.
    let r = c.requires in
    let by = c.args.self.now.by in
    let input = g.I.ChangeMode.mode c.args.self.now.input in
    let output = g.O.ChangeMode.mode c.args.self.now.output in
    let top = ranking by input output in
    let d = (c.in_ok-diff.ensures.ok r.0 r.2 r.3.may).0 in
    let gone = c.row_of-gone.ensures ∙ ap (λ (x : Diff). row_of x.gone) d in
    let come = c.row_of-come.ensures ∙ ap (λ (x : Diff). row_of x.come) d in
    let has = has_at top r.0 c.args.self.now.partitions r.1 c.args.change r.3 c.project_into.new.to c.row_of-gone.result c.row_of-come.result c.in_ok-project_into.ensures.ok gone come in
    let are = some_firsts _ _ c.in_ok-firsts.firsts c.in-Some.firsts c.in-Some.is (c.in_ok-firsts.ensures.firsts (λ k. members top k r.0) r.3.is_held.kept has) in
    can_at top r.0 c.args.self.now.partitions r.1 c.args.change r.3 c.project_into.new.to c.row_of-gone.result c.row_of-come.result c.in_ok-project_into.ensures.ok gone come c.in-Some.firsts.olds.items c.in-Some.firsts.news.items are.0 are.1

pub tell-requires-clause-ranked : goal.tell-requires-clause-ranked
tell-requires-clause-ranked g c =
    let r = c.requires in
    let by = c.args.self.now.by in
    let input = g.I.ChangeMode.mode c.args.self.now.input in
    let output = g.O.ChangeMode.mode c.args.self.now.output in
    let top = ranking by input output in
    let d = (c.in_ok-diff.ensures.ok r.0 r.2 r.3.may).0 in
    let gone = c.row_of-gone.ensures ∙ ap (λ (x : Diff). row_of x.gone) d in
    let come = c.row_of-come.ensures ∙ ap (λ (x : Diff). row_of x.come) d in
    let has = has_at top r.0 c.args.self.now.partitions r.1 c.args.change r.3 c.project_into.new.to c.row_of-gone.result c.row_of-come.result c.in_ok-project_into.ensures.ok gone come in
    let are = some_firsts _ _ c.in_ok-firsts.firsts c.in-Some.firsts c.in-Some.is (c.in_ok-firsts.ensures.firsts (λ k. members top k r.0) r.3.is_held.kept has) in
    ranked_at top r.0 c.args.self.now.partitions r.1 c.args.change r.3 c.project_into.new.to c.row_of-gone.result c.row_of-come.result c.in_ok-project_into.ensures.ok gone come c.in-Some.firsts.olds.items c.in-Some.firsts.news.items are.0 are.1

pub returns-in-None-clause-sent : goal.returns-in-None-clause-sent
returns-in-None-clause-sent g c = λ rows held stands m.
    let by = c.args.self.now.by in
    let input = g.I.ChangeMode.mode c.args.self.now.input in
    let output = g.O.ChangeMode.mode c.args.self.now.output in
    let top = ranking by input output in
    let d = (c.in_ok-diff.ensures.ok rows stands m.may).0 in
    let gone = c.row_of-gone.ensures ∙ ap (λ (x : Diff). row_of x.gone) d in
    let come = c.row_of-come.ensures ∙ ap (λ (x : Diff). row_of x.come) d in
    let has = has_at top rows c.args.self.now.partitions held c.args.change m c.project_into.new.to c.row_of-gone.result c.row_of-come.result c.in_ok-project_into.ensures.ok gone come in
    let same = same_firsts _ _ c.in_ok-firsts.firsts c.in-None.is (c.in_ok-firsts.ensures.firsts (λ k. members top k rows) m.is_held.kept has) in
    sym (append-nil c.args.to.now) ∙ ap (λ changes. c.args.to.now ++ changes) (nothing_at top rows c.args.self.now.partitions held c.args.change m c.project_into.new.to c.row_of-gone.result c.row_of-come.result c.in_ok-project_into.ensures.ok gone come _ _ refl refl same)

pub returns-in_ok-tell-in-Some-clause-sent : goal.returns-in_ok-tell-in-Some-clause-sent
returns-in_ok-tell-in-Some-clause-sent g c = λ rows held stands m.
    let by = c.args.self.now.by in
    let input = g.I.ChangeMode.mode c.args.self.now.input in
    let output = g.O.ChangeMode.mode c.args.self.now.output in
    let top = ranking by input output in
    let d = (c.in_ok-diff.ensures.ok rows stands m.may).0 in
    let gone = c.row_of-gone.ensures ∙ ap (λ (x : Diff). row_of x.gone) d in
    let come = c.row_of-come.ensures ∙ ap (λ (x : Diff). row_of x.come) d in
    let has = has_at top rows c.args.self.now.partitions held c.args.change m c.project_into.new.to c.row_of-gone.result c.row_of-come.result c.in_ok-project_into.ensures.ok gone come in
    let are = some_firsts _ _ c.in_ok-firsts.firsts c.in-Some.firsts c.in-Some.is (c.in_ok-firsts.ensures.firsts (λ k. members top k rows) m.is_held.kept has) in
    c.in_ok-tell-in-Some.ensures input ∙ ap (λ changes. c.args.to.now ++ changes) (told_at top rows c.args.self.now.partitions held c.args.change m c.project_into.new.to c.row_of-gone.result c.row_of-come.result c.in_ok-project_into.ensures.ok gone come c.in-Some.firsts.olds.items c.in-Some.firsts.news.items are.0 are.1)

pub returns-in-None-clause-rows : goal.returns-in-None-clause-rows
returns-in-None-clause-rows g c = λ rows held stands m. (c.in_ok-diff.ensures.ok rows stands m.may).1

pub returns-in-None-clause-kept : goal.returns-in-None-clause-kept
returns-in-None-clause-kept g c = λ rows held stands m.
    let by = c.args.self.now.by in
    let input = g.I.ChangeMode.mode c.args.self.now.input in
    let output = g.O.ChangeMode.mode c.args.self.now.output in
    let top = ranking by input output in
    let d = (c.in_ok-diff.ensures.ok rows stands m.may).0 in
    let gone = c.row_of-gone.ensures ∙ ap (λ (x : Diff). row_of x.gone) d in
    let come = c.row_of-come.ensures ∙ ap (λ (x : Diff). row_of x.come) d in
    let has = has_at top rows c.args.self.now.partitions held c.args.change m c.project_into.new.to c.row_of-gone.result c.row_of-come.result c.in_ok-project_into.ensures.ok gone come in
    let turned = turned_at top rows c.args.self.now.partitions held c.args.change m c.project_into.new.to c.row_of-gone.result c.row_of-come.result c.in_ok-project_into.ensures.ok gone come in
    held_after top rows c.args.self.now.partitions held c.args.change m c.turn_partition.new.partitions
    (c.in_ok-firsts.ensures.kept (λ k. members top k rows) (λ k. members top k (apply input rows c.args.change)) m.is_held.kept has turned)

pub returns-in_ok-tell-in-Some-clause-rows : goal.returns-in_ok-tell-in-Some-clause-rows
returns-in_ok-tell-in-Some-clause-rows g c = λ rows held stands m. (c.in_ok-diff.ensures.ok rows stands m.may).1

pub returns-in_ok-tell-in-Some-clause-kept : goal.returns-in_ok-tell-in-Some-clause-kept
returns-in_ok-tell-in-Some-clause-kept g c = λ rows held stands m.
    let by = c.args.self.now.by in
    let input = g.I.ChangeMode.mode c.args.self.now.input in
    let output = g.O.ChangeMode.mode c.args.self.now.output in
    let top = ranking by input output in
    let d = (c.in_ok-diff.ensures.ok rows stands m.may).0 in
    let gone = c.row_of-gone.ensures ∙ ap (λ (x : Diff). row_of x.gone) d in
    let come = c.row_of-come.ensures ∙ ap (λ (x : Diff). row_of x.come) d in
    let has = has_at top rows c.args.self.now.partitions held c.args.change m c.project_into.new.to c.row_of-gone.result c.row_of-come.result c.in_ok-project_into.ensures.ok gone come in
    let turned = turned_at top rows c.args.self.now.partitions held c.args.change m c.project_into.new.to c.row_of-gone.result c.row_of-come.result c.in_ok-project_into.ensures.ok gone come in
    held_after top rows c.args.self.now.partitions held c.args.change m c.turn_partition.new.partitions
    (c.in_ok-firsts.ensures.kept (λ k. members top k rows) (λ k. members top k (apply input rows c.args.change)) m.is_held.kept has turned)
