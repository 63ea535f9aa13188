use Rattle.std.proofs.Common.{take, option_map, subst}
use Rattle.ct_change.specs.Changelog.{without}
use Rattle.ct_change.specs.Emission.{replaced}
use Rattle.rel_algebra.specs.Ranks.{in_rank_order}
use Rattle.op_topn.specs.Kept.{AreOlds}
use Rattle.op_topn.proofs.Behind.{stays}
use Rattle.op_topn.proofs.Shifts.{few_without}
use Rattle.op_topn.proofs.partitions.turn_rows.Goals as goal

pub take_in-requires : goal.take_in-requires
take_in-requires g c =
    let r = c.requires in
    (without r.0 c.args.gone, c.in_ok-let_go.ensures r.0 r.1 r.2, few_without r.0 c.args.gone r.2 r.3)

pub returns-in-None-clause-firsts : goal.returns-in-None-clause-firsts
returns-in-None-clause-firsts g c = λ rows keeps has.
    let by = c.args.by.now in
    let firsts = take by.bound (in_rank_order by.order rows) in
    let behind = subst (λ olds. AreOlds by.order by.bound firsts c.args.gone c.args.come (option_map (λ x. x.items) olds)) c.in-None.is (c.in_ok-olds.ensures.olds rows keeps) in
    stays by.order by.bound rows c.args.gone c.args.come has behind.0 behind.1

pub returns-in_ok-news-in-Some-clause-firsts : goal.returns-in_ok-news-in-Some-clause-firsts
returns-in_ok-news-in-Some-clause-firsts g c = λ rows keeps has.
    let by = c.args.by.now in
    let firsts = take by.bound (in_rank_order by.order rows) in
    let olds = subst (λ olds. AreOlds by.order by.bound firsts c.args.gone c.args.come (option_map (λ x. x.items) olds)) c.in-Some.is (c.in_ok-olds.ensures.olds rows keeps) in
    (olds, c.in_ok-news-in-Some.ensures.rows (replaced rows c.args.gone c.args.come) (c.in_ok-take_in.ensures (without rows c.args.gone) (c.in_ok-let_go.ensures rows keeps has)))
