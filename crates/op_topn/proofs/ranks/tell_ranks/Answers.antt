use Rattle.std.proofs.Common.{◌++◌, arith}
use Rattle.emission_rules.specs.Ranking.{told_by_rank}
use Rattle.op_topn.proofs.Walks.{one_more, can_more}
use Rattle.op_topn.proofs.ranks.tell_ranks.Goals as goal

pub ranks-preserved : goal.ranks-preserved
ranks-preserved g c =
    let mode = g.O.ChangeMode.mode c.args.output.now in
    let some = c.in-Some.ensures.some in
    let before = c.ranks.left in
    let after = c.next_rank.new.self in
    record {
      told = one_more mode c.args.ranked c.ranks.rank before.0 before.1 after.0 after.1 c.in-Some.old c.in-Some.new c.ranks.to c.tell_rank.new.to (c.args.to.now ++ told_by_rank c.args.ranked mode 1 c.args.firsts.olds.items c.args.firsts.news.items) some.0 some.1 c.in_ok-tell_rank.ensures c.ranks.invariant.told;
      can = can_more mode c.args.ranked c.ranks.rank before.0 before.1 after.0 after.1 c.in-Some.old c.in-Some.new some.0 some.1 c.ranks.invariant.can;
      few = omega (arith, some.2, c.ranks.invariant.few);
    }
