use Rattle.std.proofs.Common.{◌≡◌, ◌+◌, ◌<◌, ◌^◌, ◌++◌, length}
use Rattle.emission_rules.specs.Ranking.{told_by_rank}
use Rattle.op_topn.specs.Tells.{CanTellFrom}
use Rattle.op_topn.proofs.ranks.tell_ranks.Given as goal

-- what is told and what is left to be told are all
abbrev pub invariant-ranks : goal.invariant-ranks
invariant-ranks g l = record {
  told : l.to ++ told_by_rank l.ranked (g.O.ChangeMode.mode l.output) l.rank l.left.0 l.left.1 ≡ l.fn.to ++ told_by_rank l.ranked (g.O.ChangeMode.mode l.output) 1 l.fn.firsts.olds.items l.fn.firsts.news.items;
  can : CanTellFrom (g.O.ChangeMode.mode l.output) l.ranked l.rank l.left.0 l.left.1;
  few : l.rank + (length l.left.0 + length l.left.1) < 2 ^ 64;
}

abbrev pub decreases-ranks : goal.decreases-ranks
decreases-ranks g l = length l.left.0 + length l.left.1
