use Rattle.std.proofs.Common.{◌≡◌, ◌++◌, ◌≤◌, length, drop}
use Rattle.emission_rules.specs.Ranking.{beyond}
use Rattle.op_topn.specs.Tells.{AreRanked}
use Rattle.op_topn.proofs.Beyond.{of_kind}
use Rattle.op_topn.proofs.telling.tell_beyond.Given as goal

-- what is told and what is left to be told are all
abbrev pub invariant-loop-row : goal.invariant-loop-row
invariant-loop-row l = record {
  told : l.to ++ of_kind l.kind (beyond (drop l.row-index l.rows) (drop l.from l.others)) ≡ l.fn.to ++ of_kind l.kind (beyond l.rows l.others);
  within : l.from ≤ length l.others;
  rows : AreRanked l.order (drop l.row-index l.rows);
  others : AreRanked l.order (drop l.from l.others);
}
