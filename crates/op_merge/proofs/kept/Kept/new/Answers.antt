use Rattle.std.proofs.Common.{[], sym, subst, ◌∙◌}
use Rattle.op_merge.specs.Kept.{StandAll}
use Rattle.op_merge.proofs.kept.Kept.new.Goals as goal

pub returns : goal.returns
returns c = λ l aggs columns. record {
  count = c.new.ensures;
  calls_are = c.in_ok-mergers.ensures.calls ∙ sym aggs;
  stand = subst (λ cols. StandAll cols c.in_ok-mergers.mergers.items []) (sym columns) c.in_ok-mergers.ensures.stand;
}
