use Rattle.std.proofs.Common.{map, sym, ap, subst, ◌∙◌}
use Rattle.op_topn.specs.Kept.{IsBehind}
use Rattle.op_topn.specs.Tells.{AreRanked}
use Rattle.op_topn.proofs.Walks.{first_ranked}
use Rattle.op_topn.proofs.partitions.olds_if_told.Goals as goal

pub returns-then-is_behind-2-clause-olds : goal.returns-then-is_behind-2-clause-olds
returns-then-is_behind-2-clause-olds g c = λ rows keeps.
    let by = c.args.by.now in
    let first = first_ranked by.order by.bound rows in
    let is = c.in_ok-firsts.ensures.rows by.order rows keeps in
    let one = ap (map (λ key. key.now.1)) c.deref.ensures.value ∙ is in
    let other = ap (map (λ key. key.now.1)) c.deref-then-is_behind.ensures.value ∙ is in (
      subst (λ xs. IsBehind by.order by.bound xs c.args.gone.now) one (c.is_behind.ensures c.if-is_behind.true (subst (AreRanked by.order) (sym one) first)),
      subst (λ xs. IsBehind by.order by.bound xs c.args.come.now) other (c.is_behind-then-is_behind.ensures c.if-is_behind-2.true (subst (AreRanked by.order) (sym other) first)),
    )
