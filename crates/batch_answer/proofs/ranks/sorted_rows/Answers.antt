use Rattle.std.proofs.Common.{rules, ℕ}
use Rattle.std.specs.Ordering.{is_lt}
use Rattle.std.proofs.lemmas.List.MinMax.{ranks_by}
use Rattle.std.proofs.lemmas.Fn.{always_returns_same}
use Rattle.ct_value.specs.declared.row.Row.{Row}
use Rattle.rel_algebra.specs.Ranks.{rank_cmp}
use Rattle.rel_algebra.proofs.laws.Ranks.{rank_total}
use Rattle.batch_answer.proofs.ranks.sorted_rows.Goals as goal

pub returns-clause-sorted : goal.returns-clause-sorted
returns-clause-sorted c =
    c.sort_unstable_by.ensures.sorted (λ x y. is_lt (rank_cmp c.args.order.now x.0 y.0)) (ranks_by (rank_total c.args.order.now) (λ (e : Row × ℕ). e.0)) (always_returns_same _ _ _ (λ a r f' k. (search rules, search rules)))
