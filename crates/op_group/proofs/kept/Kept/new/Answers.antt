use Rattle.std.proofs.Common.{sym}
use Rattle.ct_value.proofs.laws.Bags.{total-none}
use Rattle.ct_value.specs.Order.{row_cmp, row_total}
use Rattle.op_group.proofs.kept.Kept.new.Goals as goal

pub returns-clause-kept : goal.returns-clause-kept
returns-clause-kept c = record { count = sym (total-none {R = row_cmp} row_total (λ _. 1)); calls_are = c.in_ok-counters.ensures.calls; stand = c.in_ok-counters.ensures.stand }
