use Rattle.std.proofs.Common.{◌≡◌, ◌+◌, [], ◌∷◌, ◌++◌, ap, sym, ◌∙◌, arith}
use Rattle.plan_rules.specs.Plans.{columns_from}
use Rattle.session_open.proofs.Laying.{columns_more}
use Rattle.session_open.proofs.tables.first_columns.Goals as goal

pub loop-column-preserved : goal.loop-column-preserved
loop-column-preserved c = c.in_ok-push.ensures.ok ∙ (ap (λ l. l ++ c.loop-column.column ∷ []) c.loop-column.invariant ∙ (ap (λ n. columns_from 0 c.loop-column.column ++ n ∷ []) (let e : c.loop-column.column ≡ 0 + c.loop-column.column = omega arith in e) ∙ sym (columns_more 0 c.loop-column.column)))
