use Rattle.std.proofs.Common.{◌≡◌, ◌++◌, [], ◌∷◌, Some, None, cond, IfOk, sym, ap, subst, ◌∙◌}
use Rattle.std.specs.List.{last_or}
use Rattle.ct_value.specs.Bag.{drop_one}
use Rattle.ct_value.specs.Order.{row_cmp}
use Rattle.ct_change.specs.Changelog.{upsert}
use Rattle.ct_change.specs.Emission.{emission}
use Rattle.emission_rules.specs.Materialize.{stands_after}
use Rattle.op_sink.proofs.Places.{last_push}
use Rattle.op_sink.proofs.materialize.turn.Goals as goal

pub returns-then-is_addition-clause-sent : goal.returns-then-is_addition-clause-sent
returns-then-is_addition-clause-sent g c =
    let old = c.args.standing.now in
    let row = c.args.change.row in
    let shows : last_or None (stands_after old c.args.change) ≡ Some row =
    ap (λ b. last_or None (cond b (old ++ row ∷ []) (drop_one row_cmp row old))) (sym c.is_addition.ensures ∙ c.if-is_addition.true) ∙ last_push old row in
    subst (λ o. IfOk c.come.result (λ sent. sent ≡ emission (upsert c.args.key.now) (last_or None old) o)) (sym shows) c.come.ensures.sent
