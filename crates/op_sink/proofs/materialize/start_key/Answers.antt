use Rattle.std.proofs.Common.{◌≡◌, [], sym, ap, ◌∙◌}
use Rattle.std.specs.Option.{unwrap_or}
use Rattle.emission_rules.specs.Materialize.{stands_after}
use Rattle.op_sink.proofs.Turns.{stay_at, nil_length}
use Rattle.op_sink.proofs.materialize.start_key.Goals as goal

pub returns-then-len-eq0-clause-kept : goal.returns-then-len-eq0-clause-kept
returns-then-len-eq0-clause-kept g c =
    let kept : c.turn.new.standing ≡ stands_after [] c.args.change = c.in_ok-sent.ensures.kept ∙ ap (λ xs. stands_after xs c.args.change) c.new-standing.ensures in
    let none : stands_after [] c.args.change ≡ [] = sym kept ∙ nil_length c.turn.new.standing (sym c.len.ensures ∙ c.if-len-eq0.true) in
    stay_at c.args.kept.now c.args.values (stands_after [] c.args.change) (none ∙ ap (λ o. unwrap_or o []) (sym c.requires))
