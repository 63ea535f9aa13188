use Rattle.std.proofs.Common.{◌≡◌, ◌+◌, ◌++◌, true, false, [], ◌∷◌, drop, sym, ap, subst, ◌∙◌, arith}
use Rattle.std.proofs.lemmas.List.{drop_more}
use Rattle.ct_value.specs.declared.row.Row.{Row}
use Rattle.ct_change.specs.declared.change.Change.{Change}
use Rattle.emission_rules.specs.Ranking.{beyond}
use Rattle.op_topn.specs.Tells.{past, heads, AreRanked}
use Rattle.op_topn.proofs.Beyond.{of_kind, tail_of, drop-next, past-ranked, tail-ranked, next_told, heads_some, drop_some}
use Rattle.op_topn.proofs.telling.tell_beyond.Goals.{then-is_at, else-is_at+in_ok-dup+in_ok-push}
use Rattle.op_topn.proofs.telling.tell_beyond.Goals as goal

pub loop-row-preserved : goal.loop-row-preserved
loop-row-preserved c =
    let order = c.args.order.now in
    let kind = c.args.kind in
    let rows = c.args.rows.now in
    let others = c.args.others.now in
    let row = c.row-item.result in
    let i = c.loop-row.row-index in
    let later = drop (i + 1) rows in
    let place = c.past-from.result in
    let left = drop c.loop-row.from others in
    let rest = c.past-from.ensures.rest in
    let before = c.loop-row.invariant in
    let step : drop i rows ≡ row ∷ later = drop_more rows i row (omega arith) ∙ ap (λ (y : Row). y ∷ later) (sym c.row-item.is) in
    let ranked : AreRanked order (row ∷ later) = subst (AreRanked order) step before.rows in
    let past_ranked = past-ranked order row left before.others in
    let told_before = ap (λ xs. c.loop-row.to ++ of_kind kind (beyond xs left)) (sym step) ∙ before.told in
    let found = c.is_at.ensures ∙ ap (heads row) rest in
    elim c.if-is_at.branch [
      | then-is_at w ↦
          let at : drop c.if-is_at.from others ≡ tail_of (past order row left) = ap (λ n. drop n others) w.from-is ∙ (drop-next place others ∙ ap tail_of rest) in
          record {
            told = (λ j. w.to-is j ++ of_kind kind (beyond later (at j))) ∙ next_told order kind row later left c.loop-row.to _ true ranked before.others (sym w.if-is_at.true ∙ found) told_before;
            within = (let some = drop_some place others (heads_some row (drop place others) (sym c.is_at.ensures ∙ w.if-is_at.true)) in omega (arith, some, w.from-is));
            rows = tail-ranked order (row ∷ later) ranked;
            others = subst (AreRanked order) (sym at) (tail-ranked order (past order row left) past_ranked);
          }
      | else-is_at+in_ok-dup+in_ok-push w ↦
          let at : drop c.if-is_at.from others ≡ past order row left = ap (λ n. drop n others) w.from-is ∙ rest in
          let pushed : c.if-is_at.to ≡ c.loop-row.to ++ record { kind = kind; row = row } ∷ [] =
          w.to-is ∙ (w.in_ok-push.ensures.ok ∙ ap (λ (x : Change). c.loop-row.to ++ x ∷ []) (w.new.ensures ∙ ap (λ (y : Row). record { kind = kind; row = y }) w.in_ok-dup.ensures)) in
          record {
            told = (λ j. pushed j ++ of_kind kind (beyond later (at j))) ∙ next_told order kind row later left c.loop-row.to _ false ranked before.others (sym w.if-is_at.false ∙ found) told_before;
            within = (let l = c.past-from.ensures.within in omega (arith, l, w.from-is));
            rows = tail-ranked order (row ∷ later) ranked;
            others = subst (AreRanked order) (sym at) past_ranked;
          }
    ]
