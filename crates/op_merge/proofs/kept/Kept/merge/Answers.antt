use Rattle.std.proofs.Common.{◌≡◌, ◌++◌, ◌∷◌, [], List, sym, ap, subst, ◌∙◌, arith, drop, map}
use Rattle.std.specs.Vec.{with_items}
use Rattle.std.proofs.lemmas.List.{map-append, with_items_is}
use Rattle.ct_value.specs.declared.ty.Ty.TheVariants.{BigInt}
use Rattle.ct_value.specs.declared.value.Value.{Value}
use Rattle.rel_algebra.specs.declared.agg.AggCall.TheVariants.{CountAll}
use Rattle.op_merge.specs.Kept.{StandAll, calls}
use Rattle.op_merge.proofs.Partials.{within}
use Rattle.op_merge.proofs.Mergers.{as_many}
use Rattle.op_merge.proofs.kept.Kept.merge.Goals as goal

-- what stands behind the counts, with a row more
behind_counts : (rows : List (List Value)) (row : List Value) → map (λ r. drop 1 r) (rows ++ row ∷ []) ≡ map (λ r. drop 1 r) rows ++ drop 1 row ∷ []
behind_counts rows row = map-append (λ (r : List Value). drop 1 r) rows (row ∷ [])

pub returns-clause-kept : goal.returns-clause-kept
returns-clause-kept c = λ l rows kept.
    let e = c.deref_mut.ensures.value in
    let same : calls c.merge_all.new.mergers ≡ calls c.args.self.now.mergers.items = c.in_default-merge_all.ensures.calls ∙ ap calls e in
    let many = as_many c.merge_all.new.mergers c.args.self.now.mergers.items same in
    let len = c.args.self.now.mergers.ok.0 in
    let items : (with_items c.args.self.now.mergers c.merge_all.new.mergers).items ≡ c.merge_all.new.mergers = with_items_is c.args.self.now.mergers c.merge_all.new.mergers (omega arith) in
    let rest : List (List Value) = map (λ r. drop 1 r) rows in
    let more = c.in_default-merge_all.ensures.stand l.columns rest (subst (λ ms. StandAll l.columns ms rest) (sym e) kept.stand) in
    record {
      count = c.in_default.ensures.stands CountAll BigInt rows kept.count;
      calls_are = ap calls items ∙ same ∙ kept.calls_are;
      stand =
          subst (λ ms. StandAll l.columns ms (map (λ r. drop 1 r) (rows ++ c.args.amounts.now ∷ []))) (sym items)
          (subst (StandAll l.columns c.merge_all.new.mergers) (ap (λ p. rest ++ p ∷ []) c.behind.ensures ∙ sym (behind_counts rows c.args.amounts.now)) more);
    }

pub returns-clause-within : goal.returns-clause-within
returns-clause-within c = λ l rows kept.
    let e = c.deref_mut.ensures.value in
    let rest : List (List Value) = map (λ r. drop 1 r) rows in
    let told = c.in_default-merge_all.ensures.within l.columns rest (subst (λ ms. StandAll l.columns ms rest) (sym e) kept.stand) in
    (λ i. within l.columns ((sym kept.calls_are ∙ sym (ap calls e)) i) ((behind_counts rows c.args.amounts.now ∙ sym (ap (λ p. rest ++ p ∷ []) c.behind.ensures)) i)) ∙ told

pub returns-in-Err-merge_all-clause-out : goal.returns-in-Err-merge_all-clause-out
returns-in-Err-merge_all-clause-out c = λ out l rows kept.
    let e = c.deref_mut.ensures.value in
    let rest : List (List Value) = map (λ r. drop 1 r) rows in
    let told = c.in-Err-merge_all.ensures.out out l.columns rest (subst (λ ms. StandAll l.columns ms rest) (sym e) kept.stand) in
    (λ i. within l.columns ((sym kept.calls_are ∙ sym (ap calls e)) i) ((behind_counts rows c.args.amounts.now ∙ sym (ap (λ p. rest ++ p ∷ []) c.behind.ensures)) i)) ∙ told
