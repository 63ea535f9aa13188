use Rattle.std.proofs.Common.{◌≡◌, ◌+◌, ◌≤◌, ◌^◌, ◌++◌, ℕ, List, ◌∷◌, take, Some, None, Option, rules, arith, sym, ap, subst, ◌∙◌}
use Rattle.std.specs.Prelude.{IsErrOf, option_map}
use Rattle.std.specs.List.{AllByRecursion}
use Rattle.std.proofs.lemmas.Map.Iter.{rest_more, rest_all}
use Rattle.ct_value.specs.Bag.{bag_of_counts, copies}
use Rattle.ct_value.specs.Order.{row_cmp}
use Rattle.ct_value.specs.declared.row.Row.{Row}
use Rattle.ct_change.specs.Changelog.{Rows}
use Rattle.ct_expr.specs.declared.evaluate.EvalFault.{EvalFault}
use Rattle.rel_algebra.specs.Aggregates.{agg_results}
use Rattle.rel_algebra.specs.Keys.{keys_in}
use Rattle.rel_algebra.specs.Sums.{one}
use Rattle.batch_answer.specs.Tallies.{AreCounted, OfRows}
use Rattle.batch_answer.proofs.ByKey.{units, IsMember, keys-units, entries-are, group_made, groups-by_key}
use Rattle.batch_answer.proofs.Sums.{unfit-same}
use Rattle.batch_answer.proofs.Turns.{Left, left-start, left-end, left-row, left-out, left-full}
use Rattle.batch_answer.proofs.groups.each_group.Goals as goal

-- an entry's results are its group's
made-of : (keys : ℕ) (results : Rows → Option Row) (rows : Rows) (entry : Row × List (Row × ℕ)) (values : Option Row) → IsMember (take keys) rows entry → results (bag_of_counts entry.1) ≡ values
    → group_made (take keys) results rows entry.0 ≡ option_map (λ v. one (entry.0 ++ v)) values
made-of keys results rows entry values m e = ap (option_map (λ v. one {R = row_cmp} (entry.0 ++ v))) (ap results (sym m.0) ∙ e)

pub loop-key-init : goal.loop-key-init
loop-key-init c =
    let key_of : Row → Row = take c.args.keys in
    let f : OfRows = group_made key_of (agg_results c.args.columns.now c.args.aggs.now) c.args.rows in
    let gives = c.into_iter-key-iterator.ensures.into_iter_gives.0 in (
      left-start f (keys_in key_of c.args.rows) c.new-made.result (units c.into_iter-key-iterator.result) c.new-made.ensures (ap (λ (es : List (Row × List (Row × ℕ))). bag_of_counts {R = row_cmp} (units es)) gives ∙ sym (keys-units key_of c.args.rows c.in_ok-index.index c.in_ok-index.ensures)),
      subst (λ (es : List (Row × List (Row × ℕ))). AllByRecursion (IsMember key_of c.args.rows) es) (sym gives) (entries-are key_of c.args.rows c.in_ok-index.index c.in_ok-index.ensures),
    )

pub call_results-requires : goal.call_results-requires
call_results-requires c =
    let key_of : Row → Row = take c.args.keys in
    let entry : Row × List (Row × ℕ) = (c.in-Some.key, c.in-Some.members) in
    let more = rest_more (λ (p : Row × List (Row × ℕ)). p) c.loop-key.key-iterator c.next.new.self c.next.result entry c.in-Some.is c.next.ensures.steps in
    let members : AllByRecursion (IsMember key_of c.args.rows) (entry ∷ c.next.new.self) = subst (λ (es : List (Row × List (Row × ℕ))). AllByRecursion (IsMember key_of c.args.rows) es) more c.loop-key.invariant.1 in
    subst (λ (es : List (Row × ℕ)). AreCounted es) (sym c.as_slice.ensures) members.0.1.1

pub returns-in_err-results-clause-out : goal.returns-in_err-results-clause-out
returns-in_err-results-clause-out c =
    let key_of : Row → Row = take c.args.keys in
    let results : Rows → Option Row = agg_results c.args.columns.now c.args.aggs.now in
    let f : OfRows = group_made key_of results c.args.rows in
    let entry : Row × List (Row × ℕ) = (c.in-Some.key, c.in-Some.members) in
    let more = rest_more (λ (p : Row × List (Row × ℕ)). p) c.loop-key.key-iterator c.next.new.self c.next.result entry c.in-Some.is c.next.ensures.steps in
    let before : Left f (keys_in key_of c.args.rows) c.loop-key.made (units (entry ∷ c.next.new.self)) = subst (λ (es : List (Row × List (Row × ℕ))). Left f (keys_in key_of c.args.rows) c.loop-key.made (units es)) more c.loop-key.invariant.0 in
    let members : AllByRecursion (IsMember key_of c.args.rows) (entry ∷ c.next.new.self) = subst (λ (es : List (Row × List (Row × ℕ))). AllByRecursion (IsMember key_of c.args.rows) es) more c.loop-key.invariant.1 in
    let same : results (bag_of_counts c.as_slice.result.now) ≡ results (bag_of_counts entry.1) = ap (λ (es : List (Row × ℕ)). results (bag_of_counts es)) c.as_slice.ensures in
    let out : IsErrOf c.from_residual-in_err-results.result EvalFault.Out → results (bag_of_counts {R = row_cmp} c.as_slice.result.now) ≡ None = search rules in
    λ e. unfit-same _ _ (sym (groups-by_key c.args.keys results c.args.rows c.requires))
    (left-out f (keys_in key_of c.args.rows) c.loop-key.made entry.0 1 (units c.next.new.self) (omega arith) (made-of c.args.keys results c.args.rows entry None members.0 (sym same ∙ out e)) before)

pub loop-key-preserved : goal.loop-key-preserved
loop-key-preserved c =
    let key_of : Row → Row = take c.args.keys in
    let results : Rows → Option Row = agg_results c.args.columns.now c.args.aggs.now in
    let f : OfRows = group_made key_of results c.args.rows in
    let entry : Row × List (Row × ℕ) = (c.in-Some.key, c.in-Some.members) in
    let more = rest_more (λ (p : Row × List (Row × ℕ)). p) c.loop-key.key-iterator c.next.new.self c.next.result entry c.in-Some.is c.next.ensures.steps in
    let before : Left f (keys_in key_of c.args.rows) c.loop-key.made (units (entry ∷ c.next.new.self)) = subst (λ (es : List (Row × List (Row × ℕ))). Left f (keys_in key_of c.args.rows) c.loop-key.made (units es)) more c.loop-key.invariant.0 in
    let members : AllByRecursion (IsMember key_of c.args.rows) (entry ∷ c.next.new.self) = subst (λ (es : List (Row × List (Row × ℕ))). AllByRecursion (IsMember key_of c.args.rows) es) more c.loop-key.invariant.1 in
    let same : results (bag_of_counts c.as_slice.result.now) ≡ results (bag_of_counts entry.1) = ap (λ (es : List (Row × ℕ)). results (bag_of_counts es)) c.as_slice.ensures in
    let made : f entry.0 ≡ Some (one c.in_ok-row.row) = made-of c.args.keys results c.args.rows entry (Some c.in_ok-results.results) members.0 (sym same ∙ c.in_ok-results.ensures.value) ∙ ap (λ (r : Row). Some (one r)) (sym c.in_ok-row.ensures) in
    (left-row f (keys_in key_of c.args.rows) c.loop-key.made entry.0 1 (units c.next.new.self) c.in_ok-row.row c.add.new.self made c.in_ok-add.ensures.ok before, members.1)

pub returns-in_err-add-clause-out : goal.returns-in_err-add-clause-out
returns-in_err-add-clause-out c =
    let key_of : Row → Row = take c.args.keys in
    let results : Rows → Option Row = agg_results c.args.columns.now c.args.aggs.now in
    let f : OfRows = group_made key_of results c.args.rows in
    let entry : Row × List (Row × ℕ) = (c.in-Some.key, c.in-Some.members) in
    let more = rest_more (λ (p : Row × List (Row × ℕ)). p) c.loop-key.key-iterator c.next.new.self c.next.result entry c.in-Some.is c.next.ensures.steps in
    let before : Left f (keys_in key_of c.args.rows) c.loop-key.made (units (entry ∷ c.next.new.self)) = subst (λ (es : List (Row × List (Row × ℕ))). Left f (keys_in key_of c.args.rows) c.loop-key.made (units es)) more c.loop-key.invariant.0 in
    let members : AllByRecursion (IsMember key_of c.args.rows) (entry ∷ c.next.new.self) = subst (λ (es : List (Row × List (Row × ℕ))). AllByRecursion (IsMember key_of c.args.rows) es) more c.loop-key.invariant.1 in
    let same : results (bag_of_counts c.as_slice.result.now) ≡ results (bag_of_counts entry.1) = ap (λ (es : List (Row × ℕ)). results (bag_of_counts es)) c.as_slice.ensures in
    let made : f entry.0 ≡ Some (one c.in_ok-row.row) = made-of c.args.keys results c.args.rows entry (Some c.in_ok-results.results) members.0 (sym same ∙ c.in_ok-results.ensures.value) ∙ ap (λ (r : Row). Some (one r)) (sym c.in_ok-row.ensures) in
    let many : IsErrOf c.from_residual-in_err-add.result EvalFault.Out → 2 ^ 64 ≤ copies c.loop-key.made c.in_ok-row.row + 1 = search rules in
    λ e. unfit-same _ _ (sym (groups-by_key c.args.keys results c.args.rows c.requires))
    (left-full f (keys_in key_of c.args.rows) c.loop-key.made entry.0 1 (units c.next.new.self) c.in_ok-row.row made (many e) before)

pub returns-clause-value : goal.returns-clause-value
returns-clause-value c =
    groups-by_key c.args.keys (agg_results c.args.columns.now c.args.aggs.now) c.args.rows c.requires
    ∙ left-end (group_made (take c.args.keys) (agg_results c.args.columns.now c.args.aggs.now) c.args.rows) (keys_in (take c.args.keys) c.args.rows) c.loop-key.made (units c.loop-key.key-iterator)
    (ap units (rest_all (λ (p : Row × List (Row × ℕ)). p) c.loop-key.key-iterator c.next.new.self c.next.result c.in-None.is c.next.ensures.steps)) c.loop-key.invariant.0
