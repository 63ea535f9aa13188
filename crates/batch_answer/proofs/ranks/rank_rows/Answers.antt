use Rattle.std.proofs.Common.{ℕ, List, ◌∷◌, Some, rules, sym, ap, subst, ◌∙◌}
use Rattle.std.specs.Prelude.{IsErrOf}
use Rattle.std.specs.List.{AllByRecursion}
use Rattle.std.proofs.lemmas.Map.Iter.{rest_more, rest_all}
use Rattle.ct_value.specs.Bag.{bag_of_counts}
use Rattle.ct_value.specs.Order.{row_cmp}
use Rattle.ct_value.specs.Rows.{project}
use Rattle.ct_value.specs.declared.row.Row.{Row}
use Rattle.ct_change.specs.Changelog.{Rows}
use Rattle.ct_expr.specs.declared.evaluate.EvalFault.{EvalFault}
use Rattle.rel_algebra.specs.Keys.{keys_in}
use Rattle.rel_algebra.specs.Ranks.{first_rows}
use Rattle.rel_algebra.specs.Sums.{together}
use Rattle.batch_answer.specs.Tallies.{OfRows, Unfit}
use Rattle.batch_answer.proofs.ByKey.{units, IsMember, keys-units, entries-are}
use Rattle.batch_answer.proofs.Pairs.{left-made, left-unfit}
use Rattle.batch_answer.proofs.Ranking.{firsts, firsts-beside, firsts-unfit}
use Rattle.batch_answer.proofs.Turns.{Left, left-start, left-end}
use Rattle.batch_answer.proofs.ranks.rank_rows.Goals as goal

pub loop-members-init : goal.loop-members-init
loop-members-init c =
    let f : OfRows = firsts c.args.partition.now c.args.order.now c.args.bound c.args.ranked c.args.rows in
    let key_of : Row → Row = project c.args.partition.now in
    let gives = c.into_iter-members-iterator.ensures.into_iter_gives.0 in (
      left-start f (keys_in key_of c.args.rows) c.new-first.result (units c.into_iter-members-iterator.result) c.new-first.ensures (ap (λ (es : List (Row × List (Row × ℕ))). bag_of_counts {R = row_cmp} (units es)) gives ∙ sym (keys-units key_of c.args.rows c.in_ok-index.index c.in_ok-index.ensures)),
      subst (λ (es : List (Row × List (Row × ℕ))). AllByRecursion (IsMember key_of c.args.rows) es) (sym gives) (entries-are key_of c.args.rows c.in_ok-index.index c.in_ok-index.ensures),
    )

pub loop-members-preserved : goal.loop-members-preserved
loop-members-preserved c =
    let f : OfRows = firsts c.args.partition.now c.args.order.now c.args.bound c.args.ranked c.args.rows in
    let key_of : Row → Row = project c.args.partition.now in
    let entry : Row × List (Row × ℕ) = (c.in-Some.field-0-0, c.in-Some.members) in
    let made : Rows = first_rows c.args.order.now c.args.bound c.args.ranked (bag_of_counts c.in-Some.members) in
    let more = rest_more (λ (p : Row × List (Row × ℕ)). p) c.loop-members.members-iterator c.next.new.self c.next.result entry c.in-Some.is c.next.ensures.steps in
    let before : Left f (keys_in key_of c.args.rows) c.loop-members.first (units (entry ∷ c.next.new.self)) = subst (λ (es : List (Row × List (Row × ℕ))). Left f (keys_in key_of c.args.rows) c.loop-members.first (units es)) more c.loop-members.invariant.0 in
    let members : AllByRecursion (IsMember key_of c.args.rows) (entry ∷ c.next.new.self) = subst (λ (es : List (Row × List (Row × ℕ))). AllByRecursion (IsMember key_of c.args.rows) es) more c.loop-members.invariant.1 in (
      left-made f (keys_in key_of c.args.rows) c.loop-members.first entry.0 1 (units c.next.new.self) (Some made) c.add_first.new.first (ap (λ (r : Rows). Some (first_rows c.args.order.now c.args.bound c.args.ranked r)) (sym members.0.0))
          (firsts-beside c.loop-members.first c.add_first.new.first made c.in_ok-add_first.ensures.ok) before,
      members.1,
    )

pub returns-in_err-add_first-clause-out : goal.returns-in_err-add_first-clause-out
returns-in_err-add_first-clause-out c =
    let f : OfRows = firsts c.args.partition.now c.args.order.now c.args.bound c.args.ranked c.args.rows in
    let key_of : Row → Row = project c.args.partition.now in
    let entry : Row × List (Row × ℕ) = (c.in-Some.field-0-0, c.in-Some.members) in
    let made : Rows = first_rows c.args.order.now c.args.bound c.args.ranked (bag_of_counts c.in-Some.members) in
    let more = rest_more (λ (p : Row × List (Row × ℕ)). p) c.loop-members.members-iterator c.next.new.self c.next.result entry c.in-Some.is c.next.ensures.steps in
    let before : Left f (keys_in key_of c.args.rows) c.loop-members.first (units (entry ∷ c.next.new.self)) = subst (λ (es : List (Row × List (Row × ℕ))). Left f (keys_in key_of c.args.rows) c.loop-members.first (units es)) more c.loop-members.invariant.0 in
    let members : AllByRecursion (IsMember key_of c.args.rows) (entry ∷ c.next.new.self) = subst (λ (es : List (Row × List (Row × ℕ))). AllByRecursion (IsMember key_of c.args.rows) es) more c.loop-members.invariant.1 in
    let out : IsErrOf c.from_residual-in_err-add_first.result EvalFault.Out → Unfit (Some (together c.loop-members.first made)) = search rules in
    λ e. left-unfit f (keys_in key_of c.args.rows) c.loop-members.first entry.0 1 (units c.next.new.self) (Some made) (ap (λ (r : Rows). Some (first_rows c.args.order.now c.args.bound c.args.ranked r)) (sym members.0.0))
    (firsts-unfit c.loop-members.first made (out e)) before

pub returns-clause-value : goal.returns-clause-value
returns-clause-value c =
    left-end (firsts c.args.partition.now c.args.order.now c.args.bound c.args.ranked c.args.rows) (keys_in (project c.args.partition.now) c.args.rows) c.loop-members.first (units c.loop-members.members-iterator)
    (ap units (rest_all (λ (p : Row × List (Row × ℕ)). p) c.loop-members.members-iterator c.next.new.self c.next.result c.in-None.is c.next.ensures.steps)) c.loop-members.invariant.0
