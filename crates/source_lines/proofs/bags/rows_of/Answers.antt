use Rattle.std.proofs.Common.{◌≡◌, [], sym, subst, arith}
use Rattle.std.proofs.lemmas.Grind.{common_steps}
use Rattle.std.specs.Vec.Iter.{into_iter_items}
use Rattle.source_lines.proofs.Rows.{Reached, first_stands, reached_end, reached_next}
use Rattle.source_lines.proofs.bags.rows_of.Goals as goal

pub into_bag-requires : goal.into_bag-requires
into_bag-requires c =
    let r = c.requires in
    first_stands r.0 r.1 _ c.in-Some.folded _ _ (c.loop-folded.invariant r.0 r.1 r.2) c.in-Some.ensures.steps.0

pub loop-folded-preserved : goal.loop-folded-preserved
loop-folded-preserved c = λ sources taken stand.
    subst (Reached sources taken (into_iter_items c.next.new.self)) (sym c.in_ok-push.ensures.ok)
    (reached_next sources taken _ c.in-Some.folded _ _ _ (c.loop-folded.invariant sources taken stand) c.in-Some.ensures.steps.0 c.in_ok-into_bag.ensures)

pub returns : goal.returns
returns c = λ sources taken stand.
    let past : into_iter_items c.loop-folded.folded-iterator ≡ [] = grind (arith, common_steps) in
    reached_end sources taken _ _ (c.loop-folded.invariant sources taken stand) past
