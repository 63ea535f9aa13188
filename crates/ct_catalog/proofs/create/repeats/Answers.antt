use Rattle.std.proofs.Common.{ℕ, List, refl}
use Rattle.std.specs.Borrow.{Bor}
use Rattle.ct_catalog.proofs.laws.Repeats.{seen_again, seen_more, apart_more}
use Rattle.ct_catalog.proofs.create.repeats.Goals as goal

-- a set of borrowed names looks at the names alone
borrowed : List ℕ → Bor (List ℕ)
borrowed name = record { ref_ptr = (0, 0); now = name }

pub returns-then-not-branch : goal.returns-then-not-branch
unfolding borrowed
returns-then-not-branch c =
    seen_again c.args.names.now c.loop-name.name-index c.name-item.result (borrowed c.name-item.result) _ _ c.loop-name-test.true c.name-item.is refl c.loop-name.invariant.known c.in_ok-insert.ensures.added c.if-not-branch.true

pub loop-name-preserved : goal.loop-name-preserved
unfolding borrowed
loop-name-preserved c = record {
  known = seen_more c.args.names.now c.loop-name.name-index c.name-item.result (borrowed c.name-item.result) _ _ c.loop-name-test.true c.name-item.is refl c.loop-name.invariant.known c.in_ok-insert.ensures.updates.0;
  apart = apart_more c.args.names.now c.loop-name.name-index c.name-item.result (borrowed c.name-item.result) _ _ c.loop-name-test.true c.name-item.is refl c.loop-name.invariant.known c.loop-name.invariant.apart c.in_ok-insert.ensures.added c.if-not-branch.false;
}
