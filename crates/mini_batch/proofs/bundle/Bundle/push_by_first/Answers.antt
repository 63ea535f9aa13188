use Rattle.std.proofs.Common.{◌∙◌, ◌+◌, ◌<◌, ℕ, take, ap, arith, sym, eqb}
use Rattle.mini_batch.specs.Held.{held_in, in_order}
use Rattle.mini_batch.proofs.Changes.{held_more}
use Rattle.mini_batch.proofs.bundle.Bundle.push_by_first.Goals as goal

pub invariant_of-self-2 : goal.invariant_of-self-2
invariant_of-self-2 c =
    let room : held_in (in_order c.self.inside.reversed c.self.inside.map.entries) < c.self.inside.size = rw (← c.self.view_is) at c.requires in
    record {
      counted = sym (ap held_in c.in_ok-add_by_first.ensures.ok ∙ held_more c.face.new.map.entries (take c.args.keys c.args.change.row) c.args.change
          ∙ ap (λ (n : ℕ). n + 1) (ap held_in c.face.ensures ∙ sym c.self.invariant.counted));
      within = omega (arith, c.self.invariant.counted, room);
    }

pub returns-clause-full : goal.returns-clause-full
returns-clause-full c =
    ap (λ (n : ℕ). eqb n c.self.inside.size) (sym (ap held_in c.in_ok-add_by_first.ensures.ok ∙ held_more c.face.new.map.entries (take c.args.keys c.args.change.row) c.args.change
    ∙ ap (λ (n : ℕ). n + 1) (ap held_in c.face.ensures ∙ sym c.self.invariant.counted)))
