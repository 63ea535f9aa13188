use Rattle.std.proofs.Common.{◌≡◌, ◌+◌, ◌<◌, ◌^◌, ◌∙◌, ℕ, List, sym, ap, subst, arith, rules}
use Rattle.ct_value.specs.Bag as bag
use Rattle.ct_value.specs.declared.row.Row.{Row}
use Rattle.batch_answer.specs.Tallies.{AreCounted, count_at}
use Rattle.batch_answer.proofs.Tallies.{bag_in, copies_in, many_added, counted_more}
use Rattle.batch_answer.proofs.tally.Tally.add.Goals as goal

pub returns-in_default-clause-out : goal.returns-in_default-clause-out
returns-in_default-clause-out c = λ e.
    let view : bag.copies (bag_in c.self.inside.counts) c.args.row ≡ bag.copies c.args.self.now c.args.row = ap (λ b. bag.copies b c.args.row) c.self.view_is in
    let full : c.standing-standing.result + c.args.count < 2 ^ 64 → ⊥ = c.in_default.ensures in
    omega (arith, view, full, c.standing-standing.ensures, copies_in c.self.inside.counts c.args.row c.self.invariant.ordered)

pub invariant_of-self-2 : goal.invariant_of-self-2
invariant_of-self-2 c =
    let more : c.in-Some.total ≡ c.standing-standing.result + c.args.count = search rules in
    let fits : c.in-Some.total < 2 ^ 64 = search rules in
    let some : 0 < c.in-Some.total = omega (arith, more, c.requires) in
    record {
      ordered = c.in_ok-put.ensures.ordered;
      counted = subst (λ (es : List (Row × ℕ)). AreCounted es) (sym c.in_ok-put.ensures.entries) (counted_more c.self.inside.counts.entries c.args.row c.in-Some.total some fits c.self.invariant.counted);
    }

pub returns-clause-ok : goal.returns-clause-ok
returns-clause-ok c =
    let more : c.in-Some.total ≡ c.standing-standing.result + c.args.count = search rules in
    let sum : c.in-Some.total ≡ count_at c.self.inside.counts c.args.row + c.args.count = more ∙ ap (λ n. n + c.args.count) c.standing-standing.ensures in
    many_added c.self.inside.counts c.put.new.counts c.args.row c.in-Some.total c.args.count c.in_ok-put.ensures.was_ordered c.in_ok-put.ensures.ordered c.in_ok-put.ensures.updates.0 sum
    ∙ ap (λ b. bag.add_many b c.args.row c.args.count) c.self.view_is
