use Rattle.std.proofs.Common.{◌≡◌, ◌-◌, ℕ, Option, refl, ap, subst, ◌∙◌, arith, Some, None}
use Rattle.std.specs.Option.{unwrap_or, IsSome}
use Rattle.ct_value.specs.Bag as bag
use Rattle.agg_fns.proofs.Counts.{copies_in, one_removed, count_at}
use Rattle.agg_fns.proofs.value_bag.ValueBag.remove.Goals as goal

pub returns-in-Some : goal.returns-in-Some
returns-in-Some c =
    let there : c.unwrap_or-standing.result ≡ count_at c.self.inside.counts c.args.value.now = c.unwrap_or-standing.ensures ∙ ap (λ o. unwrap_or o 0) (c.copied.ensures ∙ c.get.ensures.value) in
    let P : Option ℕ → Type 0 = λ o. IsSome o in
    let n = c.unwrap_or-standing.result - 1 in
    let writes = c.get_mut.follows.holds n in
    one_removed c.self.inside.counts (c.get_mut.follows.lender n) c.args.value.now (Some n) c.self.invariant.ordered writes.4
    (writes.3 (subst P c.in-Some.ensures.value refl)).0 (omega arith)
    ∙ ap (λ b. bag.remove b c.args.value.now) c.self.view_is

pub returns-else-standing-gt1 : goal.returns-else-standing-gt1
returns-else-standing-gt1 c =
    let there : c.unwrap_or-standing.result ≡ count_at c.self.inside.counts c.args.value.now = c.unwrap_or-standing.ensures ∙ ap (λ o. unwrap_or o 0) (c.copied.ensures ∙ c.get.ensures.value) in
    let seen = ap (λ b. bag.copies b c.args.value.now) c.self.view_is in
    let e = copies_in c.self.inside.counts c.args.value.now c.self.invariant.ordered in
    one_removed c.self.inside.counts c.remove.new.self c.args.value.now None c.self.invariant.ordered c.remove.ensures.ordered
    c.remove.ensures.updates.0 (omega (arith, c.requires))
    ∙ ap (λ b. bag.remove b c.args.value.now) c.self.view_is
