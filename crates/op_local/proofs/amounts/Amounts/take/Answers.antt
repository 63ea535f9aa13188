use Rattle.std.proofs.Common.{◌≡◌, ◌^◌, rules, to_z, of_z, w64, cond, sym, ap, subst, ◌∙◌, arith}
use Rattle.std.specs.Prelude.{pos, neg_ℤ, ◌+ℤ◌, ◌-ℤ◌, ◌<ℤ◌, ◌≤ℤ◌}
use Rattle.std.specs.Vec.{with_items}
use Rattle.std.proofs.lemmas.List.{with_items_is}
use Rattle.ct_change.specs.Changelog.{adds}
use Rattle.emission_rules.specs.Grouping.{row_count}
use Rattle.op_local.specs.Amounting.{AllStand, AreSigned, calls, with_come, with_gone}
use Rattle.op_local.proofs.Tallied.{as_many, out_taken, recount, room_above, room_below}
use Rattle.op_local.proofs.amounts.Amounts.take.Goals as goal

pub take_all-requires-clause-signed : goal.take_all-requires-clause-signed
take_all-requires-clause-signed c = λ goes. subst (λ xs. AreSigned (calls xs)) (sym c.deref_mut.ensures.value) (c.requires.signed (sym c.is_addition-comes.ensures ∙ goes))

pub take_all-requires-clause-stand : goal.take_all-requires-clause-stand
take_all-requires-clause-stand c = let r = c.requires.stands in (r.1, r.2, subst (AllStand r.1 r.2) (sym c.deref_mut.ensures.value) r.3.stand, r.4)

pub returns-in-Err-clause-out : goal.returns-in-Err-clause-out
returns-in-Err-clause-out c = λ out aggs come gone to.
    let e = c.deref_mut.ensures.value in
    out_taken aggs come gone c.deref_mut.result.now (ap calls e ∙ to.calls_are) c.is_addition-comes.result (adds c.args.change.now.kind) c.is_addition-comes.ensures c.args.change.now.row
    (c.in-Err.ensures.out out come gone (subst (AllStand come gone) (sym e) to.stand))

pub recounted-self-requires-clause-above : goal.recounted-self-requires-clause-above
recounted-self-requires-clause-above c =
    let r = c.requires.stands in
    let passed : to_z w64 (of_z w64 c.args.self.now.rows) ≡ c.args.self.now.rows = search rules in
    subst (λ z. (z +ℤ pos 1) <ℤ pos (2 ^ 63)) (sym passed) (room_above (row_count r.1) (row_count r.2) c.args.self.now.rows r.3.count r.4)

pub recounted-self-requires-clause-below : goal.recounted-self-requires-clause-below
recounted-self-requires-clause-below c =
    let r = c.requires.stands in
    let passed : to_z w64 (of_z w64 c.args.self.now.rows) ≡ c.args.self.now.rows = search rules in
    subst (λ z. neg_ℤ (pos (2 ^ 63)) ≤ℤ (z -ℤ pos 1)) (sym passed) (room_below (row_count r.1) (row_count r.2) c.args.self.now.rows r.3.count r.4)

pub returns-clause-stands : goal.returns-clause-stands
returns-clause-stands c = λ aggs come gone to.
    let e = c.deref_mut.ensures.value in
    let is = c.is_addition-comes.ensures in
    let counted : to_z w64 (of_z w64 c.recounted-self.result) ≡ c.recounted-self.result = search rules in
    let row = c.args.change.now.row in
    let news = c.take_all.new.tallies in
    let z = c.args.self.now.rows in
    let comes = adds c.args.change.now.kind in
    let passed : to_z w64 (of_z w64 c.args.self.now.rows) ≡ c.args.self.now.rows = search rules in
    let same : calls news ≡ calls c.args.self.now.tallies.items = c.in_default.ensures.calls ∙ ap calls e in
    let many = as_many news c.args.self.now.tallies.items same in
    let len = c.args.self.now.tallies.ok.0 in
    let items : (with_items c.args.self.now.tallies news).items ≡ news = with_items_is c.args.self.now.tallies news (omega arith) in
    record {
      count = counted ∙ c.recounted-self.ensures ∙ ap (λ y. cond c.is_addition-comes.result (y +ℤ pos 1) (y -ℤ pos 1)) passed ∙ ap (λ b. cond b (z +ℤ pos 1) (z -ℤ pos 1)) is ∙ recount comes come gone row z to.count;
      calls_are = ap calls items ∙ same ∙ to.calls_are;
      stand = subst (AllStand (with_come come comes row) (with_gone gone comes row)) (sym items) (subst (λ b. AllStand (with_come come b row) (with_gone gone b row) news) is (c.in_default.ensures.stand come gone (subst (AllStand come gone) (sym e) to.stand)));
    }
