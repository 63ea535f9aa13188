use Rattle.std.proofs.Common.{◌≡◌, ℕ, false, cond, sym, ap, subst, ◌∙◌, arith, option_copied}
use Rattle.std.specs.Option.{is_some}
use Rattle.std.specs.Vec.{with_items}
use Rattle.std.proofs.lemmas.List.{with_items_is}
use Rattle.ct_change.specs.Emission.{replaced}
use Rattle.op_group.specs.Kept.{AllStand, calls, all_fit}
use Rattle.op_group.proofs.Shifts.{count_replaced, some_row, copied_some, as_many}
use Rattle.op_group.proofs.kept.Kept.shift.Goals as goal

pub shift_all-requires-clause-stand : goal.shift_all-requires-clause-stand
shift_all-requires-clause-stand c =
    let r = c.requires.kept in
    (r.0, r.1, subst (AllStand r.0 r.1) (sym c.deref_mut.ensures.value) r.2.stand, r.3, r.4)

pub returns-in-Err-clause-out : goal.returns-in-Err-clause-out
returns-in-Err-clause-out c = λ out columns rows kept has.
    let e = c.deref_mut.ensures.value in
    let told : all_fit columns (calls c.deref_mut.result.now) (replaced rows (option_copied c.args.gone) (option_copied c.args.come)) ≡ false = c.in-Err.ensures.out out columns rows (subst (AllStand columns rows) (sym e) kept.stand) has in
    subst (λ xs. all_fit columns (calls xs) (replaced rows (option_copied c.args.gone) (option_copied c.args.come)) ≡ false) e told

pub recounted-self-requires-clause-some : goal.recounted-self-requires-clause-some
recounted-self-requires-clause-some c = λ some.
    let r = c.requires.kept in
    let there = some_row r.1 (option_copied c.args.gone) r.3 (copied_some c.args.gone ∙ sym c.is_some.ensures ∙ some) in
    let count = r.2.count in
    omega arith

pub returns-clause-kept : goal.returns-clause-kept
returns-clause-kept c = λ columns rows kept has.
    let e = c.deref_mut.ensures.value in
    let gone = option_copied c.args.gone in
    let come = option_copied c.args.come in
    let rest = count_replaced rows gone come has in
    let goes : is_some gone ≡ c.is_some.result = copied_some c.args.gone ∙ sym c.is_some.ensures in
    let comes : is_some come ≡ c.is_some-2.result = copied_some c.args.come ∙ sym c.is_some-2.ensures in
    let a : cond {A = ℕ} (is_some gone) 1 0 ≡ cond c.is_some.result 1 0 = ap (λ b. cond b 1 0) goes in
    let b : cond {A = ℕ} (is_some come) 1 0 ≡ cond c.is_some-2.result 1 0 = ap (λ b. cond b 1 0) comes in
    let counted = c.recounted-self.ensures in
    let before = kept.count in
    let same : calls c.shift_all.new.counters ≡ calls c.args.self.now.counters.items = c.in_default.ensures.calls ∙ ap calls e in
    let many = as_many c.shift_all.new.counters c.args.self.now.counters.items same in
    let len = c.args.self.now.counters.ok.0 in
    let items : (with_items c.args.self.now.counters c.shift_all.new.counters).items ≡ c.shift_all.new.counters = with_items_is c.args.self.now.counters c.shift_all.new.counters (omega arith) in
    record {
      count = omega arith;
      calls_are = ap calls items ∙ same;
      stand = subst (AllStand columns (replaced rows gone come)) (sym items) (c.in_default.ensures.stand columns rows (subst (AllStand columns rows) (sym e) kept.stand) has);
    }
