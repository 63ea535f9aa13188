use Rattle.std.proofs.Common.{◌≡◌, ℕ, ◌+◌, ◌*◌, ◌/◌, ◌%◌, ◌≤◌, [], ◌∷◌, None, length, get_or, sym, ap, subst, arith}
use Rattle.std.proofs.lemmas.Nat.{div-add-mod', div-mul-add, mod_below, row_below_turned}
use Rattle.std.proofs.lemmas.List.{length-append}
use Rattle.std.proofs.lemmas.Option.{slice_get-get_or}
use Rattle.std.proofs.lemmas.Result.{err_from_is_err_and}
use Rattle.op_rules.specs.Tasks.{total}
use Rattle.session_open.specs.Opening.{HaveOpened, IsStarted, IsTooMany, opens_with}
use Rattle.session_open.proofs.Laying.{Each, each_push}
use Rattle.session_open.proofs.Started.{in_table, made_runs, too_many, total_rises}
use Rattle.session_open.proofs.opening.open_operators.Goals as goal

pub open_subtask-requires : goal.open_subtask-requires
open_subtask-requires b c =
    let p = c.args.plan.now.parallelism in
    let place = c.loop-place.place in
    let size = ap (λ (n : ℕ). (n + 1) * p) c.len-nodes.ensures in
    let r = c.requires.ready in
    record {
      node = (row_below_turned place p (length c.args.plan.now.nodes + 1) p (omega (arith, c.loop-place-test.true, size)) (omega arith)).1;
      subtask = mod_below place p c.requires.some;
      ready = (r.0, r.1, r.2, subst (λ (n : ℕ). HaveOpened r.0 r.1 n c.loop-place.channels) (sym (div-add-mod' place p)) (c.loop-place.invariant.opened r.0 r.1 r.2 r.3));
    }

pub returns-in_err-op-clause-err : goal.returns-in_err-op-clause-err
returns-in_err-op-clause-err b c = let q = err_from_is_err_and c.from_residual.result c.from_residual.ensures.1 in rw (q.1, q.2) (λ g limit opens have.
    let p = c.args.plan.now.parallelism in
    let place = c.loop-place.place in
    let size = ap (λ (n : ℕ). (n + 1) * p) c.len-nodes.ensures in
    let digits = div-add-mod' place p in
    let before = subst (λ (n : ℕ). HaveOpened g limit n c.loop-place.channels) (sym digits) (c.loop-place.invariant.opened g limit opens have) in
    let last : place / p * p + place % p + 1 ≡ place + 1 = omega (arith, digits) in
    let few : total (place + 1) (opens_with g) ≤ total ((length c.args.plan.now.nodes + 1) * p) (opens_with g) = total_rises (place + 1) ((length c.args.plan.now.nodes + 1) * p) (opens_with g) (omega (arith, c.loop-place-test.true, size)) in
    too_many limit (total (place + 1) (opens_with g)) (total ((length c.args.plan.now.nodes + 1) * p) (opens_with g)) c.in_err-op.field-0.0 few
    (subst (λ (n : ℕ). IsTooMany limit (total n (opens_with g)) c.in_err-op.field-0.0) last (c.in_err-op.ensures.err g limit opens before)))

pub loop-place-preserved : goal.loop-place-preserved
loop-place-preserved b c =
    let p = c.args.plan.now.parallelism in
    let place = c.loop-place.place in
    let old = c.loop-place.items.items in
    let op = c.in_ok-op.op in
    let longer = ap length c.in_ok-put.ensures in
    let sum = length-append old (op ∷ []) in
    let digits = div-add-mod' place p in
    let last : place / p * p + place % p + 1 ≡ place + 1 = omega (arith, digits) in
    record {
      count = omega (arith, longer, sum, c.loop-place.invariant.count);
      made = λ g limit opens.
          subst (Each (λ k op. IsStarted b.O.Operator.rule b.O.Operator.broken b.O.Operator.stands_for b.O.PieceOperator.takes_pieces g (k / p) op)) (sym c.in_ok-put.ensures)
          (each_push (λ k op. IsStarted b.O.Operator.rule b.O.Operator.broken b.O.Operator.stands_for b.O.PieceOperator.takes_pieces g (k / p) op) old op (c.loop-place.invariant.made g limit opens)
          (subst (λ (n : ℕ). IsStarted b.O.Operator.rule b.O.Operator.broken b.O.Operator.stands_for b.O.PieceOperator.takes_pieces g (n / p) op) (sym c.loop-place.invariant.count) (c.in_ok-op.ensures.made g limit opens)));
      opened = λ g limit opens have.
          let before = subst (λ (n : ℕ). HaveOpened g limit n c.loop-place.channels) (sym digits) (c.loop-place.invariant.opened g limit opens have) in
          subst (λ (n : ℕ). HaveOpened g limit n c.open_subtask.new.channels) last (c.in_ok-op.ensures.opened g limit opens before);
    }

pub returns-clause-runs : goal.returns-clause-runs
returns-clause-runs b c = λ g limit opens have. record {
  at = λ v j lv lj.
      let p = c.args.plan.now.parallelism in
      let items = c.loop-place.items.items in
      let place = v * p + j in
      let within = in_table (length c.args.plan.now.nodes + 1) p v j (omega (arith, lv, opens.count_is)) lj in
      let size = ap (λ (n : ℕ). (n + 1) * p) c.len-nodes.ensures in
      let there = slice_get-get_or items place None (omega (arith, within, size, c.loop-place-test.false, c.loop-place.invariant.count)) in
      let made = c.loop-place.invariant.made g limit opens place (get_or items place None) there in
      made_runs b.O.Operator.rule b.O.Operator.broken b.O.Operator.stands_for b.O.PieceOperator.takes_pieces g v (get_or items place None)
      (subst (λ (n : ℕ). IsStarted b.O.Operator.rule b.O.Operator.broken b.O.Operator.stands_for b.O.PieceOperator.takes_pieces g n (get_or items place None)) (div-mul-add v p j lj) made);
}

pub returns-clause-opened : goal.returns-clause-opened
returns-clause-opened b c = λ g limit opens have.
    let p = c.args.plan.now.parallelism in
    let size = ap (λ (n : ℕ). (n + 1) * p) c.len-nodes.ensures in
    let all : c.loop-place.place ≡ (length c.args.plan.now.nodes + 1) * p = omega (arith, size, c.loop-place-test.false, c.loop-place.auto.place-end) in
    subst (λ (n : ℕ). HaveOpened g limit n c.loop-place.channels) all (c.loop-place.invariant.opened g limit opens have)
