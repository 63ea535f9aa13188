use Rattle.std.proofs.Common.{ℕ, [], ◌∷◌, length, refl, sym, subst, ◌∙◌, arith}
use Rattle.std.proofs.lemmas.List.{length-append}
use Rattle.std.proofs.lemmas.Iterator.Adapters.{YieldsList-from_vec}
use Rattle.std.proofs.lemmas.Iterator.Consumers.{YieldsList-turn}
use Rattle.ct_change.specs.declared.change.Change.{Change}
use Rattle.session_channels.specs.Routes.{IsWide, RoutesFor}
use Rattle.session_channels.specs.Sending.{sent_by}
use Rattle.session_channels.proofs.Sends.{carry_same, sent_none}
use Rattle.session_channels.proofs.sending.send_list.Goals as goal

pub loop-change-init : goal.loop-change-init
loop-change-init c = record {
  carry = λ of flight routes kept. carry_same c.args.channels.now flight (sent_by of flight c.args.edge c.args.from []) (λ m k n. sym (sent_none of flight c.args.edge c.args.from m k n)) kept;
  sent = omega arith;
  width = refl;
  edges = refl;
}

pub send_one-requires-clause-wide : goal.send_one-requires-clause-wide
send_one-requires-clause-wide c =
    let gives = c.into_iter-change-iterator.ensures.into_iter_gives in
    let t = YieldsList-turn (YieldsList-from_vec c.args.changes gives.0 gives.1) c.loop-change.yielded c.loop-change.change-iterator c.loop-change.yielded_by c.next.result c.next.new.self c.in-Some.change c.in-Some.is c.next.ensures.steps in
    subst (λ (x : Change). IsWide c.args.route.now x.row) (sym t.1) (c.requires.wide (length c.loop-change.yielded) c.in-Some.change t.0)

pub loop-change-preserved : goal.loop-change-preserved
loop-change-preserved c =
    let kept = c.loop-change.invariant in
    let now = c.in_ok-send_one.ensures in
    let count = length-append c.loop-change.yielded (c.in-Some.change ∷ []) in record {
      carry = λ of flight routes was. now.ok of flight c.loop-change.yielded (subst (λ (w : ℕ). RoutesFor w c.args.route.now of) (sym kept.width) routes) (kept.carry of flight routes was);
      sent = omega (arith, kept.sent, now.sent, count);
      width = now.width ∙ kept.width;
      edges = now.edges ∙ kept.edges;
    }
