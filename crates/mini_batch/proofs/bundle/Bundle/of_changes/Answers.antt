use Rattle.std.proofs.Common.{◌≡◌, ◌∷◌, ◌∙◌, ◌+◌, [], length, take, sym, ap, arith, length-append}
use Rattle.std.proofs.lemmas.List.{map-id}
use Rattle.std.proofs.lemmas.Iterator.Adapters.{YieldsList-from_vec}
use Rattle.std.proofs.lemmas.Iterator.Consumers.{YieldsList-turn, YieldsList-end}
use Rattle.mini_batch.specs.Held.{held_in, with_change}
use Rattle.mini_batch.specs.Groups.{by_group}
use Rattle.mini_batch.proofs.Grouped.{by_group-push, held_more}
use Rattle.mini_batch.proofs.bundle.Bundle.of_changes.Goals as goal

pub put_in-requires : goal.put_in-requires
put_in-requires c =
    let xs = c.loop-change.yielded in
    let gives = c.into_iter-change-iterator.ensures.into_iter_gives in
    let road = YieldsList-from_vec c.args.changes gives.0 gives.1 in
    let t = YieldsList-turn road xs c.loop-change.change-iterator c.loop-change.yielded_by c.next.result c.next.new.self c.in-Some.change c.in-Some.is c.next.ensures.steps in
    let held = c.loop-change.invariant.held in
    let size = c.loop-change.invariant.size in
    let more = t.0 in
    omega (arith, held, size, more, c.requires)

pub loop-change-preserved : goal.loop-change-preserved
loop-change-preserved c =
    let xs = c.loop-change.yielded in
    let x = c.in-Some.change in
    let put = c.in_ok-put_in.ensures.put in
    record {
      entries = put ∙ ap (λ es. with_change es (take c.args.keys x.row) x) c.loop-change.invariant.entries ∙ by_group-push c.args.keys xs x;
      held = ap held_in put ∙ held_more c.loop-change.bundle.entries (take c.args.keys x.row) x ∙ ap (λ n. n + 1) c.loop-change.invariant.held ∙ sym (length-append xs (x ∷ []));
      size = c.in_ok-put_in.ensures.size ∙ c.loop-change.invariant.size;
    }

pub returns-clause-entries : goal.returns-clause-entries
returns-clause-entries c =
    let gives = c.into_iter-change-iterator.ensures.into_iter_gives in
    let all = YieldsList-end (YieldsList-from_vec c.args.changes gives.0 gives.1) c.loop-change.yielded c.loop-change.change-iterator c.loop-change.yielded_by c.next.result c.next.new.self c.in-None.is c.next.ensures.steps in
    let is : c.loop-change.yielded ≡ c.args.changes = sym (map-id c.loop-change.yielded) ∙ all.0 in
    c.loop-change.invariant.entries ∙ ap (by_group c.args.keys) is

pub returns-clause-held : goal.returns-clause-held
returns-clause-held c =
    let gives = c.into_iter-change-iterator.ensures.into_iter_gives in
    let all = YieldsList-end (YieldsList-from_vec c.args.changes gives.0 gives.1) c.loop-change.yielded c.loop-change.change-iterator c.loop-change.yielded_by c.next.result c.next.new.self c.in-None.is c.next.ensures.steps in
    let is : c.loop-change.yielded ≡ c.args.changes = sym (map-id c.loop-change.yielded) ∙ all.0 in
    c.loop-change.invariant.held ∙ ap length is
