use Rattle.std.proofs.Common.{rules, ◌≡◌, ◌+◌, ◌++◌, ◌∷◌, [], Ok, length, ap, ◌∙◌, arith}
use Rattle.std.proofs.lemmas.List.{map-append}
use Rattle.query_answer.specs.Answer.{listed_calls}
use Rattle.bind_names.specs.Entries.{listed_view}
use Rattle.bind_nodes.specs.Views.{bound_view, bounds_view}
use Rattle.bind_sources.specs.Views.{lister}
use Rattle.bind_sources.proofs.Turns.{turns_turn}
use Rattle.bind_sources.proofs.lists.in_turn.Goals as goal

pub loop-entry-preserved : goal.loop-entry-preserved
loop-entry-preserved c =
    let L = lister c.args.group.now in
    let xs = c.as_slice-entry-items.result.now in
    let x = c.entry-item.result in
    let one : L c.loop-entry.number (listed_view x.listed) ≡ Ok (bound_view c.in_ok-listed_bound.field-0) = search rules in
    let e_next : c.in_ok-next.next ≡ c.loop-entry.number + length (listed_calls (listed_view x.listed)) = search rules in
    let pushed : c.push.new.self ≡ c.loop-entry.bounds ++ c.in_ok-listed_bound.field-0 ∷ [] = search rules in
    turns_turn L c.loop-entry.number _ xs c.loop-entry.entry-index (bounds_view c.loop-entry.bounds) c.loop-entry.invariant x (bound_view c.in_ok-listed_bound.field-0) c.in_ok-next.next (bounds_view c.push.new.self) (omega arith) c.entry-item.is one e_next
    (ap bounds_view pushed ∙ map-append bound_view c.loop-entry.bounds (c.in_ok-listed_bound.field-0 ∷ []))
