use Rattle.std.proofs.Common.{◌≡◌, ◌+◌, ◌-◌, ◌<◌, ◌∙◌, Some, cond, length, drop, get_or, sym, ap, arith}
use Rattle.std.specs.List.{position_from}
use Rattle.std.specs.Str.{bytes_eq}
use Rattle.std.proofs.lemmas.Iterator.Adapters.{position_from-zero}
use Rattle.job_text.proofs.Names.{first_from, is_named}
use Rattle.job_text.proofs.named.places_of.Goals as goal

pub place-preserved : goal.place-preserved
place-preserved c =
    let sources = c.args.sources.now in
    let place = c.place.place - 1 in
    let table = get_or sources place c.index-sources-place.result in
    let next : c.place.place ≡ place + 1 = omega (arith, c.place-test.true) in
    let here : place < length sources = omega (arith, c.place.invariant.within, c.place-test.true) in
    record {
      within = omega (arith, here);
      found = λ name.
          c.in_ok-put_name.ensures name
          ∙ (λ i. cond (bytes_eq (c.as_slice.ensures.bytes i) name) (Some place) (c.place.invariant.found name i))
          ∙ ap (λ n. cond (bytes_eq table.name name) (Some place) (position_from (is_named name) n (drop n sources))) next
          ∙ sym (first_from sources place c.index-sources-place.result name here);
    }

pub returns : goal.returns
returns c = λ name.
    let sources = c.args.sources.now in
    let start : c.place.place ≡ 0 = omega (arith, c.place-test.false) in
    c.place.invariant.found name ∙ ap (λ n. position_from (is_named name) n (drop n sources)) start ∙ sym (position_from-zero (is_named name) sources)
