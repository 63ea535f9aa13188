use Rattle.std.proofs.Common.{◌≡◌, ◌+◌, Some, cond, length, sym, ap, ◌∙◌, arith}
use Rattle.std.specs.BTreeMap.{get}
use Rattle.std.specs.Cmp.Lexicographic.{slice_cmp}
use Rattle.std.specs.Ordering.{nat_cmp}
use Rattle.std.specs.Str.{bytes_eq}
use Rattle.std.proofs.lemmas.Map.Text.{is_eq-slice_cmp}
use Rattle.bind_shapes.specs.Codes.{place_in}
use Rattle.bind_shapes.proofs.Places.{first_of, last_entered, swapped}
use Rattle.bind_shapes.proofs.lookup.by_code.Goals as goal

pub left-preserved : goal.left-preserved
left-preserved c = λ x.
    let code = c.in-Some.code in
    let before = get (slice_cmp nat_cmp) c.left.places x in
    let number : c.len.result ≡ 0 + length c.pop.new.self = omega arith in
    let entered : get (slice_cmp nat_cmp) c.insert.new.self x ≡ cond (bytes_eq x code) (Some (0 + length c.pop.new.self)) before =
    c.in_ok-insert.ensures.updates.0 x ∙ (λ i. cond ((is_eq-slice_cmp code x ∙ swapped code x) i) (Some (number i)) before) in
    ap (first_of (place_in 0 c.pop.new.self x)) entered ∙ sym (last_entered 0 c.pop.new.self code x before)
    ∙ ap (λ ys. first_of (place_in 0 ys x) before) (sym c.in-Some.ensures.last) ∙ c.left.invariant x
