use Rattle.std.proofs.Common.{◌≡◌, ◌+◌, ◌-◌, ◌*◌, ◌/◌, ◌%◌, ◌^◌, ◌<◌, ◌∙◌, min, length, ap, arith}
use Rattle.ct_value.specs.Abbreviations.{text_digits}
use Rattle.ct_value.proofs.Abbreviations.{onto}
use Rattle.ct_value.proofs.Heads.{text_below, of_front, front_fits, length_text}
use Rattle.ct_value.proofs.abbreviation.Head.of_text.Goals as goal
use Rattle.ct_value.proofs.abbreviation.Head.of_text.Goals.{After-front}

whole : (c : After-front) → 2 ^ 63 + c.front.result + 282578800148737 / 2 ^ (8 * (7 - c.min-seen.result)) * 2 ^ (8 * (7 - c.min-seen.result)) % 2 ^ 64 ≡ onto 7 128 (text_digits c.args.text.now)
whole c =
    let seen : c.min-seen.result ≡ min (length c.args.text.now) 7 = c.min-seen.ensures ∙ ap (λ bytes. min (length bytes) 7) c.as_slice.ensures.bytes in
    of_front c.args.text.now c.min-seen.result c.front.result (text_below c.args.text.now c.as_slice.ensures.utf8) seen c.front.ensures

fits : (c : After-front) → 2 ^ 63 + c.front.result + 282578800148737 / 2 ^ (8 * (7 - c.min-seen.result)) * 2 ^ (8 * (7 - c.min-seen.result)) % 2 ^ 64 < 2 ^ 64
fits c = front_fits c.args.text.now c.front.result (282578800148737 / 2 ^ (8 * (7 - c.min-seen.result)) * 2 ^ (8 * (7 - c.min-seen.result)) % 2 ^ 64) (whole c)

pub overflow_add-result : goal.overflow_add-result
overflow_add-result c = let f = fits c in omega arith

pub overflow_add-result-2 : goal.overflow_add-result-2
overflow_add-result-2 c = let f = fits c in omega arith

pub returns-clause-number : goal.returns-clause-number
returns-clause-number c = whole (goal.at.returns-clause-number c).After-front

pub returns-clause-digits : goal.returns-clause-digits
returns-clause-digits c =
    let m = c.min.ensures in
    let l = length_text c.args.text.now (text_below c.args.text.now c.as_slice.ensures.utf8) in
    let seen : c.min-seen.result ≡ min (length c.args.text.now) 7 = c.min-seen.ensures ∙ ap (λ bytes. min (length bytes) 7) c.as_slice.ensures.bytes in
    omega arith
