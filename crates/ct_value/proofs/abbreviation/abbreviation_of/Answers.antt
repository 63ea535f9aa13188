use Rattle.std.proofs.Common.{◌≡◌, ◌+◌, ◌-◌, ◌*◌, ◌/◌, ◌^◌, ◌∙◌, drop, ap, sym, arith}
use Rattle.ct_value.specs.Abbreviations.{row_abbreviation, row_digits}
use Rattle.ct_value.proofs.Abbreviations.{onto, row_small}
use Rattle.ct_value.proofs.Heads.{turn, rest_from, none_wanted, none_there}
use Rattle.ct_value.proofs.abbreviation.abbreviation_of.Goals as goal
use Rattle.ct_value.proofs.abbreviation.abbreviation_of.Goals.{After-of_value-head}

turned : (c : After-of_value-head) → c.loop-value.number + c.of_value-head.result.number / 2 ^ (8 * c.loop-value.digits)
    + onto (8 - (c.loop-value.digits + c.of_value-head.result.digits)) 0 (row_digits (drop (c.loop-value.value-index + 1) c.args.values.now)) ≡ row_abbreviation c.args.values.now
turned c =
    let v = c.value-item in
    let l = c.loop-value in
    let head = c.of_value-head in
    let rest = rest_from c.args.values.now l.value-index v.result (let t = c.loop-value-test.true in omega arith) v.is in
    turn l.number l.digits head.result.digits head.result.number v.result (drop (l.value-index + 1) c.args.values.now) (row_abbreviation c.args.values.now)
    (let m = l.invariant.more in omega arith) head.ensures.number head.ensures.digits
    (ap (λ vs. l.number + onto (8 - l.digits) 0 (row_digits vs)) (sym rest) ∙ l.invariant.same)

pub overflow_add-number : goal.overflow_add-number
overflow_add-number c = let t = turned (goal.at.overflow_add-number c).After-of_value-head in let s = row_small c.args.values.now in omega arith

pub returns-then-digits-ge-DIGITS : goal.returns-then-digits-ge-DIGITS
returns-then-digits-ge-DIGITS c =
    let l = c.loop-value in
    let head = c.of_value-head.result in
    let values = c.args.values.now in
    none_wanted (8 - (l.digits + head.digits)) (l.number + head.number / 2 ^ (8 * l.digits)) (row_abbreviation values) (row_digits (drop (l.value-index + 1) values))
    (let t = c.if-digits-ge-DIGITS.true in omega arith) (turned (goal.at.returns-then-digits-ge-DIGITS c).After-of_value-head)

pub loop-value-preserved : goal.loop-value-preserved
loop-value-preserved c = record { more = (let t = c.if-digits-ge-DIGITS.false in omega arith); same = turned (goal.at.loop-value-preserved c).After-of_value-head }

pub returns : goal.returns
returns c = none_there c.args.values.now c.loop-value.value-index c.loop-value.digits c.loop-value.number (let t = c.loop-value-test.false in omega arith) c.loop-value.invariant.same
