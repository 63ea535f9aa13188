use Rattle.std.proofs.Common.{◌≤◌, ◌-◌, ◌++◌, ◌∙◌, List, ℕ, ap, arith, codes, drop, length, subst}
use Rattle.std.proofs.lemmas.List.{length-drop, take_all}
use Rattle.job_text.proofs.RecordLines.{blank_record, shown_record}
use Rattle.job_text.proofs.lines.record_line.Goals as goal

pub returns-then-behind-le1 : goal.returns-then-behind-le1
returns-then-behind-le1 c = λ fields is. c.in_ok-from_slice.ensures.items ∙ blank_record fields (subst (λ (xs : List ℕ). length xs ≤ 1) is c.if-behind-le1.true)

pub returns : goal.returns
returns c = λ fields is.
    let behind = c.args.behind.now in
    c.in_ok-push.ensures.items ∙ ap (λ xs. xs ++ codes "\n") (c.in_ok-line.ensures.items ∙ take_all (length behind - 1) (drop 1 behind) (omega (arith, length-drop 1 behind)))
    ∙ shown_record fields behind is (omega (arith, c.if-behind-le1.false))
