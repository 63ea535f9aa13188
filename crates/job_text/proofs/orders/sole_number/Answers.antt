use Rattle.std.proofs.Common.{◌∙◌, ℕ, List, Bor, Option, Some, ap, sym}
use Rattle.std.specs.Prelude.{option_and_then, option_map}
use Rattle.job_text.specs.Cuts.{sole_number, words_left}
use Rattle.job_text.specs.Orders.{number_before, numbers_of}
use Rattle.job_text.proofs.Verbs.{sole_no_more}
use Rattle.job_text.proofs.orders.sole_number.Goals as goal

pub returns-in-Some : goal.returns-in-Some
returns-in-Some c =
    let n = c.in_ok-number.number in
    sym (ap (option_and_then sole_number) (c.in_ok-number.ensures.number
    ∙ ap (λ (rest : Option (Bor (List ℕ))). number_before (Some n) (numbers_of (words_left (option_map (λ s. s.now) rest)))) c.in-Some.is)
    ∙ sole_no_more n c.in-Some.field-0.now)
