use Rattle.std.proofs.Common.{◌∙◌, ℕ, List, Bor, Option, ap, sym}
use Rattle.std.specs.Prelude.{option_and_then, option_map}
use Rattle.job_text.specs.Cuts.{words_left}
use Rattle.job_text.specs.Orders.{drain_of, numbers_of}
use Rattle.job_text.proofs.Verbs.{drain_more}
use Rattle.job_text.proofs.orders.drain_of.Goals as goal

pub returns-in-Some : goal.returns-in-Some
returns-in-Some c =
    sym (ap (λ (rest : Option (Bor (List ℕ))). option_and_then drain_of (numbers_of (words_left (option_map (λ s. s.now) rest)))) c.in-Some.is ∙ drain_more c.in-Some.field-0.now)
