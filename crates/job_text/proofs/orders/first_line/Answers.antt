use Rattle.std.proofs.Common.{◌∙◌, ◌∷◌, ℕ, List, Bor, Option, ap, sym}
use Rattle.std.specs.Prelude.{option_map}
use Rattle.std.specs.Str.Lines.{lines}
use Rattle.job_text.specs.Cuts.{parts_left}
use Rattle.job_text.proofs.Verbs.{line_last, line_some, not_empty}
use Rattle.job_text.proofs.orders.first_line.Goals as goal

pub returns-in-Some-clause-line : goal.returns-in-Some-clause-line
returns-in-Some-clause-line c =
    let line = c.cut_at.result.0.now in
    let behind = c.in-Some.behind.now in
    let parts = c.cut_at.ensures.parts ∙ ap (λ (rest : Option (Bor (List ℕ))). line ∷ parts_left 10 (option_map (λ s. s.now) rest)) c.in-Some.is in
    line_some c.args.text.now line behind parts ∙ ap (λ first. first ∷ lines behind) (sym c.without_return.ensures)

pub returns-in-None-clause-line : goal.returns-in-None-clause-line
returns-in-None-clause-line c =
    let line = c.cut_at.result.0.now in
    let parts = c.cut_at.ensures.parts ∙ ap (λ (rest : Option (Bor (List ℕ))). line ∷ parts_left 10 (option_map (λ s. s.now) rest)) c.in-None.is in
    line_last c.args.text.now line parts (not_empty c.args.text.now (sym c.if-is_empty.ensures))
