use Rattle.std.proofs.Common.{◌∙◌, ℕ, List, subst, sym}
use Rattle.std.specs.Str.Parse.{ParsesUnsigned}
use Rattle.job_text.proofs.Numerals.{bytes_none, number_read}
use Rattle.job_text.proofs.orders.number_of.Goals as goal

pub returns-in_default : goal.returns-in_default
returns-in_default c = sym (bytes_none c.args.word.now c.in_default.ensures.cases.0)

pub returns : goal.returns
returns c =
    let parsed = subst (λ (text : List ℕ). ParsesUnsigned 32 10 text c.parse.result) c.in-Ok.ensures.cases.0 c.parse.ensures.value.0 in
    c.ok.ensures.value ∙ number_read c.args.word.now c.parse.result (sym c.if-is_padded.ensures) parsed
