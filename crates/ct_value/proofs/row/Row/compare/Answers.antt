use Rattle.std.proofs.Common.{◌≡◌, ap, ◌∙◌, arith}
use Rattle.ct_value.specs.Abbreviations.{row_abbreviation}
use Rattle.ct_value.proofs.Abbreviations.{less_first, more_last}
use Rattle.ct_value.proofs.row.Row.compare.Goals as goal

pub returns-then-self-other : goal.returns-then-self-other
returns-then-self-other c =
    let s : c.self.inside.abbreviation ≡ row_abbreviation c.args.self.now = c.self.invariant ∙ ap row_abbreviation c.self.view_is in
    let o : c.other.inside.abbreviation ≡ row_abbreviation c.args.other.now = c.other.invariant ∙ ap row_abbreviation c.other.view_is in
    less_first c.args.self.now c.args.other.now (omega (arith, s, o))

pub returns-then-other-self : goal.returns-then-other-self
returns-then-other-self c =
    let s : c.self.inside.abbreviation ≡ row_abbreviation c.args.self.now = c.self.invariant ∙ ap row_abbreviation c.self.view_is in
    let o : c.other.inside.abbreviation ≡ row_abbreviation c.args.other.now = c.other.invariant ∙ ap row_abbreviation c.other.view_is in
    more_last c.args.self.now c.args.other.now (omega (arith, s, o))
