use Rattle.std.proofs.Common.{◌≡◌, ap, ◌∙◌, arith}
use Rattle.op_topn.specs.Keys.{first_abbreviation}
use Rattle.op_topn.proofs.Abbreviations.{less_first, more_last}
use Rattle.op_topn.proofs.key.RankKey.compare.Goals as goal

pub returns-then-self-other : goal.returns-then-self-other
returns-then-self-other c =
    let s : c.self.inside.abbreviation ≡ first_abbreviation c.args.self.now.0 = c.self.invariant ∙ ap (λ k. first_abbreviation k.0) c.self.view_is in
    let o : c.other.inside.abbreviation ≡ first_abbreviation c.args.other.now.0 = c.other.invariant ∙ ap (λ k. first_abbreviation k.0) c.other.view_is in
    less_first c.args.self.now c.args.other.now (omega (arith, s, o))

pub returns-then-other-self : goal.returns-then-other-self
returns-then-other-self c =
    let s : c.self.inside.abbreviation ≡ first_abbreviation c.args.self.now.0 = c.self.invariant ∙ ap (λ k. first_abbreviation k.0) c.self.view_is in
    let o : c.other.inside.abbreviation ≡ first_abbreviation c.args.other.now.0 = c.other.invariant ∙ ap (λ k. first_abbreviation k.0) c.other.view_is in
    more_last c.args.self.now c.args.other.now (omega (arith, s, o))
