use Rattle.std.proofs.Common.{◌≡◌, [], ◌∷◌, ◌++◌, sym, ap, ◌∙◌, arith}
use Rattle.std.proofs.lemmas.Grind.{common_steps}
use Rattle.sql_tokens.specs.Fronts.{front_view}
use Rattle.sql_tokens.proofs.Turns.{read_end, read_bad, read_gap, read_token}
use Rattle.sql_tokens.proofs.tokens.tokens_of.Goals as goal

pub returns-in-Nothing : goal.returns-in-Nothing
returns-in-Nothing c = read_end c.args.text.now c.fronts.items.items c.fronts.rest.now c.fronts.invariant (ap front_view (sym c.in-Nothing.is) ∙ c.in_ok-read_front.ensures.ok)

pub returns-in-Bad : goal.returns-in-Bad
returns-in-Bad c = read_bad c.args.text.now c.fronts.items.items c.fronts.rest.now c.fronts.invariant (ap front_view (sym c.in-Bad.is) ∙ c.in_ok-read_front.ensures.ok)

pub fronts-preserved-in-Gap : goal.fronts-preserved-in-Gap
fronts-preserved-in-Gap c =
    read_gap c.args.text.now c.fronts.items.items c.fronts.rest.now c.in-Gap.after.now c.fronts.invariant (ap front_view (sym c.in-Gap.is) ∙ c.in_ok-read_front.ensures.ok) (rw c.in-Gap.is at c.in_ok-read_front.ensures.shorter)

pub fronts-preserved : goal.fronts-preserved
fronts-preserved c =
    let pushed : c.push.new.self.items ≡ c.fronts.items.items ++ c.in-Token.token ∷ [] = grind (arith, common_steps) in
    read_token c.args.text.now c.fronts.items.items c.push.new.self.items c.in-Token.token c.fronts.rest.now c.in-Token.after.now c.fronts.invariant (ap front_view (sym c.in-Token.is) ∙ c.in_ok-read_front.ensures.ok)
    (rw c.in-Token.is at c.in_ok-read_front.ensures.shorter) pushed
