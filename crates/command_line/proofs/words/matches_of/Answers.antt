use Rattle.std.proofs.Common.{◌∙◌, ap, sym, map}
use Rattle.std.proofs.lemmas.List.{map-id}
use Rattle.clap.specs.Words.{App, fault_of, is_simple_and_free}
use Rattle.command_line.specs.Words.{given_by, the_app, value_of}
use Rattle.command_line.proofs.Accepted.{all-numbers}
use Rattle.command_line.proofs.Matched.{app-is_free, value-found}
use Rattle.command_line.proofs.words.matches_of.Goals as goal

pub returns-in-Ok-try_get_matches_from-clause-fits : goal.returns-in-Ok-try_get_matches_from-clause-fits
returns-in-Ok-try_get_matches_from-clause-fits c =
    ap (fault_of the_app) (sym (map-id c.args.words.now))
    ∙ (ap (λ (a : App). fault_of a (map (λ x. x) c.args.words.now)) (sym c.in-Ok.ensures)
    ∙ c.in-Ok-try_get_matches_from.ensures.kinds (ap is_simple_and_free c.in-Ok.ensures ∙ app-is_free))

pub returns-in-Ok-try_get_matches_from-clause-values : goal.returns-in-Ok-try_get_matches_from-clause-values
returns-in-Ok-try_get_matches_from-clause-values c =
    (λ i. given_by (λ name. value-found c.in-Ok.command c.in-Ok-try_get_matches_from.matches _ name c.in-Ok.ensures c.in-Ok-try_get_matches_from.ensures.matches i))
    ∙ ap (λ words. given_by (value_of words)) (map-id c.args.words.now)

pub returns-in-Ok-try_get_matches_from-clause-numbers : goal.returns-in-Ok-try_get_matches_from-clause-numbers
returns-in-Ok-try_get_matches_from-clause-numbers c =
    all-numbers c.in-Ok.command c.in-Ok-try_get_matches_from.matches c.in-Ok.ensures c.in-Ok-try_get_matches_from.ensures.parsed
