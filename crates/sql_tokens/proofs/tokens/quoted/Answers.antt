use Rattle.std.proofs.Common.{◌≡◌, [], ◌∷◌, ◌++◌, arith}
use Rattle.std.proofs.lemmas.Grind.{common_steps}
use Rattle.sql_tokens.proofs.Quotes.{quoted_more}
use Rattle.sql_tokens.proofs.tokens.quoted.Goals as goal

pub bytes-preserved : goal.bytes-preserved
bytes-preserved c =
    let pushed : c.push.new.self ≡ c.bytes.bytes ++ c.in-Some.byte ∷ [] = grind (arith, common_steps) in
    quoted_more c.args.quote c.args.text.now c.bytes.bytes c.push.new.self c.bytes.rest.now c.in-Some.after.now c.in-Some.byte c.bytes.invariant c.in-Some.ensures.ok c.in-Some.ensures.shorter pushed
