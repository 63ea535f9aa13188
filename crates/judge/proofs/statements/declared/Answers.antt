use Rattle.std.proofs.Common.{rules, ◌≡◌, ◌∙◌, ◌∷◌, ◌++◌, [], List, ap, sym, append_assoc}
use Rattle.sql_syntax.specs.declared.statement.Statement.{Statement}
use Rattle.judge.proofs.statements.declared.Goals as goal

pub statements-preserved : goal.statements-preserved
statements-preserved c =
    let kept = c.statements.invariant in
    let first = c.in-Some.statement.now in
    let others : List Statement = c.in-Some.others.now in
    let step : c.statements.rest.now ≡ first ∷ others = search rules in
    record {
      before = kept.before ++ first ∷ [];
      are = kept.are ∙ ap (λ (l : List Statement). kept.before ++ l) step ∙ sym (append_assoc kept.before (first ∷ []) others);
      same = search rules;
      few = search rules;
    }
