use Rattle.std.proofs.Common.{rules, ◌≡◌, None, Some}
use Rattle.plan_check.specs.Sound.{first_failing, looked_at, meets}
use Rattle.plan_check.proofs.Firsts.{broken, one_more}
use Rattle.plan_check.proofs.check.require.Goals as goal

pub returns-in-None-clause-met : goal.returns-in-None-clause-met
returns-in-None-clause-met c =
    let none : first_failing (meets c.args.rule c.args.plan.now) 1 (looked_at c.args.plan.now) ≡ None = search rules in
    one_more c.args.plan.now c.args.rule c.requires.earlier none

pub returns-in-Some-clause-broken : goal.returns-in-Some-clause-broken
returns-in-Some-clause-broken c =
    let some : first_failing (meets c.args.rule c.args.plan.now) 1 (looked_at c.args.plan.now) ≡ Some c.in-Some.node = search rules in
    broken c.args.plan.now c.args.rule c.in-Some.node c.requires.earlier some
