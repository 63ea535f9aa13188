use Rattle.std.proofs.Common.{Some, subst}
use Rattle.ct_change.specs.Changelog.{retract}
use Rattle.plan_rules.specs.Doings.{around_of}
use Rattle.session_open.specs.Locals.{IsLocal}
use Rattle.session_open.specs.Modes.{mode_in}
use Rattle.session_open.proofs.Nodes.{merge_told}
use Rattle.session_open.proofs.making.bundled_by.Goals as goal

pub returns-in-Some-clause-new : goal.returns-in-Some-clause-new
returns-in-Some-clause-new c =
    let around = around_of c.args.plan.now c.args.number c.args.inputs.now in
    let local : IsLocal (Some c.in-Some.local) around.partial = subst (λ o. IsLocal o around.partial) c.in-Some.is (c.in_ok-local_below.ensures _ c.requires.columns) in
    let new = c.merging_by.ensures.new in
    record {
      rule_is_so = merge_told c.args.keys c.args.aggs.now around c.in-Some.local (mode_in c.in_ok-own.own) c.in_ok-own.ensures _ around.partial local (λ input. (new input).rule_is_so);
      whole = (new retract).whole;
      stands_so = (new retract).stands_so;
    }
