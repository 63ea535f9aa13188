use Rattle.std.proofs.Common.{◌∙◌}
use Rattle.std.specs.Prelude.{option_map}
use Rattle.ct_expr.specs.View.{expr_view}
use Rattle.emission_rules.specs.Joining.{joins, matched, join_rule}
use Rattle.session_open.proofs.Nodes.{other_mode}
use Rattle.session_open.proofs.making.operator_of.Goals as goal

pub returns-in_ok-join_by-in-Join : goal.returns-in_ok-join_by-in-Join
returns-in_ok-join_by-in-Join c =
    let join = c.in-Join in
    let types = c.in_ok-sides-in-Join.ensures.types in
    let modes = c.in_ok-sides-in-Join.ensures.modes in
    let new = c.in_ok-join_by-in-Join.ensures in
    let inputs = c.args.node.now.inputs in
    rw join.is (
      record {
        rule_is_so = new.rule_is_so
            ∙ (λ i. join_rule (record {
              shape = joins join.kind;
              on = join.on;
              rest = option_map expr_view join.rest;
              left_columns = (types.0 ∙ c.requires.columns) i;
              right_columns = (types.1 ∙ c.requires.others) i;
              left = modes.0 i;
              right = (modes.1 ∙ other_mode c.args.plan.now c.args.number inputs) i;
            }));
        whole = new.whole;
        stands_so = new.stands_so;
      },
      tt,
    )

pub returns-in_ok-semi_by-in-Semi : goal.returns-in_ok-semi_by-in-Semi
returns-in_ok-semi_by-in-Semi c =
    let semi = c.in-Semi in
    let types = c.in_ok-sides-in-Semi.ensures.types in
    let modes = c.in_ok-sides-in-Semi.ensures.modes in
    let new = c.in_ok-semi_by-in-Semi.ensures in
    let inputs = c.args.node.now.inputs in
    rw semi.is (
      record {
        rule_is_so = new.rule_is_so
            ∙ (λ i. join_rule (record {
              shape = matched semi.anti;
              on = semi.on;
              rest = option_map expr_view semi.rest;
              left_columns = (types.0 ∙ c.requires.columns) i;
              right_columns = (types.1 ∙ c.requires.others) i;
              left = modes.0 i;
              right = (modes.1 ∙ other_mode c.args.plan.now c.args.number inputs) i;
            }));
        whole = new.whole;
        stands_so = new.stands_so;
      },
      tt,
    )
