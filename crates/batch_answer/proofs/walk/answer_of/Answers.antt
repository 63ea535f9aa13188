use Rattle.std.proofs.Common.{rules, List, Some, sym, ap, subst, ◌∙◌}
use Rattle.std.specs.Prelude.{IsErrOf}
use Rattle.ct_value.specs.declared.ty.ColTy.{ColTy}
use Rattle.ct_expr.specs.declared.evaluate.EvalFault.{EvalFault}
use Rattle.rel_algebra.specs.View.{rel_view}
use Rattle.batch_answer.specs.Parts.{IsLost}
use Rattle.batch_answer.specs.Tables.{IsTypedOver, tables_of}
use Rattle.batch_answer.proofs.Scans.{types_of_tables}
use Rattle.batch_answer.proofs.walk.answer_of.Goals as goal

pub returns-in_err-part-clause-out : goal.returns-in_err-part-clause-out
returns-in_err-part-clause-out c =
    let lost : IsErrOf c.from_residual.result EvalFault.Out → IsLost (tables_of c.args.types.now c.args.tables.now) (rel_view c.args.rel.now) = search rules in
    λ e. lost e (subst (λ (types : List (List ColTy)). IsTypedOver types (rel_view c.args.rel.now)) (sym (types_of_tables c.args.types.now c.args.tables.now c.requires.tables)) c.requires.typed)

pub returns-clause-value : goal.returns-clause-value
returns-clause-value c =
    let part = c.in_ok-part.ensures.value (subst (λ (types : List (List ColTy)). IsTypedOver types (rel_view c.args.rel.now)) (sym (types_of_tables c.args.types.now c.args.tables.now c.requires.tables)) c.requires.typed) in
    part.answered ∙ ap Some (sym c.in_ok-bag_of.ensures)

pub returns-clause-narrow : goal.returns-clause-narrow
returns-clause-narrow c =
    let part = c.in_ok-part.ensures.value (subst (λ (types : List (List ColTy)). IsTypedOver types (rel_view c.args.rel.now)) (sym (types_of_tables c.args.types.now c.args.tables.now c.requires.tables)) c.requires.typed) in
    part.narrow
