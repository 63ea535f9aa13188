use Rattle.std.proofs.Common.{◌≡◌, Some, Err, ap, sym, subst, ◌∙◌}
use Rattle.ct_change.specs.Changelog.{fold}
use Rattle.stream_model.specs.Tables.{Table, refusal}
use Rattle.exec_core.proofs.check.TableCheckSourceCheck.check.Goals as goal

pub returns-in-Err-Refused-clause-refused : goal.returns-in-Err-Refused-clause-refused
returns-in-Err-Refused-clause-refused c = λ table before stands fits.
    subst (λ (t : Table). refusal t (fold t.mode before) c.args.change.now ≡ Some c.in-Err-Refused.code) (sym stands.is)
    (c.check.ensures.refused c.in-Err-Refused.code (c.in-Err-Refused.is ∙ ap Err c.in-Err-Refused.field-0-is) stands.declared before stands.stands)
