use Rattle.std.proofs.Common.{rules, ◌≡◌, false, Err}
use Rattle.sql_syntax.specs.View.{query_view}
use Rattle.binding.specs.Queries.{query_bound}
use Rattle.bind_names.specs.declared.fault.BindFault.TheVariants as b
use Rattle.rewrite.proofs.Again.{not_rewritten, only_unbounded}
use Rattle.rewrite.proofs.walk.to_rel.Goals as goal

pub returns-in-Err-Refused-clause-unbounded : goal.returns-in-Err-Refused-clause-unbounded
returns-in-Err-Refused-clause-unbounded c = λ e.
    let bound = c.args.query.now in
    let query = query_view bound.query.now in
    let code = c.in-Err-Refused.field-0-0 in
    let is : c.bind_query.result ≡ Err (b.Refused code) = search rules in
    let h : query_bound false bound.tables query ≡ Err code = c.bind_query.ensures.refused code is in
    not_rewritten bound.tables query (only_unbounded bound.tables query bound.columns code bound.bound h)
