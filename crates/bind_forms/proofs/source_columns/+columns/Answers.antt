use Rattle.std.proofs.Common.{rules, ◌≡◌, true, false, sym, ◌∙◌, arith}
use Rattle.sql_syntax.specs.View.{source_view}
use Rattle.query_answer.specs.SourceColumns.{source_has}
use Rattle.bind_forms.specs.Meant.{meant_by}
use Rattle.bind_forms.proofs.Owns.{by_first, joins_more, joins_yes}
use Rattle.bind_forms.proofs.source_columns.+columns.Goals as goal

pub joins_have-returns-then-source_has : goal.joins_have-returns-then-source_has
joins_have-returns-then-source_has u c =
    let S = c.args.sources.now in
    let M = meant_by c.args.meant.now in
    let name = c.args.name.now in
    let x = c.join-item.result in
    let h : source_has S M name (source_view x.source) ≡ true = search rules in
    sym (c.loop-join.invariant ∙ joins_yes S M name c.as_slice-join-items.result.now c.loop-join.join-index x (omega arith) c.join-item.is h)

pub joins_have-loop-join-preserved : goal.joins_have-loop-join-preserved
joins_have-loop-join-preserved u c =
    let S = c.args.sources.now in
    let M = meant_by c.args.meant.now in
    let name = c.args.name.now in
    let x = c.join-item.result in
    let h : source_has S M name (source_view x.source) ≡ false = search rules in
    c.loop-join.invariant ∙ joins_more S M name c.as_slice-join-items.result.now c.loop-join.join-index x (omega arith) c.join-item.is h

pub query_has-returns : goal.query_has-returns
query_has-returns u c = c.select_has.ensures ∙ sym (by_first c.args.sources.now c.args.name.now c.args.query.now)
