use Rattle.std.proofs.Common.{rules, ◌≡◌, ◌++◌, ◌∷◌, [], true, false, length, Err, ap, ◌∙◌}
use Rattle.ct_value.specs.declared.codes.ScriptCode.TheVariants.{SinkShape}
use Rattle.sql_syntax.specs.View.{query_view}
use Rattle.binding.specs.Queries.{query_bound}
use Rattle.bind_clauses.specs.Views.{relation_view}
use Rattle.binder.specs.Steps.{misfits}
use Rattle.binder.proofs.IntoSinks.{fits, not_bound, too_wide}
use Rattle.binder.proofs.inserts.into_sink.Goals as goal

pub returns-in_err-relation-clause-refused : goal.returns-in_err-relation-clause-refused
returns-in_err-relation-clause-refused c = λ code e.
    let query = query_view c.args.query.now in
    let tables : c.push.new.self ≡ c.args.sources ++ c.args.sink ∷ [] = c.in_ok-push.ensures.ok ∙ (λ i. c.in_ok-tables.ensures i ++ c.in_ok-dup.ensures i ∷ []) in
    let h : query_bound true c.push.new.self query ≡ Err code = search rules in
    not_bound c.args.sources c.push.new.self query c.args.sink tables code h

pub returns-then-misfits-clause-refused : goal.returns-then-misfits-clause-refused
returns-then-misfits-clause-refused c = λ code e.
    let query = query_view c.args.query.now in
    let x = relation_view c.in_ok-relation.relation in
    let tables : c.push.new.self ≡ c.args.sources ++ c.args.sink ∷ [] = c.in_ok-push.ensures.ok ∙ (λ i. c.in_ok-tables.ensures i ++ c.in_ok-dup.ensures i ∷ []) in
    let wide : misfits (length c.args.sources) x c.args.sink ≡ true = search rules in
    let code_is : SinkShape ≡ code = search rules in
    too_wide c.args.sources c.push.new.self query c.args.sink tables x c.in_ok-relation.ensures.ok wide ∙ ap Err code_is

pub returns-clause-ok : goal.returns-clause-ok
returns-clause-ok c =
    let query = query_view c.args.query.now in
    let x = relation_view c.in_ok-relation.relation in
    let tables : c.push.new.self ≡ c.args.sources ++ c.args.sink ∷ [] = c.in_ok-push.ensures.ok ∙ (λ i. c.in_ok-tables.ensures i ++ c.in_ok-dup.ensures i ∷ []) in
    let fit : misfits (length c.args.sources) x c.args.sink ≡ false = search rules in
    fits c.args.sources c.push.new.self query c.args.sink tables x c.in_ok-relation.ensures.ok fit
