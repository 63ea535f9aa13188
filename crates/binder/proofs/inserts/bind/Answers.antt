use Rattle.std.proofs.Common.{rules, ◌≡◌, Some, Ok, sym, subst, ◌∙◌}
use Rattle.std.specs.Prelude.{IfOk}
use Rattle.std.specs.List.{find}
use Rattle.sql_syntax.specs.View.{query_view}
use Rattle.binding.specs.Checked.{Checked}
use Rattle.binding.specs.Inserts.{is_table}
use Rattle.binder.specs.Bound.{Bound, names_bound, sink_bound}
use Rattle.binder.specs.Views.{bound_view}
use Rattle.binder.proofs.IntoSinks.{found_sink}
use Rattle.binder.proofs.inserts.bind.Goals as goal

pub returns-in_ok-sources-in-Some-clause-ok : goal.returns-in_ok-sources-in-Some-clause-ok
returns-in_ok-sources-in-Some-clause-ok c =
    let tables = c.args.tables.now in
    let query = query_view c.args.query.now in
    let sink = c.in_ok-sink-in-Some.sink in
    let sources = c.in_ok-sources-in-Some.sources in
    let h : find (is_table c.args.name.now) tables ≡ Some c.in-Some.table.now = search rules in
    let same : names_bound tables c.args.name.now query ≡ sink_bound sources query sink = found_sink tables c.args.name.now query c.in-Some.table.now sink sources h c.in_ok-sink-in-Some.ensures c.in_ok-sources-in-Some.ensures in
    subst (λ (v : Checked Bound). IfOk c.into_sink.result (λ x. v ≡ Ok (bound_view x))) (sym same) c.into_sink.ensures.ok

pub returns-in_ok-sources-in-Some-clause-refused : goal.returns-in_ok-sources-in-Some-clause-refused
returns-in_ok-sources-in-Some-clause-refused c = λ code e.
    let tables = c.args.tables.now in
    let query = query_view c.args.query.now in
    let sink = c.in_ok-sink-in-Some.sink in
    let sources = c.in_ok-sources-in-Some.sources in
    let h : find (is_table c.args.name.now) tables ≡ Some c.in-Some.table.now = search rules in
    let same : names_bound tables c.args.name.now query ≡ sink_bound sources query sink = found_sink tables c.args.name.now query c.in-Some.table.now sink sources h c.in_ok-sink-in-Some.ensures c.in_ok-sources-in-Some.ensures in
    same ∙ c.into_sink.ensures.refused code e
