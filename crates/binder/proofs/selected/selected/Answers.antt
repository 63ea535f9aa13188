use Rattle.std.proofs.Common.{rules, ◌≡◌, ◌==◌, false, Ok, Err, length, ap, sym, ◌∙◌}
use Rattle.std.specs.Prelude.{option_map}
use Rattle.sql_syntax.specs.Tree.{items, optional_tree}
use Rattle.sql_syntax.specs.View.{items_view, trees_view, view}
use Rattle.query_answer.specs.Answer.{entries}
use Rattle.binding.specs.Checked.{◌>>=◌}
use Rattle.binding.specs.Queries as q
use Rattle.bind_clauses.specs.Views.{relation_view}
use Rattle.bind_names.specs.Entries.{entries_view}
use Rattle.binder.specs.Steps.{listed}
use Rattle.binder.proofs.Selects.{some_listed}
use Rattle.binder.proofs.selected.selected.Goals as goal

pub returns-in_err-all-clause-refused : goal.returns-in_err-all-clause-refused
returns-in_err-all-clause-refused c = λ code e.
    let es = c.in_ok-entries.entries in
    let groups = trees_view c.args.groups.now in
    let having = optional_tree (option_map view c.args.having.now) in
    let x = relation_view c.args.relation in
    let some : (length es == 0) ≡ false = search rules in
    let all : entries_view es ≡ entries c.args.relation.scope (items (items_view c.args.items.now)) = search rules in
    let h : listed (entries_view es) groups having x ≡ Err code = search rules in
    some_listed c.args.distinct es _ groups having x some all ∙ ap (λ r. r >>= λ y. Ok (q.once c.args.distinct y)) h

pub returns-clause-ok : goal.returns-clause-ok
returns-clause-ok c =
    let es = c.in_ok-entries.entries in
    let groups = trees_view c.args.groups.now in
    let having = optional_tree (option_map view c.args.having.now) in
    let x = relation_view c.args.relation in
    let some : (length es == 0) ≡ false = search rules in
    let all : entries_view es ≡ entries c.args.relation.scope (items (items_view c.args.items.now)) = search rules in
    let h : listed (entries_view es) groups having x ≡ Ok (relation_view c.in_ok-all.all) = search rules in
    let k : relation_view c.in_ok-once.field-0 ≡ q.once c.args.distinct (relation_view c.in_ok-all.all) = search rules in
    some_listed c.args.distinct es _ groups having x some all ∙ ap (λ r. r >>= λ y. Ok (q.once c.args.distinct y)) h ∙ ap Ok (sym k)
