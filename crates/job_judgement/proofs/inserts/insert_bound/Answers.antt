use Rattle.std.proofs.Common.{rules, ◌≡◌, Ok, Err, sym, subst, ◌∙◌}
use Rattle.std.specs.Prelude.{IfOk}
use Rattle.sql_syntax.specs.View.{query_view}
use Rattle.binding.specs.Checked.{Checked}
use Rattle.binding.specs.Inserts.{Inserted}
use Rattle.binder.specs.Bound.{names_bound}
use Rattle.binder.specs.Views.{bound_view}
use Rattle.rewrite.specs.Views.{inserted_view}
use Rattle.job_judgement.proofs.Walks.{first_passed, first_refused}
use Rattle.job_judgement.proofs.inserts.insert_bound.Goals as goal

pub returns-in_err-bound-clause-refused : goal.returns-in_err-bound-clause-refused
returns-in_err-bound-clause-refused c = λ code e.
    let query = query_view c.args.query.now in
    let h : names_bound c.args.tables.now c.args.name.now query ≡ Err code = search rules in
    first_refused c.args.tables.now c.args.name.now query code h

pub returns-clause-ok : goal.returns-clause-ok
returns-clause-ok c =
    let same = first_passed c.args.tables.now c.args.name.now (query_view c.args.query.now) (bound_view c.in_ok-bound.bound) c.in_ok-bound.ensures.ok in
    subst (λ (v : Checked Inserted). IfOk c.inserted.result (λ x. v ≡ Ok (inserted_view x))) (sym same) c.inserted.ensures.ok

pub returns-clause-refused : goal.returns-clause-refused
returns-clause-refused c = λ code e.
    first_passed c.args.tables.now c.args.name.now (query_view c.args.query.now) (bound_view c.in_ok-bound.bound) c.in_ok-bound.ensures.ok ∙ c.inserted.ensures.refused code e
