use Rattle.std.proofs.Common.{◌≡◌, true, ap, subst, sym, ◌∙◌}
use Rattle.rel_algebra.specs.View.{rel_view}
use Rattle.plan_laying.specs.Faults.{Says, lacks_table}
use Rattle.job_judgement.specs.Views.{accepted_view}
use Rattle.job_plan.proofs.Made.{have_tables}
use Rattle.job_plan.proofs.planning.laid_of.Goals as goal
use Rattle.job_judgement.proofs.laws.Theorems.{accepted_is_bound}
use Rattle.plan_laying.proofs.laws.TypedTrees.{typed_trees_have_tables}
use Rattle.query_laws.proofs.laws.Theorems.{bound_inserts_are_well_typed_columns}

pub unreachable-requires : goal.unreachable-requires
unreachable-requires c =
    let script = accepted_view c.args.script.now in
    let rel_is = ap rel_view c.deref.ensures in
    let says = subst (λ f. Says c.in_ok-sources.sources (rel_view c.deref.result.now) f) c.in-Err-NoTable.field-0-is c.in-Err-NoTable.ensures.fault in
    let lacks : lacks_table script.inserted.sources script.inserted.query.rel ≡ true = sym (λ i. lacks_table (c.in_ok-sources.ensures i) (rel_is i)) ∙ says in
    let none = have_tables script (accepted_is_bound script c.requires.judged) bound_inserts_are_well_typed_columns typed_trees_have_tables in
    cc (lacks, none)
