use Rattle.std.proofs.Common.{List, IsTrue, map, ap, sym, subst, ◌∙◌}
use Rattle.std.specs.List.{AllByRecursion}
use Rattle.ct_value.specs.declared.ty.Ty.{Ty}
use Rattle.ct_field.specs.Numbers.{is_type}
use Rattle.ct_catalog.specs.Catalogue.{Catalogue}
use Rattle.ct_catalog.specs.declared.table.ColDef.{ColDef}
use Rattle.judge.specs.WellDeclared.{HasTypes}
use Rattle.job_ending.proofs.laws.Runs.{memory_there}
use Rattle.job_judgement.specs.Judged.{IsBound}
use Rattle.job_judgement.specs.Views.{accepted_view}
use Rattle.job_batch.proofs.Widths.{sink_exists}
use Rattle.job_batch.proofs.writing.write_rows.Goals as goal
use Rattle.job_judgement.proofs.laws.Theorems.{accepted_is_bound}
use Rattle.judge.proofs.laws.DeclaredTables.{tables_are_well_declared_types}

pub returns-in_default-clause-runs : goal.returns-in_default-clause-runs
returns-in_default-clause-runs g c = memory_there _ _ _

pub put_rows-requires-clause-types : goal.put_rows-requires-clause-types
put_rows-requires-clause-types g c =
    let script = accepted_view c.args.script.now in
    let bound : IsBound script = accepted_is_bound script c.requires.judged in
    let declared : AllByRecursion HasTypes script.catalogue.tables = subst (λ (x : Catalogue). AllByRecursion HasTypes x.tables) bound.tables (tables_are_well_declared_types bound.text bound.asked bound.asks) in
    subst (λ (l : List Ty). AllByRecursion (λ ty. IsTrue (is_type ty)) l) (sym (c.as_slice-2.ensures.value ∙ c.in-Ok.ensures ∙ ap (λ (cols : List ColDef). map (λ x. x.ty.ty) cols) c.as_slice.ensures)) (sink_exists script.catalogue.tables bound.table script.query script.inserted declared bound.bound)
